use Rattle.room_laws.proofs.RoomObeys as kept
use Rattle.room_laws.proofs.steps.rooms_obey.Goals as goal

pub returns : goal.returns
returns c = kept.rooms_obey
