use Rattle.room_laws.proofs.RoomPlaced as kept
use Rattle.room_laws.proofs.placed.rooms_stay_placed.Goals as goal

pub returns : goal.returns
returns c = kept.rooms_stay_placed
