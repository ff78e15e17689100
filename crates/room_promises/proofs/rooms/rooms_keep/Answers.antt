use Rattle.room_promises.proofs.RoomsKept as kept
use Rattle.room_promises.proofs.rooms.rooms_keep.Goals as goal

pub returns : goal.returns
returns c = kept.rooms_keep
