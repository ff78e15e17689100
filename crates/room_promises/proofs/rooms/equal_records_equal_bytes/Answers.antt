use Rattle.room_promises.proofs.RoomsKept as kept
use Rattle.room_promises.proofs.rooms.equal_records_equal_bytes.Goals as goal

pub returns : goal.returns
returns c = kept.equal_records_equal_bytes
