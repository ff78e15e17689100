use Rattle.room_promises.proofs.Returned as returned
use Rattle.room_promises.proofs.rooms.clients_return.Goals as goal

pub returns : goal.returns
returns c = returned.clients_return
