use Rattle.room_laws.proofs.RoomPlaces as kept
use Rattle.room_laws.proofs.places.rooms_keep_places.Goals as goal

pub returns : goal.returns
returns c = kept.rooms_keep_places
