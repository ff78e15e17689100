use Rattle.room_laws.proofs.LedgerPlaces as kept
use Rattle.room_laws.proofs.ledgers.ledgers_keep.Goals as goal

pub returns : goal.returns
returns c = kept.ledgers_keep
