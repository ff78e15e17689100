-- How what was read of a source grows from call to call.
use Rattle.std.proofs.Common.{List, ℕ, ◌++◌, Option, Some, None, append_assoc}
use Rattle.outside.specs.Reads.{Reads}

-- bytes, and then further bytes
pub reads_more :
    (before now after : Option (List ℕ)) (bytes piece : List ℕ) →
    Reads before now bytes → Reads now after piece → Reads before after (bytes ++ piece)
reads_more None now after bytes piece read more = tt
reads_more (Some all) now after bytes piece (rest, is, parts) more =
    let further = rw is at more in
    let joined = append_assoc bytes piece further.0 in
    (further.0, further.1, cc)
