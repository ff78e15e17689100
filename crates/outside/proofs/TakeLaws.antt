-- How what a sink took grows from call to call.
use Rattle.std.proofs.Common.{◌≡◌, ℕ, ◌+◌, ◌-◌, List, [], ◌++◌, take, drop, length, Option, Some, None, sym, ap, ◌∙◌, append_assoc, append-nil}
use Rattle.std.proofs.lemmas.List.{take_rest, take-append-drop}
use Rattle.std.proofs.Math.Seq.{take-add, take-length, take-append_seam, take-append-add}
use Rattle.outside.specs.Streams.{Takes, TakesPrefix}

-- a prefix, and then a prefix of the part behind it
pub takes_more :
    (before now after : Option (List ℕ)) (bytes : List ℕ) (at count : ℕ) →
    Takes before now (take at bytes) → Takes now after (take count (take (length bytes - at) (drop at bytes))) →
    Takes before after (take (at + count) bytes)
takes_more None now after bytes at count took more = tt
takes_more (Some taken) now after bytes at count took more =
    let further = rw (took, take_rest bytes at) at more in
    rw (take-add at count bytes, ← append_assoc) further

-- ---- whole pieces, one behind another

-- nothing
pub takes_none : (now : Option (List ℕ)) → Takes now now []
takes_none None = tt
takes_none (Some taken) = sym (ap Some (append-nil taken))

-- one piece, and then another
pub takes_both : (before now after : Option (List ℕ)) (a b : List ℕ) → Takes before now a → Takes now after b → Takes before after (a ++ b)
takes_both None now after a b first second = tt
takes_both (Some taken) now after a b first second = (rw first at second) ∙ ap Some (append_assoc taken a b)

-- all of a piece is a prefix of it
pub whole_prefix : (before after : Option (List ℕ)) (bytes : List ℕ) → Takes before after bytes → TakesPrefix before after bytes
whole_prefix before after bytes took = (length bytes, rw (take-length bytes) took)

-- nothing is a prefix of any piece
pub no_prefix : (now : Option (List ℕ)) (bytes : List ℕ) → TakesPrefix now now bytes
no_prefix now bytes = (0, takes_none now)

take_longer : (n : ℕ) (a b : List ℕ) → take (length (take n a)) (a ++ b) ≡ take n a
take_longer n a b =
    let prefix = take n a in
    ap (λ l. take (length prefix) (l ++ b)) (sym (take-append-drop n a))
    ∙ (ap (take (length prefix)) (append_assoc prefix (drop n a) b) ∙ take-append_seam prefix (drop n a ++ b))

-- a prefix of a piece is one of a longer piece
pub longer_prefix : (before after : Option (List ℕ)) (a b : List ℕ) → TakesPrefix before after a → TakesPrefix before after (a ++ b)
longer_prefix before after a b prefix = (length (take prefix.0 a), rw (take_longer prefix.0 a b) prefix.1)

-- one piece, and then a prefix of another
pub prefix_behind : (before now after : Option (List ℕ)) (a b : List ℕ) → Takes before now a → TakesPrefix now after b → TakesPrefix before after (a ++ b)
prefix_behind before now after a b first second =
    (length a + second.0, rw (take-append-add a b second.0) (takes_both before now after a (take second.0 b) first second.1))
