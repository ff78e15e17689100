-- The texts of refusals.
use Rattle.std.proofs.Common.{◌≡◌, ℕ, ◌+◌, ◌<◌, ◌^◌, ◌==◌, ◌++◌, true, List, length, length-append, arith}
use Rattle.std.specs.Prelude.{codes}
use Rattle.std.specs.List.{list_all}
use Rattle.std.proofs.lemmas.Bool.{and_parts}
use Rattle.std.proofs.lemmas.Bool.Decides.{nat_tests}
use Rattle.hub_model.specs.Dealt.{in_use_text}
use Rattle.schema_model.specs.Ids.{is_id, is_id_byte}

pub short_in_use : (id : List ℕ) → is_id id ≡ true → length (in_use_text id) < 2 ^ 32
short_in_use id h =
    let nine : (length id == 9) ≡ true = (and_parts (length id == 9) (list_all is_id_byte id) h).0 in
    let first : length (in_use_text id) ≡ 3 + length (id ++ codes " is in use") = length-append (codes "id ") (id ++ codes " is in use") in
    let rest : length (id ++ codes " is in use") ≡ length id + 10 = length-append id (codes " is in use") in
    grind (arith, nat_tests, nine, first, rest)
