-- How many pairs a view edit adds at most, and that they don't fill a view with room for them.
use Rattle.std.proofs.Common.{◌≡◌, ℕ, ◌+◌, ◌≤◌, true, false, cond, nat_lt, List, [], ◌∷◌, length, Some, None, ap, ◌∙◌, arith}
use Rattle.std.proofs.lemmas.Bool.Decides.{nat_tests}
use Rattle.std.proofs.lemmas.List.{length-map}
use Rattle.lists.specs.Rising.{put}
use Rattle.schema_model.specs.Classes.{Schema}
use Rattle.schema_model.specs.declared.place.Pair.{Pair}
use Rattle.state_model.specs.declared.row.RowEntry.{RowEntry}
use Rattle.state_model.specs.Members.{Members, is_view_full, pair_rank, pairs_behind, rows_through, view_added, with_pairs}
use Rattle.state_model.specs.Reached.{reached}
use Rattle.state_model.specs.Rows.{is_live}
use Rattle.state_model.specs.Sound.{are_sound}
use Rattle.instance_table.specs.Behind.{numbers_behind}
use Rattle.instance_table.proofs.WalkRooms.{reached_few}
use Rattle.live_state.specs.Live.{pairs_of}

-- one item more at most
put_few : {E : Type 0} (key : E → ℕ) (x : E) (es : List E) → length (put key x es) ≤ length es + 1
put_few key x [] = omega arith
put_few key x (e ∷ es) = grind (arith, nat_tests, put_few key x es)

with_few : (pairs more : List Pair) → length (with_pairs pairs more) ≤ length pairs + length more
with_few pairs [] = omega arith
with_few pairs (p ∷ more) = omega (arith, with_few (put pair_rank p pairs) more, put_few pair_rank p pairs)

-- a view edit adds no more pairs than there are rows
behind_few : (schema : Schema) (rows : List RowEntry) (p : Pair) → are_sound schema rows ≡ true → is_live rows p.who ≡ true → length (pairs_behind schema rows p) ≤ length rows
behind_few schema rows p sound live =
    let numbers = reached (rows_through schema p.tag rows) p.who in
    let pair = λ (n : ℕ). let q : Pair = record { who = n; tag = p.tag } in q in
    let few = reached_few schema rows p.tag p.who sound live in
    rw live (omega (arith, few, length-map numbers pair))

pub not_full : (schema : Schema) (rows : List RowEntry) (p : Pair) (m : Members) → are_sound schema rows ≡ true → is_live rows p.who ≡ true → length m.kept + length rows ≤ 65536
    → is_view_full (view_added schema rows p m) ≡ false
not_full schema rows p m sound live room = below (length (with_pairs m.kept (pairs_behind schema rows p))) (omega (arith, with_few m.kept (pairs_behind schema rows p), behind_few schema rows p sound live))
  where
    below : (n : ℕ) → n ≤ 65536 → nat_lt 65536 n ≡ false
    below n h = grind (arith, nat_tests)

-- the numbers behind a row that is there, each under the tag, are the pairs of a view edit
pub found_pairs : (schema : Schema) (rows : List RowEntry) (p : Pair) (ns : List ℕ) → is_live rows p.who ≡ true → Some ns ≡ numbers_behind schema rows p.who p.tag → pairs_of ns p.tag ≡ pairs_behind schema rows p
found_pairs schema rows p ns live is =
    let numbers = reached (rows_through schema p.tag rows) p.who in
    let told : Some ns ≡ Some numbers = is ∙ ap (λ b. cond b (Some numbers) None) live in
    let same : ns ≡ numbers = cc in
    rw live (ap (λ l. pairs_of l p.tag) same)
