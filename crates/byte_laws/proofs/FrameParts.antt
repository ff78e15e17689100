-- The two parts of a frame: the blocks of each fit the rows that it leads to, and are read against rows known as what they are there.
use Rattle.std.proofs.Common.{◌≡◌, ℕ, true, List, [], Some, sym, ◌∙◌}
use Rattle.std.specs.List.{AllByRecursion as Each}
use Rattle.std.proofs.lemmas.Bool.{and_parts}
use Rattle.lists.specs.Rising.{RisesFrom}
use Rattle.schema_model.specs.Classes.{Schema, is_kept}
use Rattle.schema_model.specs.declared.place.Pair.{Pair}
use Rattle.state_model.specs.declared.row.Row.{Row}
use Rattle.state_model.specs.declared.row.RowEntry.{RowEntry}
use Rattle.state_model.specs.Rows.{number_of, row_at, is_live, emptied, kinds_of}
use Rattle.state_model.specs.Places.{same_kind}
use Rattle.state_model.specs.Shown.{permitted, shared}
use Rattle.state_model.specs.Sound.{are_rows_of}
use Rattle.state_laws.proofs.Numbers.{at_live, live_at}
use Rattle.state_laws.proofs.PermittedLaws.{permitted_rises}
use Rattle.state_laws.proofs.RowsOf.{rows_rise, permitted_rows_of}
use Rattle.state_laws.proofs.SharedWithin.{shared_within}
use Rattle.wire_model.specs.Effect.{apply_edits}
use Rattle.wire_model.specs.Patch.{kind_in, is_short, are_short}
use Rattle.wire_laws.specs.PatchLaw.{Patchable}
use Rattle.wire_laws.specs.FrameLaw.{Moment, view_at, Follows}
use Rattle.wire_laws.proofs.KindLaws.{kind_emptied, kind_of}
use Rattle.wire_laws.proofs.StateFrames.{rows_of_sound, agreeing_kind, left_patchable}
use Rattle.wire_laws.proofs.EncodedValues.{Knows}
use Rattle.wire_laws.proofs.EncodedKnown.{knows_first, is_live-kinds_of}
use Rattle.state_model.specs.Spelled.{are_spelled}
use Rattle.byte_laws.specs.BytesLaw.{shared_blocks, view_blocks}
use Rattle.byte_laws.proofs.SpelledRows.{EachSpelled, each_spelled, has_numbers, has_counts}
use Rattle.byte_laws.proofs.PatchBlocks.{BlockFits, patch_fits}
use Rattle.byte_laws.proofs.KnownBlocks.{known_past, left_lives, knows_past}
use Rattle.byte_laws.proofs.SpelledViews.{view_spelled, spelled_short, each_short, spelled_counts, shared_array}
use Rattle.byte_laws.proofs.LeftCounts.{Counted, patch_counted}

-- the rows known behind the shared part
abbrev pub known_between : Schema → Moment → Moment → List RowEntry
known_between schema old new = known_past (shared_blocks schema old new) (kinds_of (view_at schema old))

-- both parts fit the rows that they lead to, and each is read against rows that are known as what they are there: those that it is from are known;
-- the rows that each is from, and those that it leads to, are short
pub record Parts (schema : Schema) (old new : Moment) : Type 0 where
  pub shared_rows : are_rows_of schema (shared schema new.rows) ≡ true
  pub view_rows : are_rows_of schema (view_at schema new) ≡ true
  pub shared_fit : Each (BlockFits schema (shared schema new.rows)) (shared_blocks schema old new)
  pub view_fit : Each (BlockFits schema (view_at schema new)) (view_blocks schema old new)
  pub shared_knows : Knows (shared schema new.rows) (kinds_of (view_at schema old))
  pub view_knows : Knows (view_at schema new) (known_between schema old new)
  pub shared_known : (n : ℕ) → is_live (shared schema old.rows) n ≡ true → is_live (kinds_of (view_at schema old)) n ≡ true
  pub view_known : (n : ℕ) → is_live (apply_edits (shared_blocks schema old new) (view_at schema old)) n ≡ true → is_live (known_between schema old new) n ≡ true
  pub old_shared_short : are_short schema (shared schema old.rows) ≡ true
  pub new_shared_short : are_short schema (shared schema new.rows) ≡ true
  pub left_short : are_short schema (apply_edits (shared_blocks schema old new) (view_at schema old)) ≡ true
  pub view_short : are_short schema (view_at schema new) ≡ true

-- states that follow one another, and whose rows have bytes
module _ (schema : Schema) (old new : Moment) (kept : is_kept schema ≡ true) (f : Follows schema old.rows new.rows) (old_bytes : are_spelled old.rows ≡ true) (new_bytes : are_spelled new.rows ≡ true) where
  -- sound states are rows of the schema
  old_are : are_rows_of schema old.rows ≡ true
  old_are = rows_of_sound schema old.rows f.old_sound

  -- both of them
  new_are : are_rows_of schema new.rows ≡ true
  new_are = rows_of_sound schema new.rows f.new_sound

  -- so they rise
  old_rises : RisesFrom number_of 0 old.rows
  old_rises = rows_rise schema old.rows old_are

  -- both of them
  new_rises : RisesFrom number_of 0 new.rows
  new_rises = rows_rise schema new.rows new_are

  -- each view of the old state has bytes
  old_spelled : (M : List Pair) → EachSpelled (permitted schema old.rows M)
  old_spelled M = view_spelled schema old.rows M old_rises (each_spelled old.rows old_bytes)

  -- and each of the new one
  new_spelled : (M : List Pair) → EachSpelled (permitted schema new.rows M)
  new_spelled M = view_spelled schema new.rows M new_rises (each_spelled new.rows new_bytes)

  -- each view of the new state is short
  new_short : (M : List Pair) → are_short schema (permitted schema new.rows M) ≡ true
  new_short M = each_short schema (permitted schema new.rows M) (permitted_rises schema new.rows M new_rises) (λ n r is. spelled_short schema r (new_spelled M n r is).1)

  -- views of the two states have rows of the same kinds
  kinds_agree : (M N : List Pair) (n : ℕ) (a b : Row) → row_at (permitted schema old.rows M) n ≡ Some a → row_at (permitted schema new.rows N) n ≡ Some b → emptied a ≡ emptied b
  kinds_agree M N n a b = agreeing_kind schema old.rows new.rows M N n a b old_rises new_rises f.agree

  -- the same by the test
  same_kinds : (M N : List Pair) (n : ℕ) (a b : Row) → row_at (permitted schema old.rows M) n ≡ Some a → row_at (permitted schema new.rows N) n ≡ Some b → same_kind a b ≡ true
  same_kinds M N n a b is_a is_b = kind_emptied a b (kinds_agree M N n a b is_a is_b)

  -- the places of the old views can go
  old_counts : (M : List Pair) (n : ℕ) (a : Row) → row_at (permitted schema old.rows M) n ≡ Some a → has_counts schema a ≡ true
  old_counts M n a is = spelled_counts schema a (old_spelled M n a is).1

  -- what is there in the shared view is there in each, as what it is
  kind_shared : (n : ℕ) → is_live (shared schema new.rows) n ≡ true → kind_in (shared schema new.rows) n ≡ kind_in (view_at schema new) n
  kind_shared n live =
      let a = at_live (shared schema new.rows) n live in
      let b = shared_within schema new.rows new.members n a.0 new_rises a.1 in
      kind_of (shared schema new.rows) n a.0 a.1 ∙ (b.2 ∙ sym (kind_of (view_at schema new) n b.0 b.1))

  -- what was there in the old shared view is known
  shared_there : (n : ℕ) → is_live (shared schema old.rows) n ≡ true → is_live (kinds_of (view_at schema old)) n ≡ true
  shared_there n live =
      let a = at_live (shared schema old.rows) n live in
      let b = shared_within schema old.rows old.members n a.0 old_rises a.1 in
      is_live-kinds_of (view_at schema old) n ∙ live_at (view_at schema old) n b.0 b.1

  -- what the shared part leaves of the client's rows can be patched to the new view
  patchable : Patchable schema (apply_edits (shared_blocks schema old new) (view_at schema old)) (view_at schema new)
  patchable = left_patchable schema old.rows new.rows old.members new.members f

  -- and its places can go
  left_counted : Counted schema (shared schema new.rows) (apply_edits (shared_blocks schema old new) (view_at schema old))
  left_counted =
      patch_counted schema (view_at schema old) (shared schema old.rows) (shared schema new.rows) kept (permitted_rows_of schema new.rows [] new_are) (new_spelled [])
      (permitted_rows_of schema old.rows [] old_are) (same_kinds [] []) (old_counts []) (λ n a is. shared_array schema old.rows old.members n a old_rises is)
      (record { rises = permitted_rises schema old.rows old.members old_rises; kinds = kinds_agree old.members []; counts = old_counts old.members })

  -- the blocks of the shared part fit the shared view
  shared_fits : Each (BlockFits schema (shared schema new.rows)) (shared_blocks schema old new)
  shared_fits =
      patch_fits schema (shared schema new.rows) kept (permitted_rows_of schema new.rows [] new_are) (new_spelled [])
      (shared schema old.rows) (permitted_rows_of schema old.rows [] old_are) (same_kinds [] []) (old_counts [])

  -- both parts of the frame
  pub parts_of : Parts schema old new
  parts_of = record {
    shared_rows = permitted_rows_of schema new.rows [] new_are;
    view_rows = permitted_rows_of schema new.rows new.members new_are;
    shared_fit = shared_fits;
    view_fit =
        patch_fits schema (view_at schema new) kept (permitted_rows_of schema new.rows new.members new_are) (new_spelled new.members)
        (apply_edits (shared_blocks schema old new) (view_at schema old)) patchable.old_rows patchable.agree.kinds left_counted.counts;
    shared_knows = knows_first (view_at schema old) (shared schema new.rows) (same_kinds old.members []);
    view_knows =
        knows_past schema (shared schema new.rows) (view_at schema new) kind_shared (shared_blocks schema old new) (kinds_of (view_at schema old)) shared_fits
        (knows_first (view_at schema old) (view_at schema new) (same_kinds old.members new.members));
    shared_known = shared_there;
    view_known = left_lives (shared_blocks schema old new) (view_at schema old) (kinds_of (view_at schema old)) (λ n live. is_live-kinds_of (view_at schema old) n ∙ live);
    old_shared_short =
        each_short schema (shared schema old.rows) (permitted_rises schema old.rows [] old_rises) (λ n r is. spelled_short schema r (old_spelled [] n r is).1);
    new_shared_short = new_short [];
    left_short =
        each_short schema (apply_edits (shared_blocks schema old new) (view_at schema old)) left_counted.rises
        (λ n r is. (and_parts (is_short schema r) (has_numbers r) (left_counted.counts n r is)).0);
    view_short = new_short new.members;
  }
