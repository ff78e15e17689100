-- Rows that a patch may lead from and to: their arrays are short enough to go by position.
use Rattle.std.proofs.Common.{◌≡◌, ℕ, true, List, Option, Some, None, IfSome, refl, subst}
use Rattle.std.specs.Prelude.{IsTrue}
use Rattle.std.proofs.lemmas.Bool.{and_from}
use Rattle.lists.specs.Rising.{RisesFrom}
use Rattle.lists.proofs.Passing.{all-found, found-all}
use Rattle.schema_model.specs.Classes.{Schema}
use Rattle.schema_model.specs.declared.place.Pair.{Pair}
use Rattle.state_model.specs.declared.row.Row.{Row}
use Rattle.state_model.specs.declared.row.Row.TheVariants.{Array}
use Rattle.state_model.specs.declared.row.RowEntry.{RowEntry}
use Rattle.state_model.specs.Rows.{number_of, row_at}
use Rattle.state_model.specs.Places.{same_kind}
use Rattle.state_model.specs.Shown.{permitted, shared}
use Rattle.state_laws.proofs.Numbers.{entry, found_row, row_found}
use Rattle.state_laws.proofs.PermittedLaws.{permitted_rises}
use Rattle.state_laws.proofs.RowsOf.{rows_rise}
use Rattle.wire_model.specs.Effect.{apply_edits}
use Rattle.wire_model.specs.Patch.{is_short, are_short, patch_edits}
use Rattle.wire_laws.specs.FrameLaw.{Follows}
use Rattle.wire_laws.proofs.KindLaws.{home_is, kind_emptied}
use Rattle.wire_laws.proofs.StateFrames.{agreeing_kind, left_patchable, rows_of_sound}
use Rattle.canon_patch.specs.Positions.{has_positions, may_lead, have_positions}

-- the row under a number is short where all are
short_at : (schema : Schema) (rows : List RowEntry) (n : ℕ) (r : Row) → are_short schema rows ≡ true → row_at rows n ≡ Some r → is_short schema r ≡ true
short_at schema rows n r h is = all-found number_of (λ (e : RowEntry). is_short schema e.row) rows n (entry n r) h (row_found rows n r is)

-- a row that wasn't there is short
pub fresh_short : (schema : Schema) (old new : List RowEntry) (n : ℕ) → have_positions schema old new ≡ true → row_at old n ≡ None
    → IfSome (row_at new n) (λ r. IsTrue (is_short schema r))
fresh_short schema old new n h none =
    let go : (o : Option Row) → row_at new n ≡ o → IfSome o (λ r. is_short schema r ≡ true) = elim [
      | None ↦ λ is. tt
      | Some r ↦ λ is.
          let leads = all-found number_of (λ (e : RowEntry). may_lead schema e.row (row_at old e.who)) new n (entry n r) h (row_found new n r is) in
          rw none at leads
    ] in go (row_at new n) refl

-- a row of the kind that it was of has positions where it was and is short
stays_short : (schema : Schema) (a b : Row) → same_kind a b ≡ true → is_short schema a ≡ true → is_short schema b ≡ true → has_positions schema a b ≡ true
stays_short schema (Array a us) (Array b vs) kind old new =
    and_from (is_short schema (Array b us)) (is_short schema (Array b vs)) (subst (λ home. is_short schema (Array home us) ≡ true) (home_is a b kind) old) new
stays_short schema a b kind old new = refl

-- short rows may lead to short ones where those under one number are of one kind
short_lead : (schema : Schema) (old new : List RowEntry) → RisesFrom number_of 0 new → are_short schema old ≡ true → are_short schema new ≡ true
    → ((n : ℕ) (a b : Row) → row_at old n ≡ Some a → row_at new n ≡ Some b → same_kind a b ≡ true) → have_positions schema old new ≡ true
short_lead schema old new rises old_short new_short kinds =
    found-all number_of (λ (e : RowEntry). may_lead schema e.row (row_at old e.who)) 0 new rises (λ e is. of_old e.row e.who (row_at old e.who) refl (found_row new e.who e is))
  where
    of_old : (r : Row) (n : ℕ) (o : Option Row) → row_at old n ≡ o → row_at new n ≡ Some r → may_lead schema r o ≡ true
    of_old r n None was is = short_at schema new n r new_short is
    of_old r n (Some a) was is = stays_short schema a r (kinds n a r was is) (short_at schema old n a old_short was) (short_at schema new n r new_short is)

-- states that follow one another, and members of views of them
module _ (schema : Schema) (old new : List RowEntry) (M N : List Pair) (f : Follows schema old new) where
  -- both rise
  old_rises : RisesFrom number_of 0 old
  old_rises = rows_rise schema old (rows_of_sound schema old f.old_sound)

  new_rises : RisesFrom number_of 0 new
  new_rises = rows_rise schema new (rows_of_sound schema new f.new_sound)

  -- one view may lead to the other where both are short
  pub views_lead : are_short schema (permitted schema old M) ≡ true → are_short schema (permitted schema new N) ≡ true
      → have_positions schema (permitted schema old M) (permitted schema new N) ≡ true
  views_lead old_short new_short =
      short_lead schema (permitted schema old M) (permitted schema new N) (permitted_rises schema new N new_rises) old_short new_short
      (λ n a b was is. kind_emptied a b (agreeing_kind schema old new M N n a b old_rises new_rises f.agree was is))

  -- so may what the shared part leaves of the old view
  pub left_leads : are_short schema (apply_edits (patch_edits schema (shared schema old) (shared schema new)) (permitted schema old M)) ≡ true
      → are_short schema (permitted schema new N) ≡ true
      → have_positions schema (apply_edits (patch_edits schema (shared schema old) (shared schema new)) (permitted schema old M)) (permitted schema new N) ≡ true
  left_leads left_short new_short =
      short_lead schema (apply_edits (patch_edits schema (shared schema old) (shared schema new)) (permitted schema old M)) (permitted schema new N) (permitted_rises schema new N new_rises)
      left_short new_short (left_patchable schema old new M N f).agree.kinds
