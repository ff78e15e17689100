-- A row that an accepted command changed, in its state: kinds stay, and no cycle comes.
use Rattle.std.proofs.Common.{◌≡◌, ℕ, suc, ◌<◌, ◌≤◌, Bool, true, false, cond, ◌&&◌, ◌||◌, ◌==◌, List, Option, Some, None, refl, sym, ap, ◌∙◌, arith, ◌⊎◌, inl, inr}
use Rattle.std.specs.Option.{option_map_or}
use Rattle.std.proofs.lemmas.Bool.Decides.{nat_tests}
use Rattle.lists.specs.Rising.{RisesFrom}
use Rattle.schema_model.specs.declared.value.Value.{Value}
use Rattle.schema_model.specs.declared.value.Value.TheVariants as value
use Rattle.schema_model.specs.Classes.{Schema}
use Rattle.state_model.specs.declared.row.Row.{Row}
use Rattle.state_model.specs.declared.row.Row.TheVariants.{Struct, Map, Array, Set}
use Rattle.state_model.specs.declared.row.RowEntry.{RowEntry}
use Rattle.state_model.specs.declared.command.Command.{Command}
use Rattle.state_model.specs.Rows.{number_of, row_at, held_in, put_row, emptied}
use Rattle.state_model.specs.Reached.{is_among, reached, HasNoCycle}
use Rattle.state_model.specs.State.{State, next_item}
use Rattle.state_model.specs.Commands.{holder_of, value_put, gives_number, edited, counts_items, is_cycle}
use Rattle.state_laws.proofs.Numbers.{live_at, put_rises}
use Rattle.state_laws.proofs.Fitting.{same_declared}
use Rattle.state_laws.proofs.PermittedLaws.{no_cycle_within}
use Rattle.command_laws.specs.Kept.{item_numbers, IsKept}
use Rattle.command_laws.proofs.Accepted.{IsAccepted}
use Rattle.command_laws.proofs.LinkedRows.{row_put, put_from, no_cycle_linked}
use Rattle.command_laws.proofs.PutValues.{put_fits}
use Rattle.command_laws.proofs.EditedRows.{edited_kind, edited_held, edited_numbers, counts_given, edited_differs, edited_fits}
use Rattle.command_laws.proofs.SoundRows.{IsSoundRow, sound_row, sound_rises, KindsStay}
use Rattle.command_laws.proofs.ItemCounts.{count_at, counts_with, count_after, count_no_less}
use Rattle.command_laws.proofs.PutRows.{MayPut}

-- the row that a command changes, after it
abbrev pub after_row : State → Command → ℕ → Row → Row
after_row s c holder row = edited c (next_item s holder) row

-- rows stay, of their kinds, with one changed within its kind
pub kinds_changed : (rows : List RowEntry) (who : ℕ) (row new : Row) → row_at rows who ≡ Some row → emptied new ≡ emptied row → KindsStay rows (put_row who new rows)
kinds_changed rows who row new at kind n a s = by_test (who == n) refl
  where
    by_test : (b : Bool) → who == n ≡ b → (q : Row) × (row_at (put_row who new rows) n ≡ Some q) × (emptied q ≡ emptied a)
    by_test true t =
        let same : who ≡ n = grind (arith, nat_tests) in
        let one : Some row ≡ Some a = sym at ∙ ap (row_at rows) same ∙ s in
        (new, row_put rows who new n ∙ ap (λ b. cond b (Some new) (row_at rows n)) t, kind ∙ ap (λ (o : Option Row). option_map_or emptied o (emptied row)) one)
    by_test false f = (a, row_put rows who new n ∙ ap (λ b. cond b (Some new) (row_at rows n)) f ∙ s, refl)

-- an accepted change makes no cycle
changed_acyclic : (schema : Schema) (s : State) (c : Command) (holder : ℕ) (row : Row) → IsKept schema s → holder_of c ≡ Some holder → row_at s.rows holder ≡ Some row
    → IsAccepted schema s c (Some row) → HasNoCycle (put_row holder (after_row s c holder row) s.rows)
changed_acyclic schema s c holder row kept names at free = by_value (value_put c) refl
  where
    new : Row
    new = after_row s c holder row

    rises : RisesFrom number_of 0 s.rows
    rises = sound_rises schema s.rows kept.sound

    held : (m : ℕ) → is_among m (held_in new) ≡ true → (is_among m (held_in row) ≡ true) ⊎ (value_put c ≡ Some (value.Link m))
    held m t = edited_held c (next_item s holder) row m t

    within : ((m : ℕ) → value_put c ≡ Some (value.Link m) → ⊥) → HasNoCycle (put_row holder new s.rows)
    within none =
        no_cycle_within (put_row holder new s.rows) s.rows (put_rises s.rows holder new rises) rises (λ n m a stands t. elim (put_from s.rows holder new n a stands) [
          | inl put ↦ elim (held m (ap (λ r. is_among m (held_in r)) (sym put.1) ∙ t)) [ inl old ↦ (row, ap (row_at s.rows) (sym put.0) ∙ at, old) | inr link ↦ absurd (none m link) ]
          | inr old ↦ (a, old, t)
        ]) kept.acyclic

    by_value : (o : Option Value) → value_put c ≡ o → HasNoCycle (put_row holder new s.rows)
    by_value None e = within (λ m link. cc)
    by_value (Some (value.Whole z)) e = within (λ m link. cc)
    by_value (Some (value.Str x)) e = within (λ m link. cc)
    by_value (Some (value.Truth b)) e = within (λ m link. cc)
    by_value (Some (value.Link k)) e =
        let apart : is_among holder (reached s.rows k) ≡ false = ap (λ o. is_cycle s.rows o (Some (value.Link k))) (sym names) ∙ ap (is_cycle s.rows (holder_of c)) (sym e) ∙ free.apart in
        no_cycle_linked s.rows (put_row holder new s.rows) holder k rises (put_rises s.rows holder new rises) (λ a b r stands t. elim (put_from s.rows holder new a r stands) [
          | inl put ↦ elim (held b (ap (λ q. is_among b (held_in q)) (sym put.1) ∙ t)) [
            | inl old ↦ inl (row, ap (row_at s.rows) (sym put.0) ∙ at, old)
            | inr link ↦ let one : Some (value.Link k) ≡ Some (value.Link b) = sym e ∙ link in let same : k ≡ b = cc in inr (sym put.0, sym same)
          ]
          | inr old ↦ inl (r, old, t)
        ]) apart kept.acyclic

-- a row that counts its items does so after a change within its kind
same_counts : (a b : Row) → emptied a ≡ emptied b → counts_items a ≡ counts_items b
same_counts a b h = emptied_counts a ∙ ap counts_items h ∙ sym (emptied_counts b)
  where
    emptied_counts : (r : Row) → counts_items r ≡ counts_items (emptied r)
    emptied_counts (Struct class fields) = refl
    emptied_counts (Map home items) = refl
    emptied_counts (Array home values) = refl
    emptied_counts (Set home items) = refl

-- whether a row counts its items, where a command that gives an item number changes one that does
either_counts : (g n : Bool) → (g ≡ true → n ≡ true) → (g || n) ≡ n
either_counts true n h = sym (h refl)
either_counts false n h = refl

-- the changed row may be put in place of the old one
pub changed_may : (schema : Schema) (s : State) (c : Command) (holder : ℕ) (row : Row) → IsKept schema s → holder_of c ≡ Some holder → row_at s.rows holder ≡ Some row → IsAccepted schema s c (Some row)
    → MayPut schema s holder (after_row s c holder row) s.given (gives_number c (Some row)) (suc (next_item s holder))
changed_may schema s c holder row kept names at free =
    let next = next_item s holder in
    let own = sound_row schema s.rows kept.sound holder row at in
    let kind = edited_kind c next row in
    let numbers = kept.items_given holder row at in
    let new : IsSoundRow schema s.rows (edited c next row) = record {
      kind = same_declared schema (edited c next row) row kind ∙ own.kind;
      fits = edited_fits schema s.rows c next row (λ v p. put_fits schema s c row v own.kind free p) free.single numbers own.fits;
      differs = edited_differs c next row own.differs;
    } in
    record {
      stay = kinds_changed s.rows holder row (edited c next row) at kind;
      new = new;
      acyclic = changed_acyclic schema s c holder row kept names at free;
      more = omega arith;
      within = kept.given holder (live_at s.rows holder row at);
      counts = ap (λ o. gives_number c (Some row) || option_map_or counts_items o false) at ∙ either_counts (gives_number c (Some row)) (counts_items row) (counts_given c row) ∙ sym (same_counts (edited c next row) row kind);
      no_less = omega arith;
      own = λ k h. own_items k (edited_numbers c next row k h);
    }
  where
    gives : Bool
    gives = gives_number c (Some row)

    count : ℕ
    count = count_at (counts_with gives holder (suc (next_item s holder)) s.counts) holder

    own_items : (k : ℕ) → (is_among k (item_numbers row) ≡ true) ⊎ ((k ≡ next_item s holder) × (gives ≡ true)) → k < count
    own_items k (inl old) =
        let bound = kept.items_given holder row at k old in
        let more : next_item s holder ≤ count = count_no_less gives holder (suc (next_item s holder)) s.counts (omega arith) holder in
        omega arith
    own_items k (inr new) =
        let b : (gives && holder == holder) ≡ true = grind (arith, nat_tests, new.1) in
        let is : count ≡ suc (next_item s holder) = count_after gives holder (suc (next_item s holder)) s.counts holder ∙ ap (λ t. cond t (suc (next_item s holder)) (next_item s holder)) b in
        let same : k ≡ next_item s holder = new.0 in
        omega arith
