-- Rows known to be what they are in the new rows: to begin with the old ones, and behind operations those that they link to besides.
use Rattle.std.proofs.Common.{◌≡◌, ℕ, Bool, true, false, cond, ◌||◌, ◌==◌, List, [], ◌∷◌, Option, Some, None, refl, sym, ap, subst, ◌∙◌}
use Rattle.std.specs.Option.{option_map, option_map_or}
use Rattle.std.proofs.lemmas.Bool.{eqb-true}
use Rattle.lists.specs.Rising.{find}
use Rattle.lists.proofs.Tests.{or_swapped}
use Rattle.lists.proofs.Options.{same_some}
use Rattle.state_model.specs.declared.row.Row.{Row}
use Rattle.state_model.specs.declared.row.RowEntry.{RowEntry}
use Rattle.state_model.specs.Rows.{number_of, row_at, is_live, emptied, kinds_of, put_row}
use Rattle.state_model.specs.Places.{same_kind}
use Rattle.state_model.specs.Reached.{is_among}
use Rattle.state_laws.proofs.Numbers.{at_live, among_both}
use Rattle.wire_model.specs.Edits.{Carried, Plain, Linked, Edit, Add, Replace, DeleteAdd, Delete, Clear, AddByRef, DeleteByRef}
use Rattle.wire_model.specs.Effect.{carried_by}
use Rattle.wire_model.specs.Grammar.{known_after}
use Rattle.wire_model.specs.Patch.{kind_in, linked_number, named_in}
use Rattle.wire_laws.proofs.Bools.{or-none, or_moved}
use Rattle.wire_laws.proofs.LinkedRows.{CarriesKind, CarriesKinds, row_at-put_row, is_live-put_row}
use Rattle.wire_laws.proofs.KindLaws.{emptied_of_kind, kind_of}
use Rattle.wire_laws.proofs.EncodedValues.{Knows}

-- ---- what is known to begin with

-- the kinds of rows, looked up
pub row_at-kinds_of : (rows : List RowEntry) (n : ℕ) → row_at (kinds_of rows) n ≡ option_map emptied (row_at rows n)
row_at-kinds_of [] n = refl
row_at-kinds_of (e ∷ es) n =
    let go : (b : Bool) → option_map (λ (e : RowEntry). e.row) (cond b (Some (record { who = e.who; row = emptied e.row })) (find number_of n (kinds_of es)))
    ≡ option_map emptied (option_map (λ (e : RowEntry). e.row) (cond b (Some e) (find number_of n es))) = elim [ true ↦ refl | false ↦ row_at-kinds_of es n ] in
    go (e.who == n)

-- the kinds of rows have the rows' numbers
pub is_live-kinds_of : (rows : List RowEntry) (n : ℕ) → is_live (kinds_of rows) n ≡ is_live rows n
is_live-kinds_of [] n = refl
is_live-kinds_of (e ∷ es) n = ap (λ b. (e.who == n) || b) (is_live-kinds_of es n)

-- where the kind of a row is there, so is the row
emptied_some : (o : Option Row) (r : Row) → option_map emptied o ≡ Some r → (a : Row) × (o ≡ Some a) × (emptied a ≡ r)
emptied_some None r h = cc
emptied_some (Some a) r h = (a, refl, cc)

-- the old rows are known as what they are in the new ones
pub knows_first : (old new : List RowEntry) → ((n : ℕ) (a b : Row) → row_at old n ≡ Some a → row_at new n ≡ Some b → same_kind a b ≡ true) → Knows new (kinds_of old)
knows_first old new kinds = record {
  kinds = λ n r is live.
      let a = emptied_some (row_at old n) r (sym (row_at-kinds_of old n) ∙ is) in
      let b = at_live new n live in
      sym a.2 ∙ (emptied_of_kind a.0 b.0 (kinds n a.0 b.0 a.1 b.1) ∙ sym (kind_of new n b.0 b.1));
}

-- ---- the rows known behind operations

-- the known rows with what is carried
abbrev pub with_known : Option Carried → List RowEntry → List RowEntry
with_known None known = known
with_known (Some (Plain k s)) known = known
with_known (Some (Linked n empty)) known = put_row n empty known

-- after an operation what it carries is known besides
pub after_carried : (e : Edit) (known : List RowEntry) → known_after e known ≡ with_known (carried_by e) known
after_carried (Add k (Plain s v)) known = refl
after_carried (Add k (Linked n empty)) known = refl
after_carried (Replace k (Plain s v)) known = refl
after_carried (Replace k (Linked n empty)) known = refl
after_carried (DeleteAdd k (Plain s v)) known = refl
after_carried (DeleteAdd k (Linked n empty)) known = refl
after_carried (Delete k) known = refl
after_carried Clear known = refl
after_carried (AddByRef (Plain s v)) known = refl
after_carried (AddByRef (Linked n empty)) known = refl
after_carried (DeleteByRef n) known = refl

-- the rows known behind operations
abbrev pub known_with : List Edit → List RowEntry → List RowEntry
known_with [] known = known
known_with (e ∷ es) known = known_with es (known_after e known)

-- with a link of the kind in the new rows, the known rows are still what they are there
knows_carried : (new : List RowEntry) (o : Option Carried) (known : List RowEntry) → CarriesKind new o → Knows new known → Knows new (with_known o known)
knows_carried new None known c k = k
knows_carried new (Some (Plain s v)) known c k = k
knows_carried new (Some (Linked m empty)) known c k = record {
  kinds = λ n r is live.
      let go : (b : Bool) → (m == n) ≡ b → cond b (Some empty) (row_at known n) ≡ Some r → r ≡ kind_in new n = elim [
        | true ↦ λ t h. sym (same_some empty r h) ∙ (c ∙ ap (kind_in new) (eqb-true m n t))
        | false ↦ λ t h. k.kinds n r h live
      ] in go (m == n) refl (sym (row_at-put_row m empty known n) ∙ is);
}

-- after an operation they are still what they are there
pub knows_after : (new : List RowEntry) (e : Edit) (known : List RowEntry) → CarriesKind new (carried_by e) → Knows new known → Knows new (known_after e known)
knows_after new e known c k = subst (Knows new) (sym (after_carried e known)) (knows_carried new (carried_by e) known c k)

-- and behind all of them
pub knows_behind : (new : List RowEntry) (es : List Edit) (known : List RowEntry) → CarriesKinds new es → Knows new known → Knows new (known_with es known)
knows_behind new [] known c k = k
knows_behind new (e ∷ es) known c k = knows_behind new es (known_after e known) c.1 (knows_after new e known c.0 k)

-- which numbers are known with what is carried
carried_lives : (o : Option Carried) (known : List RowEntry) (n : ℕ) → is_live (with_known o known) n ≡ (is_live known n || is_among n (option_map_or linked_number o []))
carried_lives None known n = or-none (is_live known n)
carried_lives (Some (Plain s v)) known n = or-none (is_live known n)
carried_lives (Some (Linked m empty)) known n = is_live-put_row m empty known n ∙ or_swapped (m == n) (is_live known n)

-- which numbers are known behind operations: those that were, and those that the operations name
pub lives_behind : (es : List Edit) (known : List RowEntry) (n : ℕ) → is_live (known_with es known) n ≡ (is_live known n || is_among n (named_in es))
lives_behind [] known n = or-none (is_live known n)
lives_behind (e ∷ es) known n =
    let here = option_map_or linked_number (carried_by e) [] in
    lives_behind es (known_after e known) n
    ∙ (ap (λ b. b || is_among n (named_in es)) (ap (λ rows. is_live rows n) (after_carried e known) ∙ carried_lives (carried_by e) known n)
    ∙ (or_moved (is_live known n) (is_among n here) (is_among n (named_in es)) ∙ ap (λ b. is_live known n || b) (sym (among_both here (named_in es) n))))
