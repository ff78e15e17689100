-- Operations that lead to a new row leave an array that goes by position no longer than positions go.
use Rattle.std.proofs.Common.{◌≡◌, Bool, true, false, not, cond, ◌||◌, List, [], ◌∷◌, refl, sym, ap, subst, ◌∙◌}
use Rattle.std.proofs.lemmas.Bool.{not-true}
use Rattle.schema_model.specs.Classes.{Schema}
use Rattle.schema_model.specs.declared.value.Value.{Value}
use Rattle.schema_model.specs.declared.place.Home.{Home}
use Rattle.state_model.specs.declared.row.Row.{Row}
use Rattle.state_model.specs.declared.row.Row.TheVariants.{Struct, Map, Array, Set}
use Rattle.state_model.specs.declared.row.RowEntry.{RowEntry}
use Rattle.state_model.specs.Rows.{emptied}
use Rattle.state_model.specs.Places.{is_filtered, same_kind}
use Rattle.wire_model.specs.Edits.{Edit}
use Rattle.wire_model.specs.Effect.{edited_row}
use Rattle.wire_model.specs.Patch.{row_edits, whole_edits, ref_edits, slot_edits, is_short}
use Rattle.wire_laws.specs.PatchLaw.{SameKeys}
use Rattle.wire_laws.proofs.Forms.{IsFormed}
use Rattle.wire_laws.proofs.EditSteps.{closed_opened}
use Rattle.wire_laws.proofs.EditedForm.{edited_kind}
use Rattle.wire_laws.proofs.RowLaw.{row_law, whole_law}

-- a row is an array that goes by position
abbrev pub by_position : Schema → Row → Bool
by_position schema (Struct class fields) = false
by_position schema (Map home items) = false
by_position schema (Array home values) = not (is_filtered schema home)
by_position schema (Set home items) = false

-- the places don't matter
position_emptied : (schema : Schema) (r : Row) → by_position schema (emptied r) ≡ by_position schema r
position_emptied schema (Struct class fields) = refl
position_emptied schema (Map home items) = refl
position_emptied schema (Array home values) = refl
position_emptied schema (Set home items) = refl

-- an array that is filtered is short
short_or : (b c : Bool) → not b ≡ false → (b || c) ≡ true
short_or true c h = refl
short_or false c h = cc

-- what doesn't go by position is short
other_short : (schema : Schema) (r : Row) → by_position schema r ≡ false → is_short schema r ≡ true
other_short schema (Struct class fields) h = refl
other_short schema (Map home items) h = refl
other_short schema (Array home values) h = short_or (is_filtered schema home) _ h
other_short schema (Set home items) h = refl

-- so is what comes of it
edited_short : (schema : Schema) (es : List Edit) (r : Row) → by_position schema r ≡ false → is_short schema (edited_row es r) ≡ true
edited_short schema es r h =
    other_short schema (edited_row es r) (sym (position_emptied schema (edited_row es r)) ∙ (ap (by_position schema) (edited_kind es r) ∙ (position_emptied schema r ∙ h)))

-- ---- from an old row

-- where an array goes by position the two rows are one
abbrev pub SameArray : Schema → Row → Row → Type 0
SameArray schema x r = by_position schema r ≡ true → x ≡ r

-- an array that goes by position has no keys
position_keys : (schema : Schema) (x b : Row) → by_position schema x ≡ true → SameKeys x b
position_keys schema (Struct class fields) b h = tt
position_keys schema (Map home items) b h = absurd (cc)
position_keys schema (Array home values) b h = tt
position_keys schema (Set home items) b h = tt

-- the operations from an old row, on a row that is the same where it is an array that goes by position
pub common_short : (schema : Schema) (goal : List RowEntry) (x b r : Row) → same_kind x b ≡ true → IsFormed schema x → IsFormed schema b → is_short schema b ≡ true → SameArray schema x r
    → is_short schema (edited_row (row_edits schema goal x b) r) ≡ true
common_short schema goal x b r kind old_formed formed short same = by_test (by_position schema r) refl
  where
    by_test : (t : Bool) → by_position schema r ≡ t → is_short schema (edited_row (row_edits schema goal x b) r) ≡ true
    by_test false is = edited_short schema (row_edits schema goal x b) r is
    by_test true is =
        let one : x ≡ r = same is in
        let law : edited_row (row_edits schema goal x b) x ≡ b = row_law schema goal x b kind old_formed formed (position_keys schema x b (ap (by_position schema) one ∙ is)) in
        ap (λ y. is_short schema (edited_row (row_edits schema goal x b) y)) (sym one) ∙ (ap (is_short schema) law ∙ short)

-- ---- a whole row

-- an array without items that goes by position has no operations
none_whole : (schema : Schema) (goal : List RowEntry) (home : Home) → is_filtered schema home ≡ false → whole_edits schema goal (Array home []) ≡ []
none_whole schema goal home f = ap (λ b. cond b (ref_edits schema goal home [] []) (slot_edits schema goal home [] [])) f

-- the operations of a whole array that goes by position
array_short : (schema : Schema) (goal : List RowEntry) (home : Home) (values us : List Value) → is_filtered schema home ≡ false → IsFormed schema (Array home values)
    → is_short schema (Array home values) ≡ true → is_short schema (Array home us) ≡ true → is_short schema (edited_row (whole_edits schema goal (Array home values)) (Array home us)) ≡ true
array_short schema goal home [] us f formed new_short short =
    ap (λ es. is_short schema (edited_row es (Array home us))) (none_whole schema goal home f) ∙ (ap (is_short schema) (closed_opened (Array home us)) ∙ short)
array_short schema goal home (v ∷ vs) us f formed new_short short = ap (is_short schema) (whole_law schema goal (Array home (v ∷ vs)) formed) ∙ new_short

-- the operations of a whole row, on a row of its kind
pub whole_short : (schema : Schema) (goal : List RowEntry) (b r : Row) → emptied r ≡ emptied b → IsFormed schema b → is_short schema b ≡ true → is_short schema r ≡ true
    → is_short schema (edited_row (whole_edits schema goal b) r) ≡ true
whole_short schema goal b r kind formed new_short short = by_test (by_position schema r) refl
  where
    arrays : (b r : Row) → emptied r ≡ emptied b → IsFormed schema b → is_short schema b ≡ true → is_short schema r ≡ true → by_position schema r ≡ true
        → is_short schema (edited_row (whole_edits schema goal b) r) ≡ true
    arrays (Array home values) (Array h us) kind formed new_short short is =
        let same : h ≡ home = cc in
        subst (λ a. is_short schema (edited_row (whole_edits schema goal (Array home values)) (Array a us)) ≡ true) (sym same)
        (array_short schema goal home values us (ap (is_filtered schema) (sym same) ∙ not-true (is_filtered schema h) is) formed new_short (ap (λ a. is_short schema (Array a us)) (sym same) ∙ short))
    arrays b (Struct class fields) kind formed new_short short is = cc
    arrays b (Map home items) kind formed new_short short is = cc
    arrays b (Set home items) kind formed new_short short is = cc
    arrays (Struct class fields) (Array h us) kind formed new_short short is = cc
    arrays (Map home items) (Array h us) kind formed new_short short is = cc
    arrays (Set home items) (Array h us) kind formed new_short short is = cc

    by_test : (t : Bool) → by_position schema r ≡ t → is_short schema (edited_row (whole_edits schema goal b) r) ≡ true
    by_test false is = edited_short schema (whole_edits schema goal b) r is
    by_test true is = arrays b r kind formed new_short short is
