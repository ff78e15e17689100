-- The law of the patch: done to the old rows and freed of what nothing holds, it gives the new rows.
use Rattle.std.specs.Prelude.{◌≡◌, ℕ, true, not, List, filter, Some}
use Rattle.schema_model.specs.Classes.{Schema}
use Rattle.state_model.specs.declared.row.Row.{Row}
use Rattle.state_model.specs.declared.row.Row.TheVariants.{Map}
use Rattle.state_model.specs.declared.row.RowEntry.{RowEntry}
use Rattle.state_model.specs.declared.row.MapItem.{MapItem}
use Rattle.state_model.specs.Rows.{row_at, is_live}
use Rattle.state_model.specs.Places.{same_kind}
use Rattle.state_model.specs.Reached.{reached, is_among, freed, HasNoCycle}
use Rattle.state_model.specs.Sound.{are_rows_of}
use Rattle.wire_model.specs.Effect.{apply_edits}
use Rattle.wire_model.specs.Patch.{patch_edits, map_item}
use Rattle.wire_model.specs.Frame.{patch}
use Rattle.wire_model.specs.Resolved.{applied}

-- an item number that both maps have has one key
abbrev pub SameKeys : Row → Row → Type 0
SameKeys (Map a old) (Map b new) = (n : ℕ) (x y : MapItem) → map_item old n ≡ Some x → map_item new n ≡ Some y → x.key ≡ y.key
SameKeys a b = Unit {0}

-- the old rows whose numbers the new ones lack
abbrev pub outside : List RowEntry → List RowEntry → List RowEntry
outside new old = filter (λ (e : RowEntry). not (is_live new e.who)) old

-- what a number is taken to be is the same in both: its kind, and the key of each item of a map
pub record Agree (old new : List RowEntry) : Type 0 where
  pub kinds : (n : ℕ) (a b : Row) → row_at old n ≡ Some a → row_at new n ≡ Some b → same_kind a b ≡ true
  pub keys : (n : ℕ) (a b : Row) → row_at old n ≡ Some a → row_at new n ≡ Some b → SameKeys a b

-- rows of the schema that agree; all of the new ones are reached from the root, and the old ones that go hold no cycle
pub record Patchable (schema : Schema) (old new : List RowEntry) : Type 0 where
  pub old_rows : are_rows_of schema old ≡ true
  pub new_rows : are_rows_of schema new ≡ true
  pub agree : Agree old new
  pub reach : (n : ℕ) → is_live new n ≡ true → is_among n (reached new 0) ≡ true
  pub no_cycle : HasNoCycle (outside new old)

-- the patch leads from the old rows to the new ones
abbrev pub PatchLeads : Type 0
PatchLeads = (schema : Schema) (old new : List RowEntry) → Patchable schema old new → freed (apply_edits (patch_edits schema old new) old) ≡ new

-- and so it does after it was told: its operations carry scalars and numbers of rows alone
abbrev pub EncodedPatchLeads : Type 0
EncodedPatchLeads = (schema : Schema) (old new : List RowEntry) → Patchable schema old new → freed (applied schema old (patch schema old new)) ≡ new
