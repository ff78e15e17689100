-- Blocks that fit the kinds of the rows known so far: what is written of them is read again.
use Rattle.std.specs.Prelude.{◌≡◌, ℕ, Bool, true, false, not, ◌&&◌, ◌||◌, ◌==◌, List, [], ◌∷◌, map, length, nat_lt, Option, Some, None, is_some, Ok, if◌then◌else◌}
use Rattle.std.specs.Option.{option_map_or}
use Rattle.std.specs.Str.{is_utf8}
use Rattle.schema_model.specs.Classes.{Schema}
use Rattle.schema_model.specs.Fits.{fits, is_worded}
use Rattle.schema_model.specs.declared.class.Item.TheVariants as item
use Rattle.state_model.specs.declared.row.Row.{Row}
use Rattle.state_model.specs.declared.row.Row.TheVariants as row
use Rattle.state_model.specs.declared.row.RowEntry.{RowEntry}
use Rattle.state_model.specs.declared.place.Expected.{Expected}
use Rattle.state_model.specs.declared.place.Expected.TheVariants.{Item as AnItem, Collection as ACollection}
use Rattle.state_model.specs.Rows.{row_at}
use Rattle.state_model.specs.Places.{holds_instances, row_home}
use Rattle.state_model.specs.Sound.{is_collection_of}
use Rattle.wire_model.specs.declared.op.OpKey.{OpKey}
use Rattle.wire_model.specs.declared.op.OpKey.TheVariants.{Field, Item, Named}
use Rattle.wire_model.specs.declared.op.OpValue.{OpValue}
use Rattle.wire_model.specs.declared.op.OpValue.TheVariants as carried
use Rattle.wire_model.specs.declared.op.Op.{Op}
use Rattle.wire_model.specs.declared.op.Op.TheVariants as op
use Rattle.wire_model.specs.declared.op.Block.{Block}
use Rattle.wire_model.specs.Edits.{EditBlock}
use Rattle.wire_model.specs.Grammar.{check_instance, mark_fits, is_array_row, expects_at, resolved, known_after, Readings}
use Rattle.wire_model.specs.Resolved.{holder_kind, known_behind}
use Rattle.wire_model.specs.Decoded.{edits_of}

-- a type mark is there exactly under an operation with the ADD bit, and fits the instance
abbrev pub marks_fit : Schema → ℕ → Bool → Option Row → Option ℕ → Bool
marks_fit schema class true known (Some mark) = nat_lt mark (length schema.classes) && mark_fits schema class known mark
marks_fit schema class false known None = true
marks_fit schema class adds known mark = false

-- a value is what a place is declared to hold: a link may be to a new row, an instance under the ADD bit alone
abbrev pub ValueFits : Schema → List RowEntry → Bool → Expected → OpValue → Type 0
ValueFits schema known adds (AnItem (item.Scalar kind)) (carried.Scalar k v) = (k ≡ kind) × ((fits k v ≡ true) × (is_worded v ≡ true))
ValueFits schema known adds (AnItem (item.Class class)) (carried.Struct n mark) =
    (check_instance schema class adds 0 (row_at known n) ≡ Ok true) × (marks_fit schema class adds (row_at known n) mark ≡ true)
ValueFits schema known adds (ACollection home) (carried.Coll n) =
    (not (is_some (row_at known n)) || is_collection_of home (row_at known n)) ≡ true
ValueFits schema known adds expected v = ⊥

-- a value fits its place, where the place is declared
abbrev pub PlaceFits : Schema → List RowEntry → Bool → Option Expected → OpValue → Type 0
PlaceFits schema known adds None v = ⊥
PlaceFits schema known adds (Some expected) v = ValueFits schema known adds expected v

-- the form of a key is that of the holder: fields on instances; on a map a text stands beside the number under the ADD bit
abbrev pub key_fits : Row → Bool → OpKey → Bool
key_fits (row.Struct class fields) adds (Field i) = true
key_fits (row.Map home items) true (Named n key) = is_utf8 key
key_fits (row.Map home items) false (Item n) = true
key_fits (row.Array home values) adds (Item n) = true
key_fits (row.Set home items) adds (Item n) = true
key_fits holder adds key = false

-- the holder is an array of instances
abbrev pub holds_refs : Schema → Row → Bool
holds_refs schema holder = is_array_row holder && option_map_or (holds_instances schema) (row_home holder) false

-- an operation on a holder
abbrev pub OpFits : Schema → List RowEntry → Row → Op → Type 0
OpFits schema known holder (op.Add k v) = (key_fits holder true k ≡ true) × PlaceFits schema known true (expects_at schema holder k) v
OpFits schema known holder (op.Replace k v) = (key_fits holder false k ≡ true) × PlaceFits schema known false (expects_at schema holder k) v
OpFits schema known holder (op.DeleteAdd k v) = (key_fits holder true k ≡ true) × PlaceFits schema known true (expects_at schema holder k) v
OpFits schema known holder (op.Delete k) = (key_fits holder false k ≡ true) × (is_some (expects_at schema holder k) ≡ true)
OpFits schema known holder op.Clear = is_some (row_home holder) ≡ true
OpFits schema known holder (op.AddByRef v) = (holds_refs schema holder ≡ true) × PlaceFits schema known true (expects_at schema holder (Item 0)) v
OpFits schema known holder (op.DeleteByRef n) = holds_refs schema holder ≡ true

-- the operations on a holder; each makes its link known to those behind it
abbrev pub OpsFit : Schema → Row → List RowEntry → List Op → Type 0
OpsFit schema holder known [] = Unit {0}
OpsFit schema holder known (o ∷ os) = OpFits schema known holder o × OpsFit schema holder (known_after (resolved schema known holder o) known) os

-- blocks on holders that are known
abbrev pub BlocksFit : Schema → List RowEntry → List Block → Type 0
BlocksFit schema known [] = Unit {0}
BlocksFit schema known (b ∷ bs) =
    (is_some (row_at known b.holder) ≡ true)
    × (OpsFit schema (holder_kind known b.holder) known b.ops
    × BlocksFit schema (known_behind schema (holder_kind known b.holder) known b.ops) bs)

-- the blocks as reading finds them: it begins at holder 0, so a first block with a switch stands behind one without operations
abbrev pub found_blocks : Bool → List EditBlock → List EditBlock
found_blocks bare [] = record { holder = 0; edits = [] } ∷ []
found_blocks bare (b ∷ bs) = if bare && (b.holder == 0) then b ∷ bs else record { holder = 0; edits = [] } ∷ b ∷ bs

-- reading found these blocks, and no fault
pub record ReadAs (read : Readings) (there : List EditBlock) : Type 0 where
  pub fault : read.fault ≡ None
  pub blocks : map edits_of read.blocks ≡ there
