-- The operations of a patch as they are told, place by place and block by block.
use Rattle.std.proofs.Common.{◌≡◌, ℕ, zero, suc, ◌+◌, max, Bool, true, false, List, [], ◌∷◌, ◌++◌, length, map, Option, Some, None, refl, sym, ap, ◌∙◌, arith}
use Rattle.std.specs.List.{flat_map, range_with_len, slice_get}
use Rattle.std.specs.Option.{option_map, option_map_or}
use Rattle.std.proofs.lemmas.List.{append-nil, append_assoc, map-append}
use Rattle.std.proofs.lemmas.List.Concat.{flat_map-append}
use Rattle.std.proofs.lemmas.Option.{same_Some}
use Rattle.lists.specs.Rising.{find}
use Rattle.lists.proofs.RisingLaws.{find_key}
use Rattle.lists.proofs.ListFacts.{flat_map_same}
use Rattle.schema_model.specs.Classes.{Schema}
use Rattle.schema_model.specs.declared.scalar.ScalarKind.{ScalarKind}
use Rattle.schema_model.specs.declared.class.Item.TheVariants.{Scalar}
use Rattle.schema_model.specs.declared.value.Value.{Value}
use Rattle.schema_model.specs.declared.value.Value.TheVariants.{Whole, Str, Truth, Link}
use Rattle.schema_model.specs.declared.place.Home.{Home}
use Rattle.state_model.specs.declared.row.RowEntry.{RowEntry}
use Rattle.state_model.specs.declared.row.FieldValue.{FieldValue}
use Rattle.state_model.specs.declared.row.MapItem.{MapItem}
use Rattle.state_model.specs.declared.row.SetItem.{SetItem}
use Rattle.state_model.specs.declared.place.Expected.{Expected}
use Rattle.state_model.specs.declared.place.Expected.TheVariants.{Item as AnItem}
use Rattle.state_model.specs.Places.{field_expects, item_expects, row_class}
use Rattle.state_model.specs.Rows.{numbers_of}
use Rattle.wire_model.specs.declared.op.OpKey.{OpKey}
use Rattle.wire_model.specs.declared.op.OpKey.TheVariants.{Field, Item, Named}
use Rattle.wire_model.specs.declared.op.Op.{Op}
use Rattle.wire_model.specs.Edits.{Carried, Plain, Linked, Edit, Add, Replace, DeleteAdd, Delete, Clear, AddByRef, DeleteByRef, EditBlock}
use Rattle.wire_model.specs.Edits.{encoded, encoded_link, encoded_value, encoded_block, encoded_blocks}
use Rattle.wire_model.specs.Frame.{patch}
use Rattle.wire_model.specs.Patch.{carried, place_edit, kind_expected, field_value, map_item, item_key, item_value, set_value, either_number}
use Rattle.wire_model.specs.Patch.{field_edits, map_edits, set_edits, slot_edits, block_of, common_blocks, new_blocks, linked_number, named_in, named_by_blocks}
use Rattle.wire_model.specs.Effect.{carried_by}
use Rattle.canon_patch.specs.Names.{named_by_value, named_by_op, named_by_ops, named_by_encoded, block_encoded}
use Rattle.canon_patch.specs.Encoded.{index_of, field_encoded, item_encoded, element_encoded, slot_encoded, first_encoded}

-- a map over the lists that are joined
map-flat_map : {X Y Z : Type 0} (g : Y → Z) (f : X → List Y) (xs : List X) → map g (flat_map f xs) ≡ flat_map (λ x. map g (f x)) xs
map-flat_map g f [] = refl
map-flat_map g f (x ∷ xs) = map-append g (f x) (flat_map f xs) ∙ ap (λ ys. map g (f x) ++ ys) (map-flat_map g f xs)

-- ---- what is expected matters by its kind alone

-- what is expected, of which the scalar kind alone is kept
abbrev pub kind_alone : Option Expected → Option Expected
kind_alone expected = Some (AnItem (Scalar (kind_expected expected)))

-- a value is carried the same
pub carried_by_kind : (rows : List RowEntry) (expected : Option Expected) (v : Value) → carried rows (kind_alone expected) v ≡ carried rows expected v
carried_by_kind rows expected (Whole z) = refl
carried_by_kind rows expected (Str t) = refl
carried_by_kind rows expected (Truth b) = refl
carried_by_kind rows expected (Link n) = refl

-- the operation on a place is the same
pub place_by_kind : (key new_key : OpKey) (rows : List RowEntry) (expected : Option Expected) (u v : Option Value) →
    place_edit key new_key rows (kind_alone expected) u v ≡ place_edit key new_key rows expected u v
place_by_kind key new_key rows expected None None = refl
place_by_kind key new_key rows expected (Some u) None = refl
place_by_kind key new_key rows expected None (Some v) = rw (carried_by_kind rows expected v) refl
place_by_kind key new_key rows expected (Some u) (Some v) = rw (carried_by_kind rows expected v) refl

-- ---- the shapes

-- the operations of places, told by what serves as well
encoded_each : (edits same : ℕ → List Edit) → ((n : ℕ) → same n ≡ edits n) → (ns : List ℕ) → map encoded (flat_map edits ns) ≡ flat_map (λ n. map encoded (same n)) ns
encoded_each edits same h ns = map-flat_map encoded edits ns ∙ flat_map_same _ _ (λ n. ap (map encoded) (sym (h n))) ns

-- the fields of an instance, the items of a map, those of a set, the positions of an array
pub fields_encoded : (schema : Schema) (rows : List RowEntry) (class : ℕ) (old new : List FieldValue) →
    map encoded (field_edits schema rows class old new)
    ≡ flat_map (field_encoded schema rows class old new) (either_number (map (λ (f : FieldValue). f.field) old) (map (λ (f : FieldValue). f.field) new))
fields_encoded schema rows class old new =
    map-flat_map encoded (λ i. place_edit (Field i) (Field i) rows (field_expects schema class i) (field_value old i) (field_value new i))
    (either_number (map (λ (f : FieldValue). f.field) old) (map (λ (f : FieldValue). f.field) new))

pub items_encoded : (schema : Schema) (rows : List RowEntry) (home : Home) (old new : List MapItem) →
    map encoded (map_edits schema rows home old new)
    ≡ flat_map (item_encoded rows (kind_alone (item_expects schema home)) old new)
    (either_number (map (λ (i : MapItem). i.number) old) (map (λ (i : MapItem). i.number) new))
items_encoded schema rows home old new =
    encoded_each _ _
    (λ n. place_by_kind (Item n) (Named n (item_key (map_item new n))) rows (item_expects schema home) (item_value (map_item old n)) (item_value (map_item new n)))
    (either_number (map (λ (i : MapItem). i.number) old) (map (λ (i : MapItem). i.number) new))

pub elements_encoded : (schema : Schema) (rows : List RowEntry) (home : Home) (old new : List SetItem) →
    map encoded (set_edits schema rows home old new)
    ≡ flat_map (element_encoded rows (kind_alone (item_expects schema home)) old new)
    (either_number (map (λ (i : SetItem). i.number) old) (map (λ (i : SetItem). i.number) new))
elements_encoded schema rows home old new =
    encoded_each _ _
    (λ n. place_by_kind (Item n) (Item n) rows (item_expects schema home) (set_value old n) (set_value new n))
    (either_number (map (λ (i : SetItem). i.number) old) (map (λ (i : SetItem). i.number) new))

pub slots_encoded : (schema : Schema) (rows : List RowEntry) (home : Home) (old new : List Value) →
    map encoded (slot_edits schema rows home old new) ≡ first_encoded rows (kind_alone (item_expects schema home)) old new (max (length old) (length new))
slots_encoded schema rows home old new =
    encoded_each _ _
    (λ n. place_by_kind (Item n) (Item n) rows (item_expects schema home) (slice_get old n) (slice_get new n))
    (range_with_len 0 (max (length old) (length new)))

-- one number more, and one position more
range_more : (low n : ℕ) → range_with_len low (suc n) ≡ range_with_len low n ++ (low + n) ∷ []
range_more low zero = ap (λ m. m ∷ []) (omega arith)
range_more low (suc n) = ap (λ ms. low ∷ ms) (range_more (low + 1) n ∙ ap (λ m. range_with_len (low + 1) n ++ m ∷ []) (omega arith))

slots_more : (rows : List RowEntry) (expected : Option Expected) (old new : List Value) (n : ℕ) →
    first_encoded rows expected old new (n + 1) ≡ first_encoded rows expected old new n ++ slot_encoded rows expected old new n
slots_more rows expected old new n =
    let ops = slot_encoded rows expected old new in
    ap (λ m. flat_map ops (range_with_len 0 m)) (let e : n + 1 ≡ suc n = omega arith in e)
    ∙ (ap (flat_map ops) (range_more 0 n ∙ ap (λ m. range_with_len 0 n ++ m ∷ []) (let e : 0 + n ≡ n = omega arith in e))
    ∙ (flat_map-append ops (range_with_len 0 n) (n ∷ []) ∙ ap (λ os. first_encoded rows expected old new n ++ os) (append-nil (ops n))))

-- ---- the operation on one field, at the fields that were looked up

-- the index of a field that was looked up is the number that it was looked up by
found_index : (n index : ℕ) (old new : List FieldValue) (u v : Option FieldValue) → u ≡ find (λ (f : FieldValue). f.field) n old →
    v ≡ find (λ (f : FieldValue). f.field) n new → index_of u v ≡ Some index → index ≡ n
found_index n index old new u (Some f) is_u is_v h = sym (same_Some _ _ h) ∙ find_key (λ (x : FieldValue). x.field) n new f (sym is_v)
found_index n index old new (Some f) None is_u is_v h = sym (same_Some _ _ h) ∙ find_key (λ (x : FieldValue). x.field) n old f (sym is_u)
found_index n index old new None None is_u is_v h = cc

pub field_next : (schema : Schema) (rows : List RowEntry) (class n index : ℕ) (old new : List FieldValue) (kind : ScalarKind) (expected : Option Expected)
    (u v : Option FieldValue) (a b : Option Value) (ops0 ops : List Op) → u ≡ find (λ (f : FieldValue). f.field) n old →
    v ≡ find (λ (f : FieldValue). f.field) n new → index_of u v ≡ Some index → expected ≡ field_expects schema class index → kind ≡ kind_expected expected →
    a ≡ option_map (λ (f : FieldValue). f.value) u → b ≡ option_map (λ (f : FieldValue). f.value) v →
    ops ≡ ops0 ++ map encoded (place_edit (Field index) (Field index) rows (Some (AnItem (Scalar kind))) a b) →
    ops ≡ ops0 ++ field_encoded schema rows class old new n
field_next schema rows class n index old new kind expected u v a b ops0 ops is_u is_v found is_expected is_kind is_a is_b more =
    let value = option_map (λ (f : FieldValue). f.value) in
    let by_kind : kind ≡ kind_expected (field_expects schema class index) = is_kind ∙ ap kind_expected is_expected in
    more ∙ ap (λ es. ops0 ++ map encoded es)
    (ap (λ k. place_edit (Field index) (Field index) rows (Some (AnItem (Scalar k))) a b) by_kind
    ∙ (place_by_kind (Field index) (Field index) rows (field_expects schema class index) a b
    ∙ (ap (λ i. place_edit (Field i) (Field i) rows (field_expects schema class i) a b) (found_index n index old new u v is_u is_v found)
    ∙ (ap (λ x. place_edit (Field n) (Field n) rows (field_expects schema class n) x b) (is_a ∙ ap value is_u)
    ∙ ap (λ x. place_edit (Field n) (Field n) rows (field_expects schema class n) (field_value old n) x) (is_b ∙ ap value is_v)))))

-- ---- blocks

-- a block is told where it has an operation
pub block_is_encoded : (n : ℕ) (edits : List Edit) → encoded_blocks (block_of n edits) ≡ block_encoded n (map encoded edits)
block_is_encoded n [] = refl
block_is_encoded n (e ∷ es) = refl

-- ---- names

-- a told link, a told value and a told operation name the number to which they link
value_names : (adds : Bool) (n : ℕ) (class : Option ℕ) → named_by_value (encoded_link adds n class) ≡ n ∷ []
value_names true n None = refl
value_names false n None = refl
value_names true n (Some c) = refl
value_names false n (Some c) = refl

carried_names : (adds : Bool) (v : Carried) → named_by_value (encoded_value adds v) ≡ linked_number v
carried_names adds (Plain k s) = refl
carried_names adds (Linked n empty) = value_names adds n (row_class empty)

edit_names : (e : Edit) → named_by_op (encoded e) ≡ option_map_or linked_number (carried_by e) []
edit_names (Add k v) = carried_names true v
edit_names (Replace k v) = carried_names false v
edit_names (DeleteAdd k v) = carried_names true v
edit_names (Delete k) = refl
edit_names Clear = refl
edit_names (AddByRef v) = carried_names true v
edit_names (DeleteByRef n) = refl

-- operations as they are told name the same numbers
pub names_encoded : (edits : List Edit) → named_by_ops (map encoded edits) ≡ named_in edits
names_encoded [] = refl
names_encoded (e ∷ es) = rw (edit_names e, names_encoded es) refl

-- blocks as they are told name the same numbers
blocks_name : (blocks : List EditBlock) → named_by_encoded (encoded_blocks blocks) ≡ named_by_blocks blocks
blocks_name [] = refl
blocks_name (b ∷ bs) = rw (names_encoded b.edits, blocks_name bs) refl

-- the blocks of the common rows as they are told, and those of the new rows, which go by what the told ones name
pub patch_encoded : (schema : Schema) (old new : List RowEntry) →
    encoded_blocks (common_blocks schema old new)
    ++ encoded_blocks (new_blocks (length new) schema new (numbers_of old) (named_by_encoded (encoded_blocks (common_blocks schema old new))))
    ≡ patch schema old new
patch_encoded schema old new =
    let common = common_blocks schema old new in
    ap (λ ns. encoded_blocks common ++ encoded_blocks (new_blocks (length new) schema new (numbers_of old) ns)) (blocks_name common)
    ∙ sym (map-append encoded_block common (new_blocks (length new) schema new (numbers_of old) (named_by_blocks common)))

-- ---- the loop over the positions of an array

-- the operation on one position more, at the values that were looked up
pub slot_next : (rows : List RowEntry) (expected : Option Expected) (old new : List Value) (at : ℕ) (ops0 ops now : List Op) (u v : Option Value) →
    ops ≡ ops0 ++ first_encoded rows expected old new at → now ≡ ops ++ map encoded (place_edit (Item at) (Item at) rows expected u v) →
    u ≡ slice_get old at → v ≡ slice_get new at → now ≡ ops0 ++ first_encoded rows expected old new (at + 1)
slot_next rows expected old new at ops0 ops now u v so_far more is_u is_v =
    let before = first_encoded rows expected old new at in
    more ∙ (ap (λ os. os ++ map encoded (place_edit (Item at) (Item at) rows expected u v)) so_far
    ∙ (ap (λ x. (ops0 ++ before) ++ map encoded (place_edit (Item at) (Item at) rows expected x v)) is_u
    ∙ (ap (λ x. (ops0 ++ before) ++ map encoded (place_edit (Item at) (Item at) rows expected (slice_get old at) x)) is_v
    ∙ (append_assoc ops0 before (slot_encoded rows expected old new at) ∙ ap (λ os. ops0 ++ os) (sym (slots_more rows expected old new at))))))
