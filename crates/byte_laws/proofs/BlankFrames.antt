-- A frame has bytes exactly where it has an operation.
use Rattle.std.proofs.Common.{◌≡◌, ℕ, zero, suc, Bool, true, false, cond, not, ◌&&◌, ◌||◌, ◌==◌, List, [], ◌∷◌, ◌++◌, length, map, Option, Some, None, refl, ap, ◌∙◌, arith}
use Rattle.std.specs.List.{flat_map, list_all}
use Rattle.std.specs.Option.{option_map_or}
use Rattle.std.proofs.lemmas.List.Folds.{list_all-append}
use Rattle.std.proofs.lemmas.Bool.Decides.{nat_tests}
use Rattle.schema_model.specs.Classes.{Schema}
use Rattle.state_model.specs.declared.row.Row.{Row}
use Rattle.state_model.specs.declared.row.RowEntry.{RowEntry}
use Rattle.state_model.specs.Rows.{row_at, numbers_of}
use Rattle.wire_model.specs.declared.op.OpKey.{OpKey}
use Rattle.wire_model.specs.declared.op.OpKey.TheVariants as key
use Rattle.wire_model.specs.declared.op.Op.{Op}
use Rattle.wire_model.specs.declared.op.Op.TheVariants as op
use Rattle.wire_model.specs.Edits.{Edit, EditBlock, encoded, encoded_block, encoded_blocks}
use Rattle.wire_model.specs.OpBytes.{op_bytes, head_bytes, value_bytes, block_bytes, whole_block, first_block}
use Rattle.wire_model.specs.Patch.{block_of, common_block, new_edits, new_blocks, next_named, named_in, named_by_blocks, row_edits, patch_edits, common_blocks}
use Rattle.wire_model.specs.Effect.{apply_edits}
use Rattle.wire_model.specs.Frame.{is_blank, shared_part, view_part}
use Rattle.byte_laws.specs.BytesLaw.{BytesTell}

-- a list has an item
abbrev has_item : {X : Type 0} → List X → Bool
has_item [] = false
has_item (x ∷ xs) = true

-- and so it has with others behind it
item_first : {X : Type 0} (xs ys : List X) → has_item xs ≡ true → has_item (xs ++ ys) ≡ true
item_first [] ys h = absurd (cc)
item_first (x ∷ xs) ys h = refl

-- a list is as long as 0 exactly where it has none
no_length : {X : Type 0} (xs : List X) → (length xs == 0) ≡ not (has_item xs)
no_length [] = refl
no_length (x ∷ xs) = grind (arith, nat_tests)

-- the head of an operation has bytes
head_has : (code : ℕ) (k : OpKey) → has_item (head_bytes code k) ≡ true
head_has code (key.Field i) = refl
head_has code (key.Item n) = refl
head_has code (key.Named n name) = refl

-- so it has with its value
op_has : (o : Op) → has_item (op_bytes o) ≡ true
op_has (op.Add k v) = item_first (head_bytes 128 k) (value_bytes v) (head_has 128 k)
op_has (op.Replace k v) = item_first (head_bytes 0 k) (value_bytes v) (head_has 0 k)
op_has (op.DeleteAdd k v) = item_first (head_bytes 192 k) (value_bytes v) (head_has 192 k)
op_has (op.Delete k) = head_has 64 k
op_has op.Clear = refl
op_has (op.AddByRef v) = refl
op_has (op.DeleteByRef n) = refl

-- ---- blocks with operations

-- a block has an operation
abbrev has_edit : EditBlock → Bool
has_edit b = has_item b.edits

block_has : (n : ℕ) (es : List Edit) → list_all has_edit (block_of n es) ≡ true
block_has n [] = refl
block_has n (e ∷ es) = refl

both_have : (xs ys : List EditBlock) → list_all has_edit xs ≡ true → list_all has_edit ys ≡ true → list_all has_edit (xs ++ ys) ≡ true
both_have xs ys h k = list_all-append has_edit xs ys ∙ rw (h, k) refl

common_has : (schema : Schema) (new : List RowEntry) (e : RowEntry) (o : Option Row) → list_all has_edit (common_block schema new e o) ≡ true
common_has schema new e None = refl
common_has schema new e (Some r) = block_has e.who (row_edits schema new r e.row)

commons_have : (schema : Schema) (old new es : List RowEntry) → list_all has_edit (flat_map (λ (e : RowEntry). common_block schema new e (row_at old e.who)) es) ≡ true
commons_have schema old new [] = refl
commons_have schema old new (e ∷ es) =
    both_have (common_block schema new e (row_at old e.who)) (flat_map (λ (e : RowEntry). common_block schema new e (row_at old e.who)) es)
    (common_has schema new e (row_at old e.who)) (commons_have schema old new es)

news_have : (fuel : ℕ) (schema : Schema) (new : List RowEntry) (done named : List ℕ) → list_all has_edit (new_blocks fuel schema new done named) ≡ true
news_have zero schema new done named = refl
news_have (suc fuel) schema new done named = by (news_have fuel schema new) (next_named done named)
  where
    by : ((done named : List ℕ) → list_all has_edit (new_blocks fuel schema new done named) ≡ true) → (o : Option (ℕ × List ℕ)) → list_all has_edit (option_map_or
        (λ (next : ℕ × List ℕ). block_of next.0 (new_edits schema new next.0)
        ++ new_blocks fuel schema new (next.0 ∷ done) (next.1 ++ named_in (new_edits schema new next.0)))
        o []) ≡ true
    by rest None = refl
    by rest (Some next) =
        both_have (block_of next.0 (new_edits schema new next.0)) (new_blocks fuel schema new (next.0 ∷ done) (next.1 ++ named_in (new_edits schema new next.0)))
        (block_has next.0 (new_edits schema new next.0)) (rest (next.0 ∷ done) (next.1 ++ named_in (new_edits schema new next.0)))

-- each block of a patch has one
patch_has : (schema : Schema) (old new : List RowEntry) → list_all has_edit (patch_edits schema old new) ≡ true
patch_has schema old new =
    both_have (common_blocks schema old new) (new_blocks (length new) schema new (numbers_of old) (named_by_blocks (common_blocks schema old new)))
    (commons_have schema old new new) (news_have (length new) schema new (numbers_of old) (named_by_blocks (common_blocks schema old new)))

-- ---- their bytes

ops_have : (es : List Edit) → has_item es ≡ true → has_item (flat_map op_bytes (map encoded es)) ≡ true
ops_have [] h = h
ops_have (e ∷ es) h = item_first (op_bytes (encoded e)) (flat_map op_bytes (map encoded es)) (op_has (encoded e))

first_has : (bare : Bool) (b : EditBlock) → has_edit b ≡ true → has_item (first_block bare (encoded_block b)) ≡ true
first_has bare b h = by (bare && (b.holder == 0))
  where
    by : (t : Bool) → has_item (cond t (flat_map op_bytes (map encoded b.edits)) (whole_block (encoded_block b))) ≡ true
    by true = ops_have b.edits h
    by false = refl

-- blocks that each have an operation have bytes exactly where there is one
blocks_tell : (bare : Bool) (bs : List EditBlock) → list_all has_edit bs ≡ true → has_item (block_bytes (encoded_blocks bs) bare) ≡ not (is_blank bs)
blocks_tell bare [] h = refl
blocks_tell bare (b ∷ bs) h =
    item_first (first_block bare (encoded_block b)) (flat_map whole_block (encoded_blocks bs)) (first_has bare b (first_of_both (has_edit b) (list_all has_edit bs) h))
  where
    first_of_both : (a b : Bool) → (a && b) ≡ true → a ≡ true
    first_of_both true b h = refl
    first_of_both false b h = h

either_has : (xs ys : List ℕ) → has_item (xs ++ ys) ≡ (has_item xs || has_item ys)
either_has [] ys = refl
either_has (x ∷ xs) ys = refl

pub bytes_tell : BytesTell
bytes_tell schema shared0 permitted0 shared1 permitted1 =
    let first = shared_part schema shared0 shared1 in
    let last = view_part schema shared0 permitted0 shared1 permitted1 in
    let here = blocks_tell true first (patch_has schema shared0 shared1) in
    let there = blocks_tell false last (patch_has schema (apply_edits first permitted0) permitted1) in
    no_length (block_bytes (encoded_blocks first) true ++ block_bytes (encoded_blocks last) false)
    ∙ ap not (either_has (block_bytes (encoded_blocks first) true) (block_bytes (encoded_blocks last) false) ∙ rw (here, there) refl)
