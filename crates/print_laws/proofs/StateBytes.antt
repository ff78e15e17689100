-- The state bytes of a tick are bytes, and so are a frame's that carries them.
use Rattle.std.proofs.Common.{◌≡◌, ℕ, ◌+◌, ◌≤◌, Bool, true, false, cond, ◌&&◌, ◌==◌, List, [], ◌∷◌, ◌++◌, map, Option, Some, None, refl, sym, subst, arith, pos, ltb-true}
use Rattle.std.specs.List.{AllByRecursion as Each, flat_map}
use Rattle.std.specs.Str.{is_utf8}
use Rattle.schema_model.specs.Classes.{Schema, is_kept}
use Rattle.schema_model.specs.declared.place.Pair.{Pair}
use Rattle.schema_model.specs.declared.value.Value.{Value}
use Rattle.schema_model.specs.declared.value.Value.TheVariants.{Whole, Str, Truth, Link}
use Rattle.schema_model.specs.Spelling.{text_bytes}
use Rattle.state_model.specs.declared.row.Row.{Row}
use Rattle.state_model.specs.declared.row.Row.TheVariants.{Struct, Map, Array, Set}
use Rattle.state_model.specs.declared.row.RowEntry.{RowEntry}
use Rattle.state_model.specs.declared.place.Expected.{Expected}
use Rattle.state_model.specs.Places.{row_class}
use Rattle.state_model.specs.Rows.{root_alone}
use Rattle.state_model.specs.Shown.{permitted, shared}
use Rattle.state_model.specs.Sound.{Sound}
use Rattle.state_model.specs.Spelled.{are_spelled, is_spelled_value}
use Rattle.state_model.specs.State.{State, swept}
use Rattle.command_laws.proofs.SpelledStates.{sweep_spells}
use Rattle.command_laws.proofs.SweptStates.{sweep_keeps}
use Rattle.wire_model.specs.declared.op.OpKey.{OpKey}
use Rattle.wire_model.specs.declared.op.OpKey.TheVariants.{Field, Item, Named}
use Rattle.wire_model.specs.Edits.{Carried, Edit, Add, Replace, DeleteAdd, Delete, Clear, AddByRef, DeleteByRef, EditBlock, encoded, encoded_block, encoded_blocks, encoded_link, encoded_value}
use Rattle.wire_model.specs.Frame.{state_frame, full_state}
use Rattle.wire_model.specs.Grammar.{expects_at}
use Rattle.wire_model.specs.OpBytes.{count_bytes, mark_bytes, value_bytes, head_bytes, link_number, op_bytes, whole_block, first_block, block_bytes}
use Rattle.wire_model.specs.Patch.{carried, kind_in, kind_expected}
use Rattle.wire_laws.specs.FrameLaw.{Moment, Follows}
use Rattle.wire_laws.proofs.StateFrames.{root_follows}
use Rattle.block_laws.specs.Writable.{is_place}
use Rattle.block_laws.specs.Fitting.{key_fits}
use Rattle.byte_laws.specs.BytesLaw.{bytes_between, bytes_whole, shared_blocks, view_blocks}
use Rattle.byte_laws.proofs.EditFits.{Puts, EditFits}
use Rattle.byte_laws.proofs.PatchBlocks.{BlockFits}
use Rattle.byte_laws.proofs.FrameParts.{parts_of}
use Rattle.view_counts.proofs.TickLaws.{later_follows}
use Rattle.room_promises.proofs.StateFacts.{GoodStates, swept_later}
use Rattle.text_model.specs.WordForms.{are_bytes}
use Rattle.print_laws.proofs.Bytes.{byte_before, bytes_append, number_small, scalar_small, text_small, utf8_bytes}

-- ---- keys

-- a key that is a text is UTF-8
abbrev is_worded_key : OpKey → Bool
is_worded_key (Field i) = true
is_worded_key (Item n) = true
is_worded_key (Named n key) = is_utf8 key

key_worded : (holder : Row) (adds : Bool) (k : OpKey) → key_fits holder adds k ≡ true → is_worded_key k ≡ true
key_worded holder adds (Field i) h = refl
key_worded holder adds (Item n) h = refl
key_worded (Struct class fields) adds (Named n key) h = absurd (cc)
key_worded (Map home items) true (Named n key) h = h
key_worded (Map home items) false (Named n key) h = absurd (cc)
key_worded (Array home values) adds (Named n key) h = absurd (cc)
key_worded (Set home items) adds (Named n key) h = absurd (cc)

count_small : (n : ℕ) → are_bytes (count_bytes n) ≡ true
count_small n = number_small (pos n)

head_small : (code : ℕ) (k : OpKey) → code ≤ 192 → is_place k ≡ true → is_worded_key k ≡ true → are_bytes (head_bytes code k) ≡ true
head_small code (Field i) low place words = byte_before (code + i) [] (omega (arith, low, ltb-true i 63 place)) refl
head_small code (Item n) low place words = byte_before code (count_bytes n) (omega arith) (count_small n)
head_small code (Named n key) low place words = byte_before code (count_bytes n ++ text_bytes key) (omega arith) (bytes_append (count_bytes n) (text_bytes key) (count_small n) (text_small key (utf8_bytes key words)))

-- ---- values

mark_small : (class : Option ℕ) → are_bytes (mark_bytes class) ≡ true
mark_small None = refl
mark_small (Some class) = byte_before 213 (count_bytes class) (omega arith) (count_small class)

link_small : (adds : Bool) (n : ℕ) (class : Option ℕ) → are_bytes (value_bytes (encoded_link adds n class)) ≡ true
link_small adds n None = count_small n
link_small true n (Some class) = bytes_append (count_bytes n) (mark_bytes (Some class)) (count_small n) (mark_small (Some class))
link_small false n (Some class) = bytes_append (count_bytes n) [] (count_small n) refl

value_small : (adds : Bool) (rows : List RowEntry) (expected : Option Expected) (v : Value) → is_spelled_value v ≡ true → are_bytes (value_bytes (encoded_value adds (carried rows expected v))) ≡ true
value_small adds rows expected (Whole z) h = scalar_small (kind_expected expected) (Whole z) refl
value_small adds rows expected (Str t) h = scalar_small (kind_expected expected) (Str t) h
value_small adds rows expected (Truth b) h = scalar_small (kind_expected expected) (Truth b) refl
value_small adds rows expected (Link n) h = link_small adds n (row_class (kind_in rows n))

module _ (schema : Schema) (new : List RowEntry) where
  put_small : (adds : Bool) (expected : Option Expected) (c : Carried) → Puts schema new expected c → are_bytes (value_bytes (encoded_value adds c)) ≡ true
  put_small adds expected c p = subst (λ c. are_bytes (value_bytes (encoded_value adds c)) ≡ true) (sym p.is) (value_small adds new expected p.value p.spelled)

  -- ---- operations

  module _ (holder : Row) where
    edit_small : (e : Edit) → EditFits schema new holder e → are_bytes (op_bytes (encoded e)) ≡ true
    edit_small (Add k c) f =
        bytes_append (head_bytes 128 k) (value_bytes (encoded_value true c)) (head_small 128 k (omega arith) f.1 (key_worded holder true k f.0)) (put_small true (expects_at schema holder k) c f.2)
    edit_small (Replace k c) f =
        bytes_append (head_bytes 0 k) (value_bytes (encoded_value false c)) (head_small 0 k (omega arith) f.1 (key_worded holder false k f.0)) (put_small false (expects_at schema holder k) c f.2)
    edit_small (DeleteAdd k c) f =
        bytes_append (head_bytes 192 k) (value_bytes (encoded_value true c)) (head_small 192 k (omega arith) f.1 (key_worded holder true k f.0)) (put_small true (expects_at schema holder k) c f.2)
    edit_small (Delete k) f = head_small 64 k (omega arith) f.1 (key_worded holder false k f.0)
    edit_small Clear f = refl
    edit_small (AddByRef c) f =
        byte_before 129 (count_bytes (link_number (encoded_value true c)) ++ value_bytes (encoded_value true c)) (omega arith)
        (bytes_append (count_bytes (link_number (encoded_value true c))) (value_bytes (encoded_value true c)) (count_small (link_number (encoded_value true c))) (put_small true (expects_at schema holder (Item 0)) c f.1))
    edit_small (DeleteByRef n) f = byte_before 33 (count_bytes n) (omega arith) (count_small n)

    edits_small : (es : List Edit) → Each (EditFits schema new holder) es → are_bytes (flat_map op_bytes (map encoded es)) ≡ true
    edits_small [] f = refl
    edits_small (e ∷ es) f = bytes_append (op_bytes (encoded e)) (flat_map op_bytes (map encoded es)) (edit_small e f.0) (edits_small es f.1)

  -- ---- blocks

  whole_small : (b : EditBlock) → BlockFits schema new b → are_bytes (whole_block (encoded_block b)) ≡ true
  whole_small b f =
      byte_before 255 (count_bytes b.holder ++ flat_map op_bytes (map encoded b.edits)) (omega arith)
      (bytes_append (count_bytes b.holder) (flat_map op_bytes (map encoded b.edits)) (count_small b.holder) (edits_small (kind_in new b.holder) b.edits f.edits))

  wholes_small : (bs : List EditBlock) → Each (BlockFits schema new) bs → are_bytes (flat_map whole_block (encoded_blocks bs)) ≡ true
  wholes_small [] f = refl
  wholes_small (b ∷ bs) f = bytes_append (whole_block (encoded_block b)) (flat_map whole_block (encoded_blocks bs)) (whole_small b f.0) (wholes_small bs f.1)

  first_small : (bare : Bool) (b : EditBlock) → BlockFits schema new b → are_bytes (first_block bare (encoded_block b)) ≡ true
  first_small bare b f = by_test (bare && (b.holder == 0))
    where
      by_test : (t : Bool) → are_bytes (cond t (flat_map op_bytes (map encoded b.edits)) (whole_block (encoded_block b))) ≡ true
      by_test true = edits_small (kind_in new b.holder) b.edits f.edits
      by_test false = whole_small b f

  blocks_small : (bare : Bool) (bs : List EditBlock) → Each (BlockFits schema new) bs → are_bytes (block_bytes (encoded_blocks bs) bare) ≡ true
  blocks_small bare [] f = refl
  blocks_small bare (b ∷ bs) f = bytes_append (first_block bare (encoded_block b)) (flat_map whole_block (encoded_blocks bs)) (first_small bare b f.0) (wholes_small bs f.1)

-- ---- the two parts of a frame

between_small : (schema : Schema) (old new : Moment) → is_kept schema ≡ true → Follows schema old.rows new.rows → are_spelled old.rows ≡ true → are_spelled new.rows ≡ true
    → are_bytes (bytes_between schema old new) ≡ true
between_small schema old new kept f old_bytes new_bytes =
    let p = parts_of schema old new kept f old_bytes new_bytes in
    bytes_append (block_bytes (encoded_blocks (shared_blocks schema old new)) true) (block_bytes (encoded_blocks (view_blocks schema old new)) false)
    (blocks_small schema (shared schema new.rows) true (shared_blocks schema old new) p.shared_fit)
    (blocks_small schema (permitted schema new.rows new.members) false (view_blocks schema old new) p.view_fit)

whole_state_small : (schema : Schema) (new : Moment) → is_kept schema ≡ true → Sound schema new.rows → are_spelled new.rows ≡ true → are_bytes (bytes_whole schema new) ≡ true
whole_state_small schema new kept sound spelled = between_small schema (record { rows = root_alone schema; members = [] }) new kept (root_follows schema new.rows sound) refl spelled

-- ---- a tick

-- whatever pairs a client has, its state frames are bytes
pub record TickIsBytes (schema : Schema) (before after : List RowEntry) : Type 0 where
  pub whole : (now : List Pair) → are_bytes (full_state schema (shared schema after) (permitted schema after now)) ≡ true
  pub between : (last now : List Pair) → are_bytes (state_frame schema (shared schema before) (permitted schema before last) (shared schema after) (permitted schema after now)) ≡ true

pub tick_bytes : (schema : Schema) (last now : State) → is_kept schema ≡ true → GoodStates schema last now → TickIsBytes schema last.rows (swept now).rows
tick_bytes schema last now kept g =
    let follows : Follows schema last.rows (swept now).rows = later_follows schema last (swept now) g.was (sweep_keeps schema now g.kept) (swept_later schema last now g) in
    let spelled : are_spelled (swept now).rows ≡ true = sweep_spells now g.spelled in
    let at : List RowEntry → List Pair → Moment = λ (rows : List RowEntry) (members : List Pair). record { rows = rows; members = members } in
    record {
      whole = λ ps. whole_state_small schema (at (swept now).rows ps) kept follows.new_sound spelled;
      between = λ qs ps. between_small schema (at last.rows qs) (at (swept now).rows ps) kept follows g.was_spelled spelled;
    }
