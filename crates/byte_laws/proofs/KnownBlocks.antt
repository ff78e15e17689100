-- Blocks that fit are read again and mean what they were, against any rows that are known to be what they are in the new rows.
use Rattle.std.proofs.Common.{◌≡◌, ℕ, Bool, true, ◌||◌, ◌==◌, List, [], ◌∷◌, ◌++◌, map, Option, Some, None, refl, sym, ap, subst, ◌∙◌, arith}
use Rattle.std.specs.Prelude.{is_some}
use Rattle.std.specs.List.{AllByRecursion as Each}
use Rattle.std.specs.Option.{option_map_or}
use Rattle.std.proofs.lemmas.Bool.{eqb-true}
use Rattle.std.proofs.lemmas.Bool.Decides.{nat_tests}
use Rattle.lists.proofs.Tests.{or_wider}
use Rattle.schema_model.specs.Classes.{Schema}
use Rattle.schema_model.specs.declared.value.Value.{Value}
use Rattle.schema_model.specs.declared.value.Value.TheVariants.{Whole, Str, Truth, Link}
use Rattle.state_model.specs.declared.row.Row.{Row}
use Rattle.state_model.specs.declared.row.Row.TheVariants.{Struct}
use Rattle.state_model.specs.declared.row.RowEntry.{RowEntry}
use Rattle.state_model.specs.Rows.{row_at, is_live}
use Rattle.state_model.specs.Reached.{is_among}
use Rattle.state_model.specs.declared.place.Expected.{Expected}
use Rattle.state_model.specs.Sound.{are_rows_of, fits_place}
use Rattle.state_laws.proofs.Numbers.{at_live, live_at, live_row, among_both}
use Rattle.state_laws.proofs.Fitting.{fits_live}
use Rattle.wire_model.specs.declared.op.OpKey.TheVariants as key
use Rattle.wire_model.specs.Edits.{Carried, Edit, Add, Replace, DeleteAdd, Delete, Clear, AddByRef, DeleteByRef, EditBlock, encoded, encoded_blocks}
use Rattle.wire_model.specs.Effect.{carried_by, with_named, with_edits, edited_row, apply_block, apply_edits}
use Rattle.wire_model.specs.Grammar.{expects_at}
use Rattle.wire_model.specs.Patch.{kind_in, carried, linked_number, named_in}
use Rattle.wire_model.specs.Resolved.{holder_kind, resolved_ops, known_behind, resolved_blocks}
use Rattle.wire_laws.proofs.Bools.{or-none, or_moved, in_either}
use Rattle.wire_laws.proofs.LinkedRows.{CarriesKind, CarriesKinds, with_carried, carried_lives, is_live-put_row}
use Rattle.wire_laws.proofs.EncodedValues.{Knows}
use Rattle.wire_laws.proofs.EncodedKnown.{known_with, knows_behind, lives_behind}
use Rattle.wire_laws.proofs.EncodedBlocks.{Follows, ops_mean}
use Rattle.block_laws.specs.Fitting.{OpsFit, BlocksFit}
use Rattle.byte_laws.proofs.EditFits.{Puts, EditFits}
use Rattle.byte_laws.proofs.ReadEdits.{edits_read}
use Rattle.byte_laws.proofs.PatchBlocks.{BlockFits, block_on}

-- ---- known rows

-- the rows known behind blocks
abbrev pub known_past : List EditBlock → List RowEntry → List RowEntry
known_past [] known = known
known_past (b ∷ bs) known = known_past bs (known_with b.edits known)

-- a row that is there is one
live_there : (known : List RowEntry) (n : ℕ) → is_live known n ≡ true → is_some (row_at known n) ≡ true
live_there known n live = sym (live_row known n) ∙ live

-- behind a block the numbers are known that were, and those that it names
past_lives : (b : EditBlock) (known : List RowEntry) (there : ℕ → Bool) → ((n : ℕ) → there n ≡ true → is_live known n ≡ true)
    → (n : ℕ) → (there n || is_among n (named_in b.edits)) ≡ true → is_live (known_with b.edits known) n ≡ true
past_lives b known there lives n h = lives_behind b.edits known n ∙ or_wider (there n) (is_live known n) (is_among n (named_in b.edits)) (lives n) h

-- ---- rows that blocks leave

-- which numbers are there with what operations name
named_lives : (es : List Edit) (now : List RowEntry) (n : ℕ) → is_live (with_named es now) n ≡ (is_live now n || is_among n (named_in es))
named_lives [] now n = or-none (is_live now n)
named_lives (e ∷ es) now n =
    let here = option_map_or linked_number (carried_by e) [] in
    named_lives es (with_carried (carried_by e) now) n
    ∙ (ap (λ b. b || is_among n (named_in es)) (carried_lives (carried_by e) now n)
    ∙ (or_moved (is_live now n) (is_among n here) (is_among n (named_in es)) ∙ ap (λ b. is_live now n || b) (sym (among_both here (named_in es) n))))

-- after a block are there those that were, and those that it names
after_lives : (b : EditBlock) (now : List RowEntry) (n : ℕ) → is_live (apply_block now b) n ≡ true → (is_live now n || is_among n (named_in b.edits)) ≡ true
after_lives b now n h = sym (named_lives b.edits now n) ∙ by_holder (row_at (with_named b.edits now) b.holder) refl h
  where
    by_holder : (o : Option Row) → row_at (with_named b.edits now) b.holder ≡ o → is_live (with_edits b (with_named b.edits now) o) n ≡ true → is_live (with_named b.edits now) n ≡ true
    by_holder None is h = h
    by_holder (Some r) is h =
        in_either (b.holder == n) (is_live (with_named b.edits now) n) (is_live (with_named b.edits now) n)
        (λ t. ap (is_live (with_named b.edits now)) (sym (eqb-true b.holder n t)) ∙ live_at (with_named b.edits now) b.holder r is) (λ live. live)
        (sym (is_live-put_row b.holder (edited_row b.edits r) (with_named b.edits now) n) ∙ h)

-- the numbers that blocks leave are known behind them, where those before were
pub left_lives : (bs : List EditBlock) (now known : List RowEntry) → ((n : ℕ) → is_live now n ≡ true → is_live known n ≡ true)
    → (n : ℕ) → is_live (apply_edits bs now) n ≡ true → is_live (known_past bs known) n ≡ true
left_lives [] now known lives n h = lives n h
left_lives (b ∷ bs) now known lives n h =
    left_lives bs (apply_block now b) (known_with b.edits known)
    (λ m live. lives_behind b.edits known m ∙ or_wider (is_live now m) (is_live known m) (is_among m (named_in b.edits)) (lives m) (after_lives b now m live)) n h

-- ---- operations

module _ (schema : Schema) (new other : List RowEntry) (kinds : (n : ℕ) → is_live new n ≡ true → kind_in new n ≡ kind_in other n) where
  -- what fits is carried with the kind that its number has in other rows too
  value_carries : (expected : Option Expected) (v : Value) → fits_place schema new v expected ≡ true → CarriesKind other (Some (carried new expected v))
  value_carries expected (Whole z) h = tt
  value_carries expected (Str t) h = tt
  value_carries expected (Truth b) h = tt
  value_carries expected (Link n) h = kinds n (fits_live schema new n (Link n) expected h (grind (arith, nat_tests)))

  -- so is what is put
  puts_carry : (expected : Option Expected) (c : Carried) → Puts schema new expected c → CarriesKind other (Some c)
  puts_carry expected c p = subst (λ x. CarriesKind other (Some x)) (sym p.is) (value_carries expected p.value p.fit)

  -- and what an operation that fits carries
  edit_carries : (holder : Row) (e : Edit) → EditFits schema new holder e → CarriesKind other (carried_by e)
  edit_carries holder (Add k c) f = puts_carry (expects_at schema holder k) c f.2
  edit_carries holder (Replace k c) f = puts_carry (expects_at schema holder k) c f.2
  edit_carries holder (DeleteAdd k c) f = puts_carry (expects_at schema holder k) c f.2
  edit_carries holder (Delete k) f = tt
  edit_carries holder Clear f = tt
  edit_carries holder (AddByRef c) f = puts_carry (expects_at schema holder (key.Item 0)) c f.1
  edit_carries holder (DeleteByRef n) f = tt

  -- operations that fit carry the kinds of other rows, where these have the new ones' kinds
  pub edits_carry : (holder : Row) (es : List Edit) → Each (EditFits schema new holder) es → CarriesKinds other es
  edits_carry holder [] f = tt
  edits_carry holder (e ∷ es) f = (edit_carries holder e f.0, edits_carry holder es f.1)

  -- behind blocks that fit, rows are known as what they are in others, where these have the new ones' kinds
  pub knows_past : (bs : List EditBlock) (known : List RowEntry) → Each (BlockFits schema new) bs → Knows other known → Knows other (known_past bs known)
  knows_past [] known f k = k
  knows_past (b ∷ bs) known f k = knows_past bs (known_with b.edits known) f.1 (knows_behind other b.edits known (edits_carry (kind_in new b.holder) b.edits f.0.edits) k)

module _ (schema : Schema) (new : List RowEntry) (rows : are_rows_of schema new ≡ true) where
  -- behind a block the rows are known as what they are in the new ones
  past_knows : (known : List RowEntry) (b : EditBlock) → Knows new known → BlockFits schema new b → Knows new (known_with b.edits known)
  past_knows known b k f = knows_behind new b.edits known (edits_carry schema new new (λ n live. refl) (kind_in new b.holder) b.edits f.edits) k

  -- a known holder is known as its new row without its places
  holder_is : (known : List RowEntry) (n : ℕ) → Knows new known → is_live known n ≡ true → is_live new n ≡ true → holder_kind known n ≡ kind_in new n
  holder_is known n k there live =
      let row = at_live known n there in
      ap (λ o. option_map_or (λ r. r) o (Struct 0 [])) row.1 ∙ k.kinds n row.0 row.1 live

  -- the operations of a block that fits are read against rows in which its holder is known, and mean what they were
  block_reads : (known : List RowEntry) (b : EditBlock) → Knows new known → is_live known b.holder ≡ true → BlockFits schema new b
      → OpsFit schema (holder_kind known b.holder) known (map encoded b.edits)
      × (resolved_ops schema (holder_kind known b.holder) known (map encoded b.edits) ≡ b.edits)
      × (known_behind schema (holder_kind known b.holder) known (map encoded b.edits) ≡ known_with b.edits known)
  block_reads known b k there f =
      let holder = kind_in new b.holder in
      let is = sym (holder_is known b.holder k there f.live) in
      let carries = edits_carry schema new new (λ n live. refl) holder b.edits f.edits in
      let ops = ops_mean schema new holder b.edits known k carries f.mean in (
        subst (λ h. OpsFit schema h known (map encoded b.edits)) is (edits_read schema new holder rows b.edits known k carries f.mean f.edits),
        subst (λ h. resolved_ops schema h known (map encoded b.edits) ≡ b.edits) is ops.0,
        subst (λ h. known_behind schema h known (map encoded b.edits) ≡ known_with b.edits known) is ops.1,
      )

  -- ---- blocks

  -- blocks that fit are read before others, where each holder is known or named before and the others are read behind them
  pub prefix_fits : (bs cs : List EditBlock) (known : List RowEntry) (there : ℕ → Bool) → Knows new known → ((n : ℕ) → there n ≡ true → is_live known n ≡ true) → Follows there bs
      → Each (BlockFits schema new) bs → BlocksFit schema (known_past bs known) (encoded_blocks cs) → BlocksFit schema known (encoded_blocks (bs ++ cs))
  prefix_fits [] cs known there k lives f fit rest = rest
  prefix_fits (b ∷ bs) cs known there k lives f fit rest =
      let read = block_reads known b k (lives b.holder f.0) fit.0 in
      let behind = prefix_fits bs cs (known_with b.edits known) (λ n. there n || is_among n (named_in b.edits)) (past_knows known b k fit.0) (past_lives b known there lives) f.1 fit.1 rest in
      (live_there known b.holder (lives b.holder f.0), (read.0, subst (λ rows. BlocksFit schema rows (encoded_blocks (bs ++ cs))) (sym read.2) behind))

  -- and they mean again what they were
  pub prefix_means : (bs cs : List EditBlock) (known : List RowEntry) (there : ℕ → Bool) → Knows new known → ((n : ℕ) → there n ≡ true → is_live known n ≡ true) → Follows there bs
      → Each (BlockFits schema new) bs → resolved_blocks schema known (encoded_blocks (bs ++ cs)) ≡ bs ++ resolved_blocks schema (known_past bs known) (encoded_blocks cs)
  prefix_means [] cs known there k lives f fit = refl
  prefix_means (b ∷ bs) cs known there k lives f fit =
      let read = block_reads known b k (lives b.holder f.0) fit.0 in
      let behind = prefix_means bs cs (known_with b.edits known) (λ n. there n || is_among n (named_in b.edits)) (past_knows known b k fit.0) (past_lives b known there lives) f.1 fit.1 in
      ap (λ es. block_on b.holder es ∷ resolved_blocks schema (known_behind schema (holder_kind known b.holder) known (map encoded b.edits)) (encoded_blocks (bs ++ cs))) read.1
      ∙ (ap (λ rows. b ∷ resolved_blocks schema rows (encoded_blocks (bs ++ cs))) read.2 ∙ ap (λ xs. b ∷ xs) behind)
