-- What each block of a patch is: operations that fit its holder, which is a new row.
use Rattle.std.proofs.Common.{◌≡◌, ℕ, zero, suc, true, List, [], ◌∷◌, ◌++◌, length, map, Option, Some, None, refl, sym, subst}
use Rattle.std.specs.List.{AllByRecursion as Each, list_all}
use Rattle.std.specs.Option.{option_map_or}
use Rattle.std.proofs.lemmas.Bool.{and_from}
use Rattle.lists.specs.Rising.{RisesFrom}
use Rattle.schema_model.specs.Classes.{Schema, is_kept}
use Rattle.state_model.specs.declared.row.Row.{Row}
use Rattle.state_model.specs.declared.row.RowEntry.{RowEntry}
use Rattle.state_model.specs.Rows.{number_of, numbers_of, row_at, is_live, emptied}
use Rattle.state_model.specs.Places.{same_kind}
use Rattle.state_model.specs.Sound.{are_rows_of}
use Rattle.state_laws.proofs.Numbers.{live_at}
use Rattle.state_laws.proofs.RowsOf.{rows_rise, rows_fit}
use Rattle.wire_model.specs.Edits.{Edit, EditBlock, encoded, encoded_block, encoded_blocks}
use Rattle.wire_model.specs.Patch.{named_in, named_by_blocks, kind_in, row_edits, whole_edits, block_of, common_block, common_blocks, next_named, new_edits, new_blocks, patch_edits}
use Rattle.wire_laws.proofs.CommonPhase.{AreAmong, blocks_for}
use Rattle.wire_laws.proofs.KindLaws.{kind_of}
use Rattle.wire_laws.proofs.Leads.{among_self}
use Rattle.wire_laws.proofs.EncodedEdits.{EditsMean, row_means, whole_means}
use Rattle.block_laws.specs.Writable.{is_count, is_writable_op, is_writable, are_writable}
use Rattle.byte_laws.proofs.SpelledRows.{EachSpelled, has_counts}
use Rattle.byte_laws.proofs.EditFits.{EditFits, Each-append}
use Rattle.byte_laws.proofs.RowFits.{row_fits, whole_fits}
use Rattle.byte_laws.proofs.WritableEdits.{edits_writable}

-- a block on a holder
abbrev pub block_on : ℕ → List Edit → EditBlock
block_on n es = record { holder = n; edits = es }

-- ---- each block of a patch

-- a block, where it has an operation
one_each : (P : EditBlock → Type 0) (n : ℕ) (es : List Edit) → P (block_on n es) → Each P (block_of n es)
one_each P n [] p = tt
one_each P n (e ∷ es) p = (p, tt)

module _ (schema : Schema) (new : List RowEntry) (P : EditBlock → Type 0) (whole : (n : ℕ) (b : Row) → row_at new n ≡ Some b → P (block_on n (whole_edits schema new b))) where
  -- the block of a whole row, where it is there
  whole_each : (n : ℕ) (o : Option Row) → row_at new n ≡ o → Each P (block_of n (option_map_or (whole_edits schema new) o []))
  whole_each n None is = tt
  whole_each n (Some b) is = one_each P n (whole_edits schema new b) (whole n b is)

  -- the next whole row, and those behind it
  next_each : (fuel : ℕ) (done : List ℕ) → ((done named : List ℕ) → Each P (new_blocks fuel schema new done named)) → (o : Option (ℕ × List ℕ))
      → Each P (option_map_or (λ (next : ℕ × List ℕ). block_of next.0 (new_edits schema new next.0)
      ++ new_blocks fuel schema new (next.0 ∷ done) (next.1 ++ named_in (new_edits schema new next.0))) o [])
  next_each fuel done law None = tt
  next_each fuel done law (Some p) =
      Each-append P (block_of p.0 (new_edits schema new p.0)) (new_blocks fuel schema new (p.0 ∷ done) (p.1 ++ named_in (new_edits schema new p.0)))
      (whole_each p.0 (row_at new p.0) refl) (law (p.0 ∷ done) (p.1 ++ named_in (new_edits schema new p.0)))

  -- the blocks of whole rows
  pub new_each : (fuel : ℕ) (done named : List ℕ) → Each P (new_blocks fuel schema new done named)
  new_each zero done named = tt
  new_each (suc fuel) done named = next_each fuel done (new_each fuel) (next_named done named)

module _ (schema : Schema) (old new : List RowEntry) (P : EditBlock → Type 0)
    (common : (n : ℕ) (a b : Row) → row_at old n ≡ Some a → row_at new n ≡ Some b → P (block_on n (row_edits schema new a b)))
    (whole : (n : ℕ) (b : Row) → row_at new n ≡ Some b → P (block_on n (whole_edits schema new b))) where
  -- the blocks of numbers that both have
  common_each : (es : List RowEntry) → AreAmong new es → Each P (blocks_for schema old new es)
  common_each [] among = tt
  common_each (e ∷ es) among = Each-append P (common_block schema new e (row_at old e.who)) (blocks_for schema old new es) (by_row (row_at old e.who) refl) (common_each es among.1)
    where
      by_row : (o : Option Row) → row_at old e.who ≡ o → Each P (common_block schema new e o)
      by_row None is = tt
      by_row (Some a) is = one_each P e.who (row_edits schema new a e.row) (common e.who a e.row is among.0)

  -- all blocks of the patch
  pub patch_each : RisesFrom number_of 0 new → Each P (patch_edits schema old new)
  patch_each rises =
      Each-append P (common_blocks schema old new) (new_blocks (length new) schema new (numbers_of old) (named_by_blocks (common_blocks schema old new)))
      (common_each new (among_self new 0 rises)) (new_each schema new P whole (length new) (numbers_of old) (named_by_blocks (common_blocks schema old new)))

-- ---- blocks that fit

-- a block's holder is a new row whose number has bytes, and its operations fit it and mean again what they were before they were told
pub record BlockFits (schema : Schema) (new : List RowEntry) (b : EditBlock) : Type 0 where
  pub live : is_live new b.holder ≡ true
  pub small : is_count b.holder ≡ true
  pub edits : Each (EditFits schema new (kind_in new b.holder)) b.edits
  pub mean : EditsMean schema new (kind_in new b.holder) b.edits

-- operations that fit a new row
block_fits : (schema : Schema) (new : List RowEntry) (n : ℕ) (b : Row) (es : List Edit) → row_at new n ≡ Some b → is_count n ≡ true → Each (EditFits schema new (emptied b)) es
    → EditsMean schema new (emptied b) es → BlockFits schema new (block_on n es)
block_fits schema new n b es is small fit mean = record {
  live = live_at new n b is;
  small = small;
  edits = subst (λ r. Each (EditFits schema new r) es) (sym (kind_of new n b is)) fit;
  mean = subst (λ r. EditsMean schema new r es) (sym (kind_of new n b is)) mean;
}

module _ (schema : Schema) (new : List RowEntry) (kept : is_kept schema ≡ true) (rows : are_rows_of schema new ≡ true) (spelled : EachSpelled new) where
  -- the block of a whole row
  pub whole_block : (n : ℕ) (b : Row) → row_at new n ≡ Some b → BlockFits schema new (block_on n (whole_edits schema new b))
  whole_block n b is =
      let fit = rows_fit schema new rows n b is in
      let bytes = spelled n b is in
      block_fits schema new n b (whole_edits schema new b) is bytes.0 (whole_fits schema new b kept fit.0 fit.1 bytes.1) (whole_means schema new b rows fit.1)

  module _ (old : List RowEntry) (old_rows : are_rows_of schema old ≡ true) (kinds : (n : ℕ) (a b : Row) → row_at old n ≡ Some a → row_at new n ≡ Some b → same_kind a b ≡ true)
      (counts : (n : ℕ) (a : Row) → row_at old n ≡ Some a → has_counts schema a ≡ true) where
    -- the block of a number that both have
    pub common_block_fits : (n : ℕ) (a b : Row) → row_at old n ≡ Some a → row_at new n ≡ Some b → BlockFits schema new (block_on n (row_edits schema new a b))
    common_block_fits n a b old_is is =
        let fit = rows_fit schema new rows n b is in
        let bytes = spelled n b is in
        block_fits schema new n b (row_edits schema new a b) is bytes.0
        (row_fits schema old new kept a b fit.0 (kinds n a b old_is is) (rows_fit schema old old_rows n a old_is).1 (counts n a old_is) fit.1 bytes.1) (row_means schema new a b rows fit.1)

    -- the blocks of a patch to rows that have bytes, from rows whose places can go
    pub patch_fits : Each (BlockFits schema new) (patch_edits schema old new)
    patch_fits = patch_each schema old new (BlockFits schema new) common_block_fits whole_block (rows_rise schema new rows)

-- ---- bytes

-- blocks that fit have bytes, where those behind them do
pub blocks_writable : (schema : Schema) (new : List RowEntry) → is_kept schema ≡ true → are_rows_of schema new ≡ true → (bs cs : List EditBlock) → Each (BlockFits schema new) bs
    → are_writable (encoded_blocks cs) ≡ true → are_writable (encoded_blocks (bs ++ cs)) ≡ true
blocks_writable schema new kept rows [] cs f h = h
blocks_writable schema new kept rows (b ∷ bs) cs f h =
    and_from (is_writable (encoded_block b)) (are_writable (encoded_blocks (bs ++ cs)))
    (and_from (is_count b.holder) (list_all is_writable_op (map encoded b.edits)) f.0.small (edits_writable schema new (kind_in new b.holder) kept rows b.edits f.0.edits))
    (blocks_writable schema new kept rows bs cs f.1 h)
