-- Blocks whose operations all find their items, one block after another: read with places, they run without a miss.
use Rattle.std.proofs.Common.{◌≡◌, ℕ, Bool, true, false, cond, ◌==◌, List, [], ◌∷◌, ◌++◌, map, Option, Some, None, Ok, refl, ap, ◌∙◌}
use Rattle.std.specs.Option.{option_map_or}
use Rattle.std.specs.Prelude.{option_and_then}
use Rattle.std.proofs.lemmas.Bool.{and_parts}
use Rattle.lists.specs.Rising.{RisesFrom}
use Rattle.state_model.specs.declared.row.Row.{Row}
use Rattle.state_model.specs.declared.row.RowEntry.{RowEntry}
use Rattle.state_model.specs.Rows.{number_of, row_at}
use Rattle.state_model.specs.Reached.{is_among}
use Rattle.state_laws.proofs.Numbers.{live_at}
use Rattle.wire_model.specs.Edits.{Edit, EditBlock}
use Rattle.wire_model.specs.Effect.{Body, opened, effect, finds, with_named, with_edits, edited_row, apply_block, apply_edits}
use Rattle.wire_model.specs.Grammar.{ReadBlock, PlacedEdit}
use Rattle.wire_model.specs.Decoded.{edits_of, missed_in, missed_by, run_or_miss, run_blocks}
use Rattle.wire_model.specs.Patch.{named_in, kind_in}
use Rattle.wire_laws.proofs.LinkedRows.{CarriesKinds, named_rows}
use Rattle.wire_laws.proofs.OneBlock.{block_rows}
use Rattle.byte_laws.proofs.Found.{all_found}

-- the operations of a block find their items in the row of its holder, where there is one
abbrev pub block_found : EditBlock → List RowEntry → Bool
block_found b rows = option_map_or (λ r. all_found b.edits (opened r)) (row_at (with_named b.edits rows) b.holder) true

-- so do those of each block, once the blocks before it are done
abbrev pub AllFound : List EditBlock → List RowEntry → Type 0
AllFound [] rows = Unit {0}
AllFound (b ∷ bs) rows = (block_found b rows ≡ true) × AllFound bs (apply_block rows b)

-- and those of blocks behind others
pub AllFound-append : (bs cs : List EditBlock) (rows : List RowEntry) → AllFound bs rows → AllFound cs (apply_edits bs rows) → AllFound (bs ++ cs) rows
AllFound-append [] cs rows f g = g
AllFound-append (b ∷ bs) cs rows f g = (f.0, AllFound-append bs cs (apply_block rows b) f.1 g)

-- a block finds its items, where it does in whatever row its holder has
pub found_in : (b : EditBlock) (rows : List RowEntry) → ((r : Row) → row_at (with_named b.edits rows) b.holder ≡ Some r → all_found b.edits (opened r) ≡ true) → block_found b rows ≡ true
found_in b rows h = by (row_at (with_named b.edits rows) b.holder) refl
  where
    by : (o : Option Row) → row_at (with_named b.edits rows) b.holder ≡ o → option_map_or (λ r. all_found b.edits (opened r)) o true ≡ true
    by None is = refl
    by (Some r) is = h r is

-- ---- rows that stay

-- a row that is there stays where operations name others
pub named_stays : (kinds rows : List RowEntry) (es : List Edit) (n : ℕ) (r : Row) → RisesFrom number_of 0 rows → CarriesKinds kinds es → row_at rows n ≡ Some r → row_at (with_named es rows) n ≡ Some r
named_stays kinds rows es n r rises carries is =
    named_rows kinds es rows n rises carries ∙ (ap (λ b. cond b (row_at rows n) (cond (is_among n (named_in es)) (Some (kind_in kinds n)) None)) (live_at rows n r is) ∙ is)

-- and where the block of another holder is done
pub block_stays : (kinds rows : List RowEntry) (b : EditBlock) (n : ℕ) (r : Row) → RisesFrom number_of 0 rows → CarriesKinds kinds b.edits → (b.holder == n) ≡ false → row_at rows n ≡ Some r
    → row_at (apply_block rows b) n ≡ Some r
block_stays kinds rows b n r rises carries other is = by (row_at (with_named b.edits rows) b.holder) refl
  where
    there : row_at (with_named b.edits rows) n ≡ Some r
    there = named_stays kinds rows b.edits n r rises carries is

    by : (o : Option Row) → row_at (with_named b.edits rows) b.holder ≡ o → row_at (apply_block rows b) n ≡ Some r
    by None at = ap (λ o. row_at (with_edits b (with_named b.edits rows) o) n) at ∙ there
    by (Some x) at = block_rows kinds b rows x n rises carries at ∙ (ap (λ c. cond c (Some (edited_row b.edits x)) (row_at (with_named b.edits rows) n)) other ∙ there)

-- ---- running

-- operations that find their items miss none, wherever their places are
none_missed : (es : List PlacedEdit) (body : Body) → all_found (map (λ (e : PlacedEdit). e.edit) es) body ≡ true → missed_in es body ≡ None
none_missed [] body h = refl
none_missed (e ∷ es) body h =
    let two = and_parts (finds e.edit body) (all_found (map (λ (x : PlacedEdit). x.edit) es) (effect e.edit body)) h in
    ap (λ b. cond b (missed_in es (effect e.edit body)) (Some e.number_place)) two.0 ∙ none_missed es (effect e.edit body) two.1

-- nor does a block
none_missed_by : (b : ReadBlock) (rows : List RowEntry) → block_found (edits_of b) rows ≡ true → missed_by b rows ≡ None
none_missed_by b rows h = by (row_at (with_named (edits_of b).edits rows) b.holder) h
  where
    by : (o : Option Row) → option_map_or (λ r. all_found (edits_of b).edits (opened r)) o true ≡ true → option_and_then (λ r. missed_in b.edits (opened r)) o ≡ None
    by None t = refl
    by (Some r) t = none_missed b.edits (opened r) t

-- blocks that find their items run to what their operations make of the rows
pub found_runs : (read : List ReadBlock) (rows : List RowEntry) → AllFound (map edits_of read) rows → run_blocks read rows ≡ Ok (apply_edits (map edits_of read) rows)
found_runs [] rows f = refl
found_runs (b ∷ bs) rows f =
    ap (λ o. run_or_miss o (run_blocks bs (apply_edits (edits_of b ∷ []) rows))) (none_missed_by b rows f.0) ∙ found_runs bs (apply_block rows (edits_of b)) f.1
