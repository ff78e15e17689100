-- Steps of reading: an operation, a switch, and all operations on a holder.
use Rattle.std.proofs.Common.{◌≡◌, ℕ, ◌+◌, ◌<◌, true, List, [], ◌∷◌, ◌++◌, length, map, Some, None, is_some, refl, sym, ap, arith, length-append, append_assoc, append-nil}
use Rattle.std.specs.Prelude.{nat_lt}
use Rattle.std.specs.List.{flat_map, list_all}
use Rattle.std.proofs.lemmas.Bool.{and_parts, lt-ltb}
use Rattle.schema_model.specs.Classes.{Schema}
use Rattle.state_model.specs.declared.row.Row.{Row}
use Rattle.state_model.specs.declared.row.RowEntry.{RowEntry}
use Rattle.state_model.specs.Rows.{row_at}
use Rattle.wire_model.specs.declared.op.Op.{Op}
use Rattle.wire_model.specs.OpBytes.{op_bytes, switch_bytes}
use Rattle.wire_model.specs.Grammar.{resolved, known_after, PlacedEdit, ReadBlock, Progress, advanced}
use Rattle.wire_model.specs.Resolved.{resolved_ops, known_behind}
use Rattle.block_laws.specs.Writable.{is_count, is_writable_op}
use Rattle.block_laws.specs.Fitting.{OpFits, OpsFit}
use Rattle.block_laws.proofs.Stands.{Stands, stands_first, stands_behind, stands_within}
use Rattle.block_laws.proofs.OpsRead.{turn_there, op_there, op_spelled}
use Rattle.block_laws.proofs.KnownHolders.{op_keeps}
use Rattle.block_laws.proofs.StepsTaken.{Taken, none_taken, one_taken, both_taken}

-- how far reading is, where nothing failed
abbrev pub reading : List RowEntry → List ReadBlock → ℕ → List PlacedEdit → ℕ → Progress
reading known done holder edits at = record { known = known; done = done; block = record { holder = holder; edits = edits }; at = at; fault = None }

-- ---- one step

-- bytes are left where a part stands that isn't empty
left_there : (bytes : List ℕ) (at : ℕ) (part : List ℕ) → 0 < length part → Stands bytes at part → nat_lt at (length bytes) ≡ true
left_there bytes at part some s = lt-ltb _ _ (omega (arith, stands_within bytes at part s))

-- an operation with its place
abbrev pub placed : Schema → List RowEntry → Row → ℕ → Op → PlacedEdit
placed schema known kind at o = record { edit = resolved schema known kind o; number_place = at + 1 }

-- one step takes one operation
op_step : (schema : Schema) (bytes : List ℕ) (known : List RowEntry) (done : List ReadBlock) (holder : ℕ) (edits : List PlacedEdit) (at : ℕ) (kind : Row) (o : Op)
    → row_at known holder ≡ Some kind → OpFits schema known kind o → is_writable_op o ≡ true → Stands bytes at (op_bytes o)
    → advanced schema bytes (reading known done holder edits at)
    ≡ reading (known_after (resolved schema known kind o) known) done holder (edits ++ placed schema known kind at o ∷ []) (at + length (op_bytes o))
op_step schema bytes known done holder edits at kind o is f w s =
    rw (left_there bytes at (op_bytes o) (op_spelled o) s, op_there schema known holder kind bytes at o is f w s, is) refl

-- one step takes a switch
pub turn_step : (schema : Schema) (bytes : List ℕ) (known : List RowEntry) (done : List ReadBlock) (holder : ℕ) (edits : List PlacedEdit) (at n : ℕ) → is_some (row_at known n) ≡ true
    → is_count n ≡ true → Stands bytes at (switch_bytes n)
    → advanced schema bytes (reading known done holder edits at) ≡ reading known (done ++ record { holder = holder; edits = edits } ∷ []) n [] (at + length (switch_bytes n))
turn_step schema bytes known done holder edits at n there h s =
    rw (left_there bytes at (switch_bytes n) (omega arith) s, turn_there schema known holder bytes at n there h s) refl

-- ---- the operations of a block

-- the operations on a holder with their places
abbrev pub all_placed : Schema → Row → List RowEntry → ℕ → List Op → List PlacedEdit
all_placed schema kind known at [] = []
all_placed schema kind known at (o ∷ os) =
    placed schema known kind at o ∷ all_placed schema kind (known_after (resolved schema known kind o) known) (at + length (op_bytes o)) os

-- without their places they are what they mean
pub placed_edits : (schema : Schema) (kind : Row) (known : List RowEntry) (at : ℕ) (os : List Op)
    → map (λ (e : PlacedEdit). e.edit) (all_placed schema kind known at os) ≡ resolved_ops schema kind known os
placed_edits schema kind known at [] = refl
placed_edits schema kind known at (o ∷ os) =
    ap (λ es. resolved schema known kind o ∷ es) (placed_edits schema kind (known_after (resolved schema known kind o) known) (at + length (op_bytes o)) os)

-- operations that fit are taken one after another
pub ops_taken : (schema : Schema) (bytes : List ℕ) (known : List RowEntry) (done : List ReadBlock) (holder : ℕ) (edits : List PlacedEdit) (at : ℕ) (kind : Row) (os : List Op)
    → row_at known holder ≡ Some kind → OpsFit schema kind known os → list_all is_writable_op os ≡ true → Stands bytes at (flat_map op_bytes os)
    → Taken (advanced schema bytes) (reading known done holder edits at)
    (reading (known_behind schema kind known os) done holder (edits ++ all_placed schema kind known at os) (at + length (flat_map op_bytes os))) (length (flat_map op_bytes os))
ops_taken schema bytes known done holder edits at kind [] is f w s =
    let same : at ≡ at + 0 = omega arith in
    rw (append-nil edits, ← same) (none_taken (advanced schema bytes) (reading known done holder edits at))
ops_taken schema bytes known done holder edits at kind (o ∷ os) is f w s =
    let two = and_parts (is_writable_op o) (list_all is_writable_op os) w in
    let after = known_after (resolved schema known kind o) known in
    let here = placed schema known kind at o in
    let next = at + length (op_bytes o) in
    let end : next + length (flat_map op_bytes os) ≡ at + length (op_bytes o ++ flat_map op_bytes os) = omega (arith, length-append (op_bytes o) (flat_map op_bytes os)) in
    let first = one_taken (advanced schema bytes) _ _ (length (op_bytes o)) (op_spelled o)
    (op_step schema bytes known done holder edits at kind o is f.0 two.0 (stands_first bytes at (op_bytes o) (flat_map op_bytes os) s)) in
    let rest = ops_taken schema bytes after done holder (edits ++ here ∷ []) next kind os (op_keeps schema known kind holder kind o is) f.1 two.1
    (stands_behind bytes at (op_bytes o) (flat_map op_bytes os) s) in
    both_taken (advanced schema bytes) _ _ _ (length (op_bytes o)) (length (flat_map op_bytes os)) (length (op_bytes o ++ flat_map op_bytes os)) (sym (length-append (op_bytes o) (flat_map op_bytes os)))
    first (rw (append_assoc edits (here ∷ []) (all_placed schema kind after next os), end) at rest)
