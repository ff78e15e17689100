-- What state bytes make of rows, and what state frames make of them one after another. Ours.
use Rattle.std.specs.Prelude.{ℕ, List, [], ◌∷◌, map, Option, Some, None, Result, Ok, Err, if◌then◌else◌, ◌==◌, option_and_then}
use Rattle.std.specs.List.{fold}
use Rattle.schema_model.specs.Classes.{Schema}
use Rattle.state_model.specs.declared.row.RowEntry.{RowEntry}
use Rattle.state_model.specs.Rows.{root_alone, row_at}
use Rattle.state_model.specs.Reached.{freed}
use Rattle.wire_model.specs.declared.fault.OpFault.{OpFault}
use Rattle.wire_model.specs.declared.fault.OpFault.TheVariants as fault
use Rattle.wire_model.specs.Edits.{EditBlock}
use Rattle.wire_model.specs.Effect.{Body, opened, effect, finds, with_named, apply_edits}
use Rattle.wire_model.specs.Grammar.{ReadBlock, PlacedEdit, read_blocks}

-- the operations of a block without their places
abbrev pub edits_of : ReadBlock → EditBlock
edits_of b = record { holder = b.holder; edits = map (λ (e : PlacedEdit). e.edit) b.edits }

-- the place of the first operation that misses its item
abbrev pub missed_in : List PlacedEdit → Body → Option ℕ
missed_in [] body = None
missed_in (e ∷ es) body = if finds e.edit body then missed_in es (effect e.edit body) else Some e.number_place

-- the same over the holder's row
abbrev pub missed_by : ReadBlock → List RowEntry → Option ℕ
missed_by b rows = option_and_then (λ r. missed_in b.edits (opened r)) (row_at (with_named (edits_of b).edits rows) b.holder)

-- a missed item stops the run with its fault
abbrev pub run_or_miss : Option ℕ → Result (List RowEntry) OpFault → Result (List RowEntry) OpFault
run_or_miss None rest = rest
run_or_miss (Some place) rest = Err (fault.NoItem place)

-- the rows after blocks that were read, or the first item that is missed
abbrev pub run_blocks : List ReadBlock → List RowEntry → Result (List RowEntry) OpFault
run_blocks [] rows = Ok rows
run_blocks (b ∷ bs) rows = run_or_miss (missed_by b rows) (run_blocks bs (apply_edits (edits_of b ∷ []) rows))

-- a fault of reading stands where no item was missed before it; without a fault what nothing holds is freed
abbrev pub ended_by : Option OpFault → Result (List RowEntry) OpFault → Result (List RowEntry) OpFault
ended_by f (Err missed) = Err missed
ended_by (Some f) (Ok rows) = Err f
ended_by None (Ok rows) = Ok (freed rows)

-- what state bytes make of rows: the steps that they spell are done, and what nothing holds is freed; or the fault
-- of the earlier operation, be it that its bytes can't be read or that its item is missed
abbrev pub decoded : Schema → List ℕ → List RowEntry → Result (List RowEntry) OpFault
decoded schema bytes rows = ended_by (read_blocks schema rows bytes).fault (run_blocks (read_blocks schema rows bytes).blocks rows)

-- the rows from which a state frame goes on: a full state begins from the root alone, a patch from the rows so far
abbrev pub frame_base : Schema → ℕ → List RowEntry → List RowEntry
frame_base schema code rows = if code == 14 then root_alone schema else rows

-- the rows after a state frame; its first byte is 14 for a full state and 15 for a patch
abbrev pub after_frame : Schema → Result (List RowEntry) OpFault → List ℕ → Result (List RowEntry) OpFault
after_frame schema (Err f) frame = Err f
after_frame schema (Ok rows) [] = Ok rows
after_frame schema (Ok rows) (code ∷ bytes) = decoded schema bytes (frame_base schema code rows)

-- what state frames make of the rows, from the root alone
abbrev pub seen : Schema → List (List ℕ) → Result (List RowEntry) OpFault
seen schema frames = fold (after_frame schema) (Ok (root_alone schema)) frames
