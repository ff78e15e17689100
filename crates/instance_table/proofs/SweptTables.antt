-- A table after a sweep.
use Rattle.std.proofs.Common.{◌≡◌, ℕ, ◌+◌, ◌≤◌, List, length, filter, IsPermutation, sym, ap, ap₂, ◌∙◌, subst, arith}
use Rattle.schema_model.specs.Classes.{Schema}
use Rattle.state_model.specs.declared.row.RowEntry.{RowEntry}
use Rattle.state_model.specs.Reached.{freed}
use Rattle.state_model.specs.Rows.{is_live, place_count, text_bytes_of}
use Rattle.state_model.specs.Spelled.{are_spelled}
use Rattle.state_model.specs.State.{State, ItemCount, swept}
use Rattle.command_laws.specs.Accounts.{count_of, one_if}
use Rattle.command_laws.specs.Kept.{IsKept}
use Rattle.command_laws.proofs.SoundRows.{sound_rises}
use Rattle.command_laws.proofs.SpelledStates.{sweep_spells}
use Rattle.command_laws.proofs.SweptStates.{sweep_keeps}
use Rattle.instance_table.specs.declared.node.Node.{Node}
use Rattle.instance_table.specs.Holders.{AscendsFrom}
use Rattle.instance_table.specs.Nodes.{rows_in, counts_in}
use Rattle.instance_table.specs.Table.{IsExact, IsTable, state_in, freed_numbers}
use Rattle.instance_table.proofs.FreedNumbers.{swept_numbers}

-- nodes of the rows and the counts that are left have the swept state
pub swept_state : (es fs : List (ℕ × Node)) (given : ℕ) → rows_in fs ≡ freed (rows_in es) → counts_in fs ≡ filter (λ (c : ItemCount). is_live (freed (rows_in es)) c.who) (counts_in es) → state_in fs given ≡ swept (state_in es given)
swept_state es fs given rows counts = ap₂ (λ rows counts. let t : State = record { rows = rows; given = given; counts = counts } in t) rows counts

-- what is left of a table is one
pub swept_table : (schema : Schema) (es fs : List (ℕ × Node)) (given places text now after : ℕ) → IsTable schema es given places text → rows_in fs ≡ freed (rows_in es)
    → counts_in fs ≡ filter (λ (c : ItemCount). is_live (freed (rows_in es)) c.who) (counts_in es) → IsExact fs → now ≡ place_count (rows_in fs) → after ≡ text_bytes_of (rows_in fs)
    → now ≤ places → after ≤ text → length fs ≤ length es → IsTable schema fs given now after
swept_table schema es fs given places text now after t rows counts exact placed texts fewer shorter less = record {
  schema_kept = t.schema_kept;
  kept = subst (λ (s : State). IsKept schema s) (sym (swept_state es fs given rows counts)) (sweep_keeps schema (state_in es given) t.kept);
  spelled = ap are_spelled rows ∙ sweep_spells (state_in es given) t.spelled;
  exact = exact;
  placed = placed;
  texts = texts;
  rows_few = omega (arith, less, t.rows_few);
  places_few = omega (arith, fewer, t.places_few);
  text_few = omega (arith, shorter, t.text_few);
  given_few = t.given_few;
}

-- the numbers of what went, put into order, are those that the sweep frees
pub swept_are : (schema : Schema) (es fs : List (ℕ × Node)) (given places text : ℕ) (gone sorted : List ℕ) → IsTable schema es given places text → rows_in fs ≡ freed (rows_in es)
    → ((k : ℕ) → count_of k gone + one_if (is_live (rows_in fs) k) ≡ one_if (is_live (rows_in es) k)) → IsPermutation gone sorted → AscendsFrom 0 sorted → sorted ≡ freed_numbers (rows_in es)
swept_are schema es fs given places text gone sorted t rows counted order rises =
    swept_numbers (rows_in es) gone sorted (sound_rises schema (rows_in es) t.kept.sound)
    (subst (λ (l : List RowEntry). (k : ℕ) → count_of k gone + one_if (is_live l k) ≡ one_if (is_live (rows_in es) k)) rows counted) order rises
