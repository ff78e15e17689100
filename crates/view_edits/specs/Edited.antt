-- What the answer to a view edit tells. After the StateView of `@colyseus/schema` 3; the limit is ours.
use Rattle.std.specs.Prelude.{◌≡◌, ◌≤◌, ℕ, true, false, List, Result, Ok, Err}
use Rattle.schema_model.specs.Classes.{Schema}
use Rattle.schema_model.specs.declared.place.Pair.{Pair}
use Rattle.state_model.specs.declared.row.RowEntry.{RowEntry}
use Rattle.state_model.specs.Rows.{is_live}
use Rattle.state_model.specs.Members.{Members, view_added, view_removed, is_view_full}
use Rattle.view_edits.specs.declared.fault.EditFault.{EditFault}
use Rattle.view_edits.specs.declared.fault.EditFault.TheVariants.{NoRef, ViewFull, Memory}

-- a row and what is behind it is in the view; or the row isn't there; or the view would have too many pairs; or memory
-- was wanting, for a row that is there and pairs that aren't too many. Without an Ok nothing changed
abbrev pub Shows : Schema → List RowEntry → Pair → Members → Members → Result (Unit {0}) EditFault → Type 0
Shows schema rows p old new (Ok done) = (is_live rows p.who ≡ true) × (is_view_full (view_added schema rows p old) ≡ false) × (new ≡ view_added schema rows p old)
Shows schema rows p old new (Err NoRef) = (is_live rows p.who ≡ false) × (new ≡ old)
Shows schema rows p old new (Err ViewFull) = (is_live rows p.who ≡ true) × (is_view_full (view_added schema rows p old) ≡ true) × (new ≡ old)
Shows schema rows p old new (Err Memory) = (is_live rows p.who ≡ true) × (is_view_full (view_added schema rows p old) ≡ false) × (new ≡ old)

-- a row and what is behind it isn't in the view; or the row isn't there; or memory was wanting, for a row that is there
abbrev pub Hides : Schema → List RowEntry → Pair → Members → Members → Result (Unit {0}) EditFault → Type 0
Hides schema rows p old new (Ok done) = (is_live rows p.who ≡ true) × (new ≡ view_removed schema rows p old)
Hides schema rows p old new (Err NoRef) = (is_live rows p.who ≡ false) × (new ≡ old)
Hides schema rows p old new (Err ViewFull) = ⊥
Hides schema rows p old new (Err Memory) = (is_live rows p.who ≡ true) × (new ≡ old)

-- the steps after an edit are these; where memory was wanting they are no more
abbrev pub Costs : ℕ → ℕ → Result (Unit {0}) EditFault → Type 0
Costs told steps (Ok done) = steps ≡ told
Costs told steps (Err NoRef) = steps ≡ told
Costs told steps (Err ViewFull) = steps ≡ told
Costs told steps (Err Memory) = steps ≤ told
