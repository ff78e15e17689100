-- From one tick to the next: views that stood at the last one can be settled at this one, and are settled then.
use Rattle.std.proofs.Common.{◌≡◌, true, List, sym, ap, subst, ◌∙◌}
use Rattle.schema_model.specs.declared.place.Pair.{Pair}
use Rattle.state_model.specs.Members.{Members}
use Rattle.state_model.specs.Shown.{permitted}
use Rattle.state_model.specs.Spelled.{are_spelled}
use Rattle.command_laws.specs.Kept.{IsKept}
use Rattle.command_laws.specs.Later.{IsLater}
use Rattle.instance_table.specs.Table.{TableState}
use Rattle.live_state.specs.Live.{Live, schema_of, rows_of}
use Rattle.view_counts.specs.Settled.{View, LastTick, IsSettled, settled, view_before, view_now}
use Rattle.view_counts.proofs.TickLaws.{tick_of}

module _ (old live : Live) (same : schema_of live ≡ schema_of old) where
  -- the rows before the edits are those of the last tick
  abbrev pub last_tick : IsKept (schema_of old) old.table.state → IsKept (schema_of live) live.table.state → IsLater old.table.state live.table.state → are_spelled (rows_of old) ≡ true → LastTick live
  last_tick was is later spelled = tick_of live old.table.state (subst (λ schema. IsKept schema old.table.state) (sym same) was) is later spelled

  -- a view that was the permitted one of these members
  pub stood : (now then : List Pair) (v : View) → view_now v ≡ permitted (schema_of old) (rows_of old) then → now ≡ then → view_now v ≡ permitted (schema_of live) (rows_of old) now
  stood now then v h is = h ∙ ap (λ schema. permitted schema (rows_of old) then) (sym same) ∙ ap (λ pairs. permitted (schema_of live) (rows_of old) pairs) (sym is)

-- what settling makes of a view that stood at the last tick
pub is_settled : (live : Live) (given members : Members) (tick : LastTick live) (v w : View) → w ≡ settled live given v → given ≡ members → view_now v ≡ permitted (schema_of live) tick.rows members.last
    → IsSettled live members tick w
is_settled live given members tick v w is are stands = record {
  now = ap view_now is ∙ ap (λ (m : Members). permitted (schema_of live) (rows_of live) m.now) are;
  before = ap view_before is ∙ stands;
}

-- a view that was settled before its tick ended stands at the end: the state is the same, and the members now are those of the last tick
pub stands : (live ended : Live) (v : View) (pairs last : List Pair) → ended.table ≡ live.table → pairs ≡ last → view_now v ≡ permitted (schema_of live) (rows_of live) pairs
    → view_now v ≡ permitted (schema_of ended) (rows_of ended) last
stands live ended v pairs last same are h =
    h ∙ ap (λ (t : TableState). permitted t.schema t.state.rows pairs) (sym same) ∙ ap (λ (ps : List Pair). permitted (schema_of ended) (rows_of ended) ps) are
