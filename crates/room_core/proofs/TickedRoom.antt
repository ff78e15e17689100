-- The tick of a room: its views stand as at the last tick, and its value is then the one after a tick.
use Rattle.std.proofs.Common.{◌≡◌, ℕ, ◌+◌, ◌≤◌, List, [], ◌∷◌, ◌++◌, All, map, inr, refl, sym, ap, subst, ◌∙◌, arith}
use Rattle.std.specs.List.{flat_map, sum_by}
use Rattle.std.proofs.lemmas.List.Elements.{All-map, All-weaker}
use Rattle.schema_model.specs.Classes.{Schema}
use Rattle.state_model.specs.declared.row.RowEntry.{RowEntry}
use Rattle.state_model.specs.Members.{Members, no_members, live_members}
use Rattle.state_model.specs.Rows.{place_count}
use Rattle.state_model.specs.Shown.{permitted, shared}
use Rattle.command_laws.specs.Kept.{IsKept}
use Rattle.command_laws.proofs.ListSums.{sum_by-map}
use Rattle.command_laws.specs.Later.{IsLater}
use Rattle.instance_table.specs.Table.{TableState}
use Rattle.command_laws.proofs.LaterAgain.{later_again}
use Rattle.room_model.specs.declared.event.Stage.{Stage}
use Rattle.room_model.specs.declared.event.Stage.TheVariants.{Reserved, Joining, Due, Live, Kept}
use Rattle.room_model.specs.Room.{RoomValue, session_swept, tick_outs, ticked_at}
use Rattle.room_model.specs.Sessions.{Session}
use Rattle.live_state.specs.Live.{Live as State-now, schema_of, rows_of, swept_table}
use Rattle.view_counts.specs.Settled.{View, LastTick, CanSettle, IsSettled, settled, view_now}
use Rattle.view_counts.proofs.TickLaws.{tick_of}
use Rattle.view_encoder.proofs.Ticks.{is_settled}
use Rattle.room_core.specs.declared.client.Client.{Client}
use Rattle.room_core.specs.declared.parts.Parts.{Parts}
use Rattle.room_core.specs.Costs.{session_cost, swept_cost}
use Rattle.room_core.specs.Stands.{Stands, ViewStands, ClientStands}
use Rattle.room_core.specs.Ticks.{AllThere, client_swept, ticked_client}
use Rattle.room_core.specs.Values.{session_of_client}

-- ---- before the frames

-- a view stands without the pairs of rows that are gone: it is of the members of the last tick
swept_stands : (stage : Stage) (schema : Schema) (last rows : List RowEntry) (m : Members) (v : View) → ViewStands stage schema last m v → ViewStands stage schema last (live_members rows m) v
swept_stands Live schema last rows m v stands = stands
swept_stands Reserved schema last rows m v stands = stands
swept_stands Joining schema last rows m v stands = stands
swept_stands Due schema last rows m v stands = stands
swept_stands Kept schema last rows m v stands = stands

module _ (old live : State-now) (shared : View) (clients : List Client) (freed : live.table ≡ swept_table old.table) (later : IsLater old.table.state live.table.state)
    (kept : IsKept (schema_of live) live.table.state) (stands : Stands old shared clients) where
  abbrev same_schema : schema_of live ≡ schema_of old
  same_schema = ap (λ (t : TableState). t.schema) freed

  -- the rows of the last tick
  abbrev pub last_tick : LastTick live
  last_tick = tick_of live stands.last (subst (λ s. IsKept s stands.last) (sym same_schema) stands.kept) kept
      (later_again (schema_of old) stands.last old.table.state live.table.state stands.kept stands.later later) stands.spelled

  -- the shared view can be settled, and is settled then
  shared_stood : view_now shared ≡ permitted (schema_of live) stands.last.rows []
  shared_stood = stands.shared_stands ∙ ap (λ s. permitted s stands.last.rows []) (sym same_schema)

  pub can_settle : (none : Members) → none ≡ no_members → CanSettle live none shared
  can_settle none is = inr (record { tick = last_tick; stood = shared_stood ∙ ap (λ (m : Members). permitted (schema_of live) stands.last.rows m.last) (sym is) })

  pub shared_settled : (none : Members) (after : View) → none ≡ no_members → after ≡ settled live none shared → IsSettled live no_members last_tick after
  shared_settled none after is settles = is_settled live none no_members last_tick shared after settles is shared_stood

  -- and each client stands as at the last tick
  pub each_stands : (after : List Client) → after ≡ map (client_swept (rows_of live)) clients → AllThere (rows_of live) after → All (ClientStands (schema_of live) stands.last.rows (rows_of live)) after
  each_stands after is there = λ k d within. record { view_stands = all k d within; pairs = there k d within } where
    Stood : Client → Type 0
    Stood c = ViewStands c.stage (schema_of live) stands.last.rows c.members c.view

    all : All Stood after
    all = subst (All Stood) (sym is) (All-map Stood (client_swept (rows_of live)) clients
        (All-weaker (ClientStands (schema_of old) stands.last.rows (rows_of old)) (λ (c : Client). Stood (client_swept (rows_of live) c))
        (λ c h. swept_stands c.stage (schema_of live) stands.last.rows (rows_of live) c.members c.view
        (subst (λ s. ViewStands c.stage s stands.last.rows c.members c.view) (sym same_schema) h.view_stands))
        clients stands.each))

-- ---- what the clients are sent, and what they are then

-- of swept clients
sent_swept : (schema : Schema) (shared0 rows : List RowEntry) (cs : List Client) → flat_map (λ (c : Client). tick_outs schema shared0 rows (session_of_client c)) (map (client_swept rows) cs)
    ≡ flat_map (tick_outs schema shared0 rows) (map (session_swept rows) (map session_of_client cs))
sent_swept schema shared0 rows [] = refl
sent_swept schema shared0 rows (c ∷ cs) = ap (λ os. tick_outs schema shared0 rows (session_of_client (client_swept rows c)) ++ os) (sent_swept schema shared0 rows cs)

ticked_swept : (schema : Schema) (rows : List RowEntry) (cs : List Client) → map (ticked_client schema rows) (map (client_swept rows) cs)
    ≡ map (λ (s : Session). ticked_at s.stage (permitted schema rows s.members.now) s) (map (session_swept rows) (map session_of_client cs))
ticked_swept schema rows [] = refl
ticked_swept schema rows (c ∷ cs) = ap (λ ss. ticked_client schema rows (client_swept rows c) ∷ ss) (ticked_swept schema rows cs)

cost_swept : (schema : Schema) (rows : List RowEntry) (cs : List Client) → sum_by (λ (c : Client). session_cost schema rows (session_of_client c)) (map (client_swept rows) cs)
    ≡ sum_by (session_cost schema rows) (map (session_swept rows) (map session_of_client cs))
cost_swept schema rows cs =
    let cost = session_cost schema rows in
    sum_by-map (λ (c : Client). cost (session_of_client c)) (client_swept rows) cs
    ∙ sym (sum_by-map cost (session_swept rows) (map session_of_client cs) ∙ sum_by-map (λ (s : Session). cost (session_swept rows s)) session_of_client cs)

-- over the table of the swept rows
module _ (t u : TableState) (is : t ≡ u) (clients swept : List Client) (swept_is : swept ≡ map (client_swept t.state.rows) clients) where
  pub tick_sent : (shared0 : List RowEntry) → flat_map (λ (c : Client). tick_outs t.schema shared0 t.state.rows (session_of_client c)) swept
      ≡ flat_map (tick_outs u.schema shared0 u.state.rows) (map (session_swept u.state.rows) (map session_of_client clients))
  tick_sent shared0 =
      ap (flat_map (λ (c : Client). tick_outs t.schema shared0 t.state.rows (session_of_client c))) swept_is
      ∙ sent_swept t.schema shared0 t.state.rows clients
      ∙ ap (λ (x : TableState). flat_map (tick_outs x.schema shared0 x.state.rows) (map (session_swept x.state.rows) (map session_of_client clients))) is

  pub tick_sessions : (after : List Client) → map session_of_client after ≡ map (ticked_client t.schema t.state.rows) swept
      → map session_of_client after ≡ map (λ (s : Session). ticked_at s.stage (permitted u.schema u.state.rows s.members.now) s) (map (session_swept u.state.rows) (map session_of_client clients))
  tick_sessions after h =
      h ∙ ap (map (ticked_client t.schema t.state.rows)) swept_is
      ∙ ticked_swept t.schema t.state.rows clients
      ∙ ap (λ (x : TableState). map (λ (s : Session). ticked_at s.stage (permitted x.schema x.state.rows s.members.now) s) (map (session_swept x.state.rows) (map session_of_client clients))) is

  -- the steps: of sweeping, of the shared view, and of the clients
  pub tick_steps : (places : ℕ) (shared0 shared1 : List RowEntry) (steps swept_at settled_at encoded_at ticked_at : ℕ) → shared1 ≡ shared u.schema u.state.rows → swept_at ≤ steps + places
      → settled_at ≤ swept_at + (place_count t.state.rows + 0) → encoded_at ≤ settled_at + (place_count shared0 + place_count shared1)
      → ticked_at ≤ encoded_at + sum_by (λ (c : Client). session_cost t.schema t.state.rows (session_of_client c)) swept
      → ticked_at ≤ steps + (places + swept_cost u.schema shared0 u.state.rows (map (session_swept u.state.rows) (map session_of_client clients)))
  tick_steps places shared0 shared1 steps swept_at settled_at encoded_at ticked_at shared_is sweeps settles encodes ticks =
      let rows = ap (λ (x : TableState). place_count x.state.rows) is in
      let view = ap place_count shared_is in
      let all = ap (sum_by (λ (c : Client). session_cost t.schema t.state.rows (session_of_client c))) swept_is
      ∙ cost_swept t.schema t.state.rows clients
      ∙ ap (λ (x : TableState). sum_by (session_cost x.schema x.state.rows) (map (session_swept x.state.rows) (map session_of_client clients))) is in
      omega (arith, rows, view, all, sweeps, settles, encodes, ticks)

-- the value of a room of which a tick changed the table, the shared rows and the sessions
abbrev pub room_with : Parts → TableState → List RowEntry → List Session → RoomValue
room_with p t rows ss = record {
  schema = t.schema;
  def = p.def;
  criteria = p.criteria;
  state = t.state;
  shared = rows;
  seats = p.places;
  sessions = ss;
}

pub same_room : (p : Parts) (t u : TableState) (rows other : List RowEntry) (ss sessions : List Session) → t ≡ u → rows ≡ other → ss ≡ sessions
    → room_with p t rows ss ≡ room_with p u other sessions
same_room p t u rows other ss sessions table shared all =
    ap (λ x. room_with p x rows ss) table ∙ ap (λ x. room_with p u x ss) shared ∙ ap (λ x. room_with p u other x) all
