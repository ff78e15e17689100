-- The tick of a client that is live: what it is sent, and what it is then.
use Rattle.std.proofs.Common.{◌≡◌, ℕ, Bool, true, false, not, List, [], ◌∷◌, map, length, refl, sym, ap, subst, ◌∙◌}
use Rattle.std.specs.Prelude.{◌==◌, if◌then◌else◌}
use Rattle.schema_model.specs.Classes.{Schema}
use Rattle.state_model.specs.declared.row.RowEntry.{RowEntry}
use Rattle.state_model.specs.Members.{Members, ticked}
use Rattle.state_model.specs.Shown.{permitted}
use Rattle.wire_model.specs.Frame.{state_frame, has_operation}
use Rattle.byte_laws.proofs.BlankFrames.{bytes_tell}
use Rattle.frame_model.specs.Frames.{server_bytes}
use Rattle.frame_model.specs.declared.frame.ServerFrame.TheVariants as server
use Rattle.room_model.specs.declared.event.RoomOut.TheVariants as out
use Rattle.room_model.specs.declared.event.Stage.{Stage}
use Rattle.room_model.specs.declared.event.Stage.TheVariants.{Due, Live}
use Rattle.room_model.specs.Sessions.{Session}
use Rattle.live_state.specs.Live.{Live as State-now, schema_of, rows_of}
use Rattle.view_counts.specs.Settled.{View, settled, frame_of, full_state_of, view_now, view_before}
use Rattle.view_edits.specs.There.{are_there}
use Rattle.room_core.specs.declared.client.Client.{Client}
use Rattle.room_core.specs.Stands.{ViewStands}
use Rattle.room_core.specs.Ticks.{Ticks, frames_where, sent_to}

-- the view of a live client is the permitted one of the last tick
pub live_stands : (stage : Stage) (schema : Schema) (last : List RowEntry) (m : Members) (v : View) → stage ≡ Live → ViewStands stage schema last m v → view_now v ≡ permitted schema last m.last
live_stands stage schema last m v is stands = subst (λ (s : Stage). ViewStands s schema last m v) is stands

-- a patch is sent where it has an operation: its bytes are none exactly where it has none
sent_where : (id : List ℕ) (schema : Schema) (shared0 permitted0 shared1 permitted1 : List RowEntry)
    → sent_to id (frames_where (state_frame schema shared0 permitted0 shared1 permitted1))
    ≡ map (out.Send id) (if has_operation schema shared0 permitted0 shared1 permitted1
    then server_bytes (server.Patch (state_frame schema shared0 permitted0 shared1 permitted1)) ∷ []
    else [])
sent_where id schema shared0 permitted0 shared1 permitted1 =
    by (server_bytes (server.Patch (state_frame schema shared0 permitted0 shared1 permitted1)))
    (length (state_frame schema shared0 permitted0 shared1 permitted1) == 0) (has_operation schema shared0 permitted0 shared1 permitted1)
    (bytes_tell schema shared0 permitted0 shared1 permitted1) where
      by : (frame : List ℕ) (none has : Bool) → none ≡ not has → sent_to id (if none then [] else frame ∷ []) ≡ map (out.Send id) (if has then frame ∷ [] else [])
      by frame true true is = absurd (cc)
      by frame true false is = refl
      by frame false true is = refl
      by frame false false is = absurd (cc)

-- so it is with a client's frame
pub live_sent : (live : State-now) (shared v : View) (members : Members) (id bytes : List ℕ) (frames : List (List ℕ)) → view_now shared ≡ permitted (schema_of live) (rows_of live) []
    → bytes ≡ frame_of live shared (settled live members v) → frames ≡ frames_where bytes
    → let schema = schema_of live in
    let rows1 = permitted schema (rows_of live) members.now in
    let shared1 = permitted schema (rows_of live) [] in
    sent_to id frames ≡ map (out.Send id) (if has_operation schema (view_before shared) (view_now v) shared1 rows1
    then server_bytes (server.Patch (state_frame schema (view_before shared) (view_now v) shared1 rows1)) ∷ []
    else [])
live_sent live shared v members id bytes frames now bytes_is frames_is =
    ap (sent_to id) (frames_is ∙ ap frames_where (bytes_is ∙ ap (λ (rows : List RowEntry). state_frame (schema_of live) (view_before shared) (view_now v) rows (permitted (schema_of live) (rows_of live) members.now)) now))
    ∙ sent_where id (schema_of live) (view_before shared) (view_now v) (permitted (schema_of live) (rows_of live) []) (permitted (schema_of live) (rows_of live) members.now)

-- a client whose view is settled and whose members end their tick has seen it
pub live_ticks : (live : State-now) (shared : View) (c : Client) (m : Members) (v : View) (queue : List (List ℕ)) (bytes : List ℕ) (frames : List (List ℕ)) → c.stage ≡ Live
    → view_now shared ≡ permitted (schema_of live) (rows_of live) [] → are_there (rows_of live) c.members.now ≡ true
    → m ≡ ticked c.members → v ≡ settled live c.members c.view → queue ≡ [] → bytes ≡ frame_of live shared v → frames ≡ frames_where bytes
    → Ticks live shared c (record { id = c.id; stage = c.stage; members = m; view = v; queue = queue; keep = c.keep }) frames
live_ticks live shared c m v queue bytes frames is now there m_is v_is queue_is bytes_is frames_is =
    subst (λ q. Ticks live shared c (record { id = c.id; stage = c.stage; members = m; view = v; queue = q; keep = c.keep }) frames) (sym queue_is)
    (subst (λ (s : Stage). Ticks live shared (record { id = c.id; stage = s; members = c.members; view = c.view; queue = c.queue; keep = c.keep }) (record { id = c.id; stage = s; members = m; view = v; queue = []; keep = c.keep }) frames)
    (sym is)
    (record {
      id = refl;
      session = session_is;
      outs = live_sent live shared c.view c.members c.id bytes frames now (bytes_is ∙ ap (frame_of live shared) v_is) frames_is;
      stands = record { view_stands = view_is; pairs = subst (λ (n : Members). are_there (rows_of live) n.now ≡ true) (sym m_is) there };
    })) where
      session : Members → List RowEntry → Session
      session n rows = record { id = c.id; stage = Live; members = n; permitted = rows; queue = []; keep = c.keep }

      session_is : session m (view_now v) ≡ session (ticked c.members) (permitted (schema_of live) (rows_of live) c.members.now)
      session_is = ap (λ n. session n (view_now v)) m_is ∙ ap (λ w. session (ticked c.members) (view_now w)) v_is

      view_is : view_now v ≡ permitted (schema_of live) (rows_of live) m.last
      view_is = ap view_now v_is ∙ ap (λ (n : Members). permitted (schema_of live) (rows_of live) n.last) (sym m_is)

-- a client whose full state is due is sent it, and then what waits
pub due_ticks : (live : State-now) (shared : View) (c : Client) (m : Members) (v : View) (queue : List (List ℕ)) (state frame : List ℕ) (frames : List (List ℕ)) → c.stage ≡ Due
    → are_there (rows_of live) c.members.now ≡ true → m ≡ ticked c.members → v ≡ settled live c.members c.view → queue ≡ [] → state ≡ full_state_of live c.members → frame ≡ server_bytes (server.State state)
    → frames ≡ frame ∷ c.queue → Ticks live shared c (record { id = c.id; stage = Live; members = m; view = v; queue = queue; keep = c.keep }) frames
due_ticks live shared c m v queue state frame frames is there m_is v_is queue_is state_is frame_is frames_is =
    subst (λ q. Ticks live shared c (record { id = c.id; stage = Live; members = m; view = v; queue = q; keep = c.keep }) frames) (sym queue_is)
    (subst (λ (s : Stage). Ticks live shared (record { id = c.id; stage = s; members = c.members; view = c.view; queue = c.queue; keep = c.keep }) (record { id = c.id; stage = Live; members = m; view = v; queue = []; keep = c.keep }) frames)
    (sym is)
    (record {
      id = refl;
      session = ap (λ n. session n (view_now v)) m_is ∙ ap (λ w. session (ticked c.members) (view_now w)) v_is;
      outs = ap (sent_to c.id) (frames_is ∙ ap (λ f. f ∷ c.queue) (frame_is ∙ ap (λ bytes. server_bytes (server.State bytes)) state_is));
      stands = record {
        view_stands = ap view_now v_is ∙ ap (λ (n : Members). permitted (schema_of live) (rows_of live) n.last) (sym m_is);
        pairs = subst (λ (n : Members). are_there (rows_of live) n.now ≡ true) (sym m_is) there;
      };
    })) where
      session : Members → List RowEntry → Session
      session n rows = record { id = c.id; stage = Live; members = n; permitted = rows; queue = []; keep = c.keep }
