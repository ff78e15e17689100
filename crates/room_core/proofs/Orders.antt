-- A room is in order where its clients tell the same, and after each step.
use Rattle.std.proofs.Common.{◌≡◌, Bool, true, false, List, [], ◌∷◌, map, Some, Result, Ok, Err, refl, sym, subst, ap, ap₂, ◌∙◌}
use Rattle.std.specs.Prelude.{OnOk, OnErr, is_err}
use Rattle.room_model.specs.declared.event.RoomEvent.{RoomEvent}
use Rattle.room_model.specs.Room.{RoomValue, after_kick, ended, room_step}
use Rattle.room_model.specs.Sessions.{Session, session_of}
use Rattle.room_model.specs.declared.event.Act.TheVariants as act
use Rattle.room_model.specs.declared.event.RoomEvent.TheVariants as event
use Rattle.room_model.specs.Seats.{Seats}
use Rattle.room_laws.specs.Ordered.{Ordered}
use Rattle.room_laws.specs.Ledgers.{Within}
use Rattle.room_laws.specs.Placed.{entry_tells, session_tells, standing}
use Rattle.room_laws.specs.Places.{may_happen}
use Rattle.room_laws.proofs.AlikeLists.{distinct_told}
use Rattle.room_laws.proofs.Ordering.{step_ordered}
use Rattle.room_core.specs.declared.client.Client.{Client}
use Rattle.room_core.specs.declared.parts.Parts.{Parts}
use Rattle.room_core.specs.Clients.{TellTheSame, client_tells}
use Rattle.room_core.specs.Order.{InOrder}
use Rattle.room_core.specs.Stands.{RoomStands}
use Rattle.room_core.specs.Steps.{Edited}
use Rattle.room_core.specs.Ticks.{client_swept}
use Rattle.state_model.specs.declared.row.RowEntry.{RowEntry}
use Rattle.room_core.specs.Values.{room_of, session_of_client}

-- where its places are the same and its sessions tell the same
pub told_ordered : (r s : RoomValue) → s.seats ≡ r.seats → map session_tells s.sessions ≡ map session_tells r.sessions → Ordered r → Ordered s
told_ordered r s places told o = record {
  placed = record { distinct = distinct_told r.sessions s.sessions (sym told) o.placed.distinct; alike = ap (λ (x : Seats). map entry_tells x.entries) places ∙ (o.placed.alike ∙ sym told) };
  within = subst Within (sym places) o.within;
}

-- what clients tell their sessions do
told_by : (cs : List Client) → map session_tells (map session_of_client cs) ≡ map client_tells cs
told_by [] = refl
told_by (c ∷ cs) = ap (λ xs. client_tells c ∷ xs) (told_by cs)

pub told_sessions : (cs ds : List Client) → TellTheSame ds cs → map session_tells (map session_of_client ds) ≡ map session_tells (map session_of_client cs)
told_sessions cs ds told = told_by ds ∙ (told ∙ sym (told_by cs))

-- swept clients tell the same
pub swept_tell : (rows : List RowEntry) (cs : List Client) → TellTheSame (map (client_swept rows) cs) cs
swept_tell rows [] = refl
swept_tell rows (c ∷ cs) = ap (λ xs. client_tells c ∷ xs) (swept_tell rows cs)

-- an edited one does
pub edited_tells : (c d : Client) → Edited c d → client_tells d ≡ client_tells c
edited_tells c d e = ap₂ (λ n st. (n, standing st)) e.id e.stage

-- so is one of which a session ended: by a kick, say
pub ended_ordered : (r : RoomValue) (s : Session) → session_of r.sessions s.id ≡ Some s → Ordered r → Ordered (ended r s.id)
ended_ordered r s there o = subst Ordered (ap (λ x. (after_kick r 0 x).0) there) (step_ordered r (event.Act (act.Kick s.id 0)) o refl)

-- and after each step
pub step_order : {X E : Type 0} (p q : Parts) (e : RoomEvent) (r : Result X E) (b : Bool) → InOrder p false → may_happen (room_of p) e ≡ true → OnOk r (room_of q ≡ (room_step (room_of p) e).0)
    → OnOk r (RoomStands q) → OnErr r (Ordered (room_of q)) → b ≡ is_err r → InOrder q b
step_order p q e (Ok x) b was may room stands order is = record { ordered = subst Ordered (sym room) (step_ordered (room_of p) e was.ordered may); stands = λ fresh. stands }
step_order p q e (Err x) b was may room stands order is = record { ordered = order; stands = λ fresh. absurd (let never = sym is ∙ fresh in cc) }
