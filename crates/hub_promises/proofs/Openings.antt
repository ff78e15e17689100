-- What an event of a hub opens: its connection, which is new, and the room that lets its session in.
use Rattle.std.proofs.Common.{◌≡◌, ℕ, ◌+◌, Bool, true, false, cond, ◌||◌, List, [], ◌∷◌, Option, Some, None, is_some, refl, sym, ap, subst, ◌∙◌, zero-le}
use Rattle.std.specs.List.{list_any}
use Rattle.room_model.specs.declared.event.RoomEvent.{RoomEvent}
use Rattle.room_model.specs.declared.event.RoomEvent.TheVariants as happened
use Rattle.room_laws.specs.StepLaws.{opens}
use Rattle.hub_model.specs.declared.event.HubEvent.{HubEvent}
use Rattle.hub_model.specs.declared.event.HubEvent.TheVariants.{At, Ask, Bad, Opening, Frame, Lost, Act, Tick}
use Rattle.hub_model.specs.declared.request.Opening.{Opening as Opens}
use Rattle.hub_model.specs.declared.conn.HubConn.{HubConn}
use Rattle.hub_model.specs.HubValues.{HubValue, HubRoom, is_named, conn_of, def_of_room, conn_number}
use Rattle.hub_model.specs.Dealt.{Dealt, dealt}
use Rattle.hub_model.specs.HubStep.{Rules, reserved_in, decided, opened_by, opening_of, entered_conns, event_if, event_in, event_of_conn, event_of_opening, deals, conns_with, moment_at, lapses_by, enters}
use Rattle.lists.specs.Rising.{RisesFrom, put}
use Rattle.lists.proofs.RisingLaws.{RisesFrom-put}
use Rattle.hub_laws.proofs.Different.{any_put}

-- ---- an opening

abbrev pub opening : HubValue → HubEvent → Option Opens
opening h (Opening conn target fresh) = opened_by h conn target
opening h e = None

-- on the connection of this number
abbrev pub number_of : HubEvent → ℕ
number_of (Opening conn target fresh) = conn
number_of e = 0

-- a connection more, or none
pub conns_are : (h : HubValue) (e : HubEvent) (ds : List Dealt) → conns_with h e ds ≡ entered_conns h.conns (number_of e) ds (opening h e)
conns_are h (Opening conn target fresh) ds = refl
conns_are h e ds = refl

-- its connection is new
pub number_free : (h : HubValue) (e : HubEvent) (o : Opens) → opening h e ≡ Some o → conn_of h (number_of e) ≡ None
number_free h (Opening conn target fresh) o is =
    let go : (c : Option HubConn) → cond (is_some c) None (opening_of h target) ≡ Some o → c ≡ None = elim [ Some c ↦ λ h. absurd (cc) | None ↦ λ h. refl ] in
    go (conn_of h conn) is
number_free h e o is = absurd (cc)

-- ---- a room that opens a session is dealt an opening

dealt_if : (b : Bool) (x e : RoomEvent) → event_if b x ≡ e ∷ [] → (b ≡ true) × (x ≡ e)
dealt_if true x e h = (refl, cc)
dealt_if false x e h = cc

-- the event opens this session in this room
pub record OpensIn (h : HubValue) (e : HubEvent) (r : HubRoom) (session : List ℕ) : Type 0 where
  pub by : Opens
  pub is : opening h e ≡ Some by
  pub room_is : is_named by.room r ≡ true
  pub session_is : by.session ≡ session

pub opened_here : (rules : Rules) (h : HubValue) (e : HubEvent) (r : HubRoom) (dealt : RoomEvent) (session : List ℕ) → deals rules h e r ≡ dealt ∷ [] → opens dealt ≡ Some session → OpensIn h e r session
opened_here rules h e r dealt session is opened = by_event e is
  where
    other : (b : Bool) (x : RoomEvent) → opens x ≡ None → event_if b x ≡ dealt ∷ [] → ⊥
    other b x empty at = (let same = ap opens (dealt_if b x dealt at).1 in cc)

    by_id : (o : Option (List ℕ)) (x : RoomEvent) → opens x ≡ None → event_in o r x ≡ dealt ∷ [] → ⊥
    by_id None x empty at = cc
    by_id (Some id) x empty at = other (is_named id r) x empty at

    by_conn : (o : Option HubConn) (x : List ℕ → RoomEvent) → ((s : List ℕ) → opens (x s) ≡ None) → event_of_conn r x o ≡ dealt ∷ [] → ⊥
    by_conn None x empty at = cc
    by_conn (Some c) x empty at = other (is_named c.room r) (x c.session) (empty c.session) at

    by_opening : (conn : ℕ) (target fresh : List ℕ) (o : Option Opens) → opened_by h conn target ≡ o → event_of_opening r fresh o ≡ dealt ∷ [] → OpensIn h (Opening conn target fresh) r session
    by_opening conn target fresh None found at = cc
    by_opening conn target fresh (Some o) found at =
        let both = dealt_if (is_named o.room r) (happened.Enter o.session o.token fresh) dealt at in
        let same : Some o.session ≡ Some session = ap opens both.1 ∙ opened in
        record { by = o; is = found; room_is = both.0; session_is = cc }

    by_event : (e : HubEvent) → deals rules h e r ≡ dealt ∷ [] → OpensIn h e r session
    by_event (At now) at = absurd (other (lapses_by (moment_at h now) r) (happened.Moment (moment_at h now)) refl at)
    by_event (Ask conn target body room s) at =
        absurd (by_id (reserved_in h room (decided rules h target body room s)) (happened.Reserve s (h.now + (def_of_room h.defs r).seat)) refl at)
    by_event (Bad conn) at = cc
    by_event (Opening conn target fresh) at = by_opening conn target fresh (opened_by h conn target) refl at
    by_event (Frame conn bytes) at = absurd (by_conn (conn_of h conn) (λ s. happened.Frame s bytes) (λ s. refl) at)
    by_event (Lost conn) at = absurd (by_conn (conn_of h conn) (λ s. happened.Lost s h.now) (λ s. refl) at)
    by_event (Act room act) at = absurd (other (is_named room r) (happened.Act act) refl at)
    by_event (Tick room) at = absurd (other (is_named room r) happened.Tick refl at)

-- ---- all connections, with the one that opens

-- the connection that opens, where it does
abbrev pub opened_conns : ℕ → List Dealt → Option Opens → List HubConn
opened_conns conn ds None = []
opened_conns conn ds (Some o) = cond (list_any (enters o) ds) (record { conn = conn; room = o.room; session = o.session } ∷ []) []

module _ (h : HubValue) (e : HubEvent) (ds : List Dealt) where
  or_nothing : (b : Bool) → b ≡ (b || false)
  or_nothing true = refl
  or_nothing false = refl

  pub any_all : (p : HubConn → Bool) → list_any p (conns_with h e ds) ≡ (list_any p h.conns || list_any p (opened_conns (number_of e) ds (opening h e)))
  any_all p = ap (list_any p) (conns_are h e ds) ∙ by_opening (opening h e) refl
    where
      by_opening : (o : Option Opens) → opening h e ≡ o → list_any p (entered_conns h.conns (number_of e) ds o) ≡ (list_any p h.conns || list_any p (opened_conns (number_of e) ds o))
      by_opening None is = or_nothing (list_any p h.conns)
      by_opening (Some o) is = by_test (list_any (enters o) ds)
        where
          mine : HubConn
          mine = record { conn = number_of e; room = o.room; session = o.session }

          by_test : (b : Bool) → list_any p (cond b (put conn_number mine h.conns) h.conns) ≡ (list_any p h.conns || list_any p (cond b (mine ∷ []) []))
          by_test true = any_put conn_number p mine h.conns (number_free h e o is)
          by_test false = or_nothing (list_any p h.conns)

  pub all_rise : RisesFrom conn_number 0 h.conns → RisesFrom conn_number 0 (conns_with h e ds)
  all_rise rises = subst (RisesFrom conn_number 0) (sym (conns_are h e ds)) (by_opening (opening h e))
    where
      by_opening : (o : Option Opens) → RisesFrom conn_number 0 (entered_conns h.conns (number_of e) ds o)
      by_opening None = rises
      by_opening (Some o) = by_test (list_any (enters o) ds)
        where
          mine : HubConn
          mine = record { conn = number_of e; room = o.room; session = o.session }

          by_test : (b : Bool) → RisesFrom conn_number 0 (cond b (put conn_number mine h.conns) h.conns)
          by_test true = RisesFrom-put conn_number 0 mine h.conns rises zero-le
          by_test false = rises
