-- The rooms that an event comes to have different ids, and it deals each of them no event, or one that may happen there.
use Rattle.std.proofs.Common.{◌≡◌, ℕ, ◌+◌, ◌^◌, ◌<◌, Bool, true, false, cond, List, [], ◌∷◌, ◌++◌, length, Option, Some, None, refl, sym, ap, subst, ◌∙◌, append-nil, ◌⊎◌, inl, inr, arith}
use Rattle.std.specs.Prelude.{Contains, nat_le}
use Rattle.std.specs.List.{find, list_any, list_all}
use Rattle.std.specs.Option.{option_map, option_map_or, option_or}
use Rattle.std.specs.Str.{bytes_eq}
use Rattle.std.proofs.lemmas.Bool.{and_parts, and_from}
use Rattle.std.proofs.lemmas.Bool.Decides.{nat_tests}
use Rattle.std.proofs.lemmas.List.Folds.{find-append}
use Rattle.std.proofs.lemmas.Option.{slice_get-get_or}
use Rattle.lists.proofs.RisingLaws.{Contains-find}
use Rattle.lists.proofs.SameBytes.{same_bytes, bytes_eq_self}
use Rattle.room_model.specs.declared.definition.RoomDef.{RoomDef}
use Rattle.room_model.specs.declared.event.RoomEvent.{RoomEvent}
use Rattle.room_model.specs.declared.event.RoomEvent.TheVariants as happened
use Rattle.room_model.specs.Definitions.{is_room_def}
use Rattle.room_model.specs.Sessions.{Session, session_of, is_connected}
use Rattle.room_model.specs.Room.{RoomValue}
use Rattle.room_laws.specs.Places.{is_moment, is_connected_in, may_act, may_happen, has_place_for}
use Rattle.room_laws.specs.StepLaws.{connected}
use Rattle.room_like.specs.Worded.{is_worded_event}
use Rattle.hub_model.specs.declared.event.HubEvent.{HubEvent}
use Rattle.hub_model.specs.declared.event.HubEvent.TheVariants.{At, Ask, Bad, Opening, Frame, Lost, Act as Acted, Tick}
use Rattle.hub_model.specs.declared.request.Opening.{Opening as Opens}
use Rattle.hub_model.specs.declared.conn.HubConn.{HubConn}
use Rattle.hub_model.specs.HubValues.{HubValue, HubRoom, is_named, conn_of, conn_number, is_conn_for, def_of_room}
use Rattle.hub_model.specs.HubStep.{Rules, room_made, decided, reserved_in, opened_by, event_if, event_in, event_of_conn, event_of_opening, deals, makes, moment_at, lapses_by}
use Rattle.hub_model.specs.Kinds.{event_has_kept_kind}
use Rattle.room_model.specs.Acts.{is_worded_act}
use Rattle.life_model.specs.HubPromises.{may_come}
use Rattle.hub_laws.proofs.Different.{passes_any, named_own, differ_more, RoomsDiffer}
use Rattle.room_promises.proofs.EventsFollow.{tells_kept_kind}
use Rattle.hub_promises.proofs.Deals.{Few, rooms_for, connected_at}
use Rattle.hub_laws.proofs.Asked.{New, request_reserves, def_fits}

-- ---- with a room that is made

pub made_new : (rules : Rules) (h : HubValue) (e : HubEvent) → list_all is_room_def h.defs ≡ true → RoomsDiffer h.rooms → (makes rules h e ≡ []) ⊎ New h (makes rules h e)
made_new rules h (Ask conn target body room session) forms differ = (request_reserves rules h conn target body room session forms differ).made
made_new rules h e forms differ = inl refl

pub rooms_differ : (h : HubValue) (made : List HubRoom) → RoomsDiffer h.rooms → (made ≡ []) ⊎ New h made → RoomsDiffer (h.rooms ++ made)
rooms_differ h made differ (inl empty) = subst (λ rs. RoomsDiffer rs) (sym (ap (λ rs. h.rooms ++ rs) empty ∙ append-nil h.rooms)) differ
rooms_differ h made differ (inr new) = subst (λ rs. RoomsDiffer (h.rooms ++ rs)) (sym new.is) (differ_more (λ (r : HubRoom). r.id) h.rooms _ differ new.free)

-- nobody is connected in it
pub same_connected : (h : HubValue) (made : List HubRoom) (room session : List ℕ) → (made ≡ []) ⊎ New h made → connected_at (h.rooms ++ made) room session ≡ connected_at h.rooms room session
same_connected h made room session (inl empty) = ap (λ rs. connected_at rs room session) (ap (λ rs. h.rooms ++ rs) empty ∙ append-nil h.rooms)
same_connected h made room session (inr new) =
    ap (λ rs. connected_at (h.rooms ++ rs) room session) new.is
    ∙ (ap there (find-append (is_named room) h.rooms (mine ∷ [])) ∙ by_room (find (is_named room) h.rooms) (is_named room mine))
  where
    mine : HubRoom
    mine = room_made h new.criteria new.id new.at new.def

    there : Option HubRoom → Bool
    there o = option_map_or (λ (r : HubRoom). connected r.room session) o false

    by_room : (o : Option HubRoom) (b : Bool) → there (option_or o (cond b (Some mine) None)) ≡ there o
    by_room (Some r) b = refl
    by_room None true = refl
    by_room None false = refl

-- ---- moments and lapses

lapse_fits : (now seat : ℕ) → now < 2 ^ 53 → nat_le seat 3600000 ≡ true → is_moment (now + seat) ≡ true
lapse_fits now seat early short = grind (arith, nat_tests)

now_fits : (now : ℕ) → now < 2 ^ 53 → is_moment now ≡ true
now_fits now early = grind (arith, nat_tests)

pub moment_early : (h : HubValue) (now : ℕ) → h.now < 2 ^ 53 → moment_at h now < 2 ^ 53
moment_early h now early = omega arith

seat_fits : (defs : List RoomDef) (r : HubRoom) → list_all is_room_def defs ≡ true → r.def < length defs → nat_le (def_of_room defs r).seat 3600000 ≡ true
seat_fits defs r forms there =
    (and_parts (nat_le 1 (def_of_room defs r).seat) (nat_le (def_of_room defs r).seat 3600000)
    (def_fits defs r.def (def_of_room defs r) forms (slice_get-get_or defs r.def r.room.def there)).seat).1

-- ---- the events of a room

one_if : (r : RoomValue) (b : Bool) (x : RoomEvent) → (b ≡ true → may_happen r x ≡ true) → is_worded_event x ≡ true → Few r (event_if b x)
one_if r true x may words = inr (record { event = x; is = refl; may = may refl; worded = words })
one_if r false x may words = inl refl

-- what comes from a connection comes to a session that is connected
conn_connected : (h : HubValue) (c : HubConn) (conn : ℕ) (r : HubRoom) → RoomsDiffer h.rooms → ((room session : List ℕ) → list_any (is_conn_for room session) h.conns ≡ connected_at h.rooms room session)
    → conn_of h conn ≡ Some c → Contains h.rooms r → is_named c.room r ≡ true → is_connected_in r.room c.session ≡ true
conn_connected h c conn r differ steps found there named = same (session_of r.room.sessions c.session) ∙ (sym here ∙ (sym (steps c.room c.session) ∙ own))
  where
    same : (o : Option Session) → option_map_or (λ (s : Session). is_connected s.stage) o false ≡ option_map_or is_connected (option_map (λ (s : Session). s.stage) o) false
    same (Some s) = refl
    same None = refl

    here : connected_at h.rooms c.room c.session ≡ connected r.room c.session
    here = ap (λ o. option_map_or (λ (r : HubRoom). connected r.room c.session) o false)
        (ap (λ n. find (is_named n) h.rooms) (sym (same_bytes r.id c.room named)) ∙ named_own (λ (r : HubRoom). r.id) h.rooms r differ there)

    own : list_any (is_conn_for c.room c.session) h.conns ≡ true
    own = passes_any (is_conn_for c.room c.session) h.conns c (Contains-find conn_number conn h.conns c found)
        (and_from (bytes_eq c.room c.room) (bytes_eq c.session c.session) (bytes_eq_self c.room) (bytes_eq_self c.session))

of_conn : (h : HubValue) (conn : ℕ) (r : HubRoom) (x : List ℕ → RoomEvent) → RoomsDiffer h.rooms → ((room session : List ℕ) → list_any (is_conn_for room session) h.conns ≡ connected_at h.rooms room session) → Contains h.rooms r
    → ((s : List ℕ) → is_connected_in r.room s ≡ true → may_happen r.room (x s) ≡ true) → ((s : List ℕ) → is_worded_event (x s) ≡ true) → Few r.room (event_of_conn r x (conn_of h conn))
of_conn h conn r x differ steps there may words = by_conn (conn_of h conn) refl
  where
    by_conn : (o : Option HubConn) → conn_of h conn ≡ o → Few r.room (event_of_conn r x o)
    by_conn None found = inl refl
    by_conn (Some c) found = one_if r.room (is_named c.room r) (x c.session) (λ named. may c.session (conn_connected h c conn r differ steps found there named)) (words c.session)

pub few_dealt : (rules : Rules) (h : HubValue) (e : HubEvent) (r : HubRoom) → h.now < 2 ^ 53 → list_all is_room_def h.defs ≡ true → RoomsDiffer h.rooms
    → ((room session : List ℕ) → list_any (is_conn_for room session) h.conns ≡ connected_at h.rooms room session) → may_come e ≡ true
    → Contains (rooms_for rules h e) r → r.def < length h.defs → Few r.room (deals rules h e r)
few_dealt rules h (At now) r early forms differ steps come there def = one_if r.room (lapses_by (moment_at h now) r) (happened.Moment (moment_at h now)) (λ t. now_fits (moment_at h now) (moment_early h now early)) refl
few_dealt rules h (Ask conn target body room session) r early forms differ steps come there def = by_id (reserved_in h room (decided rules h target body room session)) refl
  where
    lapse : ℕ
    lapse = h.now + (def_of_room h.defs r).seat

    by_id : (o : Option (List ℕ)) → reserved_in h room (decided rules h target body room session) ≡ o → Few r.room (event_in o r (happened.Reserve session lapse))
    by_id None is = inl refl
    by_id (Some id) is =
        one_if r.room (is_named id r) (happened.Reserve session lapse)
        (λ named. and_from (is_moment lapse) (has_place_for r.room session) (lapse_fits h.now (def_of_room h.defs r).seat early (seat_fits h.defs r forms def))
        ((request_reserves rules h conn target body room session forms differ).fits id r is there named)) refl
few_dealt rules h (Bad conn) r early forms differ steps come there def = inl refl
few_dealt rules h (Opening conn target fresh) r early forms differ steps come there def = by_opening (opened_by h conn target)
  where
    by_opening : (o : Option Opens) → Few r.room (event_of_opening r fresh o)
    by_opening None = inl refl
    by_opening (Some o) = one_if r.room (is_named o.room r) (happened.Enter o.session o.token fresh) (λ t. refl) refl
few_dealt rules h (Frame conn bytes) r early forms differ steps come there def =
    of_conn h conn r (λ s. happened.Frame s bytes) differ steps (subst (λ rs. Contains rs r) (append-nil h.rooms) there) (λ s is. is) (λ s. refl)
few_dealt rules h (Lost conn) r early forms differ steps come there def =
    of_conn h conn r (λ s. happened.Lost s h.now) differ steps (subst (λ rs. Contains rs r) (append-nil h.rooms) there) (λ s is. and_from (is_moment h.now) (is_connected_in r.room s) (now_fits h.now early) is) (λ s. refl)
few_dealt rules h (Acted room a) r early forms differ steps come there def =
    let both = and_parts (may_act a) (is_worded_act a) come in
    one_if r.room (is_named room r) (happened.Act a) (λ t. both.0) both.1
few_dealt rules h (Tick room) r early forms differ steps come there def = one_if r.room (is_named room r) happened.Tick (λ t. refl) refl

-- ---- what the messages of events are about

kept_if : (b : Bool) (x : RoomEvent) → tells_kept_kind x ≡ true → list_all tells_kept_kind (event_if b x) ≡ true
kept_if true x good = and_from (tells_kept_kind x) true good refl
kept_if false x good = refl

kept_in : (id : Option (List ℕ)) (r : HubRoom) (x : RoomEvent) → tells_kept_kind x ≡ true → list_all tells_kept_kind (event_in id r x) ≡ true
kept_in None r x good = refl
kept_in (Some id) r x good = kept_if (is_named id r) x good

kept_of_conn : (r : HubRoom) (x : List ℕ → RoomEvent) (c : Option HubConn) → ((s : List ℕ) → tells_kept_kind (x s) ≡ true) → list_all tells_kept_kind (event_of_conn r x c) ≡ true
kept_of_conn r x None good = refl
kept_of_conn r x (Some c) good = kept_if (is_named c.room r) (x c.session) (good c.session)

kept_of_opening : (r : HubRoom) (fresh : List ℕ) (o : Option Opens) → list_all tells_kept_kind (event_of_opening r fresh o) ≡ true
kept_of_opening r fresh None = refl
kept_of_opening r fresh (Some o) = kept_if (is_named o.room r) (happened.Enter o.session o.token fresh) refl

-- of those that a room is dealt they are such as a program has, where they are of the hub's event
pub kept_dealt : (rules : Rules) (h : HubValue) (e : HubEvent) (r : HubRoom) → event_has_kept_kind e ≡ true → list_all tells_kept_kind (deals rules h e r) ≡ true
kept_dealt rules h (At now) r good = kept_if (lapses_by (moment_at h now) r) (happened.Moment (moment_at h now)) refl
kept_dealt rules h (Ask conn target body room session) r good =
    kept_in (reserved_in h room (decided rules h target body room session)) r (happened.Reserve session (h.now + (def_of_room h.defs r).seat)) refl
kept_dealt rules h (Bad conn) r good = refl
kept_dealt rules h (Opening conn target fresh) r good = kept_of_opening r fresh (opened_by h conn target)
kept_dealt rules h (Frame conn bytes) r good = kept_of_conn r (λ s. happened.Frame s bytes) (conn_of h conn) (λ s. refl)
kept_dealt rules h (Lost conn) r good = kept_of_conn r (λ s. happened.Lost s h.now) (conn_of h conn) (λ s. refl)
kept_dealt rules h (Acted room a) r good = kept_if (is_named room r) (happened.Act a) good
kept_dealt rules h (Tick room) r good = kept_if (is_named room r) happened.Tick refl
