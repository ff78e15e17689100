-- Rooms that have no event, and rooms of which one has: what a hub's step makes of it.
use Rattle.std.proofs.Common.{◌≡◌, ℕ, ◌++◌, ◌&&◌, false, not, List, [], ◌∷◌, filter, map, refl, ap, ap₂, ◌∙◌, append-nil}
use Rattle.std.specs.List.{flat_map, list_any}
use Rattle.std.specs.Str.{bytes_eq}
use Rattle.lists.proofs.ListFacts.{map_same}
use Rattle.schema_model.proofs.FieldCounts.{and_no}
use Rattle.room_model.specs.declared.event.RoomEvent.{RoomEvent}
use Rattle.hub_model.specs.declared.conn.HubConn.{HubConn}
use Rattle.hub_model.specs.declared.event.HubEvent.{HubEvent}
use Rattle.hub_model.specs.declared.event.HubEvent.TheVariants.{At, Ask, Bad, Opening, Frame, Lost, Act as Acted, Tick}
use Rattle.hub_model.specs.declared.event.HubOut.TheVariants as out
use Rattle.hub_model.specs.HubValues.{HubRoom, HubValue, is_named}
use Rattle.hub_model.specs.HubStep.{Rules, all_dealt, conns_with, deals, disposals, event_if, first_outs, hub_step, is_needed, last_outs, makes, moment_behind, settled, tells, unknown_room}
use Rattle.hub_model.specs.Dealt.{Dealt, RoomStep, conns_left, dealt, ends, told_out}
use Rattle.hub_core.specs.Handled.{dealt_in, handled_in}

-- ---- no room has an event

abbrev pub idle : RoomStep → List HubRoom → List Dealt
idle step rooms = map (λ (r : HubRoom). dealt step r []) rooms

pub idle_rooms : (step : RoomStep) (rooms : List HubRoom) → map (λ (d : Dealt). d.room) (idle step rooms) ≡ rooms
idle_rooms step [] = refl
idle_rooms step (r ∷ rooms) = ap (λ l. r ∷ l) (idle_rooms step rooms)

pub idle_given : {X : Type 0} (step : RoomStep) (f : Dealt → List X) → ((r : HubRoom) → f (dealt step r []) ≡ []) → (rooms : List HubRoom) → flat_map f (idle step rooms) ≡ []
idle_given step f silent [] = refl
idle_given step f silent (r ∷ rooms) = ap₂ (λ a b. a ++ b) (silent r) (idle_given step f silent rooms)

idle_any : (step : RoomStep) (c : HubConn) (rooms : List HubRoom) → list_any (ends c) (idle step rooms) ≡ false
idle_any step c [] = refl
idle_any step c (r ∷ rooms) = rw (and_no (bytes_eq r.id c.room)) (idle_any step c rooms)

pub idle_conns : (step : RoomStep) (rooms : List HubRoom) (cs : List HubConn) → conns_left (idle step rooms) cs ≡ cs
idle_conns step rooms [] = refl
idle_conns step rooms (c ∷ cs) = rw (idle_any step c rooms) (ap (λ l. c ∷ l) (idle_conns step rooms cs))

-- ---- by the event

-- each room has these events, and none is made
pub dealt_so : (rules : Rules) (h : HubValue) (e : HubEvent) (es : HubRoom → List RoomEvent) → ((r : HubRoom) → deals rules h e r ≡ es r) → makes rules h e ≡ [] → all_dealt rules h e ≡ map (λ (r : HubRoom). dealt rules.step r (es r)) h.rooms
dealt_so rules h e es same none =
    ap (map (λ (r : HubRoom). dealt rules.step r (deals rules h e r))) (ap (λ l. h.rooms ++ l) none ∙ append-nil h.rooms)
    ∙ map_same (λ (r : HubRoom). dealt rules.step r (deals rules h e r)) (λ (r : HubRoom). dealt rules.step r (es r)) (λ r. ap (dealt rules.step r) (same r)) h.rooms

silent_tells : (e : HubEvent) (cs : List HubConn) (step : RoomStep) (r : HubRoom) → tells e cs (dealt step r []) ≡ []
silent_tells (At now) cs step r = refl
silent_tells (Ask conn target body room session) cs step r = refl
silent_tells (Bad conn) cs step r = refl
silent_tells (Opening conn target fresh) cs step r = refl
silent_tells (Frame conn bytes) cs step r = refl
silent_tells (Lost conn) cs step r = refl
silent_tells (Acted room act) cs step r = refl
silent_tells (Tick room) cs step r = refl

-- where nothing happens in a room
pub idle_step : (rules : Rules) (h : HubValue) (e : HubEvent) → ((r : HubRoom) → deals rules h e r ≡ []) → makes rules h e ≡ [] → filter is_needed h.rooms ≡ h.rooms → filter (λ r. not (is_needed r)) h.rooms ≡ []
    → conns_with h e (idle rules.step h.rooms) ≡ h.conns
    → hub_step rules h e ≡ (record { now = moment_behind h e; schema = h.schema; process = h.process; defs = h.defs; rooms = h.rooms; conns = h.conns }, first_outs rules h e ++ last_outs rules h e (idle rules.step h.rooms))
idle_step rules h e none no_room stay gone conns =
    let ds = idle rules.step h.rooms in
    let rooms : filter is_needed (map (λ (d : Dealt). d.room) ds) ≡ h.rooms = ap (filter is_needed) (idle_rooms rules.step h.rooms) ∙ stay in
    let left : conns_left ds (conns_with h e ds) ≡ h.conns = ap (conns_left ds) conns ∙ idle_conns rules.step h.rooms h.conns in
    let given : flat_map (tells e (conns_with h e ds)) ds ≡ [] = idle_given rules.step (tells e (conns_with h e ds)) (λ r. silent_tells e (conns_with h e ds) rules.step r) h.rooms in
    let disposed : disposals (map (λ (d : Dealt). d.room) ds) ≡ [] = ap disposals (idle_rooms rules.step h.rooms) ∙ ap (map (λ (r : HubRoom). out.Disposed r.id)) gone in
    ap (settled rules h e) (dealt_so rules h e (λ r. []) none no_room)
    ∙ ap₂ (λ v o. (v, o))
    (ap₂ (λ rs cs. record { now = moment_behind h e; schema = h.schema; process = h.process; defs = h.defs; rooms = rs; conns = cs }) rooms left)
    (ap₂ (λ g d. first_outs rules h e ++ (g ++ (last_outs rules h e ds ++ d))) given disposed ∙ ap (λ l. first_outs rules h e ++ l) (append-nil (last_outs rules h e ds)))

-- where the room of an id has an event that opens nothing
pub handled_step : (rules : Rules) (h : HubValue) (e : HubEvent) (id : List ℕ) (ev : RoomEvent) → ((r : HubRoom) → deals rules h e r ≡ event_if (is_named id r) ev) → makes rules h e ≡ []
    → moment_behind h e ≡ h.now → ((ds : List Dealt) → conns_with h e ds ≡ h.conns)
    → ((cs : List HubConn) (d : Dealt) → tells e cs d ≡ flat_map (told_out cs d.room.id) d.outs) → first_outs rules h e ≡ unknown_room h id → ((ds : List Dealt) → last_outs rules h e ds ≡ []) → hub_step rules h e ≡ handled_in rules.step h id ev
handled_step rules h e id ev own no_room now conns tell first last =
    let ds = dealt_in rules.step h.rooms id ev in
    let outs : (cs : List HubConn) → flat_map (tells e cs) ds ≡ flat_map (λ (d : Dealt). flat_map (told_out cs d.room.id) d.outs) ds = λ cs. same_flat (tells e cs) (λ (d : Dealt). flat_map (told_out cs d.room.id) d.outs) (tell cs) ds in
    ap (settled rules h e) (dealt_so rules h e (λ r. event_if (is_named id r) ev) own no_room)
    ∙ ap₂ (λ v o. (v, o))
    (ap₂ (λ n cs. record { now = n; schema = h.schema; process = h.process; defs = h.defs; rooms = filter is_needed (map (λ (d : Dealt). d.room) ds); conns = conns_left ds cs }) now (conns ds))
    (ap₂ (λ f l. f ++ (flat_map (tells e (conns_with h e ds)) ds ++ (l ++ disposals (map (λ (d : Dealt). d.room) ds)))) first (last ds)
    ∙ ap (λ g. unknown_room h id ++ (g ++ disposals (map (λ (d : Dealt). d.room) ds))) (ap (λ cs. flat_map (tells e cs) ds) (conns ds) ∙ outs h.conns))
  where
    same_flat : {X Y : Type 0} (f g : X → List Y) → ((x : X) → f x ≡ g x) → (xs : List X) → flat_map f xs ≡ flat_map g xs
    same_flat f g same [] = refl
    same_flat f g same (x ∷ xs) = ap₂ (λ a b. a ++ b) (same x) (same_flat f g same xs)
