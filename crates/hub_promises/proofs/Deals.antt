-- A room behind the events that it is dealt: it keeps its id, and what it makes of no event, and of one.
use Rattle.std.proofs.Common.{◌≡◌, ℕ, Bool, true, false, List, [], ◌∷◌, ◌++◌, Option, refl, ap, ◌∙◌, ◌⊎◌}
use Rattle.std.specs.Prelude.{Contains}
use Rattle.std.specs.List.{find, list_any}
use Rattle.std.specs.Option.{option_map, option_map_or}
use Rattle.std.specs.Str.{bytes_eq}
use Rattle.lists.specs.Rising.{RisesFrom}
use Rattle.room_model.specs.declared.event.RoomEvent.{RoomEvent}
use Rattle.room_model.specs.declared.event.RoomOut.{RoomOut}
use Rattle.room_model.specs.Room.{RoomValue}
use Rattle.room_laws.specs.Placed.{Placed}
use Rattle.room_laws.specs.Places.{may_happen}
use Rattle.room_laws.specs.StepLaws.{connected}
use Rattle.room_like.specs.Worded.{is_worded_event}
use Rattle.hub_model.specs.declared.event.HubEvent.{HubEvent}
use Rattle.hub_model.specs.HubValues.{HubValue, HubRoom, is_named, is_conn_for, conn_number}
use Rattle.hub_model.specs.Dealt.{RoomStep, with_room, Dealt, dealt_from, dealt}
use Rattle.hub_model.specs.HubStep.{Rules, deals, makes, all_dealt}
use Rattle.hub_laws.proofs.Different.{Differ, RoomsDiffer, find-map, find_agree, differ_mapped}

-- ---- the ids of rooms

abbrev pub DealtDiffer : List Dealt → Type 0
DealtDiffer ds = Differ (λ (d : Dealt). d.room.id) ds

-- ---- the events that are dealt: none, or one that may happen

pub record One (r : RoomValue) (es : List RoomEvent) : Type 0 where
  pub event : RoomEvent
  pub is : es ≡ event ∷ []
  pub may : may_happen r event ≡ true
  pub worded : is_worded_event event ≡ true

abbrev pub Few : RoomValue → List RoomEvent → Type 0
Few r es = (es ≡ []) ⊎ One r es

-- ---- a room behind its events

-- only what it is changes
dealt_from_room : (step : RoomStep) (r : HubRoom) (outs : List RoomOut) (es : List RoomEvent) → (dealt_from step r outs es).room ≡ with_room r (dealt_from step r outs es).room.room
dealt_from_room step r outs [] = refl
dealt_from_room step r outs (e ∷ es) =
    dealt_from_room step (with_room r (step r.room e).0) (outs ++ (step r.room e).1) es

pub dealt_room : (step : RoomStep) (r : HubRoom) (es : List RoomEvent) → (dealt step r es).room ≡ with_room r (dealt step r es).room.room
dealt_room step r es = dealt_from_room step r [] es

pub dealt_id : (step : RoomStep) (r : HubRoom) (es : List RoomEvent) → (dealt step r es).room.id ≡ r.id
dealt_id step r es = ap (λ (x : HubRoom). x.id) (dealt_room step r es)

-- ---- all rooms, with one that an event makes

abbrev pub rooms_for : Rules → HubValue → HubEvent → List HubRoom
rooms_for rules h e = h.rooms ++ makes rules h e

abbrev pub dealt_to : Rules → HubValue → HubEvent → HubRoom → Dealt
dealt_to rules h e r = dealt rules.step r (deals rules h e r)

abbrev pub dealt_of : List Dealt → List ℕ → Option Dealt
dealt_of ds id = find (λ (d : Dealt). is_named id d.room) ds

pub dealt_found : (rules : Rules) (h : HubValue) (e : HubEvent) (id : List ℕ) → dealt_of (all_dealt rules h e) id ≡ option_map (dealt_to rules h e) (find (is_named id) (rooms_for rules h e))
dealt_found rules h e id =
    find-map (λ (d : Dealt). is_named id d.room) (dealt_to rules h e) (rooms_for rules h e)
    ∙ ap (option_map (dealt_to rules h e)) (find_agree (λ r. is_named id (dealt_to rules h e r).room) (is_named id) (rooms_for rules h e) (λ r. ap (λ n. bytes_eq n id) (dealt_id rules.step r (deals rules h e r))))

pub dealt_differ : (rules : Rules) (h : HubValue) (e : HubEvent) → RoomsDiffer (rooms_for rules h e) → DealtDiffer (all_dealt rules h e)
dealt_differ rules h e d =
    differ_mapped (λ (d : Dealt). d.room.id) (λ (r : HubRoom). r.id) (dealt_to rules h e) (λ r. dealt_id rules.step r (deals rules h e r)) (rooms_for rules h e) d

-- ---- who is connected in which room, and what an event finds

abbrev pub connected_at : List HubRoom → List ℕ → List ℕ → Bool
connected_at rooms room session = option_map_or (λ (r : HubRoom). connected r.room session) (find (is_named room) rooms) false

-- rooms and connections in order, as an event comes to them
pub record Ready (rules : Rules) (h : HubValue) (e : HubEvent) : Type 0 where
  pub differ : RoomsDiffer (rooms_for rules h e)
  pub few : (r : HubRoom) → Contains (rooms_for rules h e) r → Few r.room (deals rules h e r)
  pub placed : (r : HubRoom) → Contains (rooms_for rules h e) r → Placed r.room
  pub numbers : RisesFrom conn_number 0 h.conns
  pub steps : (room session : List ℕ) → list_any (is_conn_for room session) h.conns ≡ connected_at (rooms_for rules h e) room session
