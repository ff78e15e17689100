-- What holds of a hub and its lives at each point of a run, and what it means as an event comes.
use Rattle.std.proofs.Common.{◌≡◌, ℕ, ◌^◌, ◌<◌, true, false, List, [], length, All, is_some, Result, sym, ap, subst, ◌∙◌, ◌⊎◌, inl, inr}
use Rattle.std.specs.Prelude.{Contains}
use Rattle.std.specs.List.{list_any, list_all}
use Rattle.std.proofs.lemmas.List.Elements.{All-nil, All-cons, All-append, All-contains, All-weaker}
use Rattle.std.proofs.lemmas.Option.{slice_get_within}
use Rattle.lists.specs.Rising.{RisesFrom}
use Rattle.schema_model.specs.Classes.{Schema, is_kept}
use Rattle.state_model.specs.State.{State, new_state}
use Rattle.room_model.specs.declared.definition.RoomDef.{RoomDef}
use Rattle.room_model.specs.Definitions.{is_room_def}
use Rattle.room_model.specs.Room.{new_room}
use Rattle.hub_model.specs.declared.event.HubEvent.{HubEvent}
use Rattle.hub_model.specs.declared.request.AskFault.{AskFault}
use Rattle.hub_model.specs.declared.request.Request.{Request}
use Rattle.hub_model.specs.HubValues.{HubValue, HubRoom, conn_number, is_conn_for, room_of}
use Rattle.hub_model.specs.HubStep.{makes, room_made}
use Rattle.life_model.specs.Sent.{sent}
use Rattle.life_model.specs.HubPromises.{rules_of, may_come}
use Rattle.life_model.specs.HubLives.{HubLife, HubRun, in_room}
use Rattle.room_promises.proofs.GoodLives.{GoesOn}
use Rattle.room_promises.proofs.RoomSteps.{GoodRoom, new_good}
use Rattle.hub_laws.proofs.Different.{RoomsDiffer}
use Rattle.hub_promises.proofs.Deals.{rooms_for, connected_at, Ready}
use Rattle.hub_laws.proofs.Asked.{New}
use Rattle.hub_promises.proofs.EventsFit.{made_new, rooms_differ, same_connected, few_dealt}

-- a room of a hub, with the state of its last tick: each life in it that goes on has its session
pub record GoodPlace (schema : Schema) (defs : List RoomDef) (lives : List HubLife) (r : HubRoom) : Type 0 where
  pub last : State
  pub room : GoodRoom schema last r.room
  pub def_is : r.def < length defs
  pub goes_on : All (λ (l : HubLife). l.lasts ≡ true → l.room ≡ r.id → GoesOn schema last.rows r.room.sessions (in_room l)) lives

-- each life was given what its record is sent, and the room of one that goes on is there
pub record GoodEnd (schema : Schema) (h : HubValue) (l : HubLife) : Type 0 where
  pub equal : l.outputs ≡ sent schema l.entries
  pub there : l.lasts ≡ true → is_some (room_of h l.room) ≡ true

-- a hub in order: its moment, its definitions, its rooms and its connections, which are those of the connected sessions
pub record GoodHub (schema : Schema) (x : HubRun) : Type 0 where
  pub schema_is : x.hub.schema ≡ schema
  pub early : x.hub.now < 2 ^ 53
  pub forms : list_all is_room_def x.hub.defs ≡ true
  pub differ : RoomsDiffer x.hub.rooms
  pub numbers : RisesFrom conn_number 0 x.hub.conns
  pub steps : (room session : List ℕ) → list_any (is_conn_for room session) x.hub.conns ≡ connected_at x.hub.rooms room session
  pub rooms : All (GoodPlace schema x.hub.defs x.lives) x.hub.rooms
  pub lives : All (GoodEnd schema x.hub) x.lives

-- ---- as an event comes

module _ (read : List RoomDef → List ℕ → List ℕ → Result Request AskFault) (schema : Schema) (x : HubRun) (e : HubEvent) (kept : is_kept schema ≡ true) (come : may_come e ≡ true) (g : GoodHub schema x) where
  made : (makes (rules_of read) x.hub e ≡ []) ⊎ New x.hub (makes (rules_of read) x.hub e)
  made = made_new (rules_of read) x.hub e g.forms g.differ

  -- a room that is made has no life yet
  made_places : (rs : List HubRoom) → (rs ≡ []) ⊎ New x.hub rs → All (GoodPlace schema x.hub.defs x.lives) rs
  made_places rs (inl empty) = subst (All (GoodPlace schema x.hub.defs x.lives)) (sym empty) (All-nil (GoodPlace schema x.hub.defs x.lives))
  made_places rs (inr new) = subst (All (GoodPlace schema x.hub.defs x.lives)) (sym new.is) (All-cons (GoodPlace schema x.hub.defs x.lives) mine [] place (All-nil (GoodPlace schema x.hub.defs x.lives)))
    where
      mine : HubRoom
      mine = room_made x.hub new.criteria new.id new.at new.def

      nobody : (l : HubLife) → GoodEnd schema x.hub l → l.lasts ≡ true → l.room ≡ new.id → ⊥
      nobody l end lasts is =
          let some = end.there lasts in
          let empty : is_some (room_of x.hub l.room) ≡ false = ap (λ n. is_some (room_of x.hub n)) is ∙ ap is_some new.free in
          cc

      place : GoodPlace schema x.hub.defs x.lives mine
      place = record {
        last = new_state schema;
        room = subst (λ s. GoodRoom schema (new_state schema) (new_room s new.def new.criteria)) (sym g.schema_is) (new_good schema new.def new.criteria kept);
        def_is = slice_get_within x.hub.defs new.at new.def new.there;
        goes_on = All-weaker (GoodEnd schema x.hub) (λ (l : HubLife). l.lasts ≡ true → l.room ≡ new.id → GoesOn schema (new_state schema).rows mine.room.sessions (in_room l)) (λ l end lasts is. absurd (nobody l end lasts is)) x.lives g.lives;
      }

  pub places : All (GoodPlace schema x.hub.defs x.lives) (rooms_for (rules_of read) x.hub e)
  places = All-append (GoodPlace schema x.hub.defs x.lives) x.hub.rooms (makes (rules_of read) x.hub e) g.rooms (made_places (makes (rules_of read) x.hub e) made)

  pub place_of : (r : HubRoom) → Contains (rooms_for (rules_of read) x.hub e) r → GoodPlace schema x.hub.defs x.lives r
  place_of r there = All-contains (GoodPlace schema x.hub.defs x.lives) (rooms_for (rules_of read) x.hub e) r places there

  pub ready : Ready (rules_of read) x.hub e
  ready = record {
    differ = rooms_differ x.hub (makes (rules_of read) x.hub e) g.differ made;
    few = λ r there. few_dealt (rules_of read) x.hub e r g.early g.forms g.differ g.steps come there (place_of r there).def_is;
    placed = λ r there. (place_of r there).room.placed;
    numbers = g.numbers;
    steps = λ room session. g.steps room session ∙ sym (same_connected x.hub (makes (rules_of read) x.hub e) room session made);
  }
