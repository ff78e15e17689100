-- The clients that follow the lives of a hub, behind each event that may come.
use Rattle.std.proofs.Common.{◌≡◌, ℕ, Bool, true, false, cond, List, [], ◌∷◌, ◌++◌, All, Option, Some, None, Result, refl, sym, subst, append-nil, inl, inr}
use Rattle.std.specs.Prelude.{Contains}
use Rattle.std.specs.List.{find, list_all}
use Rattle.std.specs.Option.{option_map_or}
use Rattle.std.proofs.lemmas.Bool.{and_parts}
use Rattle.std.proofs.lemmas.List.Elements.{All-nil, All-cons, All-append, All-map, All-weaker, All-contains, All-contains_itself}
use Rattle.schema_model.specs.Classes.{Schema, is_kept}
use Rattle.room_model.specs.declared.definition.RoomDef.{RoomDef}
use Rattle.room_model.specs.declared.event.RoomEvent.{RoomEvent}
use Rattle.room_model.specs.declared.event.RoomEvent.TheVariants as happened
use Rattle.room_model.specs.Room.{RoomValue, room_step}
use Rattle.room_laws.proofs.SessionLists.{named_key}
use Rattle.hub_model.specs.declared.event.HubEvent.{HubEvent}
use Rattle.hub_model.specs.declared.event.HubEvent.TheVariants as event
use Rattle.hub_model.specs.declared.request.AskFault.{AskFault}
use Rattle.hub_model.specs.declared.request.Request.{Request}
use Rattle.hub_model.specs.HubValues.{HubRoom, is_named}
use Rattle.hub_model.specs.HubStep.{deals, hub_step, reserved_in, decided}
use Rattle.hub_model.specs.Kinds.{event_has_kept_kind}
use Rattle.life_model.specs.Entries.{Record}
use Rattle.life_model.specs.HubPromises.{rules_of, may_come}
use Rattle.life_model.specs.RoomLives.{room_entries}
use Rattle.life_model.specs.HubLives.{HubLife, HubRun, in_room, new_life, lived, begun, run_step, dealt_entries, entries_dealt, room_dealt, asked_entries}
use Rattle.room_promises.proofs.GoodLives.{GoesOn}
use Rattle.room_promises.proofs.RoomSteps.{is_tick}
use Rattle.room_promises.proofs.Follows.{Follows, Followed, followed_none}
use Rattle.room_promises.proofs.EventsFollow.{followed_same, tells_kept_kind, event_follows, tick_follows, begun_ticked}
use Rattle.hub_laws.proofs.Different.{found_in}
use Rattle.hub_promises.proofs.Deals.{Few, One, rooms_for}
use Rattle.hub_promises.proofs.EventsFit.{kept_dealt}
use Rattle.hub_promises.proofs.Moves.{quiet_between}
use Rattle.hub_promises.proofs.GoodHubs.{GoodPlace, GoodHub, place_of, ready}
use Rattle.hub_promises.proofs.LivesMove.{asked_of_quiet, lived_on}

-- ---- the entries of the events that a room is dealt

-- a record of a session behind a tick of its room
abbrev TickFollows : Schema → RoomValue → List ℕ → Record → Type 0
TickFollows schema r session entries = Followed schema (entries ++ room_entries r happened.Tick (room_step r happened.Tick).0 session)

one_follows : (schema : Schema) (r : RoomValue) (es : List RoomEvent) (session : List ℕ) (entries : Record) → One r es → list_all tells_kept_kind es ≡ true → TickFollows schema r session entries
    → Followed schema entries → Followed schema (entries ++ dealt_entries room_step r es session)
one_follows schema r es session entries one good ticked f =
    subst (λ es. Followed schema (entries ++ dealt_entries room_step r es session)) (sym one.is)
    (subst (λ es. Followed schema (entries ++ es)) (sym (append-nil (room_entries r one.event (room_step r one.event).0 session))) (by_tick (is_tick one.event) refl))
  where
    own : tells_kept_kind one.event ≡ true
    own = (and_parts (tells_kept_kind one.event) true (subst (λ es. list_all tells_kept_kind es ≡ true) one.is good)).0

    ticks : (e : RoomEvent) → is_tick e ≡ true → Followed schema (entries ++ room_entries r e (room_step r e).0 session)
    ticks happened.Tick is = ticked
    ticks e is = cc

    by_tick : (b : Bool) → is_tick one.event ≡ b → Followed schema (entries ++ room_entries r one.event (room_step r one.event).0 session)
    by_tick true is = ticks one.event is
    by_tick false is = event_follows schema r one.event (room_step r one.event).0 session entries is own one.may f

few_follow : (schema : Schema) (r : RoomValue) (es : List RoomEvent) (session : List ℕ) (entries : Record) → Few r es → list_all tells_kept_kind es ≡ true → TickFollows schema r session entries
    → Followed schema entries → Followed schema (entries ++ dealt_entries room_step r es session)
few_follow schema r es session entries (inl none) good ticked f = subst (λ es. Followed schema (entries ++ dealt_entries room_step r es session)) (sym none) (followed_same schema entries f)
few_follow schema r es session entries (inr one) good ticked f = one_follows schema r es session entries one good ticked f

-- ---- each life

module _ (read : List RoomDef → List ℕ → List ℕ → Result Request AskFault) (schema : Schema) (x : HubRun) (e : HubEvent) (kept : is_kept schema ≡ true) (come : may_come e ≡ true) (good : event_has_kept_kind e ≡ true) (g : GoodHub schema x) where
  abbrev rooms : List HubRoom
  rooms = rooms_for (rules_of read) x.hub e

  -- that a client follows a life
  abbrev pub IsFollowed : HubLife → Type 0
  IsFollowed l = Followed schema l.entries

  abbrev lives_on : HubLife → HubLife
  lives_on l = lived (rules_of read) x.hub e (hub_step (rules_of read) x.hub e) l

  -- one that goes on, with what its room is dealt
  goes_follows : (l : HubLife) → ((r : HubRoom) → Contains rooms r → r.id ≡ l.room → TickFollows schema r.room l.session l.entries) → IsFollowed l
      → Followed schema (l.entries ++ (asked_entries (rules_of read) x.hub e (hub_step (rules_of read) x.hub e).1 l ++ entries_dealt (rules_of read) x.hub e l (room_dealt (rules_of read) x.hub e l.room)))
  goes_follows l ticked f =
      subst (Follows schema)
      (quiet_between schema l.entries (asked_entries (rules_of read) x.hub e (hub_step (rules_of read) x.hub e).1 l) (entries_dealt (rules_of read) x.hub e l (room_dealt (rules_of read) x.hub e l.room))
      (asked_of_quiet schema read x.hub e (hub_step (rules_of read) x.hub e).1 l))
      (by_room (room_dealt (rules_of read) x.hub e l.room) refl)
    where
      by_room : (o : Option HubRoom) → find (is_named l.room) rooms ≡ o → Followed schema (l.entries ++ entries_dealt (rules_of read) x.hub e l o)
      by_room None found = followed_same schema l.entries f
      by_room (Some r) found =
          let there = found_in (is_named l.room) rooms r found in
          few_follow schema r.room (deals (rules_of read) x.hub e r) l.session l.entries ((ready read schema x e kept come g).few r there) (kept_dealt (rules_of read) x.hub e r good)
          (ticked r there (named_key (λ (r : HubRoom). r.id) l.room rooms r found)) f

  -- one that there was; where it has ended it stays as it is
  was_follows : (l : HubLife) → Contains x.lives l → IsFollowed l → IsFollowed (lives_on l)
  was_follows l there f = by_lasts l.lasts refl
    where
      ticked : l.lasts ≡ true → (r : HubRoom) → Contains rooms r → r.id ≡ l.room → TickFollows schema r.room l.session l.entries
      ticked lasts r here named =
          let place : GoodPlace schema x.hub.defs x.lives r = place_of read schema x e kept come g r here in
          tick_follows schema place.last r.room (in_room l) kept place.room
          (All-contains (λ (l : HubLife). l.lasts ≡ true → l.room ≡ r.id → GoesOn schema place.last.rows r.room.sessions (in_room l)) x.lives l place.goes_on there lasts (sym named)) f

      by_lasts : (b : Bool) → l.lasts ≡ b → IsFollowed (cond b (lived_on read x.hub e (ready read schema x e kept come g) l) l)
      by_lasts true lasts = goes_follows l (ticked lasts) f
      by_lasts false lasts = f

  -- one that begins
  new_follows : (session id : List ℕ) → IsFollowed (lives_on (new_life x.hub.schema session id))
  new_follows session id = goes_follows (new_life x.hub.schema session id) (λ r here named. begun_ticked schema r.room (room_step r.room happened.Tick).0 session) (followed_none schema)

  begun_follow : (e : HubEvent) → All (λ l. IsFollowed (lives_on l)) (begun (rules_of read) x.hub e)
  begun_follow (event.Ask conn target body room session) = by_id (reserved_in x.hub room (decided (rules_of read) x.hub target body room session))
    where
      by_id : (o : Option (List ℕ)) → All (λ l. IsFollowed (lives_on l)) (option_map_or (λ id. new_life x.hub.schema session id ∷ []) o [])
      by_id None = All-nil (λ l. IsFollowed (lives_on l))
      by_id (Some id) = All-cons (λ l. IsFollowed (lives_on l)) (new_life x.hub.schema session id) [] (new_follows session id) (All-nil (λ l. IsFollowed (lives_on l)))
  begun_follow f = All-nil (λ l. IsFollowed (lives_on l))

  -- behind the event all are
  pub step_follows : All IsFollowed x.lives → All IsFollowed (run_step (rules_of read) x e).lives
  step_follows all =
      All-map IsFollowed lives_on (x.lives ++ begun (rules_of read) x.hub e)
      (All-append (λ l. IsFollowed (lives_on l)) x.lives (begun (rules_of read) x.hub e)
      (All-weaker (Contains x.lives) (λ l. IsFollowed (lives_on l)) (λ l there. was_follows l there (All-contains IsFollowed x.lives l all there)) x.lives (All-contains_itself x.lives))
      (begun_follow e))
