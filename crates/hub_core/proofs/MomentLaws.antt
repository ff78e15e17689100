-- What a moment comes to, as a hub's step has it.
use Rattle.std.proofs.Common.{◌≡◌, ℕ, suc, ◌^◌, ◌<◌, ◌==◌, ◌++◌, true, max, min, List, [], ◌∷◌, Option, Some, None, IfSome, IsTrue, filter, map, refl, sym, ap, ap₂, ◌∙◌, arith, append_assoc}
use Rattle.std.specs.Prelude.{is_some}
use Rattle.std.specs.List.{list_any}
use Rattle.std.proofs.lemmas.Bool.Decides.{nat_tests}
use Rattle.lists.specs.Rising.{RisesFrom, find as find_by}
use Rattle.lists.proofs.RisingLaws.{find_key}
use Rattle.room_model.specs.declared.event.RoomEvent.TheVariants as event
use Rattle.room_model.specs.Room.{RoomValue}
use Rattle.room_laws.specs.Places.{may_happen}
use Rattle.hub_model.specs.declared.event.HubEvent.TheVariants as happened
use Rattle.hub_model.specs.declared.event.HubOut.{HubOut}
use Rattle.hub_model.specs.Dealt.{Dealt, RoomStep, conns_left, dealt}
use Rattle.hub_model.specs.HubStep.{disposals, event_if, hub_step, is_needed, lapses_by, last_moment, moment_at, settled}
use Rattle.hub_model.specs.HubValues.{HubRoom, HubValue}
use Rattle.hub_core.specs.declared.parts.Parts.{Parts}
use Rattle.hub_core.specs.declared.entry.RoomEntry.{RoomEntry}
use Rattle.hub_core.specs.Hubs.{Stands, hub_of}
use Rattle.hub_core.specs.Lapsed.{AllLapsed, AllLeft, AreThere, lapsed, told_of}
use Rattle.hub_core.specs.Lapses.{is_past}
use Rattle.hub_core.specs.Noted.{AreNoted, lapses_in}
use Rattle.hub_core.specs.RoomEntry.{AreOrdered, Each, room_in, rooms_in, serial_of}
use Rattle.hub_core.specs.Takes.{Takes, rules_of}
use Rattle.hub_core.proofs.EachLaws.{Each-first, Each-rest}
use Rattle.hub_core.proofs.IdleLaws.{dealt_so}
use Rattle.hub_core.proofs.NotedLaws.{noted_past}

-- a moment may come to every room
pub may_lapse : {R : Type 0} (room : R → RoomValue) (at : ℕ) (o : Option (RoomEntry R)) → at < 2 ^ 53 → IfSome o (λ s. IsTrue (may_happen (room s.room) (event.Moment at)))
may_lapse room at None early = tt
may_lapse room at (Some s) early = grind (arith, nat_tests, early)

-- the hub's moment stays in its bounds
pub stays_early : (before now : ℕ) → before < 2 ^ 53 → max before (min now last_moment) < 2 ^ 53
stays_early before now early = omega (arith, early)

-- ---- the rooms in which something lapses are those of the numbers that are due

module _ {R : Type 0} (room : R → RoomValue) (at : ℕ) (due : List ℕ) (ss : List (RoomEntry R)) (ks : List (ℕ × ℕ)) (noted : AreNoted room ss ks) (due_are : (n : ℕ) → list_any (λ k. k == n) due ≡ is_past at n ks) where
  pub due_there : AreThere due ss
  due_there n h = by_found (find_by serial_of n ss) (sym (due_are n ∙ noted_past room ss ks noted at n) ∙ h)
    where
      by_found : (o : Option (RoomEntry R)) → lapses_in room at o ≡ true → is_some o ≡ true
      by_found None h = absurd cc
      by_found (Some s) h = refl

  pub each_due : Each (λ s. list_any (λ k. k == s.serial) due ≡ lapses_by at (room_in room s)) ss
  each_due n = by_found (find_by serial_of n ss) refl
    where
      by_found : (o : Option (RoomEntry R)) → find_by serial_of n ss ≡ o → IfSome o (λ s. list_any (λ k. k == s.serial) due ≡ lapses_by at (room_in room s))
      by_found None is = tt
      by_found (Some s) is =
          ap (λ m. list_any (λ k. k == m) due) (find_key serial_of n ss s is) ∙ (due_are n ∙ (noted_past room ss ks noted at n ∙ ap (lapses_in room at) is))

pub lapsed_so : {R : Type 0} (room : R → RoomValue) (step : RoomStep) (at low : ℕ) (due : List ℕ) (ss : List (RoomEntry R)) → RisesFrom serial_of low ss → Each (λ s. list_any (λ k. k == s.serial) due ≡ lapses_by at (room_in room s)) ss
    → map (λ (r : HubRoom). dealt step r (event_if (lapses_by at r) (event.Moment at))) (rooms_in room ss) ≡ lapsed room step at due ss
lapsed_so room step at low due [] rises each = refl
lapsed_so room step at low due (x ∷ ss) rises each =
    ap₂ (λ b ds. dealt step (room_in room x) (event_if b (event.Moment at)) ∷ ds) (sym (Each-first (λ s. list_any (λ k. k == s.serial) due ≡ lapses_by at (room_in room s)) x ss each))
    (lapsed_so room step at (suc x.serial) due ss rises.1 (Each-rest (λ s. list_any (λ k. k == s.serial) due ≡ lapses_by at (room_in room s)) low x ss rises each))

-- ---- behind it

-- the step, where these rooms have the moment
module _ {R : Type 0} (room : R → RoomValue) (Holds : RoomValue → Type 0) (step : RoomStep) (now at : ℕ) (due : List ℕ) (old : Parts R) (entry : Stands room Holds old)
    (ordered : AreOrdered old.registry.rooms) (at_is : max old.moment (min now last_moment) ≡ at)
    (due_are : (n : ℕ) → list_any (λ k. k == n) due ≡ is_past at n old.registry.lapses) where
  abbrev pub ds : List Dealt
  ds = lapsed room step at due old.registry.rooms

  -- the hub behind it, and what it gives
  abbrev pub behind : HubValue × List HubOut
  behind = (
    record { now = at; schema = old.schema; process = old.process; defs = old.defs; rooms = filter is_needed (map (λ (d : Dealt). d.room) ds); conns = conns_left ds old.conns },
    told_of old.conns ds ++ disposals (map (λ (d : Dealt). d.room) ds),
  )

  all : map (λ (r : HubRoom). dealt step r (event_if (lapses_by (moment_at (hub_of room old) now) r) (event.Moment (moment_at (hub_of room old) now)))) (rooms_in room old.registry.rooms) ≡ ds
  all =
      ap (λ m. map (λ (r : HubRoom). dealt step r (event_if (lapses_by m r) (event.Moment m))) (rooms_in room old.registry.rooms)) at_is
      ∙ lapsed_so room step at 0 due old.registry.rooms ordered.0 (each_due room at due old.registry.rooms old.registry.lapses entry.order.kept.noted due_are)

  pub moment_step : hub_step (rules_of step) (hub_of room old) (happened.At now) ≡ behind
  moment_step =
      ap (settled (rules_of step) (hub_of room old) (happened.At now))
      (dealt_so (rules_of step) (hub_of room old) (happened.At now) (λ r. event_if (lapses_by (moment_at (hub_of room old) now) r) (event.Moment (moment_at (hub_of room old) now))) (λ r. refl) refl ∙ all)
      ∙ ap (λ m. (
        record { now = m; schema = old.schema; process = old.process; defs = old.defs; rooms = filter is_needed (map (λ (d : Dealt). d.room) ds); conns = conns_left ds old.conns },
        told_of old.conns ds ++ disposals (map (λ (d : Dealt). d.room) ds),
      )) at_is

  pub takes_moment : (start mid new : Parts R) (before middle after : List HubOut) → start.registry ≡ old.registry → start.conns ≡ old.conns → start.schema ≡ old.schema → start.process ≡ old.process → start.defs ≡ old.defs → start.moment ≡ at
      → AllLapsed room Holds step start.moment due start mid before middle → AllLeft room Holds mid new middle after → Takes room Holds step (happened.At now) old new before after
  takes_moment start mid new before middle after registry conns schema process defs moment lapses leaves = record {
    hub =
        rw (leaves.rooms, leaves.conns, leaves.moment, leaves.schema, leaves.process, leaves.defs, lapses.rooms, lapses.conns, lapses.moment, lapses.schema, lapses.process, lapses.defs, registry, conns, schema, process, defs, moment)
        (sym (ap (λ x. x.0) moment_step));
    outs =
        leaves.outs
        ∙ ap₂ (λ m rs. m ++ disposals rs) lapses.outs lapses.rooms
        ∙ append_assoc before (told_of start.conns (lapsed room step start.moment due start.registry.rooms)) (disposals (map (λ (d : Dealt). d.room) (lapsed room step start.moment due start.registry.rooms)))
        ∙ rw (registry, conns, moment) (sym (ap (λ x. before ++ x.1) moment_step));
    stands = record { order = leaves.order; needed = leaves.needed };
  }
