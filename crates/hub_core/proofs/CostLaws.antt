-- What the steps of rooms cost is no more than what an event costs the hub.
use Rattle.std.proofs.Common.{◌≡◌, ◌≤◌, ◌<◌, ◌+◌, ◌==◌, ◌||◌, ℕ, suc, Bool, true, false, cond, List, [], ◌∷◌, ◌++◌, Option, Some, None, IfSome, refl, sym, ap, ap₂, subst, ◌∙◌, arith, zero-le}
use Rattle.std.specs.List.{find, list_any, sum_by}
use Rattle.std.proofs.lemmas.Bool.Decides.{nat_tests}
use Rattle.std.proofs.lemmas.List.Sums.{sum_by-append, sum_by-cons, sum_by_push}
use Rattle.lists.specs.Rising.{RisesFrom, find as find_by, put}
use Rattle.lists.proofs.RisingLaws.{find_below, find_key}
use Rattle.lists.proofs.Passing.{found_passes}
use Rattle.room_model.specs.declared.event.RoomEvent.{RoomEvent}
use Rattle.room_model.specs.declared.event.RoomEvent.TheVariants as event
use Rattle.room_model.specs.Room.{RoomValue}
use Rattle.hub_model.specs.declared.event.HubEvent.{HubEvent}
use Rattle.hub_model.specs.declared.event.HubEvent.TheVariants as happened
use Rattle.hub_model.specs.declared.event.HubOut.{HubOut}
use Rattle.hub_model.specs.Dealt.{RoomStep}
use Rattle.hub_model.specs.HubStep.{Rules, deals, event_if, lapses_by, makes, moment_at}
use Rattle.hub_model.specs.HubValues.{HubRoom, is_named}
use Rattle.hub_core.specs.declared.entry.RoomEntry.{RoomEntry}
use Rattle.hub_core.specs.declared.parts.Parts.{Parts}
use Rattle.hub_core.specs.Costs.{cost_in, dealt_cost, hub_cost, lapse_cost}
use Rattle.hub_core.specs.Hubs.{hub_of}
use Rattle.hub_core.specs.Lapsed.{moment_of}
use Rattle.hub_core.specs.Lapses.{itself}
use Rattle.hub_core.specs.RoomEntry.{AreOrdered, Each, has_id, room_in, rooms_in, serial_of}
use Rattle.hub_core.specs.Turned.{Turned}
use Rattle.hub_core.proofs.EachLaws.{Each-first, Each-rest, of_there, there}
use Rattle.hub_core.proofs.LapsedLaws.{Lapsing, first_there, none_below}

-- ---- sums

pub sum_first : {X : Type 0} (f : X → ℕ) (xs ys : List X) → sum_by f xs ≤ sum_by f (xs ++ ys)
sum_first f xs ys = (let both = sum_by-append f xs ys in omega (arith, both))

pub sum_last : {X : Type 0} (f : X → ℕ) (xs : List X) (y : X) → f y ≤ sum_by f (xs ++ y ∷ [])
sum_last f xs y = (let all = sum_by_push f xs y in omega (arith, all))

sum_one : {X : Type 0} (f : X → ℕ) (x : X) → sum_by f (x ∷ []) ≡ f x
sum_one f x = (let one : sum_by f (x ∷ []) ≡ f x + 0 = sum_by-cons f x [] in omega (arith, one))

nothing_more : (a b : ℕ) → a ≡ 0 → a + b ≡ b
nothing_more a b none = omega (arith, none)

pub at_most : (new old a b : ℕ) → new ≤ old + a → a ≤ b → new ≤ old + b
at_most new old a b h k = omega (arith, h, k)

-- ---- an event of the room of an id

-- one of a list costs no more than all
pub found_cost : {R : Type 0} (room : R → RoomValue) (f : HubRoom → ℕ) (p : RoomEntry R → Bool) (ss : List (RoomEntry R)) (s : RoomEntry R) → find p ss ≡ Some s → f (room_in room s) ≤ sum_by f (rooms_in room ss)
found_cost room f p [] s is = absurd cc
found_cost {R = R} room f p (x ∷ ss) s is = by_first (p x) is (λ rest. found_cost room f p ss s rest)
  where
    all : sum_by f (rooms_in room (x ∷ ss)) ≡ f (room_in room x) + sum_by f (rooms_in room ss)
    all = sum_by-cons f (room_in room x) (rooms_in room ss)

    by_first : (b : Bool) → cond b (Some x) (find p ss) ≡ Some s → (find p ss ≡ Some s → f (room_in room s) ≤ sum_by f (rooms_in room ss)) → f (room_in room s) ≤ sum_by f (rooms_in room (x ∷ ss))
    by_first true here rest = (let one : x ≡ s = cc in let own : f (room_in room x) ≡ f (room_in room s) = ap (λ y. f (room_in room y)) one in let total = all in omega (arith, own, total))
    by_first false there rest = (let low = rest there in let total = all in omega (arith, low, total))

-- an event that is for the room of an id, as it is dealt to all
module _ {R : Type 0} (room : R → RoomValue) (costs : RoomValue → RoomEvent → ℕ) (events : HubRoom → List RoomEvent) (id : List ℕ) (e : RoomEvent) (are : (r : HubRoom) → events r ≡ event_if (is_named id r) e) where
  pub one_cost : (ss : List (RoomEntry R)) (more : List HubRoom) → cost_in room costs ss id e ≤ sum_by (λ (r : HubRoom). sum_by (costs r.room) (events r)) (rooms_in room ss ++ more)
  one_cost ss more = by_found (find (has_id id) ss) refl
    where
      by_found : (o : Option (RoomEntry R)) → find (has_id id) ss ≡ o → cost_in room costs ss id e ≤ sum_by (λ (r : HubRoom). sum_by (costs r.room) (events r)) (rooms_in room ss ++ more)
      by_found None is = rw is zero-le
      by_found (Some s) is =
          let named : has_id id s ≡ true = found_passes (has_id id) ss s is in
          let own : sum_by (costs (room s.room)) (events (room_in room s)) ≡ costs (room s.room) e =
          ap (sum_by (costs (room s.room))) (are (room_in room s) ∙ ap (λ b. event_if b e) named) ∙ sum_one (costs (room s.room)) e in
          let one = found_cost room (λ (r : HubRoom). sum_by (costs r.room) (events r)) (has_id id) ss s is in
          let all = sum_first (λ (r : HubRoom). sum_by (costs r.room) (events r)) (rooms_in room ss) more in
          rw is (subst (λ k. k ≤ sum_by (λ (r : HubRoom). sum_by (costs r.room) (events r)) (rooms_in room ss ++ more)) own (omega (arith, one, all)))

-- the cost of the room of a number is that of the room of an id which it is
pub cost_found : {R : Type 0} (room : R → RoomValue) (costs : RoomValue → RoomEvent → ℕ) (ss : List (RoomEntry R)) (id : List ℕ) (n : ℕ) (e : RoomEvent) (s : RoomEntry R) (new old : ℕ) → find (has_id id) ss ≡ Some s → find_by serial_of n ss ≡ Some s
    → IfSome (find_by serial_of n ss) (λ s. new ≤ old + costs (room s.room) e) → new ≤ old + cost_in room costs ss id e
cost_found {R = R} room costs ss id n e s new old named at cost = rw named (subst (λ o. IfSome o (λ (s : RoomEntry R). new ≤ old + costs (room s.room) e)) at cost)

-- ---- what a moment costs

equal_is : (a b : ℕ) → (a == b) ≡ true → a ≡ b
equal_is a b h = grind (arith, nat_tests, h)

equal_back : (a b : ℕ) → (a == b) ≡ true → (b == a) ≡ true
equal_back a b h = grind (arith, nat_tests, h)

equal_below : (a b : ℕ) → (a == b) ≡ true → b < suc a
equal_below a b h = grind (arith, nat_tests, h)

put_here : {R : Type 0} (t x : RoomEntry R) (ss : List (RoomEntry R)) → x.serial ≡ t.serial → put serial_of t (x ∷ ss) ≡ t ∷ ss
put_here t x ss same = grind (arith, nat_tests, same)

put_behind : {R : Type 0} (t x : RoomEntry R) (ss : List (RoomEntry R)) → x.serial < t.serial → put serial_of t (x ∷ ss) ≡ x ∷ put serial_of t ss
put_behind t x ss less = grind (arith, nat_tests, less)

module _ {R : Type 0} (room : R → RoomValue) (costs : RoomValue → RoomEvent → ℕ) (at : ℕ) where
  abbrev ev : RoomEvent
  ev = event.Moment at

  abbrev cost_of : List ℕ → RoomEntry R → ℕ
  cost_of due s = sum_by (costs (room s.room)) (moment_of at due s.serial)

  lapse_cons : (due : List ℕ) (x : RoomEntry R) (ss : List (RoomEntry R)) → lapse_cost room costs at due (x ∷ ss) ≡ cost_of due x + lapse_cost room costs at due ss
  lapse_cons due x ss = sum_by-cons (λ (s : RoomEntry R). sum_by (costs (room s.room)) (moment_of at due s.serial)) x ss

  -- a room that isn't among them costs nothing
  no_cost : (due : List ℕ) (s : RoomEntry R) → list_any (λ k. k == s.serial) due ≡ false → cost_of due s ≡ 0
  no_cost due s none = ap (λ b. sum_by (costs (room s.room)) (event_if b ev)) none

  own_cost : (due : List ℕ) (s : RoomEntry R) → list_any (λ k. k == s.serial) due ≡ true → cost_of due s ≡ costs (room s.room) ev
  own_cost due s some = ap (λ b. sum_by (costs (room s.room)) (event_if b ev)) some ∙ sum_one (costs (room s.room)) ev

  -- rooms above a number cost the same without it
  same_above : (n low : ℕ) (rest : List ℕ) (ss : List (RoomEntry R)) → RisesFrom serial_of low ss → n < low → lapse_cost room costs at (n ∷ rest) ss ≡ lapse_cost room costs at rest ss
  same_above n low rest [] rises less = refl
  same_above n low rest (x ∷ ss) rises less =
      let other : (n == x.serial) ≡ false = grind (arith, nat_tests, rises.0, less) in
      lapse_cons (n ∷ rest) x ss
      ∙ ap₂ (λ b k. sum_by (costs (room x.room)) (event_if (b || list_any (λ k. k == x.serial) rest) ev) + k) other (same_above n (suc x.serial) rest ss rises.1 (grind (arith, rises.0, less)))
      ∙ sym (lapse_cons rest x ss)

  -- the room of the first number costs its own, and the others theirs
  pub lapse_first : (n low : ℕ) (s t : RoomEntry R) (rest : List ℕ) (ss : List (RoomEntry R)) → RisesFrom itself (suc n) rest → t.serial ≡ n → RisesFrom serial_of low ss → find_by serial_of n ss ≡ Some s
      → lapse_cost room costs at (n ∷ rest) ss ≡ costs (room s.room) ev + lapse_cost room costs at rest (put serial_of t ss)
  lapse_first n low s t rest [] rise same rises found = absurd cc
  lapse_first n low s t rest (x ∷ ss) rise same rises found = by_first (x.serial == n) refl (λ behind. lapse_first n (suc x.serial) s t rest ss rise same rises.1 behind)
    where
      by_first : (b : Bool) → (x.serial == n) ≡ b → (find_by serial_of n ss ≡ Some s → lapse_cost room costs at (n ∷ rest) ss ≡ costs (room s.room) ev + lapse_cost room costs at rest (put serial_of t ss))
          → lapse_cost room costs at (n ∷ rest) (x ∷ ss) ≡ costs (room s.room) ev + lapse_cost room costs at rest (put serial_of t (x ∷ ss))
      by_first true here others =
          let one : x ≡ s = (let k : Some x ≡ Some s = rw here at found in cc) in
          let place : put serial_of t (x ∷ ss) ≡ t ∷ ss = put_here t x ss (equal_is x.serial n here ∙ sym same) in
          let own : cost_of (n ∷ rest) x ≡ costs (room x.room) ev = own_cost (n ∷ rest) x (ap (λ b. b || list_any (λ k. k == x.serial) rest) (equal_back x.serial n here)) in
          let none : cost_of rest t ≡ 0 = no_cost rest t (none_below t.serial (suc n) rest rise (grind (arith, same))) in
          let start = lapse_cons (n ∷ rest) x ss in
          let end : lapse_cost room costs at rest (put serial_of t (x ∷ ss)) ≡ cost_of rest t + lapse_cost room costs at rest ss = ap (lapse_cost room costs at rest) place ∙ lapse_cons rest t ss in
          start
          ∙ ap₂ (λ a b. a + b) (own ∙ ap (λ (y : RoomEntry R). costs (room y.room) ev) one) (same_above n (suc x.serial) rest ss rises.1 (equal_below x.serial n here))
          ∙ ap (λ k. costs (room s.room) ev + k) (sym (end ∙ nothing_more (cost_of rest t) (lapse_cost room costs at rest ss) none))
      by_first false other others =
          let there : find_by serial_of n ss ≡ Some s = rw other at found in
          let low : x.serial < n = grind (arith, nat_tests, other, there, find_below serial_of (suc x.serial) ss n rises.1) in
          let place : put serial_of t (x ∷ ss) ≡ x ∷ put serial_of t ss = put_behind t x ss (subst (λ k. x.serial < k) (sym same) low) in
          let below : list_any (λ k. k == x.serial) rest ≡ false = none_below x.serial (suc n) rest rise (grind (arith, low)) in
          let none : cost_of rest x ≡ 0 = no_cost rest x below in
          let none_yet : cost_of (n ∷ rest) x ≡ 0 = no_cost (n ∷ rest) x (let first : (n == x.serial) ≡ false = grind (arith, nat_tests, low) in ap₂ (λ a b. a || b) first below) in
          let end : lapse_cost room costs at rest (put serial_of t (x ∷ ss)) ≡ cost_of rest x + lapse_cost room costs at rest (put serial_of t ss) = ap (lapse_cost room costs at rest) place ∙ lapse_cons rest x (put serial_of t ss) in
          lapse_cons (n ∷ rest) x ss
          ∙ nothing_more (cost_of (n ∷ rest) x) (lapse_cost room costs at (n ∷ rest) ss) none_yet
          ∙ others there
          ∙ ap (λ k. costs (room s.room) ev + k) (sym (end ∙ nothing_more (cost_of rest x) (lapse_cost room costs at rest (put serial_of t ss)) none))

  -- it is what the hub deals to them
  pub lapse_dealt : (low : ℕ) (due : List ℕ) (ss : List (RoomEntry R)) → RisesFrom serial_of low ss → Each (λ s. list_any (λ k. k == s.serial) due ≡ lapses_by at (room_in room s)) ss
      → lapse_cost room costs at due ss ≡ sum_by (λ (r : HubRoom). sum_by (costs r.room) (event_if (lapses_by at r) ev)) (rooms_in room ss)
  lapse_dealt low due [] rises each = refl
  lapse_dealt low due (x ∷ ss) rises each =
      lapse_cons due x ss
      ∙ ap₂ (λ b k. sum_by (costs (room x.room)) (event_if b ev) + k) (Each-first (λ s. list_any (λ k. k == s.serial) due ≡ lapses_by at (room_in room s)) x ss each)
      (lapse_dealt (suc x.serial) due ss rises.1 (Each-rest (λ s. list_any (λ k. k == s.serial) due ≡ lapses_by at (room_in room s)) low x ss rises each))
      ∙ sym (sum_by-cons (λ (r : HubRoom). sum_by (costs r.room) (event_if (lapses_by at r) ev)) (room_in room x) (rooms_in room ss))

-- the first of these rooms costs its own
pub lapse_paid : {R : Type 0} (room : R → RoomValue) (costs : RoomValue → RoomEvent → ℕ) (at n : ℕ) (s t : RoomEntry R) (rest : List ℕ) (ss : List (RoomEntry R)) (first before now all : ℕ)
    → RisesFrom itself (suc n) rest → t.serial ≡ n → RisesFrom serial_of 0 ss
    → find_by serial_of n ss ≡ Some s → before + lapse_cost room costs at (n ∷ rest) ss ≤ first + all → now ≤ before + costs (room s.room) (event.Moment at) → now + lapse_cost room costs at rest (put serial_of t ss) ≤ first + all
lapse_paid room costs at n s t rest ss first before now all rise same rises found left paid =
    let cost = lapse_first room costs at n 0 s t rest ss rise same rises found in omega (arith, cost, left, paid)

-- it is still within what was left, also where the room answered out of memory
pub lapsing_within : {R : Type 0} (room : R → RoomValue) (Holds : RoomValue → Type 0) (step : RoomStep) (costs : RoomValue → RoomEvent → ℕ) (at n : ℕ) (due rest : List ℕ) (old now : Parts R) (before outs : List HubOut) (first paid new all : ℕ)
    → Lapsing room Holds step at due (n ∷ rest) old now before outs → AreOrdered now.registry.rooms → paid + lapse_cost room costs at (n ∷ rest) now.registry.rooms ≤ first + all
    → IfSome (find_by serial_of n now.registry.rooms) (λ s. new ≤ paid + costs (room s.room) (event.Moment at)) → new ≤ first + all
lapsing_within {R = R} room Holds step costs at n due rest old now before outs first paid new all l ordered left cost =
    let it = there (find_by serial_of n now.registry.rooms) (λ s. new ≤ paid + costs (room s.room) (event.Moment at)) (l.there n (l.within n (first_there n rest))) cost in
    let more = lapse_paid room costs at n it.it it.it rest now.registry.rooms first paid new all l.rises.1 (find_key serial_of n now.registry.rooms it.it it.is) ordered.0 it.is left it.holds in
    omega (arith, more)

pub lapsing_paid : {R : Type 0} (room : R → RoomValue) (is_spent : R → Bool) (Holds : RoomValue → Type 0) (step : RoomStep) (costs : RoomValue → RoomEvent → ℕ) (at n : ℕ)
    (due rest : List ℕ) (old now next : Parts R) (before outs more : List HubOut) (first paid new all : ℕ)
    → Lapsing room Holds step at due (n ∷ rest) old now before outs → AreOrdered now.registry.rooms → IfSome (find_by serial_of n now.registry.rooms) (λ s. Turned room is_spent step (event.Moment at) s now next outs more)
    → paid + lapse_cost room costs at (n ∷ rest) now.registry.rooms ≤ first + all → IfSome (find_by serial_of n now.registry.rooms) (λ s. new ≤ paid + costs (room s.room) (event.Moment at))
    → new + lapse_cost room costs at rest next.registry.rooms ≤ first + all
lapsing_paid {R = R} room is_spent Holds step costs at n due rest old now next before outs more first paid new all l ordered turned left cost =
    let it = there (find_by serial_of n now.registry.rooms) (λ s. Turned room is_spent step (event.Moment at) s now next outs more) (l.there n (l.within n (first_there n rest))) turned in
    let own : new ≤ paid + costs (room it.it.room) (event.Moment at) = of_there (find_by serial_of n now.registry.rooms) it.it (λ s. new ≤ paid + costs (room s.room) (event.Moment at)) it.is cost in
    let number : it.it.serial ≡ n = find_key serial_of n now.registry.rooms it.it it.is in
    subst (λ ss. new + lapse_cost room costs at rest ss ≤ first + all) (sym it.holds.stepped.rooms)
    (lapse_paid room costs at n it.it it.holds.stepped.now rest now.registry.rooms first paid new all l.rises.1 (it.holds.stepped.serial ∙ number) ordered.0 it.is left own)

-- ---- what the hub's own calls come to

-- an event of the room of an id, as the hub deals it
pub event_cost : {R : Type 0} (room : R → RoomValue) (costs : RoomValue → RoomEvent → ℕ) (rules : Rules) (p : Parts R) (e : HubEvent) (id : List ℕ) (ev : RoomEvent) (new old : ℕ)
    → ((r : HubRoom) → deals rules (hub_of room p) e r ≡ event_if (is_named id r) ev)
    → new ≤ old + cost_in room costs p.registry.rooms id ev → new ≤ old + hub_cost costs rules (hub_of room p) e
event_cost room costs rules p e id ev new old are paid =
    at_most new old (cost_in room costs p.registry.rooms id ev) (hub_cost costs rules (hub_of room p) e) paid (one_cost room costs (deals rules (hub_of room p) e) id ev are p.registry.rooms (makes rules (hub_of room p) e))

-- a moment
pub moment_cost : {R : Type 0} (room : R → RoomValue) (costs : RoomValue → RoomEvent → ℕ) (rules : Rules) (p : Parts R) (now at : ℕ) (due : List ℕ) (new old : ℕ) → RisesFrom serial_of 0 p.registry.rooms → moment_at (hub_of room p) now ≡ at
    → Each (λ s. list_any (λ k. k == s.serial) due ≡ lapses_by at (room_in room s)) p.registry.rooms → new ≤ old + lapse_cost room costs at due p.registry.rooms → new ≤ old + hub_cost costs rules (hub_of room p) (happened.At now)
moment_cost room costs rules p now at due new old rises at_is each paid =
    let f : HubRoom → ℕ = λ r. sum_by (costs r.room) (event_if (lapses_by at r) (event.Moment at)) in
    let dealt : lapse_cost room costs at due p.registry.rooms ≡ sum_by f (rooms_in room p.registry.rooms) = lapse_dealt room costs at 0 due p.registry.rooms rises each in
    let all : sum_by f (rooms_in room p.registry.rooms) ≤ hub_cost costs rules (hub_of room p) (happened.At now) =
    subst (λ m. sum_by (λ (r : HubRoom). sum_by (costs r.room) (event_if (lapses_by m r) (event.Moment m))) (rooms_in room p.registry.rooms) ≤ hub_cost costs rules (hub_of room p) (happened.At now)) at_is
    (sum_first (dealt_cost costs rules (hub_of room p) (happened.At now)) (rooms_in room p.registry.rooms) []) in
    at_most new old (lapse_cost room costs at due p.registry.rooms) (hub_cost costs rules (hub_of room p) (happened.At now)) paid (subst (λ k. k ≤ hub_cost costs rules (hub_of room p) (happened.At now)) (sym dealt) all)
