-- What all rooms make of the events that are theirs, where one room has an event and the others have none.
use Rattle.std.proofs.Common.{◌≡◌, ℕ, suc, ◌<◌, ◌==◌, ◌++◌, ◌||◌, Bool, true, false, not, List, [], ◌∷◌, Some, filter, map, refl, sym, ap, ap₂, subst, ◌∙◌, arith, cond, nat_lt, append-nil}
use Rattle.std.specs.List.{flat_map, list_any}
use Rattle.std.proofs.lemmas.Bool.Decides.{nat_tests}
use Rattle.lists.specs.Rising.{RisesFrom, find as find_by, put, remove}
use Rattle.lists.proofs.RisingLaws.{find_below, remove_missing}
use Rattle.room_model.specs.declared.event.RoomEvent.{RoomEvent}
use Rattle.room_model.specs.Room.{RoomValue}
use Rattle.hub_model.specs.HubValues.{HubRoom}
use Rattle.hub_model.specs.HubStep.{is_needed}
use Rattle.hub_model.specs.Dealt.{Dealt, RoomStep, dealt, with_room}
use Rattle.hub_core.specs.declared.entry.RoomEntry.{RoomEntry}
use Rattle.hub_core.specs.RoomEntry.{room_in, rooms_in, serial_of}

module _ {R : Type 0} (room : R → RoomValue) (step : RoomStep) (es : HubRoom → List RoomEvent) where
  -- what each room makes of the events that are its own
  abbrev pub all_of : List (RoomEntry R) → List Dealt
  all_of ss = map (λ (r : HubRoom). dealt step r (es r)) (rooms_in room ss)

  abbrev pub rooms_of : List (RoomEntry R) → List HubRoom
  rooms_of ss = map (λ (d : Dealt). d.room) (all_of ss)

  -- the rooms but the one of a number have no event
  abbrev pub AreQuiet : ℕ → List (RoomEntry R) → Type 0
  AreQuiet n [] = Unit {0}
  AreQuiet n (s ∷ ss) = ((s.serial == n) ≡ false → es (room_in room s) ≡ []) × AreQuiet n ss

  quiet_from : (n low : ℕ) (ss : List (RoomEntry R)) → RisesFrom serial_of low ss → n < low → AreQuiet n ss → rooms_of ss ≡ rooms_in room ss
  quiet_from n low [] rises less quiet = refl
  quiet_from n low (s ∷ ss) rises less quiet =
      let other : (s.serial == n) ≡ false = grind (arith, nat_tests, rises.0, less) in
      let none : es (room_in room s) ≡ [] = quiet.0 other in
      ap₂ (λ x xs. x ∷ xs) (ap (λ l. (dealt step (room_in room s) l).room) none) (quiet_from n (suc s.serial) ss rises.1 (grind (arith, rises.0, less)) quiet.1)

  -- the room of the number comes first, or it is among the others
  stepped_first : (n low : ℕ) (s t : RoomEntry R) (e : RoomEvent) (x : RoomEntry R) (ss : List (RoomEntry R)) → RisesFrom serial_of low (x ∷ ss) → find_by serial_of n (x ∷ ss) ≡ Some s → AreQuiet n (x ∷ ss)
      → es (room_in room s) ≡ e ∷ [] → t.serial ≡ n → room_in room t ≡ with_room (room_in room s) (step (room s.room) e).0
      → (find_by serial_of n ss ≡ Some s → rooms_of ss ≡ rooms_in room (put serial_of t ss)) → (b : Bool) → (x.serial == n) ≡ b → rooms_of (x ∷ ss) ≡ rooms_in room (put serial_of t (x ∷ ss))
  stepped_first n low s t e x ss rises found quiet own same is others true here =
      let one : x ≡ s = (let k : Some x ≡ Some s = rw here at found in cc) in
      let number : x.serial ≡ t.serial = grind (arith, nat_tests, here, same) in
      let place : put serial_of t (x ∷ ss) ≡ t ∷ ss = grind (arith, nat_tests, number) in
      let first : (dealt step (room_in room x) (es (room_in room x))).room ≡ room_in room t =
      subst (λ y. (dealt step (room_in room y) (es (room_in room y))).room ≡ room_in room t) (sym one) (ap (λ l. (dealt step (room_in room s) l).room) own ∙ sym is) in
      ap₂ (λ y ys. y ∷ ys) first (quiet_from n (suc x.serial) ss rises.1 (grind (arith, nat_tests, here)) quiet.1) ∙ sym (ap (rooms_in room) place)
  stepped_first n low s t e x ss rises found quiet own same is others false other =
      let rest : find_by serial_of n ss ≡ Some s = rw other at found in
      let place : put serial_of t (x ∷ ss) ≡ x ∷ put serial_of t ss = grind (arith, nat_tests, other, same, rest, find_below serial_of (suc x.serial) ss n rises.1) in
      ap₂ (λ y ys. y ∷ ys) (ap (λ l. (dealt step (room_in room x) l).room) (quiet.0 other)) (others rest) ∙ sym (ap (rooms_in room) place)

  -- the rooms behind it are those with the one behind its step
  pub rooms_stepped : (n low : ℕ) (s t : RoomEntry R) (e : RoomEvent) (ss : List (RoomEntry R)) → RisesFrom serial_of low ss → find_by serial_of n ss ≡ Some s → AreQuiet n ss → es (room_in room s) ≡ e ∷ []
      → t.serial ≡ n → room_in room t ≡ with_room (room_in room s) (step (room s.room) e).0 → rooms_of ss ≡ rooms_in room (put serial_of t ss)
  rooms_stepped n low s t e [] rises found quiet own same is = absurd cc
  rooms_stepped n low s t e (x ∷ ss) rises found quiet own same is =
      stepped_first n low s t e x ss rises found quiet own same is (λ rest. rooms_stepped n (suc x.serial) s t e ss rises.1 rest quiet.1 own same is) (x.serial == n) refl

  -- what all rooms give is what that room gives, where a room without an event gives nothing
  quiet_given : {X : Type 0} (f : Dealt → List X) (n low : ℕ) (ss : List (RoomEntry R)) → ((r : HubRoom) → f (dealt step r []) ≡ []) → RisesFrom serial_of low ss → n < low → AreQuiet n ss → flat_map f (all_of ss) ≡ []
  quiet_given f n low [] silent rises less quiet = refl
  quiet_given f n low (s ∷ ss) silent rises less quiet =
      let other : (s.serial == n) ≡ false = grind (arith, nat_tests, rises.0, less) in
      ap₂ (λ x y. x ++ y) (ap (λ l. f (dealt step (room_in room s) l)) (quiet.0 other) ∙ silent (room_in room s)) (quiet_given f n (suc s.serial) ss silent rises.1 (grind (arith, rises.0, less)) quiet.1)

  given_first : {X : Type 0} (f : Dealt → List X) (n low : ℕ) (s : RoomEntry R) (e : RoomEvent) (x : RoomEntry R) (ss : List (RoomEntry R)) → ((r : HubRoom) → f (dealt step r []) ≡ []) → RisesFrom serial_of low (x ∷ ss)
      → find_by serial_of n (x ∷ ss) ≡ Some s → AreQuiet n (x ∷ ss) → es (room_in room s) ≡ e ∷ [] → (find_by serial_of n ss ≡ Some s → flat_map f (all_of ss) ≡ f (dealt step (room_in room s) (e ∷ [])))
      → (b : Bool) → (x.serial == n) ≡ b → flat_map f (all_of (x ∷ ss)) ≡ f (dealt step (room_in room s) (e ∷ []))
  given_first f n low s e x ss silent rises found quiet own others true here =
      let one : x ≡ s = (let k : Some x ≡ Some s = rw here at found in cc) in
      let first : f (dealt step (room_in room x) (es (room_in room x))) ≡ f (dealt step (room_in room s) (e ∷ [])) =
      subst (λ y. f (dealt step (room_in room y) (es (room_in room y))) ≡ f (dealt step (room_in room s) (e ∷ []))) (sym one) (ap (λ l. f (dealt step (room_in room s) l)) own) in
      ap₂ (λ y z. y ++ z) first (quiet_given f n (suc x.serial) ss silent rises.1 (grind (arith, nat_tests, here)) quiet.1) ∙ append-nil (f (dealt step (room_in room s) (e ∷ [])))
  given_first f n low s e x ss silent rises found quiet own others false other =
      let rest : find_by serial_of n ss ≡ Some s = rw other at found in
      ap₂ (λ y z. y ++ z) (ap (λ l. f (dealt step (room_in room x) l)) (quiet.0 other) ∙ silent (room_in room x)) (others rest)

  pub given_stepped : {X : Type 0} (f : Dealt → List X) (n low : ℕ) (s : RoomEntry R) (e : RoomEvent) (ss : List (RoomEntry R)) → ((r : HubRoom) → f (dealt step r []) ≡ []) → RisesFrom serial_of low ss
      → find_by serial_of n ss ≡ Some s → AreQuiet n ss → es (room_in room s) ≡ e ∷ [] → flat_map f (all_of ss) ≡ f (dealt step (room_in room s) (e ∷ []))
  given_stepped f n low s e [] silent rises found quiet own = absurd cc
  given_stepped f n low s e (x ∷ ss) silent rises found quiet own =
      given_first f n low s e x ss silent rises found quiet own (λ rest. given_stepped f n (suc x.serial) s e ss silent rises.1 rest quiet.1 own) (x.serial == n) refl

-- ---- whether any room gives something

is_there : {X : Type 0} → List X → Bool
is_there [] = false
is_there (x ∷ xs) = true

noted_as : {X : Type 0} → (X → Bool) → X → List Bool
noted_as p x = cond (p x) (true ∷ []) []

there_behind : (b : Bool) (rest : List Bool) → is_there (cond b (true ∷ []) [] ++ rest) ≡ b || is_there rest
unfolding is_there
there_behind true rest = refl
there_behind false rest = refl

any_there : {X : Type 0} (p : X → Bool) (xs : List X) → list_any p xs ≡ is_there (flat_map (noted_as p) xs)
unfolding is_there noted_as
any_there p [] = refl
any_there p (x ∷ xs) = ap (λ b. p x || b) (any_there p xs) ∙ sym (there_behind (p x) (flat_map (noted_as p) xs))

there_once : (b : Bool) → is_there (cond b (true ∷ []) []) ≡ b
unfolding is_there
there_once true = refl
there_once false = refl

silent_as : {X : Type 0} (p : X → Bool) (x : X) → p x ≡ false → noted_as p x ≡ []
unfolding noted_as
silent_as p x h = ap (λ b. cond b (true ∷ []) []) h

once_as : {X : Type 0} (p : X → Bool) (x : X) → is_there (noted_as p x) ≡ p x
unfolding noted_as
once_as p x = there_once (p x)

pub any_stepped : {R : Type 0} (room : R → RoomValue) (step : RoomStep) (es : HubRoom → List RoomEvent) (p : Dealt → Bool) (n : ℕ) (s : RoomEntry R) (e : RoomEvent) (ss : List (RoomEntry R))
    → ((r : HubRoom) → p (dealt step r []) ≡ false) → RisesFrom serial_of 0 ss → find_by serial_of n ss ≡ Some s → AreQuiet room step es n ss → es (room_in room s) ≡ e ∷ []
    → list_any p (all_of room step es ss) ≡ p (dealt step (room_in room s) (e ∷ []))
any_stepped room step es p n s e ss silent rises found quiet own =
    any_there p (all_of room step es ss)
    ∙ ap is_there (given_stepped room step es (noted_as p) n 0 s e ss (λ r. silent_as p (dealt step r []) (silent r)) rises found quiet own)
    ∙ once_as p (dealt step (room_in room s) (e ∷ []))

-- ---- rooms without a place in use

-- the rooms but the one of a number are needed
abbrev pub AreNeeded : {R : Type 0} → (R → RoomValue) → ℕ → List (RoomEntry R) → Type 0
AreNeeded room n [] = Unit {0}
AreNeeded room n (s ∷ ss) = ((s.serial == n) ≡ false → is_needed (room_in room s) ≡ true) × AreNeeded room n ss

all_needed : {R : Type 0} (room : R → RoomValue) (n low : ℕ) (ss : List (RoomEntry R)) → RisesFrom serial_of low ss → n < low → AreNeeded room n ss → filter is_needed (rooms_in room ss) ≡ rooms_in room ss
all_needed room n low [] rises less needed = refl
all_needed room n low (s ∷ ss) rises less needed =
    let other : (s.serial == n) ≡ false = grind (arith, nat_tests, rises.0, less) in
    rw (needed.0 other) (ap (λ l. room_in room s ∷ l) (all_needed room n (suc s.serial) ss rises.1 (grind (arith, rises.0, less)) needed.1))

none_unneeded : {R : Type 0} (room : R → RoomValue) (n low : ℕ) (ss : List (RoomEntry R)) → RisesFrom serial_of low ss → n < low → AreNeeded room n ss → filter (λ r. not (is_needed r)) (rooms_in room ss) ≡ []
none_unneeded room n low [] rises less needed = refl
none_unneeded room n low (s ∷ ss) rises less needed =
    let other : (s.serial == n) ≡ false = grind (arith, nat_tests, rises.0, less) in
    rw (needed.0 other) (none_unneeded room n (suc s.serial) ss rises.1 (grind (arith, rises.0, less)) needed.1)

-- where the room of the number is still needed all stay; else it is taken out, and it alone is disposed of
pub kept_needed : {R : Type 0} (room : R → RoomValue) (low : ℕ) (t : RoomEntry R) (ss : List (RoomEntry R)) → RisesFrom serial_of low ss → AreNeeded room t.serial ss → is_needed (room_in room t) ≡ true
    → filter is_needed (rooms_in room (put serial_of t ss)) ≡ rooms_in room (put serial_of t ss)
kept_needed room low t [] rises needed own = rw own refl
kept_needed room low t (s ∷ ss) rises needed own = kept_by (nat_lt t.serial s.serial) refl (s.serial == t.serial) refl (kept_needed room (suc s.serial) t ss rises.1 needed.1 own)
  where
    kept_by : (a : Bool) → nat_lt t.serial s.serial ≡ a → (b : Bool) → (s.serial == t.serial) ≡ b → filter is_needed (rooms_in room (put serial_of t ss)) ≡ rooms_in room (put serial_of t ss)
        → filter is_needed (rooms_in room (cond (nat_lt t.serial s.serial) (t ∷ s ∷ ss) (cond (s.serial == t.serial) (t ∷ ss) (s ∷ put serial_of t ss))))
        ≡ rooms_in room (cond (nat_lt t.serial s.serial) (t ∷ s ∷ ss) (cond (s.serial == t.serial) (t ∷ ss) (s ∷ put serial_of t ss)))
    kept_by true a b h rest =
        let other : (s.serial == t.serial) ≡ false = grind (arith, nat_tests, a) in
        let others : filter is_needed (rooms_in room ss) ≡ rooms_in room ss = all_needed room t.serial (suc s.serial) ss rises.1 (grind (arith, nat_tests, a)) needed.1 in
        rw (a, own, needed.0 other, others) refl
    kept_by false a true b rest =
        let others : filter is_needed (rooms_in room ss) ≡ rooms_in room ss = all_needed room t.serial (suc s.serial) ss rises.1 (grind (arith, nat_tests, b)) needed.1 in
        rw (a, b, own, others) refl
    kept_by false a false b rest = rw (a, b, needed.0 b, rest) refl

pub left_needed : {R : Type 0} (room : R → RoomValue) (low : ℕ) (s t : RoomEntry R) (ss : List (RoomEntry R)) → RisesFrom serial_of low ss → find_by serial_of t.serial ss ≡ Some s → AreNeeded room t.serial ss
    → is_needed (room_in room t) ≡ false → filter is_needed (rooms_in room (put serial_of t ss)) ≡ rooms_in room (remove serial_of t.serial ss)
left_needed room low s t [] rises found needed own = absurd cc
left_needed room low s t (x ∷ ss) rises found needed own = left_by (x.serial == t.serial) refl (λ rest. left_needed room (suc x.serial) s t ss rises.1 rest needed.1 own)
  where
    left_by : (b : Bool) → (x.serial == t.serial) ≡ b → (find_by serial_of t.serial ss ≡ Some s → filter is_needed (rooms_in room (put serial_of t ss)) ≡ rooms_in room (remove serial_of t.serial ss))
        → filter is_needed (rooms_in room (put serial_of t (x ∷ ss))) ≡ rooms_in room (remove serial_of t.serial (x ∷ ss))
    left_by true here others =
        let high : t.serial < suc x.serial = grind (arith, nat_tests, here) in
        let place : put serial_of t (x ∷ ss) ≡ t ∷ ss = grind (arith, nat_tests, here) in
        let none : remove serial_of t.serial ss ≡ ss = remove_missing serial_of t.serial ss (find_below serial_of (suc x.serial) ss t.serial rises.1 high) in
        let all : filter is_needed (rooms_in room ss) ≡ rooms_in room ss = all_needed room t.serial (suc x.serial) ss rises.1 high needed.1 in
        let without : remove serial_of t.serial (x ∷ ss) ≡ ss = rw here none in
        rw (place, without, own) all
    left_by false other others =
        let rest : find_by serial_of t.serial ss ≡ Some s = rw other at found in
        let place : put serial_of t (x ∷ ss) ≡ x ∷ put serial_of t ss = grind (arith, nat_tests, other, rest, find_below serial_of (suc x.serial) ss t.serial rises.1) in
        rw (place, other, needed.0 other) (ap (λ l. room_in room x ∷ l) (others rest))

pub disposed_put : {R : Type 0} (room : R → RoomValue) (low : ℕ) (s t : RoomEntry R) (ss : List (RoomEntry R)) → RisesFrom serial_of low ss → find_by serial_of t.serial ss ≡ Some s → AreNeeded room t.serial ss
    → filter (λ r. not (is_needed r)) (rooms_in room (put serial_of t ss)) ≡ cond (is_needed (room_in room t)) [] (room_in room t ∷ [])
disposed_put room low s t [] rises found needed = absurd cc
disposed_put room low s t (x ∷ ss) rises found needed = disposed_by (x.serial == t.serial) refl (λ rest. disposed_put room (suc x.serial) s t ss rises.1 rest needed.1)
  where
    own_part : (b : Bool) → cond (not b) (room_in room t ∷ []) [] ≡ cond b [] (room_in room t ∷ [])
    own_part true = refl
    own_part false = refl

    disposed_by : (b : Bool) → (x.serial == t.serial) ≡ b
        → (find_by serial_of t.serial ss ≡ Some s → filter (λ r. not (is_needed r)) (rooms_in room (put serial_of t ss)) ≡ cond (is_needed (room_in room t)) [] (room_in room t ∷ []))
        → filter (λ r. not (is_needed r)) (rooms_in room (put serial_of t (x ∷ ss))) ≡ cond (is_needed (room_in room t)) [] (room_in room t ∷ [])
    disposed_by true here others =
        let high : t.serial < suc x.serial = grind (arith, nat_tests, here) in
        let place : put serial_of t (x ∷ ss) ≡ t ∷ ss = grind (arith, nat_tests, here) in
        let none : filter (λ r. not (is_needed r)) (rooms_in room ss) ≡ [] = none_unneeded room t.serial (suc x.serial) ss rises.1 high needed.1 in
        rw (place, none) (own_part (is_needed (room_in room t)))
    disposed_by false other others =
        let rest : find_by serial_of t.serial ss ≡ Some s = rw other at found in
        let place : put serial_of t (x ∷ ss) ≡ x ∷ put serial_of t ss = grind (arith, nat_tests, other, rest, find_below serial_of (suc x.serial) ss t.serial rises.1) in
        rw (place, needed.0 other) (others rest)
