-- Open rooms: keys of criteria, and what is listed once a room changes, comes or goes.
use Rattle.std.proofs.Common.{◌≡◌, ℕ, suc, ◌<◌, ◌≤◌, ◌==◌, ◌&&◌, Bool, true, false, cond, List, [], ◌∷◌, ◌++◌, Option, Some, None, length, refl, sym, ap, ap₂, subst, ◌∙◌, append_assoc, arith}
use Rattle.std.specs.List.{find, flat_map}
use Rattle.std.specs.Option.{option_map, option_or}
use Rattle.std.specs.Str.{bytes_eq}
use Rattle.std.proofs.lemmas.Bool.Decides.{nat_tests}
use Rattle.lists.specs.Rising.{RisesFrom, find as find_by, put, remove}
use Rattle.lists.proofs.RisingLaws.{find-append, find-put, find-remove, find_below, find_key}
use Rattle.lists.proofs.SameBytes.{bytes_eq_self, same_bytes}
use Rattle.room_model.specs.Room.{RoomValue}
use Rattle.hub_model.specs.Decisions.{is_open, meets, texts_eq}
use Rattle.hub_model.specs.HubValues.{listing_of}
use Rattle.hub_core.specs.declared.entry.RoomEntry.{RoomEntry}
use Rattle.hub_core.specs.declared.open_rooms.OpenRooms.{OpenRooms}
use Rattle.hub_core.specs.OpenRooms.{AreListed, IsFirst, Relisted, Relists, byte_key, criteria_key, is_listed, is_open_in}
use Rattle.hub_core.specs.RoomEntry.{room_in, serial_of}

-- ---- keys

-- two texts with their ends, each before a rest, are one text where they are one list
record AreOne (t u r s : List ℕ) : Type 0 where
  pub text : t ≡ u
  pub rest : r ≡ s

first_one : (a : ℕ) (t u r s : List ℕ) → AreOne t u r s → AreOne (a ∷ t) (a ∷ u) r s
first_one a t u r s one = record { text = ap (λ l. a ∷ l) one.text; rest = one.rest }

abbrev ended : List ℕ → List ℕ → List ℕ
ended t r = flat_map byte_key t ++ 0 ∷ 0 ∷ r

byte_cases : (P : List ℕ → Type 0) (a : ℕ) → ((a ≡ 0) → P (0 ∷ 1 ∷ [])) → ((a ≡ 0 → ⊥) → P (a ∷ [])) → P (byte_key a)
byte_cases P a zero_is other =
    let go : (b : Bool) → (a == 0) ≡ b → P (cond b (a ∷ 1 ∷ []) (a ∷ [])) = elim [
      | true ↦ λ h. (let k : a ≡ 0 = grind (arith, nat_tests, h) in subst (λ i. P (i ∷ 1 ∷ [])) (sym k) (zero_is k))
      | false ↦ λ h. other (λ e. absurd (grind (arith, nat_tests, h, e)))
    ] in go (a == 0) refl

one_text : (t u r s : List ℕ) → ended t r ≡ ended u s → AreOne t u r s
one_text [] [] r s is = record { text = refl; rest = cc }
one_text [] (b ∷ u) r s is =
    byte_cases (λ k. 0 ∷ 0 ∷ r ≡ (k ++ flat_map byte_key u) ++ 0 ∷ 0 ∷ s → AreOne [] (b ∷ u) r s) b
    (λ e h. absurd (cc)) (λ n h. absurd (n (cc))) is
one_text (a ∷ t) [] r s is =
    byte_cases (λ k. (k ++ flat_map byte_key t) ++ 0 ∷ 0 ∷ r ≡ 0 ∷ 0 ∷ s → AreOne (a ∷ t) [] r s) a
    (λ e h. absurd (cc)) (λ n h. absurd (n (cc))) is
one_text (a ∷ t) (b ∷ u) r s is =
    byte_cases (λ k. (k ++ flat_map byte_key t) ++ 0 ∷ 0 ∷ r ≡ (byte_key b ++ flat_map byte_key u) ++ 0 ∷ 0 ∷ s → AreOne (a ∷ t) (b ∷ u) r s) a
    (λ e h. byte_cases (λ k. 0 ∷ 1 ∷ (flat_map byte_key t ++ 0 ∷ 0 ∷ r) ≡ (k ++ flat_map byte_key u) ++ 0 ∷ 0 ∷ s → AreOne (a ∷ t) (b ∷ u) r s) b
    (λ f i. let one = one_text t u r s (cc) in record { text = ap₂ (λ x l. x ∷ l) (e ∙ sym f) one.text; rest = one.rest })
    (λ n i. absurd (n (cc))) h)
    (λ m h. byte_cases (λ k. a ∷ (flat_map byte_key t ++ 0 ∷ 0 ∷ r) ≡ (k ++ flat_map byte_key u) ++ 0 ∷ 0 ∷ s → AreOne (a ∷ t) (b ∷ u) r s) b
    (λ f i. absurd (m (cc)))
    (λ n i. let one = one_text t u r s (cc) in let head : a ≡ b = cc in record { text = ap₂ (λ x l. x ∷ l) head one.text; rest = one.rest }) h) is

joined : (t : List ℕ) (ts : List (List ℕ)) → criteria_key (t ∷ ts) ≡ ended t (criteria_key ts)
joined t ts = append_assoc (flat_map byte_key t) (0 ∷ 0 ∷ []) (criteria_key ts)

not_none : (t r : List ℕ) → ended t r ≡ [] → ⊥
not_none [] r is = cc
not_none (a ∷ t) r is = byte_cases (λ k. (k ++ flat_map byte_key t) ++ 0 ∷ 0 ∷ r ≡ [] → ⊥) a (λ e h. cc) (λ n h. cc) is

texts_self : (ts : List (List ℕ)) → texts_eq ts ts ≡ true
texts_self [] = refl
texts_self (t ∷ ts) = rw (bytes_eq_self t, texts_self ts) refl

-- criteria of one key are the same
one_key : (ts us : List (List ℕ)) → criteria_key ts ≡ criteria_key us → texts_eq ts us ≡ true
one_key [] [] is = refl
one_key [] (u ∷ us) is = absurd (not_none u (criteria_key us) (sym (joined u us) ∙ sym is))
one_key (t ∷ ts) [] is = absurd (not_none t (criteria_key ts) (sym (joined t ts) ∙ is))
one_key (t ∷ ts) (u ∷ us) is =
    let one = one_text t u (criteria_key ts) (criteria_key us) (sym (joined t ts) ∙ (is ∙ joined u us)) in
    rw (one.text, bytes_eq_self u, one_key ts us one.rest) refl

same_texts : (ts us : List (List ℕ)) → texts_eq ts us ≡ true → ts ≡ us
same_texts [] [] is = refl
same_texts [] (u ∷ us) is = absurd cc
same_texts (t ∷ ts) [] is = absurd cc
same_texts (t ∷ ts) (u ∷ us) is = by_first (bytes_eq t u) refl is (λ k. same_texts ts us k)
  where
    by_first : (b : Bool) → bytes_eq t u ≡ b → (b && texts_eq ts us) ≡ true → (texts_eq ts us ≡ true → ts ≡ us) → t ∷ ts ≡ u ∷ us
    by_first true h k rest = ap₂ (λ x l. x ∷ l) (same_bytes t u h) (rest k)
    by_first false h k rest = absurd cc

pub key_tells : (ts us : List (List ℕ)) → bytes_eq (criteria_key ts) (criteria_key us) ≡ texts_eq ts us
key_tells ts us = by_key (bytes_eq (criteria_key ts) (criteria_key us)) refl (texts_eq ts us) refl
  where
    by_key : (a : Bool) → bytes_eq (criteria_key ts) (criteria_key us) ≡ a → (b : Bool) → texts_eq ts us ≡ b → a ≡ b
    by_key true h true k = refl
    by_key false h false k = refl
    by_key true h false k = (let same = one_key ts us (same_bytes (criteria_key ts) (criteria_key us) h) in absurd cc)
    by_key false h true k = (let self = bytes_eq_self (criteria_key ts) in let one : ts ≡ us = same_texts ts us k in
        let equal : bytes_eq (criteria_key ts) (criteria_key us) ≡ true = subst (λ l. bytes_eq (criteria_key ts) (criteria_key l) ≡ true) one self in absurd cc)

-- ---- the oldest

module _ {R : Type 0} (room : R → RoomValue) (d : ℕ) (criteria : List (List ℕ)) where
  abbrev fits : RoomEntry R → Bool
  fits s = meets d criteria (listing_of (room_in room s))

  no_fit : (low : ℕ) (ss : List (RoomEntry R)) → RisesFrom serial_of low ss → ((n : ℕ) → is_listed room d criteria (find_by serial_of n ss) ≡ false) → find fits ss ≡ None
  no_fit low [] rises none = refl
  no_fit low (x ∷ ss) rises none =
      let own : fits x ≡ false = (let h = none x.serial in let first : find_by serial_of x.serial (x ∷ ss) ≡ Some x = grind (arith, nat_tests) in sym (ap (is_listed room d criteria) first) ∙ h) in
      rw own (no_fit (suc x.serial) ss rises.1 (λ n. rest n (x.serial == n) refl (none n)))
    where
      rest : (n : ℕ) (b : Bool) → (x.serial == n) ≡ b → is_listed room d criteria (cond b (Some x) (find_by serial_of n ss)) ≡ false → is_listed room d criteria (find_by serial_of n ss) ≡ false
      rest n true here h = ap (is_listed room d criteria) (find_below serial_of (suc x.serial) ss n rises.1 (grind (arith, nat_tests, here)))
      rest n false other h = h

  first_fit : (low n : ℕ) (ss : List (RoomEntry R)) → RisesFrom serial_of low ss → is_listed room d criteria (find_by serial_of n ss) ≡ true
      → ((m : ℕ) → is_listed room d criteria (find_by serial_of m ss) ≡ true → n ≤ m) → find fits ss ≡ find_by serial_of n ss
  first_fit low n [] rises is least = absurd cc
  first_fit low n (x ∷ ss) rises is least = by_first (x.serial == n) refl is (λ h above. first_fit (suc x.serial) n ss rises.1 h above)
    where
      first : find_by serial_of x.serial (x ∷ ss) ≡ Some x
      first = grind (arith, nat_tests)

      by_first : (b : Bool) → (x.serial == n) ≡ b → is_listed room d criteria (cond b (Some x) (find_by serial_of n ss)) ≡ true
          → (is_listed room d criteria (find_by serial_of n ss) ≡ true → ((m : ℕ) → is_listed room d criteria (find_by serial_of m ss) ≡ true → n ≤ m) → find fits ss ≡ find_by serial_of n ss)
          → cond (fits x) (Some x) (find fits ss) ≡ cond b (Some x) (find_by serial_of n ss)
      by_first true here h rest = rw h refl
      by_first false other h rest = by_fit (fits x) refl
        where
          by_fit : (c : Bool) → fits x ≡ c → cond c (Some x) (find fits ss) ≡ find_by serial_of n ss
          by_fit true own = absurd (
              let below : n ≤ x.serial = least x.serial (ap (is_listed room d criteria) first ∙ own) in
              let none : find_by serial_of n ss ≡ None = find_below serial_of (suc x.serial) ss n rises.1 (grind (arith, nat_tests, below)) in
              let lost : is_listed room d criteria (find_by serial_of n ss) ≡ false = ap (is_listed room d criteria) none in cc)
          by_fit false own = rest h (λ m k. least m (later m (x.serial == m) refl k))
            where
              later : (m : ℕ) (b : Bool) → (x.serial == m) ≡ b → is_listed room d criteria (find_by serial_of m ss) ≡ true → is_listed room d criteria (cond b (Some x) (find_by serial_of m ss)) ≡ true
              later m true here k = absurd (
                  let none : find_by serial_of m ss ≡ None = find_below serial_of (suc x.serial) ss m rises.1 (grind (arith, nat_tests, here)) in
                  let lost : is_listed room d criteria (find_by serial_of m ss) ≡ false = ap (is_listed room d criteria) none in cc)
              later m false other k = k

  -- the first of the numbers that are listed is that of the oldest room
  pub oldest_is : (p : ℕ → Bool) (ss : List (RoomEntry R)) (o : Option ℕ) → RisesFrom serial_of 0 ss → ((n : ℕ) → p n ≡ is_listed room d criteria (find_by serial_of n ss)) → IsFirst p o → o ≡ option_map serial_of (find fits ss)
  oldest_is p ss None rises same first = sym (ap (option_map serial_of) (no_fit 0 ss rises (λ n. sym (same n) ∙ first n)))
  oldest_is p ss (Some n) rises same first = by_found (find_by serial_of n ss) refl
    where
      listed : is_listed room d criteria (find_by serial_of n ss) ≡ true
      listed = sym (same n) ∙ first.0

      found : find fits ss ≡ find_by serial_of n ss
      found = first_fit 0 n ss rises listed (λ m k. first.1 m (same m ∙ k))

      by_found : (o : Option (RoomEntry R)) → find_by serial_of n ss ≡ o → Some n ≡ option_map serial_of (find fits ss)
      by_found None is = absurd (let lost : is_listed room d criteria (find_by serial_of n ss) ≡ false = ap (is_listed room d criteria) is in cc listed)
      by_found (Some s) is = (let number : s.serial ≡ n = find_key serial_of n ss s is in sym (ap (option_map serial_of) (found ∙ is) ∙ ap Some number))

-- ---- what is listed

taken_cell : (a k o : Bool) → o ≡ (true && (a && k)) → cond (a && (k && true)) false o ≡ false
taken_cell true true o is = refl
taken_cell true false o is = is
taken_cell false k o is = is

added_cell : (a k o : Bool) → o ≡ false → cond (a && (k && true)) true o ≡ (a && k)
added_cell true true o is = refl
added_cell true false o is = is
added_cell false k o is = is

other_cell : (a k b o : Bool) → cond (a && (k && false)) b o ≡ o
other_cell true true b o = refl
other_cell true false b o = refl
other_cell false k b o = refl

module _ {R : Type 0} (room : R → RoomValue) where
  abbrev pub opens_of : RoomEntry R → Bool
  opens_of s = is_open (listing_of (room_in room s))

  abbrev pub matches : ℕ → List (List ℕ) → RoomEntry R → Bool
  matches d criteria s = (s.def == d) && bytes_eq (criteria_key s.criteria) (criteria_key criteria)

  -- how a room is listed
  pub listed_so : (d : ℕ) (criteria : List (List ℕ)) (s : RoomEntry R) → is_listed room d criteria (Some s) ≡ (opens_of s && matches d criteria s)
  listed_so d criteria s = ap (λ b. opens_of s && ((s.def == d) && b)) (sym (key_tells s.criteria criteria))

  -- nothing is listed of no rooms
  pub listed_none : (opens : List OpenRooms) → ((d : ℕ) (key : List ℕ) (n : ℕ) → is_open_in opens d key n ≡ false) → AreListed room [] opens
  listed_none opens none d few criteria n = none d (criteria_key criteria) n

  -- one room is another one, or comes, or goes; the others stay
  pub record AreElsewhere (n : ℕ) (ss now : List (RoomEntry R)) : Type 0 where
    pub others : (m : ℕ) → (n == m) ≡ false → find_by serial_of m now ≡ find_by serial_of m ss

  -- how a room of a number is listed: as that one, if at all
  abbrev pub IsListedAs : RoomEntry R → Bool → List (RoomEntry R) → Type 0
  IsListedAs t b ss = (d : ℕ) (criteria : List (List ℕ)) → is_listed room d criteria (find_by serial_of t.serial ss) ≡ (b && matches d criteria t)

  module _ (t : RoomEntry R) (ss now : List (RoomEntry R)) (olds news : List OpenRooms) (apart : AreElsewhere t.serial ss now) (listed : AreListed room ss olds) where
    elsewhere : (b : Bool) (d : ℕ) (criteria : List (List ℕ)) (n : ℕ) → d < length olds → (t.serial == n) ≡ false → Relisted t.def (criteria_key t.criteria) t.serial b olds news
        → is_open_in news d (criteria_key criteria) n ≡ is_listed room d criteria (find_by serial_of n now)
    elsewhere b d criteria n less other r =
        r.1 d (criteria_key criteria) n
        ∙ (ap (λ x. cond ((t.def == d) && (bytes_eq (criteria_key t.criteria) (criteria_key criteria) && x)) b (is_open_in olds d (criteria_key criteria) n)) other
        ∙ (other_cell (t.def == d) (bytes_eq (criteria_key t.criteria) (criteria_key criteria)) b (is_open_in olds d (criteria_key criteria) n)
        ∙ (listed d less criteria n ∙ ap (is_listed room d criteria) (sym (apart.others n other)))))

    own_number : (d : ℕ) (criteria : List (List ℕ)) (n : ℕ) → (t.serial == n) ≡ true → is_open_in news d (criteria_key criteria) t.serial ≡ is_listed room d criteria (find_by serial_of t.serial now)
        → is_open_in news d (criteria_key criteria) n ≡ is_listed room d criteria (find_by serial_of n now)
    own_number d criteria n here h =
        let number : t.serial ≡ n = grind (arith, nat_tests, here) in
        subst (λ m. is_open_in news d (criteria_key criteria) m ≡ is_listed room d criteria (find_by serial_of m now)) number h

    cell : (b : Bool) (d : ℕ) (criteria : List (List ℕ)) → Relisted t.def (criteria_key t.criteria) t.serial b olds news
        → is_open_in news d (criteria_key criteria) t.serial ≡ cond ((t.def == d) && (bytes_eq (criteria_key t.criteria) (criteria_key criteria) && true)) b (is_open_in olds d (criteria_key criteria) t.serial)
    cell b d criteria r =
        let self : (t.serial == t.serial) ≡ true = grind (arith, nat_tests) in
        r.1 d (criteria_key criteria) t.serial
        ∙ ap (λ x. cond ((t.def == d) && (bytes_eq (criteria_key t.criteria) (criteria_key criteria) && x)) b (is_open_in olds d (criteria_key criteria) t.serial)) self

    by_test : (P : ℕ → Type 0) (n : ℕ) → ((t.serial == n) ≡ true → P n) → ((t.serial == n) ≡ false → P n) → P n
    by_test P n here other = let go : (b : Bool) → (t.serial == n) ≡ b → P n = elim [ true ↦ here | false ↦ other ] in go (t.serial == n) refl

    -- it is listed no more
    pub listed_gone : IsListedAs t true ss → IsListedAs t false now → Relisted t.def (criteria_key t.criteria) t.serial false olds news → AreListed room now news
    listed_gone before after r d few criteria n =
        let less : d < length olds = subst (λ m. d < m) r.0 few in
        by_test (λ n. is_open_in news d (criteria_key criteria) n ≡ is_listed room d criteria (find_by serial_of n now)) n
        (λ here. own_number d criteria n here (cell false d criteria r
        ∙ (taken_cell (t.def == d) (bytes_eq (criteria_key t.criteria) (criteria_key criteria)) (is_open_in olds d (criteria_key criteria) t.serial) (listed d less criteria t.serial ∙ before d criteria)
        ∙ sym (after d criteria))))
        (λ other. elsewhere false d criteria n less other r)

    -- it is listed, and wasn't
    pub listed_new : IsListedAs t false ss → IsListedAs t true now → Relisted t.def (criteria_key t.criteria) t.serial true olds news → AreListed room now news
    listed_new before after r d few criteria n =
        let less : d < length olds = subst (λ m. d < m) r.0 few in
        by_test (λ n. is_open_in news d (criteria_key criteria) n ≡ is_listed room d criteria (find_by serial_of n now)) n
        (λ here. own_number d criteria n here (cell true d criteria r
        ∙ (added_cell (t.def == d) (bytes_eq (criteria_key t.criteria) (criteria_key criteria)) (is_open_in olds d (criteria_key criteria) t.serial) (listed d less criteria t.serial ∙ before d criteria)
        ∙ sym (after d criteria))))
        (λ other. elsewhere true d criteria n less other r)

    -- it is listed as before
    pub listed_same : (b : Bool) → IsListedAs t b ss → IsListedAs t b now → news ≡ olds → AreListed room now news
    listed_same b before after same d few criteria n =
        let less : d < length olds = subst (λ l. d < length l) same few in
        by_test (λ n. is_open_in news d (criteria_key criteria) n ≡ is_listed room d criteria (find_by serial_of n now)) n
        (λ here. own_number d criteria n here (ap (λ l. is_open_in l d (criteria_key criteria) t.serial) same ∙ (listed d less criteria t.serial ∙ (before d criteria ∙ sym (after d criteria)))))
        (λ other. ap (λ l. is_open_in l d (criteria_key criteria) n) same ∙ (listed d less criteria n ∙ ap (is_listed room d criteria) (sym (apart.others n other))))

    -- whichever
    pub listed_now : (was is : Bool) → IsListedAs t was ss → IsListedAs t is now → Relists t was is olds news → AreListed room now news
    listed_now true true before after same = listed_same true before after same
    listed_now false false before after same = listed_same false before after same
    listed_now true false before after r = listed_gone before after r
    listed_now false true before after r = listed_new before after r

  pub count_relists : (t : RoomEntry R) (was is : Bool) (olds news : List OpenRooms) → Relists t was is olds news → length news ≡ length olds
  count_relists t true true olds news same = ap length same
  count_relists t false false olds news same = ap length same
  count_relists t true false olds news r = r.0
  count_relists t false true olds news r = r.0

  -- ---- the room of a number is exchanged, added, or taken out

  pub elsewhere_put : (t : RoomEntry R) (ss : List (RoomEntry R)) → AreElsewhere t.serial ss (put serial_of t ss)
  elsewhere_put t ss = record { others = λ m other. find-put serial_of t ss m ∙ ap (λ b. cond b (Some t) (find_by serial_of m ss)) other }

  pub elsewhere_removed : (n : ℕ) (ss : List (RoomEntry R)) → AreElsewhere n ss (remove serial_of n ss)
  elsewhere_removed n ss = record { others = λ m other. find-remove serial_of n ss m ∙ ap (λ b. cond b None (find_by serial_of m ss)) other }

  pub elsewhere_added : (t : RoomEntry R) (ss : List (RoomEntry R)) → AreElsewhere t.serial ss (ss ++ t ∷ [])
  elsewhere_added t ss = record { others = λ m other. find-append serial_of ss (t ∷ []) m ∙ (ap (option_or (find_by serial_of m ss)) (ap (λ b. cond b (Some t) None) other) ∙ or_none (find_by serial_of m ss)) }
    where
      or_none : (o : Option (RoomEntry R)) → option_or o None ≡ o
      or_none None = refl
      or_none (Some s) = refl

  pub as_found : (t s : RoomEntry R) (ss : List (RoomEntry R)) → find_by serial_of t.serial ss ≡ Some s → s.def ≡ t.def → s.criteria ≡ t.criteria → IsListedAs t (opens_of s) ss
  as_found t s ss at def criteria_are d criteria =
      ap (is_listed room d criteria) at ∙ (listed_so d criteria s ∙ ap₂ (λ k l. opens_of s && ((k == d) && bytes_eq (criteria_key l) (criteria_key criteria))) def criteria_are)

  pub as_none : (t : RoomEntry R) (ss : List (RoomEntry R)) → find_by serial_of t.serial ss ≡ None → IsListedAs t false ss
  as_none t ss at d criteria = ap (is_listed room d criteria) at
