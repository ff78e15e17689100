-- What is found among entries by session, by token and by lapse, where it stands under its key.
use Rattle.std.proofs.Common.{◌≡◌, ℕ, zero, suc, ◌<◌, ◌≤◌, Bool, true, false, cond, ◌==◌, List, [], ◌∷◌, ◌++◌, length, set, refl, sym, ap, ap₂, subst, ◌∙◌, arith, ltb, leb, All, Option, Some, None}
use Rattle.std.specs.Prelude.{slice_get}
use Rattle.std.specs.List.{remove}
use Rattle.std.specs.Str.{bytes_eq}
use Rattle.std.proofs.lemmas.Bool.Decides.{nat_tests}
use Rattle.std.proofs.lemmas.List.Elements.{All-tail}
use Rattle.lists.proofs.SameBytes.{same_bytes, bytes_eq_self}
use Rattle.room_model.specs.declared.seat.Seat.{Seat}
use Rattle.room_model.specs.declared.seat.Seat.TheVariants.{Reserved, Taken, Kept}
use Rattle.room_model.specs.declared.seat.SeatEntry.{SeatEntry}
use Rattle.room_model.specs.Ledger.{Lapse, lapse_of, due_at, earlier, first_due, has_as_token, is_kept_by}
use Rattle.seat_ledger.specs.Slots.{comes_before, is_key}
use Rattle.seat_ledger.specs.Keys.{id_number, IsId, HasIdAsToken, AreIds, token_key, by_session, by_token, by_lapse}
use Rattle.seat_ledger.specs.Held.{holds, passes}
use Rattle.seat_ledger.specs.Places.{due_of}

-- ---- ids as numbers

first_byte : (b : ℕ) (bs : List ℕ) → All (λ x. x < 256) (b ∷ bs) → b < 256
first_byte b bs h = h 0 0 (omega arith)

pub same_number : (a b : List ℕ) → length a ≡ length b → All (λ x. x < 256) a → All (λ x. x < 256) b → id_number a ≡ id_number b → a ≡ b
same_number [] [] len h k e = refl
same_number [] (y ∷ ys) len h k e = absurd (omega (arith, len))
same_number (x ∷ xs) [] len h k e = absurd (omega (arith, len))
same_number (x ∷ xs) (y ∷ ys) len h k e =
    let low = first_byte x xs h in
    let high = first_byte y ys k in
    let first : x ≡ y = omega (arith, low, high, e) in
    let rest : id_number xs ≡ id_number ys = omega (arith, low, high, e) in
    ap₂ (λ z zs. z ∷ zs) first (same_number xs ys (omega (arith, len)) (All-tail (λ x. x < 256) x xs h) (All-tail (λ x. x < 256) y ys k) rest)

pub same_id : (a b : List ℕ) → IsId a → IsId b → (id_number a == id_number b) ≡ bytes_eq a b
same_id a b h k =
    let go : (c : Bool) → bytes_eq a b ≡ c → (id_number a == id_number b) ≡ c = elim [
      | true ↦ λ e. (let same = ap id_number (same_bytes a b e) in grind (arith, nat_tests, same))
      | false ↦ λ e. (let inner : (d : Bool) → (id_number a == id_number b) ≡ d → d ≡ false = elim [
        | true ↦ λ f. (let numbers : id_number a ≡ id_number b = grind (arith, nat_tests, f) in
            let same = same_number a b (h.0 ∙ sym k.0) h.1 k.1 numbers in
            let yes : bytes_eq a b ≡ true = subst (λ x. bytes_eq a x ≡ true) same (bytes_eq_self a) in absurd (let no : (let t : Bool = true in t) ≡ false = sym yes ∙ e in cc))
        | false ↦ λ f. refl
      ] in inner (id_number a == id_number b) refl)
    ] in
    go (bytes_eq a b) refl ∙ refl

-- ---- entries whose session and token are ids

pub ids_more : (es : List SeatEntry) (e : SeatEntry) → AreIds es → IsId e.session → HasIdAsToken e.seat → AreIds (es ++ e ∷ [])
ids_more [] e h s t = (s, t, tt)
ids_more (f ∷ es) e h s t = (h.0, h.1, ids_more es e h.2 s t)

pub ids_set : (es : List SeatEntry) (at : ℕ) (e : SeatEntry) → AreIds es → IsId e.session → HasIdAsToken e.seat → AreIds (set es at e)
ids_set [] at e h s t = h
ids_set (f ∷ es) zero e h s t = (s, t, h.2)
ids_set (f ∷ es) (suc at) e h s t = (h.0, h.1, ids_set es at e h.2 s t)

pub ids_removed : (es : List SeatEntry) (at : ℕ) → AreIds es → at < length es → AreIds (remove es at)
ids_removed [] at h l = absurd (omega arith)
ids_removed (f ∷ es) zero h l = h.2
ids_removed (f ∷ es) (suc at) h l = (h.0, h.1, ids_removed es at h.2 (omega arith))

pub id_at : (es : List SeatEntry) (at : ℕ) (e : SeatEntry) → AreIds es → slice_get es at ≡ Some e → IsId e.session
id_at [] at e h there = cc
id_at (f ∷ es) zero e h there = (let same : f ≡ e = cc in subst (λ (x : SeatEntry). IsId x.session) same h.0)
id_at (f ∷ es) (suc at) e h there = id_at es at e h.2 there

-- ---- by session

pub session_passes : (es : List SeatEntry) (session : List ℕ) (j : ℕ) → AreIds es → IsId session
    → passes (λ (e : SeatEntry). bytes_eq e.session session) es j ≡ holds by_session es (id_number session) j
session_passes [] session j h k = refl
session_passes (e ∷ es) session zero h k = sym (same_id e.session session h.0 k)
session_passes (e ∷ es) session (suc j) h k = session_passes es session j h.2 k

-- ---- by token

token_is : (seat : Seat) (token : List ℕ) → HasIdAsToken seat → IsId token → has_as_token token seat ≡ is_key (id_number token) (token_key seat)
token_is (Reserved lapse) token h k = refl
token_is (Taken t) token h k = sym (same_id t token h k)
token_is (Kept t lapse) token h k = sym (same_id t token h k)

pub token_passes : (es : List SeatEntry) (token : List ℕ) (j : ℕ) → AreIds es → IsId token
    → passes (λ (e : SeatEntry). has_as_token token e.seat) es j ≡ holds by_token es (id_number token) j
token_passes [] token j h k = refl
token_passes (e ∷ es) token zero h k = token_is e.seat token h.1 k
token_passes (e ∷ es) token (suc j) h k = token_passes es token j h.2 k

pub kept_is_token : (token : List ℕ) (seat : Seat) → is_kept_by token seat ≡ true → has_as_token token seat ≡ true
kept_is_token token (Reserved lapse) h = h
kept_is_token token (Taken t) h = absurd (let no : (let f : Bool = false in f) ≡ true = h in cc)
kept_is_token token (Kept t lapse) h = h

-- ---- by lapse

lapses_at : (lapse : Option ℕ) (q : ℕ) → lapse ≡ Some q → is_key q lapse ≡ true
lapses_at None q h = cc
lapses_at (Some r) q h = (let same : r ≡ q = cc in grind (arith, nat_tests, same))

nothing_due : (now : ℕ) (session : List ℕ) (lapse : Option ℕ) → ((q : ℕ) → is_key q lapse ≡ true → now < q) → due_at now session lapse ≡ []
nothing_due now session None h = refl
nothing_due now session (Some at) h =
    let later : now < at = h at (let yes : (at == at) ≡ true = grind (arith, nat_tests) in yes) in
    let no : leb at now ≡ false = grind (arith, nat_tests, later) in
    ap (λ b. cond b (record { session = session; at = at } ∷ []) []) no

pub none_due : (now : ℕ) (es : List SeatEntry) → ((q p : ℕ) → holds by_lapse es q p ≡ true → now < q) → due_of now es ≡ []
none_due now [] h = refl
none_due now (e ∷ es) h = ap₂ (λ a b. a ++ b) (nothing_due now e.session (lapse_of e.seat) (λ q. h q 0)) (none_due now es (λ q p. h q (suc p)))

-- the first due is no earlier than a moment
abbrev IsNoEarlier : ℕ → Option Lapse → Type 0
IsNoEarlier low None = Unit {0}
IsNoEarlier low (Some a) = low ≤ a.at

earlier_late : (low : ℕ) (a : Lapse) (o : Option Lapse) → low ≤ a.at → IsNoEarlier low o → IsNoEarlier low (Some (earlier a o))
earlier_late low a None h k = h
earlier_late low a (Some b) h k =
    let go : (t : Bool) → low ≤ (let x : Lapse = cond t b a in x).at = elim [ true ↦ k | false ↦ h ] in
    go (ltb b.at a.at)

onto_late : (low now : ℕ) (session : List ℕ) (lapse : Option ℕ) (rest : List Lapse) → ((q : ℕ) → is_key q lapse ≡ true → low ≤ q) → IsNoEarlier low (first_due rest)
    → IsNoEarlier low (first_due (due_at now session lapse ++ rest))
onto_late low now session None rest h k = k
onto_late low now session (Some at) rest h k =
    let late : low ≤ at = h at (let yes : (at == at) ≡ true = grind (arith, nat_tests) in yes) in
    let a : Lapse = record { session = session; at = at } in
    let go : (b : Bool) → IsNoEarlier low (first_due (cond b (a ∷ []) [] ++ rest)) = elim [ true ↦ earlier_late low a (first_due rest) late k | false ↦ k ] in
    go (leb at now)

all_late : (low now : ℕ) (es : List SeatEntry) → ((q p : ℕ) → holds by_lapse es q p ≡ true → low ≤ q) → IsNoEarlier low (first_due (due_of now es))
all_late low now [] h = tt
all_late low now (e ∷ es) h = onto_late low now e.session (lapse_of e.seat) (due_of now es) (λ q. h q 0) (all_late low now es (λ q p. h q (suc p)))

stays_first : (a : Lapse) (o : Option Lapse) → IsNoEarlier a.at o → earlier a o ≡ a
stays_first a None h = refl
stays_first a (Some b) h = (let no : ltb b.at a.at ≡ false = grind (arith, nat_tests, h) in ap (λ t. let x : Lapse = cond t b a in x) no)

due_first_one : (now key : ℕ) (session : List ℕ) (lapse : Option ℕ) (rest : List Lapse) → lapse ≡ Some key → key ≤ now → IsNoEarlier key (first_due rest)
    → first_due (due_at now session lapse ++ rest) ≡ Some (record { session = session; at = key })
due_first_one now key session None rest h l k = cc
due_first_one now key session (Some at) rest h l k =
    let same : at ≡ key = cc in
    let yes : leb at now ≡ true = grind (arith, nat_tests, l, same) in
    let a : Lapse = record { session = session; at = at } in
    ap (λ b. first_due (cond b (a ∷ []) [] ++ rest)) yes
    ∙ (ap Some (stays_first a (first_due rest) (subst (λ m. IsNoEarlier m (first_due rest)) (sym same) k)) ∙ ap (λ m. Some (record { session = session; at = m })) same)

goes_first : (a b : Lapse) → b.at < a.at → earlier a (Some b) ≡ b
goes_first a b h = (let yes : ltb b.at a.at ≡ true = grind (arith, nat_tests, h) in ap (λ t. let x : Lapse = cond t b a in x) yes)

due_later_one : (now : ℕ) (session : List ℕ) (lapse : Option ℕ) (rest : List Lapse) (b : Lapse) → ((q : ℕ) → is_key q lapse ≡ true → b.at < q) → first_due rest ≡ Some b
    → first_due (due_at now session lapse ++ rest) ≡ Some b
due_later_one now session None rest b h k = k
due_later_one now session (Some at) rest b h k =
    let late : b.at < at = h at (let yes : (at == at) ≡ true = grind (arith, nat_tests) in yes) in
    let a : Lapse = record { session = session; at = at } in
    let go : (t : Bool) → first_due (cond t (a ∷ []) [] ++ rest) ≡ Some b = elim [ true ↦ ap (λ o. Some (earlier a o)) k ∙ ap Some (goes_first a b late) | false ↦ k ] in
    go (leb at now)

pub first_of_due : (now key at : ℕ) (es : List SeatEntry) (e : SeatEntry) → slice_get es at ≡ Some e → lapse_of e.seat ≡ Some key → key ≤ now
    → ((q p : ℕ) → holds by_lapse es q p ≡ true → comes_before q p key at ≡ false)
    → first_due (due_of now es) ≡ Some (record { session = e.session; at = key })
first_of_due now key at [] e there is l h = cc
first_of_due now key zero (f ∷ es) e there is l h =
    let same : f ≡ e = cc in
    let late : (q p : ℕ) → holds by_lapse es q p ≡ true → key ≤ q = λ q p k. (let no = h q (suc p) k in grind (arith, nat_tests, no)) in
    let one : lapse_of f.seat ≡ Some key = ap (λ (x : SeatEntry). lapse_of x.seat) same ∙ is in
    due_first_one now key f.session (lapse_of f.seat) (due_of now es) one l (all_late key now es late) ∙ ap (λ (x : SeatEntry). Some (record { session = x.session; at = key })) same
first_of_due now key (suc at) (f ∷ es) e there is l h =
    let more = first_of_due now key at es e there is l (λ q p k. (let no = h q (suc p) k in let go : comes_before q p key at ≡ comes_before q (suc p) key (suc at) = grind (arith, nat_tests) in go ∙ no)) in
    due_later_one now f.session (lapse_of f.seat) (due_of now es) (record { session = e.session; at = key }) (λ q k. (let no = h q 0 k in grind (arith, nat_tests, no))) more
