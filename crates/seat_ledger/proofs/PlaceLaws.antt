-- Entries with their indexes: what is found, and what holds as one is added, changed and taken out.
use Rattle.std.proofs.Common.{◌≡◌, ℕ, zero, suc, ◌+◌, ◌<◌, ◌≤◌, Bool, true, false, cond, ◌&&◌, ◌||◌, ◌==◌, List, [], ◌∷◌, ◌++◌, length, set, get_or, refl, sym, ap, ap₂, subst, ◌∙◌, arith, ltb, Option, Some, None}
use Rattle.std.specs.Prelude.{slice_get, is_some, nat_le}
use Rattle.std.specs.List.{remove}
use Rattle.std.specs.Str.{bytes_eq}
use Rattle.std.proofs.lemmas.Bool.Decides.{nat_tests}
use Rattle.std.proofs.lemmas.List.{length-append, length-set}
use Rattle.std.proofs.lemmas.List.Edits.{length-remove}
use Rattle.lists.proofs.SameBytes.{same_bytes}
use Rattle.room_model.specs.declared.seat.Seat.{Seat}
use Rattle.room_model.specs.declared.seat.Seat.TheVariants.{Reserved}
use Rattle.room_model.specs.declared.seat.SeatEntry.{SeatEntry}
use Rattle.room_model.specs.Seats.{Seats}
use Rattle.room_model.specs.Ledger.{expired, first_due, is_due, lapse_of, has_as_token, is_kept_by}
use Rattle.seat_ledger.specs.Calls.{LapsesAt}
use Rattle.seat_ledger.specs.Slots.{comes_before, IndexState, has_slot, is_key, one_of}
use Rattle.seat_ledger.specs.Keys.{id_number, IsId, HasIdAsToken, AreIds, token_key, by_session, by_token, by_lapse}
use Rattle.seat_ledger.specs.Held.{holds, passes, IsOnce}
use Rattle.seat_ledger.specs.Places.{due_of, IsKept, IsNew, IsPlaceOf, IsSessionPlace, IsOwnToken, IsPlaceWith, IsUnused, IsDuePlace}
use Rattle.seat_ledger.proofs.HeldLaws.{holds_get, holds_within, indexed_more, indexed_set, indexed_removed, once_more, once_set, once_removed, none_found, none_any, only_found, only_any, only_filtered, only_mapped, narrower_found, none_found_of}
use Rattle.seat_ledger.proofs.EntryLaws.{session_passes, token_passes, kept_is_token, ids_more, ids_set, ids_removed, id_at, none_due, first_of_due}

pub get_some : {X : Type 0} (es : List X) (at : ℕ) → at < length es → (e : X) × (slice_get es at ≡ Some e)
get_some [] at l = absurd (omega arith)
get_some (e ∷ es) zero l = (e, refl)
get_some (e ∷ es) (suc at) l = get_some es at (omega arith)

pub once_only : {X : Type 0} (k : X → Option ℕ) (es : List X) (q at j : ℕ) → IsOnce k es → holds k es q at ≡ true → holds k es q j ≡ (j == at)
once_only k es q at j once there =
    let go : (b : Bool) → holds k es q j ≡ b → b ≡ (j == at) = elim [
      | true ↦ λ e. (let same = once q j at e there in grind (arith, nat_tests, same))
      | false ↦ λ e. (let inner : (c : Bool) → (j == at) ≡ c → (let f : Bool = false in f) ≡ c = elim [
        | true ↦ λ f. (let same : j ≡ at = grind (arith, nat_tests, f) in sym e ∙ subst (λ i. holds k es q i ≡ true) (sym same) there)
        | false ↦ λ f. refl
      ] in inner (j == at) refl)
    ] in
    go (holds k es q j) refl

passes_get : {X : Type 0} (p : X → Bool) (es : List X) (at : ℕ) (e : X) → slice_get es at ≡ Some e → passes p es at ≡ p e
passes_get p [] at e h = cc
passes_get p (f ∷ es) zero e h = (let same : f ≡ e = cc in ap p same)
passes_get p (f ∷ es) (suc at) e h = passes_get p es at e h

pub key_is : (q : ℕ) (o : Option ℕ) → is_key q o ≡ true → o ≡ Some q
key_is q None h = absurd (let no : (let f : Bool = false in f) ≡ true = h in cc)
key_is q (Some r) h = (let same : r ≡ q = grind (arith, nat_tests, h) in ap Some same)

-- ---- what is found

pub new_is : (session : List ℕ) (es : List SeatEntry) → AreIds es → IsId session → IsNew session es → IsSessionPlace session es None
new_is session es ids is new = (new, none_found (λ (e : SeatEntry). bytes_eq e.session session) es (λ j. session_passes es session j ids is ∙ new j))

pub place_is : (session : List ℕ) (es : List SeatEntry) (at : ℕ) → AreIds es → IsOnce by_session es → IsId session → holds by_session es (id_number session) at ≡ true → IsPlaceOf session es at
place_is session es at ids once is there =
    let p : SeatEntry → Bool = λ (e : SeatEntry). bytes_eq e.session session in
    let only : (j : ℕ) → passes p es j ≡ (j == at) = λ j. session_passes es session j ids is ∙ once_only by_session es (id_number session) at j once there in
    let within = holds_within by_session es (id_number session) at there in
    let found = get_some es at within in
    let here : (at == at) ≡ true = grind (arith, nat_tests) in
    let name : (e : SeatEntry) → slice_get es at ≡ Some e → e.session ≡ session = λ e h. same_bytes e.session session (sym (passes_get p es at e h) ∙ (only at ∙ here)) in
    record {
      within = within;
      name = name;
      found = only_found p es at only;
      seated = λ seat. only_mapped p (λ (e : SeatEntry). record { session = e.session; seat = seat }) es at found.0 found.1 only ∙ ap (λ n. set es at (record { session = n; seat = seat })) (name found.0 found.1);
      left = only_filtered p es at only;
    }

pub unused_is : (token : List ℕ) (es : List SeatEntry) → AreIds es → IsId token → ((p : ℕ) → holds by_token es (id_number token) p ≡ false) → IsUnused token es
unused_is token es ids is none =
    let p : SeatEntry → Bool = λ (e : SeatEntry). has_as_token token e.seat in
    let no : (j : ℕ) → passes p es j ≡ false = λ j. token_passes es token j ids is ∙ none j in
    record { unheld = none; any = none_any p es no; kept = none_found_of p (λ (e : SeatEntry). is_kept_by token e.seat) es (λ e. kept_is_token token e.seat) no }

pub place_with_is : (token : List ℕ) (es : List SeatEntry) (at : ℕ) → AreIds es → IsOnce by_token es → IsId token → holds by_token es (id_number token) at ≡ true → IsPlaceWith token es at
place_with_is token es at ids once is there =
    let p : SeatEntry → Bool = λ (e : SeatEntry). has_as_token token e.seat in
    let only : (j : ℕ) → passes p es j ≡ (j == at) = λ j. token_passes es token j ids is ∙ once_only by_token es (id_number token) at j once there in
    record {
      within = holds_within by_token es (id_number token) at there;
      own = λ e h. (let here : (at == at) ≡ true = grind (arith, nat_tests) in sym (passes_get p es at e h) ∙ (only at ∙ here));
      any = only_any p es at only;
      kept = λ e found. narrower_found p (λ (e : SeatEntry). is_kept_by token e.seat) es at e (λ e. kept_is_token token e.seat) found only;
    }

pub due_is : (now key at : ℕ) (es : List SeatEntry) → holds by_lapse es key at ≡ true → key ≤ now → ((q p : ℕ) → holds by_lapse es q p ≡ true → comes_before q p key at ≡ false) → IsDuePlace now es (Some at)
due_is now key at es there l least =
    (holds_within by_lapse es key at there, λ e found. (key, first_of_due now key at es e found (key_is key (lapse_of e.seat) (sym (holds_get by_lapse es at e key found) ∙ there)) l least))

pub later_is : (now key at : ℕ) (es : List SeatEntry) → now < key → ((q p : ℕ) → holds by_lapse es q p ≡ true → comes_before q p key at ≡ false) → IsDuePlace now es None
later_is now key at es l least = ap first_due (none_due now es (λ q p h. (let no = least q p h in grind (arith, nat_tests, no, l))))

pub no_lapse_is : (now : ℕ) (es : List SeatEntry) → ((q p : ℕ) → holds by_lapse es q p ≡ false) → IsDuePlace now es None
no_lapse_is now es none = ap first_due (none_due now es (λ q p h. absurd (let no : (let t : Bool = true in t) ≡ false = sym h ∙ none q p in cc)))

-- the least lapse tells what lapses by a moment
pub next_is : (now key at : ℕ) (es : List SeatEntry) (e : SeatEntry) → holds by_lapse es key at ≡ true → ((q p : ℕ) → holds by_lapse es q p ≡ true → comes_before q p key at ≡ false) → slice_get es at ≡ Some e
    → is_some (first_due (due_of now es)) ≡ is_due now (lapse_of e.seat)
next_is now key at es e there least found =
    let lapse : lapse_of e.seat ≡ Some key = key_is key (lapse_of e.seat) (sym (holds_get by_lapse es at e key found) ∙ there) in
    let go : (b : Bool) → nat_le key now ≡ b → is_some (first_due (due_of now es)) ≡ b = elim [
      | true ↦ λ l. (let due = (due_is now key at es there (let low : key ≤ now = grind (arith, nat_tests, l) in low) least).1 e found in ap is_some due.1)
      | false ↦ λ l. ap is_some (later_is now key at es (let high : now < key = grind (arith, nat_tests, l) in high) least)
    ] in
    go (nat_le key now) refl ∙ sym (ap (is_due now) lapse)

-- where the first entry stands that lapses by a moment, expiring takes it
pub lapses_at : (now : ℕ) (s : Seats) (o : Option ℕ) → IsDuePlace now s.entries o → LapsesAt now s o
lapses_at now s None h = ap (expired s) h
lapses_at now s (Some at) h =
    let found = get_some s.entries at h.0 in
    (found.0, found.1, ap (expired s) (h.1 found.0 found.1).1)

-- what a read of an element gives
pub there_is : {X : Type 0} (es : List X) (at : ℕ) (e : X) → at < length es → e ≡ get_or es at e → slice_get es at ≡ Some e
there_is [] at e l h = absurd (omega arith)
there_is (f ∷ es) zero e l h = ap Some (sym h)
there_is (f ∷ es) (suc at) e l h = there_is es at e (omega arith) h

-- an entry is the only one of its session, and of its token
pub place_at : (es : List SeatEntry) (at : ℕ) (e : SeatEntry) → AreIds es → IsOnce by_session es → slice_get es at ≡ Some e → IsPlaceOf e.session es at
place_at es at e ids once there =
    let yes : (id_number e.session == id_number e.session) ≡ true = grind (arith, nat_tests) in
    place_is e.session es at ids once (id_at es at e ids there) (holds_get by_session es at e (id_number e.session) there ∙ yes)

pub own_at : (es : List SeatEntry) (at : ℕ) (e : SeatEntry) → IsOnce by_token es → slice_get es at ≡ Some e → IsOwnToken e.seat es at
own_at es at e once there q p h k = once q p at k (holds_get by_token es at e q there ∙ h)

-- ---- what holds

pub kept_more : (max capacity more at number moment : ℕ) (es : List SeatEntry) (session : List ℕ) (lapse : ℕ) (s t l u v w : IndexState)
    → IsKept max capacity es s t l → length es < max → IsNew session es → IsId session → at ≡ length es → number ≡ id_number session → moment ≡ lapse → capacity ≤ more
    → s.room ≤ u.room → t.room ≤ v.room → l.room ≤ w.room → u.count ≡ s.count + 1 → v.count ≡ t.count + 1 → w.count ≡ l.count + 1
    → ((q p : ℕ) → has_slot q p u.slots ≡ (has_slot q p s.slots || ((p == at) && (number == q)))) → length u.slots ≡ length s.slots + 1
    → v.slots ≡ t.slots
    → ((q p : ℕ) → has_slot q p w.slots ≡ (has_slot q p l.slots || ((p == at) && (moment == q)))) → length w.slots ≡ length l.slots + 1
    → IsKept max more (es ++ record { session = session; seat = Reserved lapse } ∷ []) u v w
kept_more max capacity more at number moment es session lapse s t l u v w is few new id end same_number same_moment up u_up v_up w_up u_more v_more w_more u_has u_len v_same w_has w_len =
    let e : SeatEntry = record { session = session; seat = Reserved lapse } in
    let same : (b c : Bool) → b ≡ (b || (c && false)) = elim [ true ↦ λ c. refl | false ↦ elim [ true ↦ refl | false ↦ refl ] ] in
    record {
      most = is.most;
      few = omega (arith, few, length-append es (e ∷ []));
      room = omega (arith, is.room, up);
      session_room = omega (arith, is.session_room, u_up);
      token_room = omega (arith, is.token_room, v_up);
      lapse_room = omega (arith, is.lapse_room, w_up);
      under_session = indexed_more by_session es e s u is.under_session (λ q p. u_has q p ∙ ap₂ (λ a n. has_slot q p s.slots || ((p == a) && (n == q))) end same_number) u_len u_more;
      under_token = indexed_more by_token es e t v is.under_token (λ q p. ap (has_slot q p) v_same ∙ same (has_slot q p t.slots) (p == length es)) (omega (arith, ap length v_same)) v_more;
      under_lapse = indexed_more by_lapse es e l w is.under_lapse (λ q p. w_has q p ∙ ap₂ (λ a n. has_slot q p l.slots || ((p == a) && (n == q))) end same_moment) w_len w_more;
      one_session = once_more by_session es e is.one_session (λ q p h. (let same : id_number session ≡ q = grind (arith, nat_tests, h) in subst (λ n. holds by_session es n p ≡ false) same (new p)));
      one_token = once_more by_token es e is.one_token (λ q p h. absurd (let no : (let f : Bool = false in f) ≡ true = h in cc));
      ids = ids_more es e is.ids id tt;
    }

pub kept_set : (max capacity at : ℕ) (es : List SeatEntry) (old : SeatEntry) (seat : Seat) (s t l u v : IndexState)
    → IsKept max capacity es s t l → at < length es → slice_get es at ≡ Some old → IsOwnToken seat es at → HasIdAsToken seat → t.room ≤ u.room → l.room ≤ v.room → u.count ≡ t.count → v.count ≡ l.count
    → ((q p : ℕ) → has_slot q p u.slots ≡ cond (p == at) (is_key q (token_key seat)) (has_slot q p t.slots)) → length u.slots + one_of (token_key old.seat) ≡ length t.slots + one_of (token_key seat)
    → ((q p : ℕ) → has_slot q p v.slots ≡ cond (p == at) (is_key q (lapse_of seat)) (has_slot q p l.slots)) → length v.slots + one_of (lapse_of old.seat) ≡ length l.slots + one_of (lapse_of seat)
    → IsKept max capacity (set es at (record { session = old.session; seat = seat })) s u v
kept_set max capacity at es old seat s t l u v is within there own id u_up v_up u_same v_same u_has u_len v_has v_len =
    let e : SeatEntry = record { session = old.session; seat = seat } in
    let same : (q p : ℕ) → has_slot q p s.slots ≡ cond (p == at) (is_key q (by_session e)) (has_slot q p s.slots) = λ q p. (
    let go : (b : Bool) → (p == at) ≡ b → has_slot q p s.slots ≡ cond b (is_key q (by_session e)) (has_slot q p s.slots) = elim [
      | true ↦ λ f. (let here : p ≡ at = grind (arith, nat_tests, f) in
          is.under_session.held q p ∙ (ap (holds by_session es q) here ∙ holds_get by_session es at old q there))
      | false ↦ λ f. refl
    ] in go (p == at) refl) in
    record {
      most = is.most;
      few = omega (arith, is.few, length-set es at e);
      room = is.room;
      session_room = is.session_room;
      token_room = omega (arith, is.token_room, u_up);
      lapse_room = omega (arith, is.lapse_room, v_up);
      under_session = indexed_set by_session es at old e s s is.under_session there within same (omega arith) refl;
      under_token = indexed_set by_token es at old e t u is.under_token there within u_has u_len u_same;
      under_lapse = indexed_set by_lapse es at old e l v is.under_lapse there within v_has v_len v_same;
      one_session = once_set by_session es at e within is.one_session (λ q p h k. is.one_session q p at k (holds_get by_session es at old q there ∙ h));
      one_token = once_set by_token es at e within is.one_token own;
      ids = ids_set es at e is.ids (id_at es at old is.ids there) id;
    }

pub kept_removed : (max capacity at : ℕ) (es : List SeatEntry) (old : SeatEntry) (s t l u v w : IndexState)
    → IsKept max capacity es s t l → at < length es → slice_get es at ≡ Some old → s.room ≤ u.room → t.room ≤ v.room → l.room ≤ w.room → u.count + 1 ≡ s.count → v.count + 1 ≡ t.count → w.count + 1 ≡ l.count
    → ((q p : ℕ) → has_slot q p u.slots ≡ has_slot q (cond (ltb p at) p (p + 1)) s.slots) → length u.slots + 1 ≡ length s.slots
    → ((q p : ℕ) → has_slot q p v.slots ≡ has_slot q (cond (ltb p at) p (p + 1)) t.slots) → length v.slots + one_of (token_key old.seat) ≡ length t.slots
    → ((q p : ℕ) → has_slot q p w.slots ≡ has_slot q (cond (ltb p at) p (p + 1)) l.slots) → length w.slots + one_of (lapse_of old.seat) ≡ length l.slots
    → IsKept max capacity (remove es at) u v w
kept_removed max capacity at es old s t l u v w is within there u_up v_up w_up u_less v_less w_less u_has u_len v_has v_len w_has w_len =
    record {
      most = is.most;
      few = omega (arith, is.few, length-remove es at within);
      room = is.room;
      session_room = omega (arith, is.session_room, u_up);
      token_room = omega (arith, is.token_room, v_up);
      lapse_room = omega (arith, is.lapse_room, w_up);
      under_session = indexed_removed by_session es at old s u is.under_session there within u_has u_len u_less;
      under_token = indexed_removed by_token es at old t v is.under_token there within v_has v_len v_less;
      under_lapse = indexed_removed by_lapse es at old l w is.under_lapse there within w_has w_len w_less;
      one_session = once_removed by_session es at within is.one_session;
      one_token = once_removed by_token es at within is.one_token;
      ids = ids_removed es at is.ids within;
    }
