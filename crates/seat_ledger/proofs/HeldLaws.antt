-- Entries under their keys, as they are added, changed and taken out.
use Rattle.std.proofs.Common.{◌≡◌, ℕ, zero, suc, ◌+◌, ◌<◌, ◌≤◌, Bool, true, false, cond, not, ◌&&◌, ◌||◌, ◌==◌, List, [], ◌∷◌, ◌++◌, length, set, filter, map, refl, sym, ap, ap₂, ◌∙◌, arith, ltb, Option, Some, None}
use Rattle.std.specs.Prelude.{slice_get}
use Rattle.std.specs.List.{remove, find, list_any}
use Rattle.std.proofs.lemmas.Bool.Decides.{nat_tests}
use Rattle.std.proofs.lemmas.List.{length-append, length-set}
use Rattle.std.proofs.lemmas.List.Edits.{length-remove}
use Rattle.seat_ledger.specs.Slots.{IndexState, has_slot, is_key, one_of, IsFree}
use Rattle.seat_ledger.specs.Held.{holds, keyed, IsIndexed, IsOnce, passes}

module _ {X : Type 0} (k : X → Option ℕ) where
  -- ---- what stands under a key

  pub holds_more : (es : List X) (e : X) (q p : ℕ) → holds k (es ++ e ∷ []) q p ≡ (holds k es q p || ((p == length es) && is_key q (k e)))
  holds_more [] e q zero = grind (arith, nat_tests)
  holds_more [] e q (suc p) = grind (arith, nat_tests)
  holds_more (f ∷ es) e q zero = grind (arith, nat_tests)
  holds_more (f ∷ es) e q (suc p) =
      let same : (suc p == suc (length es)) ≡ (p == length es) = grind (arith, nat_tests) in
      holds_more es e q p ∙ ap (λ b. holds k es q p || (b && is_key q (k e))) (sym same)

  pub holds_set : (es : List X) (at : ℕ) (e : X) (q p : ℕ) → at < length es → holds k (set es at e) q p ≡ cond (p == at) (is_key q (k e)) (holds k es q p)
  holds_set [] at e q p l = absurd (omega arith)
  holds_set (f ∷ es) zero e q zero l = refl
  holds_set (f ∷ es) zero e q (suc p) l = grind (arith, nat_tests)
  holds_set (f ∷ es) (suc at) e q zero l = grind (arith, nat_tests)
  holds_set (f ∷ es) (suc at) e q (suc p) l =
      let same : (suc p == suc at) ≡ (p == at) = grind (arith, nat_tests) in
      holds_set es at e q p (omega arith) ∙ ap (λ b. cond b (is_key q (k e)) (holds k es q p)) (sym same)

  pub holds_removed : (es : List X) (at q p : ℕ) → at < length es → holds k (remove es at) q p ≡ holds k es q (cond (ltb p at) p (p + 1))
  holds_removed [] at q p l = absurd (omega arith)
  holds_removed (f ∷ es) zero q p l =
      let none : ltb p 0 ≡ false = grind (arith, nat_tests) in
      let up : p + 1 ≡ suc p = omega arith in
      sym (ap (λ b. holds k (f ∷ es) q (cond b p (p + 1))) none ∙ ap (holds k (f ∷ es) q) up)
  holds_removed (f ∷ es) (suc at) q zero l =
      let some : ltb 0 (suc at) ≡ true = grind (arith, nat_tests) in
      sym (ap (λ b. holds k (f ∷ es) q (cond b 0 (0 + 1))) some)
  holds_removed (f ∷ es) (suc at) q (suc p) l =
      let same : ltb (suc p) (suc at) ≡ ltb p at = grind (arith, nat_tests) in
      let go : (b : Bool) → holds k es q (cond b p (p + 1)) ≡ holds k (f ∷ es) q (cond b (suc p) (suc p + 1)) = elim [
        | true ↦ refl
        | false ↦ (let up : suc p + 1 ≡ suc (p + 1) = omega arith in sym (ap (holds k (f ∷ es) q) up))
      ] in
      holds_removed es at q p (omega arith) ∙ (go (ltb p at) ∙ ap (λ b. holds k (f ∷ es) q (cond b (suc p) (suc p + 1))) (sym same))

  pub holds_get : (es : List X) (at : ℕ) (e : X) (q : ℕ) → slice_get es at ≡ Some e → holds k es q at ≡ is_key q (k e)
  holds_get [] at e q h = cc
  holds_get (f ∷ es) zero e q h = (let same : f ≡ e = cc in ap (λ x. is_key q (k x)) same)
  holds_get (f ∷ es) (suc at) e q h = holds_get es at e q h

  pub holds_past : (es : List X) (q p : ℕ) → length es ≤ p → holds k es q p ≡ false
  holds_past [] q p l = refl
  holds_past (f ∷ es) q zero l = absurd (omega arith)
  holds_past (f ∷ es) q (suc p) l = holds_past es q p (omega arith)

  pub holds_within : (es : List X) (q p : ℕ) → holds k es q p ≡ true → p < length es
  holds_within [] q p h = cc
  holds_within (f ∷ es) q zero h = omega arith
  holds_within (f ∷ es) q (suc p) h = (let more = holds_within es q p h in omega (arith, more))

  -- ---- how many have a key

  pub keyed_more : (es : List X) (e : X) → keyed k (es ++ e ∷ []) ≡ keyed k es + one_of (k e)
  keyed_more [] e = omega arith
  keyed_more (f ∷ es) e = (let more = keyed_more es e in omega (arith, more))

  pub keyed_set : (es : List X) (at : ℕ) (old e : X) → slice_get es at ≡ Some old → keyed k (set es at e) + one_of (k old) ≡ keyed k es + one_of (k e)
  keyed_set [] at old e h = cc
  keyed_set (f ∷ es) zero old e h = (let same : f ≡ old = cc in let ones = ap (λ x. one_of (k x)) same in omega (arith, ones))
  keyed_set (f ∷ es) (suc at) old e h = (let more = keyed_set es at old e h in omega (arith, more))

  pub keyed_removed : (es : List X) (at : ℕ) (old : X) → slice_get es at ≡ Some old → keyed k (remove es at) + one_of (k old) ≡ keyed k es
  keyed_removed [] at old h = cc
  keyed_removed (f ∷ es) zero old h = (let same : f ≡ old = cc in let ones = ap (λ x. one_of (k x)) same in omega (arith, ones))
  keyed_removed (f ∷ es) (suc at) old h = (let more = keyed_removed es at old h in omega (arith, more))

  one_most : (o : Option ℕ) → one_of o ≤ 1
  one_most None = omega arith
  one_most (Some q) = omega arith

  pub keyed_few : (es : List X) → keyed k es ≤ length es
  keyed_few [] = omega arith
  keyed_few (e ∷ es) = omega (arith, one_most (k e), keyed_few es)

  -- ---- no two of one key

  pub once_more : (es : List X) (e : X) → IsOnce k es → ((q p : ℕ) → is_key q (k e) ≡ true → holds k es q p ≡ false) → IsOnce k (es ++ e ∷ [])
  once_more es e once new q i j h l =
      let at_i : (holds k es q i || ((i == length es) && is_key q (k e))) ≡ true = sym (holds_more es e q i) ∙ h in
      let at_j : (holds k es q j || ((j == length es) && is_key q (k e))) ≡ true = sym (holds_more es e q j) ∙ l in
      let go : (b c : Bool) → holds k es q i ≡ b → holds k es q j ≡ c → i ≡ j = elim [
        | true ↦ elim [
          | true ↦ λ f g. once q i j f g
          | false ↦ λ f g. (let is : is_key q (k e) ≡ true = grind (arith, at_j, g) in absurd (let no : (let t : Bool = true in t) ≡ false = sym f ∙ new q i is in cc))
        ]
        | false ↦ elim [
          | true ↦ λ f g. (let is : is_key q (k e) ≡ true = grind (arith, at_i, f) in absurd (let no : (let t : Bool = true in t) ≡ false = sym g ∙ new q j is in cc))
          | false ↦ λ f g. (let one : (i == length es) ≡ true = grind (arith, at_i, f) in let two : (j == length es) ≡ true = grind (arith, at_j, g) in grind (arith, nat_tests, one, two))
        ]
      ] in
      go (holds k es q i) (holds k es q j) refl refl

  pub once_set : (es : List X) (at : ℕ) (e : X) → at < length es → IsOnce k es → ((q p : ℕ) → is_key q (k e) ≡ true → holds k es q p ≡ true → p ≡ at) → IsOnce k (set es at e)
  once_set es at e l once own q i j h m =
      let at_i : cond (i == at) (is_key q (k e)) (holds k es q i) ≡ true = sym (holds_set es at e q i l) ∙ h in
      let at_j : cond (j == at) (is_key q (k e)) (holds k es q j) ≡ true = sym (holds_set es at e q j l) ∙ m in
      let go : (b c : Bool) → (i == at) ≡ b → (j == at) ≡ c → i ≡ j = elim [
        | true ↦ elim [
          | true ↦ λ f g. grind (arith, nat_tests, f, g)
          | false ↦ λ f g. (let is : is_key q (k e) ≡ true = grind (arith, at_i, f) in let there : holds k es q j ≡ true = grind (arith, at_j, g) in let same = own q j is there in grind (arith, nat_tests, f, same))
        ]
        | false ↦ elim [
          | true ↦ λ f g. (let is : is_key q (k e) ≡ true = grind (arith, at_j, g) in let there : holds k es q i ≡ true = grind (arith, at_i, f) in let same = own q i is there in grind (arith, nat_tests, g, same))
          | false ↦ λ f g. (let one : holds k es q i ≡ true = grind (arith, at_i, f) in let two : holds k es q j ≡ true = grind (arith, at_j, g) in once q i j one two)
        ]
      ] in
      go (i == at) (j == at) refl refl

  pub once_removed : (es : List X) (at : ℕ) → at < length es → IsOnce k es → IsOnce k (remove es at)
  once_removed es at l once q i j h m =
      let same = once q (cond (ltb i at) i (i + 1)) (cond (ltb j at) j (j + 1)) (sym (holds_removed es at q i l) ∙ h) (sym (holds_removed es at q j l) ∙ m) in
      let go : (b c : Bool) → ltb i at ≡ b → ltb j at ≡ c → cond b i (i + 1) ≡ cond c j (j + 1) → i ≡ j = elim [
        | true ↦ elim [ true ↦ λ f g e. e | false ↦ λ f g e. grind (arith, nat_tests, f, g, e) ]
        | false ↦ elim [ true ↦ λ f g e. grind (arith, nat_tests, f, g, e) | false ↦ λ f g e. omega (arith, e) ]
      ] in
      go (ltb i at) (ltb j at) refl refl same

  -- ---- what an index holds

  pub indexed_none : (i : IndexState) → i.slots ≡ [] → i.count ≡ 0 → IsIndexed k [] i
  indexed_none i h none = record { all = none; held = λ q p. ap (has_slot q p) h; counted = ap length h }

  pub free_behind : (es : List X) (i : IndexState) → IsIndexed k es i → IsFree (length es) i.slots
  free_behind es i is q = is.held q (length es) ∙ holds_past es q (length es) (omega arith)

  pub room_behind : (es : List X) (e : X) (i : IndexState) (room : ℕ) → IsIndexed k es i → length es < room → length i.slots + one_of (k e) ≤ room
  room_behind es e i room is l = omega (arith, is.counted, keyed_few es, one_most (k e))

  pub indexed_more : (es : List X) (e : X) (i j : IndexState) → IsIndexed k es i
      → ((q p : ℕ) → has_slot q p j.slots ≡ (has_slot q p i.slots || ((p == length es) && is_key q (k e)))) → length j.slots ≡ length i.slots + one_of (k e) → j.count ≡ i.count + 1
      → IsIndexed k (es ++ e ∷ []) j
  indexed_more es e i j is has len more =
      record {
        all = omega (arith, more, is.all, length-append es (e ∷ []));
        held = λ q p. has q p ∙ (ap (λ b. b || ((p == length es) && is_key q (k e))) (is.held q p) ∙ sym (holds_more es e q p));
        counted = omega (arith, len, is.counted, keyed_more es e);
      }

  pub only_at : (es : List X) (at : ℕ) (e : X) (i : IndexState) → IsIndexed k es i → slice_get es at ≡ Some e → (q : ℕ) → has_slot q at i.slots ≡ is_key q (k e)
  only_at es at e i is h q = is.held q at ∙ holds_get es at e q h

  pub room_set : (es : List X) (at : ℕ) (old e : X) (i : IndexState) (room : ℕ) → IsIndexed k es i → slice_get es at ≡ Some old → length (set es at e) ≤ room → length i.slots + one_of (k e) ≤ room + one_of (k old)
  room_set es at old e i room is h l = omega (arith, is.counted, keyed_few (set es at e), keyed_set es at old e h)

  pub indexed_set : (es : List X) (at : ℕ) (old e : X) (i j : IndexState) → IsIndexed k es i → slice_get es at ≡ Some old → at < length es
      → ((q p : ℕ) → has_slot q p j.slots ≡ cond (p == at) (is_key q (k e)) (has_slot q p i.slots)) → length j.slots + one_of (k old) ≡ length i.slots + one_of (k e) → j.count ≡ i.count
      → IsIndexed k (set es at e) j
  indexed_set es at old e i j is h l has len same =
      record {
        all = omega (arith, same, is.all, length-set es at e);
        held = λ q p. has q p ∙ (ap (cond (p == at) (is_key q (k e))) (is.held q p) ∙ sym (holds_set es at e q p l));
        counted = omega (arith, len, is.counted, keyed_set es at old e h);
      }

  pub indexed_removed : (es : List X) (at : ℕ) (old : X) (i j : IndexState) → IsIndexed k es i → slice_get es at ≡ Some old → at < length es
      → ((q p : ℕ) → has_slot q p j.slots ≡ has_slot q (cond (ltb p at) p (p + 1)) i.slots) → length j.slots + one_of (k old) ≡ length i.slots → j.count + 1 ≡ i.count
      → IsIndexed k (remove es at) j
  indexed_removed es at old i j is h l has len less =
      record {
        all = omega (arith, less, is.all, length-remove es at l);
        held = λ q p. has q p ∙ (is.held q (cond (ltb p at) p (p + 1)) ∙ sym (holds_removed es at q p l));
        counted = omega (arith, len, is.counted, keyed_removed es at old h);
      }

-- ---- what passes a test

module _ {X : Type 0} (p : X → Bool) where
  pub none_found : (es : List X) → ((j : ℕ) → passes p es j ≡ false) → find p es ≡ None
  none_found [] h = refl
  none_found (e ∷ es) h = ap (λ b. cond b (Some e) (find p es)) (h 0) ∙ none_found es (λ j. h (suc j))

  pub none_any : (es : List X) → ((j : ℕ) → passes p es j ≡ false) → list_any p es ≡ false
  none_any [] h = refl
  none_any (e ∷ es) h = ap (λ b. b || list_any p es) (h 0) ∙ none_any es (λ j. h (suc j))

  rest_only : (e : X) (es : List X) (at : ℕ) → ((j : ℕ) → passes p (e ∷ es) j ≡ (j == suc at)) → (j : ℕ) → passes p es j ≡ (j == at)
  rest_only e es at h j = (let same : (suc j == suc at) ≡ (j == at) = grind (arith, nat_tests) in h (suc j) ∙ same)

  rest_none : (e : X) (es : List X) → ((j : ℕ) → passes p (e ∷ es) j ≡ (j == 0)) → (j : ℕ) → passes p es j ≡ false
  rest_none e es h j = (let no : (suc j == 0) ≡ false = grind (arith, nat_tests) in h (suc j) ∙ no)

  first_only : (e : X) (es : List X) → ((j : ℕ) → passes p (e ∷ es) j ≡ (j == 0)) → p e ≡ true
  first_only e es h = (let yes : (0 == 0) ≡ true = grind (arith, nat_tests) in h 0 ∙ yes)

  first_not : (e : X) (es : List X) (at : ℕ) → ((j : ℕ) → passes p (e ∷ es) j ≡ (j == suc at)) → p e ≡ false
  first_not e es at h = (let no : (0 == suc at) ≡ false = grind (arith, nat_tests) in h 0 ∙ no)

  pub none_filtered : (es : List X) → ((j : ℕ) → passes p es j ≡ false) → filter (λ e. not (p e)) es ≡ es
  none_filtered [] h = refl
  none_filtered (e ∷ es) h = ap (λ b. cond (not b) (e ∷ filter (λ e. not (p e)) es) (filter (λ e. not (p e)) es)) (h 0) ∙ ap (λ l. e ∷ l) (none_filtered es (λ j. h (suc j)))

  pub none_mapped : (f : X → X) (es : List X) → ((j : ℕ) → passes p es j ≡ false) → map (λ e. cond (p e) (f e) e) es ≡ es
  none_mapped f [] h = refl
  none_mapped f (e ∷ es) h = ap₂ (λ x l. x ∷ l) (ap (λ b. cond b (f e) e) (h 0)) (none_mapped f es (λ j. h (suc j)))

  pub only_found : (es : List X) (at : ℕ) → ((j : ℕ) → passes p es j ≡ (j == at)) → find p es ≡ slice_get es at
  only_found [] at h = refl
  only_found (e ∷ es) zero h = ap (λ b. cond b (Some e) (find p es)) (first_only e es h)
  only_found (e ∷ es) (suc at) h = ap (λ b. cond b (Some e) (find p es)) (first_not e es at h) ∙ only_found es at (rest_only e es at h)

  pub only_any : (es : List X) (at : ℕ) → ((j : ℕ) → passes p es j ≡ (j == at)) → list_any p es ≡ true
  only_any [] at h = (let yes : (at == at) ≡ true = grind (arith, nat_tests) in h at ∙ yes)
  only_any (e ∷ es) zero h = ap (λ b. b || list_any p es) (first_only e es h)
  only_any (e ∷ es) (suc at) h = ap (λ b. b || list_any p es) (first_not e es at h) ∙ only_any es at (rest_only e es at h)

  pub only_filtered : (es : List X) (at : ℕ) → ((j : ℕ) → passes p es j ≡ (j == at)) → filter (λ e. not (p e)) es ≡ remove es at
  only_filtered [] at h = (let yes : (at == at) ≡ true = grind (arith, nat_tests) in absurd (let no : (let f : Bool = false in f) ≡ true = h at ∙ yes in cc))
  only_filtered (e ∷ es) zero h =
      ap (λ b. cond (not b) (e ∷ filter (λ e. not (p e)) es) (filter (λ e. not (p e)) es)) (first_only e es h) ∙ none_filtered es (rest_none e es h)
  only_filtered (e ∷ es) (suc at) h =
      ap (λ b. cond (not b) (e ∷ filter (λ e. not (p e)) es) (filter (λ e. not (p e)) es)) (first_not e es at h) ∙ ap (λ l. e ∷ l) (only_filtered es at (rest_only e es at h))

  pub only_mapped : (f : X → X) (es : List X) (at : ℕ) (old : X) → slice_get es at ≡ Some old → ((j : ℕ) → passes p es j ≡ (j == at)) → map (λ e. cond (p e) (f e) e) es ≡ set es at (f old)
  only_mapped f [] at old there h = cc
  only_mapped f (e ∷ es) zero old there h =
      let same : e ≡ old = cc in
      ap₂ (λ x l. x ∷ l) (ap (λ b. cond b (f e) e) (first_only e es h) ∙ ap f same) (none_mapped f es (rest_none e es h))
  only_mapped f (e ∷ es) (suc at) old there h =
      ap₂ (λ x l. x ∷ l) (ap (λ b. cond b (f e) e) (first_not e es at h)) (only_mapped f es at old there (rest_only e es at h))

  not_wider : (r : X → Bool) (e : X) → ((e : X) → r e ≡ true → p e ≡ true) → p e ≡ false → r e ≡ false
  not_wider r e narrow h =
      let go : (b : Bool) → r e ≡ b → r e ≡ false = elim [ true ↦ λ f. absurd (let no : (let t : Bool = true in t) ≡ false = sym (narrow e f) ∙ h in cc) | false ↦ λ f. f ] in
      go (r e) refl

  pub none_found_of : (r : X → Bool) (es : List X) → ((e : X) → r e ≡ true → p e ≡ true) → ((j : ℕ) → passes p es j ≡ false) → find r es ≡ None
  none_found_of r [] narrow h = refl
  none_found_of r (e ∷ es) narrow h = ap (λ b. cond b (Some e) (find r es)) (not_wider r e narrow (h 0)) ∙ none_found_of r es narrow (λ j. h (suc j))

  -- a narrower test finds that one, where it passes, and no other
  pub narrower_found : (r : X → Bool) (es : List X) (at : ℕ) (old : X) → ((e : X) → r e ≡ true → p e ≡ true) → slice_get es at ≡ Some old → ((j : ℕ) → passes p es j ≡ (j == at))
      → find r es ≡ cond (r old) (Some old) None
  narrower_found r [] at old narrow there h = cc
  narrower_found r (e ∷ es) zero old narrow there h =
      let same : e ≡ old = cc in
      ap (cond (r e) (Some e)) (none_found_of r es narrow (rest_none e es h)) ∙ ap (λ x. cond (r x) (Some x) None) same
  narrower_found r (e ∷ es) (suc at) old narrow there h =
      ap (λ b. cond b (Some e) (find r es)) (not_wider r e narrow (first_not e es at h)) ∙ narrower_found r es at old narrow there (rest_only e es at h)
