-- Lists and maps, read one value after another.
use Rattle.std.proofs.Common.{◌≡◌, ℕ, suc, ◌+◌, List, Some, Result, Ok, Err, refl, ap, ◌∙◌}
use Rattle.schema_model.specs.Reading.{◌>>=◌}
use Rattle.frame_model.specs.declared.fault.PackFault.{PackFault}
use Rattle.frame_model.specs.declared.fault.PackFault.TheVariants.{Short, Float, Extension, BadText, KeyNotText, TooDeep, Trailing, Reserved, Memory}
use Rattle.frame_model.specs.declared.form.Length.{Length}
use Rattle.frame_model.specs.PackData.{PackData, list, dict, PackItems, no_items, item, items_more, PackMembers, no_members, member, members_more}
use Rattle.frame_model.specs.Packs.{dict_at, items_at, key_at, length_at, list_at, members_at}
use Rattle.msgpack_lite.specs.Gives.{Gives}
use Rattle.msgpack_lite.proofs.EndLaws.{Reader}

-- ---- what was given is what is there

-- a fault of a part is the fault of the whole
pub gives-fault : {A B C D : Type 0} (v : A → B) (w : C → D) (f : PackFault) (part : Result (B × ℕ) PackFault) (all : Result (D × ℕ) PackFault) → Gives v (Err f) part → (part ≡ Err f → all ≡ Err f) → Gives w (Err f) all
gives-fault v w (Short n) part all h k = k h
gives-fault v w (Float n) part all h k = k h
gives-fault v w (Extension n) part all h k = k h
gives-fault v w (BadText n) part all h k = k h
gives-fault v w (KeyNotText n) part all h k = k h
gives-fault v w (TooDeep n) part all h k = k h
gives-fault v w (Trailing n) part all h k = k h
gives-fault v w (Reserved n) part all h k = k h
gives-fault v w Memory part all h k = tt

pub gives-is : {A B : Type 0} (v : A → B) (f : PackFault) (all : Result (B × ℕ) PackFault) → all ≡ Err f → Gives v (Err f) all
gives-is v (Short n) all h = h
gives-is v (Float n) all h = h
gives-is v (Extension n) all h = h
gives-is v (BadText n) all h = h
gives-is v (KeyNotText n) all h = h
gives-is v (TooDeep n) all h = h
gives-is v (Trailing n) all h = h
gives-is v (Reserved n) all h = h
gives-is v Memory all h = tt

-- ---- values

abbrev pub joined : PackItems → PackItems → PackItems
joined no_items es = es
joined (item d ds) es = item d (joined ds es)

-- what is read behind values that were read
abbrev pub before : PackItems → Result (PackItems × ℕ) PackFault → Result (PackItems × ℕ) PackFault
before ds (Ok r) = Ok (joined ds r.0, r.1)
before ds (Err f) = Err f

joined-more : (ds : PackItems) (d : PackData) (es : PackItems) → joined ds (item d es) ≡ joined (items_more ds d) es
joined-more no_items d es = refl
joined-more (item x ds) d es = ap (item x) (joined-more ds d es)

joined-none : (ds : PackItems) → joined ds no_items ≡ ds
joined-none no_items = refl
joined-none (item d ds) = ap (item d) (joined-none ds)

pub before-none : (r : Result (PackItems × ℕ) PackFault) → before no_items r ≡ r
before-none (Ok r) = refl
before-none (Err f) = refl

pub items-step : (f : Reader) (n m at next : ℕ) (d : PackData) (ds : PackItems) → n ≡ suc m → f at ≡ Ok (d, next) → before ds (items_at f n at) ≡ before (items_more ds d) (items_at f m next)
unfolding items_at
items-step f n m at next d ds h k =
    let rest : (r : Result (PackItems × ℕ) PackFault) → before ds (r >>= (λ x. Ok (item d x.0, x.1))) ≡ before (items_more ds d) r
    = elim [ Err e ↦ refl | Ok x ↦ ap (λ y. Ok (y, x.1)) (joined-more ds d x.0) ] in
    ap (λ x. before ds (items_at f x at)) h ∙ (ap (λ r. before ds (r >>= (λ e. items_at f m e.1 >>= (λ x. Ok (item e.0 x.0, x.1))))) k ∙ rest (items_at f m next))

pub items-fault : (f : Reader) (n m at : ℕ) (e : PackFault) (ds : PackItems) → n ≡ suc m → f at ≡ Err e → before ds (items_at f n at) ≡ Err e
unfolding items_at
items-fault f n m at e ds h k = ap (λ x. before ds (items_at f x at)) h ∙ ap (λ r. before ds (r >>= (λ e. items_at f m e.1 >>= (λ x. Ok (item e.0 x.0, x.1))))) k

pub items-none : (f : Reader) (n at : ℕ) (ds : PackItems) → n ≡ 0 → before ds (items_at f n at) ≡ Ok (ds, at)
unfolding items_at
items-none f n at ds h = ap (λ x. before ds (items_at f x at)) h ∙ ap (λ y. Ok (y, at)) (joined-none ds)

-- ---- keys with their values

abbrev pub members_joined : PackMembers → PackMembers → PackMembers
members_joined no_members es = es
members_joined (member k d ms) es = member k d (members_joined ms es)

abbrev pub behind : PackMembers → Result (PackMembers × ℕ) PackFault → Result (PackMembers × ℕ) PackFault
behind ms (Ok r) = Ok (members_joined ms r.0, r.1)
behind ms (Err f) = Err f

members_joined-more : (ms : PackMembers) (q : List ℕ) (d : PackData) (es : PackMembers) → members_joined ms (member q d es) ≡ members_joined (members_more ms q d) es
members_joined-more no_members q d es = refl
members_joined-more (member k x ms) q d es = ap (member k x) (members_joined-more ms q d es)

members_joined-none : (ms : PackMembers) → members_joined ms no_members ≡ ms
members_joined-none no_members = refl
members_joined-none (member k d ms) = ap (member k d) (members_joined-none ms)

pub behind-none : (r : Result (PackMembers × ℕ) PackFault) → behind no_members r ≡ r
behind-none (Ok r) = refl
behind-none (Err f) = refl

-- a key with its value, and then the rest
abbrev with_rest : Reader → List ℕ → ℕ → List ℕ × ℕ → Result (PackMembers × ℕ) PackFault
with_rest f bytes m k = f k.1 >>= (λ d. members_at f bytes m d.1 >>= (λ x. Ok (member k.0 d.0 x.0, x.1)))

pub members-step : (f : Reader) (bytes : List ℕ) (n m at middle next : ℕ) (q : List ℕ) (d : PackData) (ms : PackMembers) → n ≡ suc m → key_at bytes at ≡ Ok (q, middle) → f middle ≡ Ok (d, next)
    → behind ms (members_at f bytes n at) ≡ behind (members_more ms q d) (members_at f bytes m next)
unfolding members_at
members-step f bytes n m at middle next q d ms h key k =
    let rest : (r : Result (PackMembers × ℕ) PackFault) → behind ms (r >>= (λ x. Ok (member q d x.0, x.1))) ≡ behind (members_more ms q d) r
    = elim [ Err e ↦ refl | Ok x ↦ ap (λ y. Ok (y, x.1)) (members_joined-more ms q d x.0) ] in
    ap (λ x. behind ms (members_at f bytes x at)) h
    ∙ (ap (λ r. behind ms (r >>= with_rest f bytes m)) key
    ∙ (ap (λ r. behind ms (r >>= (λ d. members_at f bytes m d.1 >>= (λ x. Ok (member q d.0 x.0, x.1))))) k ∙ rest (members_at f bytes m next)))

pub members-key_fault : (f : Reader) (bytes : List ℕ) (n m at : ℕ) (e : PackFault) (ms : PackMembers) → n ≡ suc m → key_at bytes at ≡ Err e → behind ms (members_at f bytes n at) ≡ Err e
unfolding members_at
members-key_fault f bytes n m at e ms h key = ap (λ x. behind ms (members_at f bytes x at)) h ∙ ap (λ r. behind ms (r >>= with_rest f bytes m)) key

pub members-fault : (f : Reader) (bytes : List ℕ) (n m at middle : ℕ) (q : List ℕ) (e : PackFault) (ms : PackMembers) → n ≡ suc m → key_at bytes at ≡ Ok (q, middle) → f middle ≡ Err e → behind ms (members_at f bytes n at) ≡ Err e
unfolding members_at
members-fault f bytes n m at middle q e ms h key k =
    ap (λ x. behind ms (members_at f bytes x at)) h
    ∙ (ap (λ r. behind ms (r >>= with_rest f bytes m)) key ∙ ap (λ r. behind ms (r >>= (λ d. members_at f bytes m d.1 >>= (λ x. Ok (member q d.0 x.0, x.1))))) k)

pub members-none : (f : Reader) (bytes : List ℕ) (n at : ℕ) (ms : PackMembers) → n ≡ 0 → behind ms (members_at f bytes n at) ≡ Ok (ms, at)
unfolding members_at
members-none f bytes n at ms h = ap (λ x. behind ms (members_at f bytes x at)) h ∙ ap (λ y. Ok (y, at)) (members_joined-none ms)

-- ---- a list and a map

pub list-is : (f : Reader) (len : Length) (bytes : List ℕ) (at count start end : ℕ) (ds : PackItems) → length_at len bytes (at + 1) ≡ Ok (count, start) → items_at f count start ≡ Ok (ds, end) → list_at (Some f) len bytes at ≡ Ok (list ds, end)
unfolding list_at
list-is f len bytes at count start end ds h k = rw (h, k) refl

pub list-fault : (f : Reader) (len : Length) (bytes : List ℕ) (at count start : ℕ) (e : PackFault) → length_at len bytes (at + 1) ≡ Ok (count, start) → items_at f count start ≡ Err e → list_at (Some f) len bytes at ≡ Err e
unfolding list_at
list-fault f len bytes at count start e h k = rw (h, k) refl

pub list-length_fault : (f : Reader) (len : Length) (bytes : List ℕ) (at : ℕ) (e : PackFault) → length_at len bytes (at + 1) ≡ Err e → list_at (Some f) len bytes at ≡ Err e
unfolding list_at
list-length_fault f len bytes at e h = rw h refl

pub dict-is : (f : Reader) (len : Length) (bytes : List ℕ) (at count start end : ℕ) (ms : PackMembers) → length_at len bytes (at + 1) ≡ Ok (count, start) → members_at f bytes count start ≡ Ok (ms, end)
    → dict_at (Some f) len bytes at ≡ Ok (dict ms, end)
unfolding dict_at
dict-is f len bytes at count start end ms h k = rw (h, k) refl

pub dict-fault : (f : Reader) (len : Length) (bytes : List ℕ) (at count start : ℕ) (e : PackFault) → length_at len bytes (at + 1) ≡ Ok (count, start) → members_at f bytes count start ≡ Err e → dict_at (Some f) len bytes at ≡ Err e
unfolding dict_at
dict-fault f len bytes at count start e h k = rw (h, k) refl

pub dict-length_fault : (f : Reader) (len : Length) (bytes : List ℕ) (at : ℕ) (e : PackFault) → length_at len bytes (at + 1) ≡ Err e → dict_at (Some f) len bytes at ≡ Err e
unfolding dict_at
dict-length_fault f len bytes at e h = rw h refl
