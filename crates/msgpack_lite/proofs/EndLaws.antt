-- Where values, lists and maps end, one value after another.
use Rattle.std.proofs.Common.{◌≡◌, ℕ, zero, suc, ◌+◌, List, Some, Result, Ok, Err, refl, sym, ap, ◌∙◌}
use Rattle.std.specs.Int.{w8}
use Rattle.schema_model.specs.Reading.{◌>>=◌}
use Rattle.frame_model.specs.declared.fault.PackFault.{PackFault}
use Rattle.frame_model.specs.declared.form.Length.{Length}
use Rattle.frame_model.specs.PackData.{PackData, PackItems, PackMembers, item, member, list, dict}
use Rattle.frame_model.specs.Packs.{as_value, dict_at, form_of, items_at, key_at, length_at, list_at, members_at, pack_at, value_at, value_of_form, width_at}
use Rattle.msgpack_lite.specs.Ends.{end_of, inside}

-- what reads a value
abbrev pub Reader : Type 0
Reader = ℕ → Result (PackData × ℕ) PackFault

-- the place after so many values
abbrev pub ends_at : Reader → ℕ → ℕ → Result ℕ PackFault
ends_at f zero at = Ok at
ends_at f (suc n) at = end_of (f at) >>= ends_at f n

-- the place after a key with its value
abbrev pub member_end : Reader → List ℕ → ℕ → Result ℕ PackFault
member_end f bytes at = end_of (key_at bytes at) >>= (λ k. end_of (f k))

-- the place after so many of them
abbrev pub members_ends_at : Reader → List ℕ → ℕ → ℕ → Result ℕ PackFault
members_ends_at f bytes zero at = Ok at
members_ends_at f bytes (suc n) at = member_end f bytes at >>= members_ends_at f bytes n

pub items_end-is : (f : Reader) (n at : ℕ) → end_of (items_at f n at) ≡ ends_at f n at
unfolding items_at
items_end-is f zero at = refl
items_end-is f (suc n) at =
    let first : (r : Result (PackData × ℕ) PackFault) → end_of (r >>= (λ d. items_at f n d.1 >>= (λ rest. Ok (item d.0 rest.0, rest.1)))) ≡ (end_of r >>= ends_at f n)
    = elim [
      | Err e ↦ refl
      | Ok d ↦
          let rest : (r : Result (PackItems × ℕ) PackFault) → end_of (r >>= (λ rest. Ok (item d.0 rest.0, rest.1))) ≡ end_of r = elim [ Err e ↦ refl | Ok x ↦ refl ] in
          rest (items_at f n d.1) ∙ items_end-is f n d.1
    ] in
    first (f at)

pub members_end-is : (f : Reader) (bytes : List ℕ) (n at : ℕ) → end_of (members_at f bytes n at) ≡ members_ends_at f bytes n at
unfolding members_at
members_end-is f bytes zero at = refl
members_end-is f bytes (suc n) at =
    let value : (k : List ℕ × ℕ) (r : Result (PackData × ℕ) PackFault) → end_of (r >>= (λ d. members_at f bytes n d.1 >>= (λ rest. Ok (member k.0 d.0 rest.0, rest.1)))) ≡ (end_of r >>= members_ends_at f bytes n)
    = λ k. elim [
      | Err e ↦ refl
      | Ok d ↦
          let rest : (r : Result (PackMembers × ℕ) PackFault) → end_of (r >>= (λ rest. Ok (member k.0 d.0 rest.0, rest.1))) ≡ end_of r = elim [ Err e ↦ refl | Ok x ↦ refl ] in
          rest (members_at f bytes n d.1) ∙ members_end-is f bytes n d.1
    ] in
    let key : (r : Result (List ℕ × ℕ) PackFault) → end_of (r >>= (λ k. f k.1 >>= (λ d. members_at f bytes n d.1 >>= (λ rest. Ok (member k.0 d.0 rest.0, rest.1))))) ≡ ((end_of r >>= (λ k. end_of (f k))) >>= members_ends_at f bytes n)
    = elim [ Err e ↦ refl | Ok k ↦ value k (f k.1) ] in
    key (key_at bytes at)

-- ---- a list and a map

pub as_value-end : {A : Type 0} (g : A → PackData) (r : Result (A × ℕ) PackFault) → end_of (as_value g r) ≡ end_of r
as_value-end g (Ok r) = refl
as_value-end g (Err f) = refl

pub list_end-is : (f : Reader) (len : Length) (bytes : List ℕ) (at count start : ℕ) → length_at len bytes (at + 1) ≡ Ok (count, start) → end_of (list_at (Some f) len bytes at) ≡ end_of (items_at f count start)
unfolding list_at
list_end-is f len bytes at count start h = rw h (as_value-end list (items_at f count start))

pub list_end-fault : (f : Reader) (len : Length) (bytes : List ℕ) (at : ℕ) (e : PackFault) → length_at len bytes (at + 1) ≡ Err e → end_of (list_at (Some f) len bytes at) ≡ Err e
unfolding list_at
list_end-fault f len bytes at e h = rw h refl

pub dict_end-is : (f : Reader) (len : Length) (bytes : List ℕ) (at count start : ℕ) → length_at len bytes (at + 1) ≡ Ok (count, start) → end_of (dict_at (Some f) len bytes at) ≡ end_of (members_at f bytes count start)
unfolding dict_at
dict_end-is f len bytes at count start h = rw h (as_value-end dict (members_at f bytes count start))

pub dict_end-fault : (f : Reader) (len : Length) (bytes : List ℕ) (at : ℕ) (e : PackFault) → length_at len bytes (at + 1) ≡ Err e → end_of (dict_at (Some f) len bytes at) ≡ Err e
unfolding dict_at
dict_end-fault f len bytes at e h = rw h refl

-- ---- levels

pub pack_at-is : (levels : ℕ) (bytes : List ℕ) (at : ℕ) → pack_at levels bytes at ≡ value_at (inside levels bytes) bytes at
unfolding pack_at
pack_at-is zero bytes at = refl
pack_at-is (suc n) bytes at = refl

pub inside-is : (levels inner : ℕ) (bytes : List ℕ) → levels ≡ suc inner → inside levels bytes ≡ Some (pack_at inner bytes)
inside-is levels inner bytes h = ap (λ n. inside n bytes) h

-- a value by the form of its first byte
pub pack_at-form : (levels : ℕ) (bytes : List ℕ) (at first next : ℕ) → width_at w8 bytes at ≡ Ok (first, next) → pack_at levels bytes at ≡ value_of_form (inside levels bytes) (form_of first) bytes at
unfolding value_at
pack_at-form levels bytes at first next h = pack_at-is levels bytes at ∙ rw h refl

pub pack_at-fault : (levels : ℕ) (bytes : List ℕ) (at : ℕ) (e : PackFault) → width_at w8 bytes at ≡ Err e → pack_at levels bytes at ≡ Err e
unfolding value_at
pack_at-fault levels bytes at e h = pack_at-is levels bytes at ∙ rw h refl

-- ---- one value more

pub ends-step : (f : Reader) (n m at next : ℕ) → n ≡ suc m → Ok next ≡ end_of (f at) → ends_at f n at ≡ ends_at f m next
ends-step f n m at next h k = ap (λ x. ends_at f x at) h ∙ ap (λ r. r >>= ends_at f m) (sym k)

pub ends-fault : (f : Reader) (n m at : ℕ) (e : PackFault) → n ≡ suc m → Err e ≡ end_of (f at) → ends_at f n at ≡ Err e
ends-fault f n m at e h k = ap (λ x. ends_at f x at) h ∙ ap (λ r. r >>= ends_at f m) (sym k)

pub ends-none : (f : Reader) (n at : ℕ) → n ≡ 0 → ends_at f n at ≡ Ok at
ends-none f n at h = ap (λ x. ends_at f x at) h

pub members_ends-step : (f : Reader) (bytes : List ℕ) (n m at : ℕ) → n ≡ suc m → members_ends_at f bytes n at ≡ (member_end f bytes at >>= members_ends_at f bytes m)
members_ends-step f bytes n m at h = ap (λ x. members_ends_at f bytes x at) h

pub members_ends-none : (f : Reader) (bytes : List ℕ) (n at : ℕ) → n ≡ 0 → members_ends_at f bytes n at ≡ Ok at
members_ends-none f bytes n at h = ap (λ x. members_ends_at f bytes x at) h

pub member_end-is : (f : Reader) (bytes : List ℕ) (at next : ℕ) (k : List ℕ) → key_at bytes at ≡ Ok (k, next) → member_end f bytes at ≡ end_of (f next)
member_end-is f bytes at next k h = ap (λ r. end_of r >>= (λ n. end_of (f n))) h

pub member_end-fault : (f : Reader) (bytes : List ℕ) (at : ℕ) (e : PackFault) → key_at bytes at ≡ Err e → member_end f bytes at ≡ Err e
member_end-fault f bytes at e h = ap (λ r. end_of r >>= (λ n. end_of (f n))) h
