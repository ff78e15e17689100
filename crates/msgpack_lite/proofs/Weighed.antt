-- A value that is read is no deeper than there are levels, and has no more in it than the bytes that were read.
use Rattle.std.proofs.Common.{refl, subst, ◌≡◌, ℕ, zero, suc, ◌+◌, ◌≤◌, Bool, true, false, cond, List, length, take, drop, Option, Some, None, Result, Ok, Err, arith}
use Rattle.std.specs.Prelude.{IfOk}
use Rattle.std.proofs.lemmas.List.{length-take}
use Rattle.std.specs.Int.{Width, w8, byte_len}
use Rattle.schema_model.specs.Reading.{◌>>=◌}
use Rattle.frame_model.specs.declared.fault.PackFault.{PackFault}
use Rattle.frame_model.specs.declared.fault.PackFault.TheVariants as fault
use Rattle.frame_model.specs.declared.form.Size.{Size}
use Rattle.frame_model.specs.declared.form.Length.{Length}
use Rattle.frame_model.specs.declared.form.Length.TheVariants.{Told, Behind}
use Rattle.frame_model.specs.declared.form.Form.{Form}
use Rattle.frame_model.specs.declared.form.Form.TheVariants as form
use Rattle.frame_model.specs.PackData.{PackData, PackItems, PackMembers, list, dict, text, binary}
use Rattle.frame_model.specs.Packs.{as_text, as_value, bytes_at, depth, dict_at, form_of, items_at, items_depth, key_at, key_of_form, length_at, list_at, most_levels, members_at, members_depth, pack_at, run_at, text_at, value_at, value_of_form, width_at, width_of}
use Rattle.msgpack_lite.specs.Weight.{IsWithin, items_weight, members_weight, weight}

-- what is read by a step and then another
then : {A B : Type 0} (P : A → Type 0) (Q : B → Type 0) (r : Result A PackFault) (f : A → Result B PackFault) → IfOk r P → ((a : A) → P a → IfOk (f a) Q) → IfOk (r >>= f) Q
then P Q (Ok a) f h k = k a h
then P Q (Err e) f h k = tt

-- what follows of what is read
so : {A : Type 0} (P Q : A → Type 0) (r : Result A PackFault) → ((a : A) → P a → Q a) → IfOk r P → IfOk r Q
so P Q (Ok a) f h = f a h
so P Q (Err e) f h = tt

-- what was read from a place on weighs no more than the bytes to the place after it
abbrev Spans : {A : Type 0} → (A → ℕ) → ℕ → A × ℕ → Type 0
Spans weighed at r = at + weighed r.0 ≤ r.1

-- and it is no deeper than there are levels
abbrev Holds : {A : Type 0} → (A → ℕ) → (A → ℕ) → ℕ → ℕ → A × ℕ → Type 0
Holds deep weighed levels at r = (deep r.0 ≤ levels) × (at + weighed r.0 ≤ r.1)

abbrev Value : ℕ → ℕ → PackData × ℕ → Type 0
Value = Holds depth weight

-- a text, bytes or a key, with one for itself
abbrev one_more : List ℕ → ℕ
one_more t = suc (length t)

-- ---- the parts of a value

width : (w : Width) (bytes : List ℕ) (at : ℕ) → IfOk (width_at w bytes at) (λ r. at + byte_len w ≤ r.1)
width w bytes at =
    let go : (b : Bool) (n : ℕ) → IfOk {T = ℕ × ℕ} (cond b (Err (fault.Short (length bytes))) (Ok (n, at + byte_len w))) (λ r. at + byte_len w ≤ r.1) = elim [ true ↦ λ n. tt | false ↦ λ n. omega arith ] in
    go _ _

run : (bytes : List ℕ) (at : ℕ) (n : ℕ × ℕ) → at ≤ n.1 → IfOk (bytes_at bytes n) (Spans length at)
run bytes at n h =
    let go : (b : Bool) → IfOk {T = List ℕ × ℕ} (cond b (Err (fault.Short (length bytes))) (Ok (take n.0 (drop n.1 bytes), n.1 + n.0))) (Spans length at) = elim [ true ↦ tt | false ↦ omega (arith, h, length-take n.0 (drop n.1 bytes)) ] in
    go _

len : (l : Length) (bytes : List ℕ) (at : ℕ) → IfOk (length_at l bytes at) (λ r. at ≤ r.1)
len (Told n) bytes at = omega arith
len (Behind size) bytes at = so (λ r. at + byte_len (width_of size) ≤ r.1) (λ r. at ≤ r.1) (width_at (width_of size) bytes at) (λ r h. omega (arith, h)) (width (width_of size) bytes at)

run_spans : (l : Length) (bytes : List ℕ) (at : ℕ) → IfOk (run_at l bytes at) (Spans length at)
unfolding run_at
run_spans l bytes at = then (λ n. at ≤ n.1) (Spans length at) (length_at l bytes at) (bytes_at bytes) (len l bytes at) (run bytes at)

texted : (at : ℕ) (x : List ℕ × ℕ) → Spans length (at + 1) x → IfOk (as_text at x) (Spans one_more at)
texted at x h =
    let go : (b : Bool) → IfOk {T = List ℕ × ℕ} (cond b (Ok x) (Err (fault.BadText at))) (Spans one_more at) = elim [ true ↦ omega (arith, h) | false ↦ tt ] in
    go _

text_spans : (l : Length) (bytes : List ℕ) (at : ℕ) → IfOk (text_at l bytes at) (Spans one_more at)
unfolding text_at
text_spans l bytes at = then (Spans length (at + 1)) (Spans one_more at) (run_at l bytes (at + 1)) (as_text at) (run_spans l bytes (at + 1)) (texted at)

key_form : (f : Form) (bytes : List ℕ) (at : ℕ) → IfOk (key_of_form f bytes at) (Spans one_more at)
key_form form.Nil bytes at = tt
key_form (form.Truth b) bytes at = tt
key_form (form.Small z) bytes at = tt
key_form (form.Unsigned s) bytes at = tt
key_form (form.Signed s) bytes at = tt
key_form (form.Text l) bytes at = text_spans l bytes at
key_form (form.Binary l) bytes at = tt
key_form (form.List l) bytes at = tt
key_form (form.Map l) bytes at = tt
key_form form.Float bytes at = tt
key_form form.Extension bytes at = tt
key_form form.Reserved bytes at = tt

-- the first byte of a key or a value
first_byte : (bytes : List ℕ) (at : ℕ) → IfOk (width_at w8 bytes at) (λ r. at + 1 ≤ r.1)
first_byte = width w8

key_spans : (bytes : List ℕ) (at : ℕ) → IfOk (key_at bytes at) (Spans one_more at)
unfolding key_at
key_spans bytes at = then (λ r. at + 1 ≤ r.1) (Spans one_more at) (width_at w8 bytes at) _ (first_byte bytes at) (λ first h. key_form (form_of first.0) bytes at)

-- ---- lists and maps

abbrev Reader : Type 0
Reader = ℕ → Result (PackData × ℕ) PackFault

items_hold : (f : Reader) (levels n at : ℕ) → ((i : ℕ) → IfOk (f i) (Value levels i)) → IfOk (items_at f n at) (Holds items_depth items_weight levels at)
unfolding items_at
items_hold f levels zero at h = omega arith
items_hold f levels (suc n) at h =
    then (Value levels at) (Holds items_depth items_weight levels at) (f at) _ (h at) (λ d k.
    then (Holds items_depth items_weight levels d.1) (Holds items_depth items_weight levels at) (items_at f n d.1) _ (items_hold f levels n d.1 h) (λ rest m. (omega (arith, k.0, m.0), omega (arith, k.1, m.1))))

members_hold : (f : Reader) (bytes : List ℕ) (levels n at : ℕ) → ((i : ℕ) → IfOk (f i) (Value levels i)) → IfOk (members_at f bytes n at) (Holds members_depth members_weight levels at)
unfolding members_at
members_hold f bytes levels zero at h = omega arith
members_hold f bytes levels (suc n) at h =
    then (Spans one_more at) (Holds members_depth members_weight levels at) (key_at bytes at) _ (key_spans bytes at) (λ key j.
    then (Value levels key.1) (Holds members_depth members_weight levels at) (f key.1) _ (h key.1) (λ d k.
    then (Holds members_depth members_weight levels d.1) (Holds members_depth members_weight levels at) (members_at f bytes n d.1) _ (members_hold f bytes levels n d.1 h) (λ rest m. (omega (arith, k.0, m.0), omega (arith, j, k.1, m.1)))))

as_list : (levels at : ℕ) (r : Result (PackItems × ℕ) PackFault) → IfOk r (Holds items_depth items_weight levels (at + 1)) → IfOk (as_value list r) (Value (suc levels) at)
as_list levels at (Ok r) h = (omega (arith, h.0), omega (arith, h.1))
as_list levels at (Err f) h = tt

as_dict : (levels at : ℕ) (r : Result (PackMembers × ℕ) PackFault) → IfOk r (Holds members_depth members_weight levels (at + 1)) → IfOk (as_value dict r) (Value (suc levels) at)
as_dict levels at (Ok r) h = (omega (arith, h.0), omega (arith, h.1))
as_dict levels at (Err f) h = tt

-- how what a list or a map holds is read, with so many levels
abbrev Inside : ℕ → Option Reader → Type 0
Inside levels None = Unit {0}
Inside zero (Some f) = ⊥
Inside (suc levels) (Some f) = (i : ℕ) → IfOk (f i) (Value levels i)

lists : (levels : ℕ) (o : Option Reader) (l : Length) (bytes : List ℕ) (at : ℕ) → Inside levels o → IfOk (list_at o l bytes at) (Value levels at)
unfolding list_at
lists levels None l bytes at h = tt
lists zero (Some f) l bytes at h = elim h [ ]
lists (suc levels) (Some f) l bytes at h =
    then (λ n. at + 1 ≤ n.1) (Value (suc levels) at) (length_at l bytes (at + 1)) _ (len l bytes (at + 1)) (λ n k.
    as_list levels at (items_at f n.0 n.1) (so (Holds items_depth items_weight levels n.1) (Holds items_depth items_weight levels (at + 1)) (items_at f n.0 n.1) (λ r m. (m.0, omega (arith, k, m.1))) (items_hold f levels n.0 n.1 h)))

dicts : (levels : ℕ) (o : Option Reader) (l : Length) (bytes : List ℕ) (at : ℕ) → Inside levels o → IfOk (dict_at o l bytes at) (Value levels at)
unfolding dict_at
dicts levels None l bytes at h = tt
dicts zero (Some f) l bytes at h = elim h [ ]
dicts (suc levels) (Some f) l bytes at h =
    then (λ n. at + 1 ≤ n.1) (Value (suc levels) at) (length_at l bytes (at + 1)) _ (len l bytes (at + 1)) (λ n k.
    as_dict levels at (members_at f bytes n.0 n.1) (so (Holds members_depth members_weight levels n.1) (Holds members_depth members_weight levels (at + 1)) (members_at f bytes n.0 n.1)
    (λ r m. (m.0, omega (arith, k, m.1))) (members_hold f bytes levels n.0 n.1 h)))

-- ---- a value

flat : {A : Type 0} (g : A → PackData) (weighed : A → ℕ) (levels at : ℕ) (r : Result (A × ℕ) PackFault) → ((a : A) → (depth (g a) ≡ 0) × (weight (g a) ≡ weighed a)) → IfOk r (Spans weighed at) → IfOk (as_value g r) (Value levels at)
flat g weighed levels at (Ok r) h k = (omega (arith, (h r.0).0), omega (arith, (h r.0).1, k))
flat g weighed levels at (Err f) h k = tt

-- a number behind a first byte
number : (size : Size) (bytes : List ℕ) (at : ℕ) → IfOk (width_at (width_of size) bytes (at + 1)) (Spans (λ n. 1) at)
number size bytes at = so (λ r. at + 1 + byte_len (width_of size) ≤ r.1) (Spans (λ n. 1) at) (width_at (width_of size) bytes (at + 1)) (λ r h. omega (arith, h)) (width (width_of size) bytes (at + 1))

-- bytes behind a first byte
bytes_span : (l : Length) (bytes : List ℕ) (at : ℕ) → IfOk (run_at l bytes (at + 1)) (Spans one_more at)
bytes_span l bytes at = so (Spans length (at + 1)) (Spans one_more at) (run_at l bytes (at + 1)) (λ r h. omega (arith, h)) (run_spans l bytes (at + 1))

by_form : (levels : ℕ) (o : Option Reader) (f : Form) (bytes : List ℕ) (at : ℕ) → Inside levels o → IfOk (value_of_form o f bytes at) (Value levels at)
by_form levels o form.Nil bytes at h = (omega arith, omega arith)
by_form levels o (form.Truth b) bytes at h = (omega arith, omega arith)
by_form levels o (form.Small z) bytes at h = (omega arith, omega arith)
by_form levels o (form.Unsigned s) bytes at h = flat _ (λ n. 1) levels at _ (λ a. (refl, refl)) (number s bytes at)
by_form levels o (form.Signed s) bytes at h = flat _ (λ n. 1) levels at _ (λ a. (refl, refl)) (number s bytes at)
by_form levels o (form.Text l) bytes at h = flat text one_more levels at _ (λ a. (refl, refl)) (text_spans l bytes at)
by_form levels o (form.Binary l) bytes at h = flat binary one_more levels at _ (λ a. (refl, refl)) (bytes_span l bytes at)
by_form levels o (form.List l) bytes at h = lists levels o l bytes at h
by_form levels o (form.Map l) bytes at h = dicts levels o l bytes at h
by_form levels o form.Float bytes at h = tt
by_form levels o form.Extension bytes at h = tt
by_form levels o form.Reserved bytes at h = tt

value : (levels : ℕ) (o : Option Reader) (bytes : List ℕ) (at : ℕ) → Inside levels o → IfOk (value_at o bytes at) (Value levels at)
unfolding value_at
value levels o bytes at h = then (λ r. at + 1 ≤ r.1) (Value levels at) (width_at w8 bytes at) _ (first_byte bytes at) (λ first k. by_form levels o (form_of first.0) bytes at h)

pub pack_holds : (levels : ℕ) (bytes : List ℕ) (at : ℕ) → IfOk (pack_at levels bytes at) (λ r. (depth r.0 ≤ levels) × (at + weight r.0 ≤ r.1))
unfolding pack_at
pack_holds zero bytes at = value zero None bytes at tt
pack_holds (suc n) bytes at = value (suc n) (Some (pack_at n bytes)) bytes at (pack_holds n bytes)

-- what bytes are, read from their start
pub is_within : (bytes : List ℕ) (d : PackData) (end : ℕ) → pack_at most_levels bytes 0 ≡ Ok (d, end) → end ≤ length bytes → IsWithin (length bytes) d
is_within bytes d end is h =
    let k = subst (λ r. IfOk r (Value most_levels 0)) is (pack_holds most_levels bytes 0) in
    (k.0, omega (arith, h, k.1))
