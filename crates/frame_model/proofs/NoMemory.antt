-- Bytes alone never want memory: no reading of them is that fault.
use Rattle.std.proofs.Common.{◌≡◌, ℕ, zero, suc, ◌+◌, Bool, true, false, cond, List, length, Option, Some, None, Result, Ok, Err, refl, ap, ◌∙◌, arith}
use Rattle.std.specs.Prelude.{nat_lt, slice_get}
use Rattle.std.specs.Str.{is_utf8}
use Rattle.std.specs.Int.{Width, w8}
use Rattle.schema_model.specs.Reading.{◌>>=◌}
use Rattle.frame_model.specs.declared.fault.PackFault.{PackFault}
use Rattle.frame_model.specs.declared.fault.PackFault.TheVariants as fault
use Rattle.frame_model.specs.declared.form.Length.{Length}
use Rattle.frame_model.specs.declared.form.Length.TheVariants.{Told, Behind}
use Rattle.frame_model.specs.declared.form.Form.{Form}
use Rattle.frame_model.specs.declared.form.Form.TheVariants as form
use Rattle.frame_model.specs.PackData.{PackData, PackItems, item, PackMembers, member, list, dict}
use Rattle.frame_model.specs.Packs.{all_read, as_text, as_value, bytes_at, dict_at, form_of, items_at, key_at, key_of_form, length_at, list_at, members_at, most_levels, pack_at, read_pack, run_at, text_at, value_at, value_of_form, width_at, width_of}

-- a fault that isn't out of memory, or no fault
abbrev pub Reads : {A : Type 0} → Result A PackFault → Type 0
Reads (Ok a) = Unit {0}
Reads (Err fault.Memory) = ⊥
Reads (Err f) = Unit {0}

then : {A B : Type 0} (r : Result A PackFault) (f : A → Result B PackFault) → Reads r → ((a : A) → Reads (f a)) → Reads (r >>= f)
then (Ok a) f h k = k a
then (Err (fault.Short n)) f h k = tt
then (Err (fault.Float n)) f h k = tt
then (Err (fault.Extension n)) f h k = tt
then (Err (fault.BadText n)) f h k = tt
then (Err (fault.KeyNotText n)) f h k = tt
then (Err (fault.TooDeep n)) f h k = tt
then (Err (fault.Trailing n)) f h k = tt
then (Err (fault.Reserved n)) f h k = tt
then (Err fault.Memory) f h k = elim h [ ]

valued : {A : Type 0} (g : A → PackData) (r : Result (A × ℕ) PackFault) → Reads r → Reads (as_value g r)
valued g (Ok a) h = tt
valued g (Err (fault.Short n)) h = tt
valued g (Err (fault.Float n)) h = tt
valued g (Err (fault.Extension n)) h = tt
valued g (Err (fault.BadText n)) h = tt
valued g (Err (fault.KeyNotText n)) h = tt
valued g (Err (fault.TooDeep n)) h = tt
valued g (Err (fault.Trailing n)) h = tt
valued g (Err (fault.Reserved n)) h = tt
valued g (Err fault.Memory) h = elim h [ ]

width : (w : Width) (bytes : List ℕ) (at : ℕ) → Reads (width_at w bytes at)
width w bytes at =
    let go : (b : Bool) (n : ℕ × ℕ) → Reads {A = ℕ × ℕ} (cond b (Err (fault.Short (length bytes))) (Ok n)) = elim [ true ↦ λ n. tt | false ↦ λ n. tt ] in
    go _ _

run : (bytes : List ℕ) (n : ℕ × ℕ) → Reads (bytes_at bytes n)
run bytes n =
    let go : (b : Bool) (x : List ℕ × ℕ) → Reads {A = List ℕ × ℕ} (cond b (Err (fault.Short (length bytes))) (Ok x)) = elim [ true ↦ λ x. tt | false ↦ λ x. tt ] in
    go _ _

len : (l : Length) (bytes : List ℕ) (at : ℕ) → Reads (length_at l bytes at)
len (Told n) bytes at = tt
len (Behind size) bytes at = width (width_of size) bytes at

run_reads : (l : Length) (bytes : List ℕ) (at : ℕ) → Reads (run_at l bytes at)
unfolding run_at
run_reads l bytes at = then (length_at l bytes at) (bytes_at bytes) (len l bytes at) (run bytes)

texted : (at : ℕ) (x : List ℕ × ℕ) → Reads (as_text at x)
texted at x =
    let go : (b : Bool) → Reads {A = List ℕ × ℕ} (cond b (Ok x) (Err (fault.BadText at))) = elim [ true ↦ tt | false ↦ tt ] in
    go _

text_reads : (l : Length) (bytes : List ℕ) (at : ℕ) → Reads (text_at l bytes at)
unfolding text_at
text_reads l bytes at = then (run_at l bytes (at + 1)) (as_text at) (run_reads l bytes (at + 1)) (texted at)

key_form : (f : Form) (bytes : List ℕ) (at : ℕ) → Reads (key_of_form f bytes at)
key_form form.Nil bytes at = tt
key_form (form.Truth b) bytes at = tt
key_form (form.Small z) bytes at = tt
key_form (form.Unsigned s) bytes at = tt
key_form (form.Signed s) bytes at = tt
key_form (form.Text l) bytes at = text_reads l bytes at
key_form (form.Binary l) bytes at = tt
key_form (form.List l) bytes at = tt
key_form (form.Map l) bytes at = tt
key_form form.Float bytes at = tt
key_form form.Extension bytes at = tt
key_form form.Reserved bytes at = tt

key : (bytes : List ℕ) (at : ℕ) → Reads (key_at bytes at)
unfolding key_at
key bytes at = then (width_at w8 bytes at) _ (width w8 bytes at) (λ first. key_form (form_of first.0) bytes at)

items : (f : ℕ → Result (PackData × ℕ) PackFault) (n at : ℕ) → ((i : ℕ) → Reads (f i)) → Reads (items_at f n at)
unfolding items_at
items f zero at h = tt
items f (suc n) at h = then (f at) _ (h at) (λ d. then (items_at f n d.1) _ (items f n d.1 h) (λ rest. tt))

members : (f : ℕ → Result (PackData × ℕ) PackFault) (bytes : List ℕ) (n at : ℕ) → ((i : ℕ) → Reads (f i)) → Reads (members_at f bytes n at)
unfolding members_at
members f bytes zero at h = tt
members f bytes (suc n) at h = then (key_at bytes at) _ (key bytes at) (λ k. then (f k.1) _ (h k.1) (λ d. then (members_at f bytes n d.1) _ (members f bytes n d.1 h) (λ rest. tt)))

-- what a list or a map holds is read without it
abbrev Inside : Option (ℕ → Result (PackData × ℕ) PackFault) → Type 0
Inside None = Unit {0}
Inside (Some f) = (i : ℕ) → Reads (f i)

lists : (o : Option (ℕ → Result (PackData × ℕ) PackFault)) (l : Length) (bytes : List ℕ) (at : ℕ) → Inside o → Reads (list_at o l bytes at)
unfolding list_at
lists None l bytes at h = tt
lists (Some f) l bytes at h = then (length_at l bytes (at + 1)) _ (len l bytes (at + 1)) (λ n. valued list (items_at f n.0 n.1) (items f n.0 n.1 h))

dicts : (o : Option (ℕ → Result (PackData × ℕ) PackFault)) (l : Length) (bytes : List ℕ) (at : ℕ) → Inside o → Reads (dict_at o l bytes at)
unfolding dict_at
dicts None l bytes at h = tt
dicts (Some f) l bytes at h = then (length_at l bytes (at + 1)) _ (len l bytes (at + 1)) (λ n. valued dict (members_at f bytes n.0 n.1) (members f bytes n.0 n.1 h))

by_form : (o : Option (ℕ → Result (PackData × ℕ) PackFault)) (f : Form) (bytes : List ℕ) (at : ℕ) → Inside o → Reads (value_of_form o f bytes at)
by_form o form.Nil bytes at h = tt
by_form o (form.Truth b) bytes at h = tt
by_form o (form.Small z) bytes at h = tt
by_form o (form.Unsigned s) bytes at h = valued _ (width_at (width_of s) bytes (at + 1)) (width (width_of s) bytes (at + 1))
by_form o (form.Signed s) bytes at h = valued _ (width_at (width_of s) bytes (at + 1)) (width (width_of s) bytes (at + 1))
by_form o (form.Text l) bytes at h = valued _ (text_at l bytes at) (text_reads l bytes at)
by_form o (form.Binary l) bytes at h = valued _ (run_at l bytes (at + 1)) (run_reads l bytes (at + 1))
by_form o (form.List l) bytes at h = lists o l bytes at h
by_form o (form.Map l) bytes at h = dicts o l bytes at h
by_form o form.Float bytes at h = tt
by_form o form.Extension bytes at h = tt
by_form o form.Reserved bytes at h = tt

value : (o : Option (ℕ → Result (PackData × ℕ) PackFault)) (bytes : List ℕ) (at : ℕ) → Inside o → Reads (value_at o bytes at)
unfolding value_at
value o bytes at h = then (width_at w8 bytes at) _ (width w8 bytes at) (λ first. by_form o (form_of first.0) bytes at h)

pub pack_reads : (levels : ℕ) (bytes : List ℕ) (at : ℕ) → Reads (pack_at levels bytes at)
unfolding pack_at
pack_reads zero bytes at = value None bytes at tt
pack_reads (suc n) bytes at = value (Some (pack_at n bytes)) bytes at (pack_reads n bytes)

ends : (bytes : List ℕ) (r : PackData × ℕ) → Reads (all_read bytes r)
ends bytes r =
    let go : (b : Bool) → Reads {A = PackData} (cond b (Ok r.0) (Err (fault.Trailing r.1))) = elim [ true ↦ tt | false ↦ tt ] in
    go _

pub read_pack-reads : (bytes : List ℕ) → Reads (read_pack bytes)
read_pack-reads bytes = then (pack_at most_levels bytes 0) (all_read bytes) (pack_reads most_levels bytes 0) (ends bytes)
