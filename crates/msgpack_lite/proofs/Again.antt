-- What was written is read again, whatever stands before and behind it.
use Rattle.std.proofs.Common.{◌≡◌, ℕ, zero, suc, ◌+◌, ◌^◌, ◌<◌, ◌≤◌, true, false, ◌&&◌, List, ◌++◌, length, Result, Ok, refl, sym, ap, ◌∙◌, subst, arith, append_assoc}
use Rattle.std.proofs.lemmas.Bool.{and_parts}
use Rattle.std.specs.Prelude.{Err, OnOk}
use Rattle.std.specs.Str.{is_utf8}
use Rattle.std.proofs.lemmas.List.{length-append}
use Rattle.schema_model.specs.Reading.{◌>>=◌}
use Rattle.schema_model.proofs.NumberAgain.{ltb_below}
use Rattle.std.specs.Int.{w8}
use Rattle.frame_model.specs.declared.fault.PackFault.{PackFault}
use Rattle.frame_model.specs.declared.form.Length.{Length}
use Rattle.frame_model.specs.declared.form.Form.{Form}
use Rattle.frame_model.specs.declared.form.Form.TheVariants as form
use Rattle.frame_model.specs.PackData.{PackData, nil, truth, whole, text, binary, list, dict, PackItems, no_items, item, PackMembers, no_members, member}
use Rattle.frame_model.specs.Packs.{are_texts, as_value, binary_bytes, binary_head, depth, dict_head, form_of, has_bytes, items_are_texts, items_at, items_bytes, items_depth, items_have_bytes, items_len, key_at, key_of_form, length_at, list_head, members_are_texts, members_at, members_bytes, members_depth, members_have_bytes, members_len, most_levels, pack_at, pack_bytes, run_at, text_at, text_bytes, text_head, value_of_form, width_at}
use Rattle.msgpack_lite.specs.Ends.{inside}
use Rattle.msgpack_lite.proofs.BuildLaws.{list-is, dict-is}
use Rattle.msgpack_lite.proofs.AgainParts.{IsHead, binary_head_is, by_form, by_head, byte_read, dict_head_is, list_head_is, run_again, text_again, text_head_is, whole_again}

single : (form_of 192 ≡ form.Nil) × (form_of 194 ≡ form.Truth false) × (form_of 195 ≡ form.Truth true)
unfolding form_of
single = (refl, refl, refl)

-- ---- heads

head_byte : (f : Length → Form) (n : ℕ) (head prefix more : List ℕ) (h : IsHead f n head) → width_at w8 (prefix ++ (head ++ more)) (length prefix) ≡ Ok (h.first, length prefix + 1)
head_byte f n head prefix more h = subst (λ x. width_at w8 (prefix ++ (x ++ more)) (length prefix) ≡ Ok (h.first, length prefix + 1)) (sym h.is) (byte_read prefix (h.rest ++ more) h.first)

-- the bytes with the head by itself
parted : (B prefix head body more : List ℕ) → B ≡ prefix ++ ((head ++ body) ++ more) → B ≡ prefix ++ (head ++ (body ++ more))
parted B prefix head body more is = is ∙ ap (λ x. prefix ++ x) (append_assoc head body more)

-- what stands behind a part
behind : (B prefix part rest more : List ℕ) → B ≡ prefix ++ ((part ++ rest) ++ more) → B ≡ (prefix ++ part) ++ (rest ++ more)
behind B prefix part rest more is = parted B prefix part rest more is ∙ sym (append_assoc prefix part (rest ++ more))

opened : (f : Length → Form) (n : ℕ) (head : List ℕ) (levels : ℕ) (B prefix more : List ℕ) (h : IsHead f n head) → B ≡ prefix ++ (head ++ more) → pack_at levels B (length prefix) ≡ value_of_form (inside levels B) (f h.len) B (length prefix)
opened f n head levels B prefix more h is = subst (λ b. pack_at levels b (length prefix) ≡ value_of_form (inside levels b) (f h.len) b (length prefix)) (sym is) (by_head f n head levels prefix more h)

measured : (f : Length → Form) (n : ℕ) (head B prefix more : List ℕ) (h : IsHead f n head) → B ≡ prefix ++ (head ++ more) → length_at h.len B (length prefix + 1) ≡ Ok (n, length prefix + length head)
measured f n head B prefix more h is = subst (λ b. length_at h.len b (length prefix + 1) ≡ Ok (n, length prefix + length head)) (sym is) (h.measures prefix more)

-- ---- texts and bytes

texts_read : (t B prefix more : List ℕ) (h : IsHead form.Text (length t) (text_head (length t))) → B ≡ prefix ++ (text_bytes t ++ more) → is_utf8 t ≡ true → text_at h.len B (length prefix) ≡ Ok (t, length prefix + length (text_bytes t))
texts_read t B prefix more h is good = subst (λ b. text_at h.len b (length prefix) ≡ Ok (t, length prefix + length (text_bytes t))) (sym is) (text_again t prefix more h good)

key_again : (t B prefix more : List ℕ) → B ≡ prefix ++ (text_bytes t ++ more) → length t < 2 ^ 32 → is_utf8 t ≡ true → key_at B (length prefix) ≡ Ok (t, length prefix + length (text_bytes t))
unfolding key_at
key_again t B prefix more is few good =
    let h = text_head_is (length t) few in
    let shape = parted B prefix (text_head (length t)) t more is in
    let first : width_at w8 B (length prefix) ≡ Ok (h.first, length prefix + 1) = subst (λ b. width_at w8 b (length prefix) ≡ Ok (h.first, length prefix + 1)) (sym shape) (head_byte form.Text (length t) (text_head (length t)) prefix (t ++ more) h) in
    ap (λ r. r >>= (λ x. key_of_form (form_of x.0) B (length prefix))) first ∙ (ap (λ f. key_of_form f B (length prefix)) h.tells ∙ texts_read t B prefix more h is good)

text_value : (t : List ℕ) (levels : ℕ) (B prefix more : List ℕ) → B ≡ prefix ++ (text_bytes t ++ more) → length t < 2 ^ 32 → is_utf8 t ≡ true → pack_at levels B (length prefix) ≡ Ok (text t, length prefix + length (text_bytes t))
text_value t levels B prefix more is few good =
    let h = text_head_is (length t) few in
    opened form.Text (length t) (text_head (length t)) levels B prefix (t ++ more) h (parted B prefix (text_head (length t)) t more is) ∙ ap (as_value text) (texts_read t B prefix more h is good)

binary_value : (t : List ℕ) (levels : ℕ) (B prefix more : List ℕ) → B ≡ prefix ++ (binary_bytes t ++ more) → length t < 2 ^ 32 → pack_at levels B (length prefix) ≡ Ok (binary t, length prefix + length (binary_bytes t))
binary_value t levels B prefix more is few =
    let h = binary_head_is (length t) few in
    let read : run_at h.len B (length prefix + 1) ≡ Ok (t, length prefix + length (binary_bytes t)) =
    subst (λ b. run_at h.len b (length prefix + 1) ≡ Ok (t, length prefix + length (binary_bytes t))) (sym is) (run_again form.Binary t (binary_head (length t)) prefix more h) in
    opened form.Binary (length t) (binary_head (length t)) levels B prefix (t ++ more) h (parted B prefix (binary_head (length t)) t more is) ∙ ap (as_value binary) read

-- ---- lists and maps, by what they hold

list_again : (n : ℕ) (ds : PackItems) (B prefix more : List ℕ) → B ≡ prefix ++ ((list_head (items_len ds) ++ items_bytes ds) ++ more) → items_len ds < 2 ^ 32
    → items_at (pack_at n B) (items_len ds) (length (prefix ++ list_head (items_len ds))) ≡ Ok (ds, length (prefix ++ list_head (items_len ds)) + length (items_bytes ds))
    → pack_at (suc n) B (length prefix) ≡ Ok (list ds, length prefix + length (list_head (items_len ds) ++ items_bytes ds))
list_again n ds B prefix more is few read =
    let head = list_head (items_len ds) in
    let h = list_head_is (items_len ds) few in
    let shape = parted B prefix head (items_bytes ds) more is in
    let start = length prefix + length head in
    let there : items_at (pack_at n B) (items_len ds) start ≡ Ok (ds, length prefix + length (head ++ items_bytes ds)) =
    subst (λ k. items_at (pack_at n B) (items_len ds) k ≡ Ok (ds, k + length (items_bytes ds))) (length-append prefix head) read ∙ ap (λ k. Ok (ds, k)) (omega (arith, length-append head (items_bytes ds))) in
    opened form.List (items_len ds) head (suc n) B prefix (items_bytes ds ++ more) h shape
    ∙ list-is (pack_at n B) h.len B (length prefix) (items_len ds) start _ ds (measured form.List (items_len ds) head B prefix (items_bytes ds ++ more) h shape) there

dict_again : (n : ℕ) (ms : PackMembers) (B prefix more : List ℕ) → B ≡ prefix ++ ((dict_head (members_len ms) ++ members_bytes ms) ++ more) → members_len ms < 2 ^ 32
    → members_at (pack_at n B) B (members_len ms) (length (prefix ++ dict_head (members_len ms))) ≡ Ok (ms, length (prefix ++ dict_head (members_len ms)) + length (members_bytes ms))
    → pack_at (suc n) B (length prefix) ≡ Ok (dict ms, length prefix + length (dict_head (members_len ms) ++ members_bytes ms))
dict_again n ms B prefix more is few read =
    let head = dict_head (members_len ms) in
    let h = dict_head_is (members_len ms) few in
    let shape = parted B prefix head (members_bytes ms) more is in
    let start = length prefix + length head in
    let there : members_at (pack_at n B) B (members_len ms) start ≡ Ok (ms, length prefix + length (head ++ members_bytes ms)) =
    subst (λ k. members_at (pack_at n B) B (members_len ms) k ≡ Ok (ms, k + length (members_bytes ms))) (length-append prefix head) read ∙ ap (λ k. Ok (ms, k)) (omega (arith, length-append head (members_bytes ms))) in
    opened form.Map (members_len ms) head (suc n) B prefix (members_bytes ms ++ more) h shape
    ∙ dict-is (pack_at n B) h.len B (length prefix) (members_len ms) start _ ms (measured form.Map (members_len ms) head B prefix (members_bytes ms ++ more) h shape) there

-- one value, and those behind it
next_item : (f : ℕ → Result (PackData × ℕ) PackFault) (m at next end : ℕ) (d : PackData) (ds : PackItems) → f at ≡ Ok (d, next) → items_at f m next ≡ Ok (ds, end) → items_at f (suc m) at ≡ Ok (item d ds, end)
unfolding items_at
next_item f m at next end d ds h k = rw (h, k) refl

no_item : (f : ℕ → Result (PackData × ℕ) PackFault) (at : ℕ) → items_at f 0 at ≡ Ok (no_items, at + 0)
unfolding items_at
no_item f at = ap (λ k. Ok (no_items, k)) (omega arith)

next_member : (f : ℕ → Result (PackData × ℕ) PackFault) (B : List ℕ) (m at middle next end : ℕ) (q : List ℕ) (d : PackData) (ms : PackMembers) → key_at B at ≡ Ok (q, middle)
    → f middle ≡ Ok (d, next) → members_at f B m next ≡ Ok (ms, end) → members_at f B (suc m) at ≡ Ok (member q d ms, end)
unfolding members_at
next_member f B m at middle next end q d ms g h k = rw (g, h, k) refl

no_member : (f : ℕ → Result (PackData × ℕ) PackFault) (B : List ℕ) (at : ℕ) → members_at f B 0 at ≡ Ok (no_members, at + 0)
unfolding members_at
no_member f B at = ap (λ k. Ok (no_members, k)) (omega arith)

-- ---- all values

mutual
  pub pack_again : (d : PackData) (levels : ℕ) (B prefix more : List ℕ) → B ≡ prefix ++ (pack_bytes d ++ more) → depth d ≤ levels → has_bytes d ≡ true → are_texts d ≡ true
      → pack_at levels B (length prefix) ≡ Ok (d, length prefix + length (pack_bytes d))
  pack_again nil levels B prefix more is deep has good = subst (λ b. pack_at levels b (length prefix) ≡ Ok (nil, length prefix + 1)) (sym is) (by_form levels prefix more 192 form.Nil single.0)
  pack_again (truth false) levels B prefix more is deep has good = subst (λ b. pack_at levels b (length prefix) ≡ Ok (truth false, length prefix + 1)) (sym is) (by_form levels prefix more 194 (form.Truth false) single.1)
  pack_again (truth true) levels B prefix more is deep has good = subst (λ b. pack_at levels b (length prefix) ≡ Ok (truth true, length prefix + 1)) (sym is) (by_form levels prefix more 195 (form.Truth true) single.2)
  pack_again (whole z) levels B prefix more is deep has good = subst (λ b. pack_at levels b (length prefix) ≡ Ok (whole z, length prefix + length (pack_bytes (whole z)))) (sym is) (whole_again levels prefix more z has)
  pack_again (text t) levels B prefix more is deep has good = text_value t levels B prefix more is (ltb_below (length t) 4294967296 has) good
  pack_again (binary t) levels B prefix more is deep has good = binary_value t levels B prefix more is (ltb_below (length t) 4294967296 has)
  pack_again (list ds) zero B prefix more is deep has good = absurd (omega (arith, deep))
  pack_again (list ds) (suc n) B prefix more is deep has good =
      let h = and_parts _ (items_have_bytes ds) has in
      list_again n ds B prefix more is (ltb_below (items_len ds) 4294967296 h.0) (items_again ds n B (prefix ++ list_head (items_len ds)) more (behind B prefix (list_head (items_len ds)) (items_bytes ds) more is) (omega (arith, deep)) h.1 good)
  pack_again (dict ms) zero B prefix more is deep has good = absurd (omega (arith, deep))
  pack_again (dict ms) (suc n) B prefix more is deep has good =
      let h = and_parts _ (members_have_bytes ms) has in
      dict_again n ms B prefix more is (ltb_below (members_len ms) 4294967296 h.0)
      (members_again ms n B (prefix ++ dict_head (members_len ms)) more (behind B prefix (dict_head (members_len ms)) (members_bytes ms) more is) (omega (arith, deep)) h.1 good)

  pub items_again : (ds : PackItems) (n : ℕ) (B prefix more : List ℕ) → B ≡ prefix ++ (items_bytes ds ++ more) → items_depth ds ≤ n → items_have_bytes ds ≡ true → items_are_texts ds ≡ true
      → items_at (pack_at n B) (items_len ds) (length prefix) ≡ Ok (ds, length prefix + length (items_bytes ds))
  items_again no_items n B prefix more is deep has good = no_item (pack_at n B) (length prefix)
  items_again (item d ds) n B prefix more is deep has good =
      let h = and_parts (has_bytes d) (items_have_bytes ds) has in
      let g = and_parts (are_texts d) (items_are_texts ds) good in
      let first = pack_again d n B prefix (items_bytes ds ++ more) (parted B prefix (pack_bytes d) (items_bytes ds) more is) (omega (arith, deep)) h.0 g.0 in
      let rest = items_again ds n B (prefix ++ pack_bytes d) more (behind B prefix (pack_bytes d) (items_bytes ds) more is) (omega (arith, deep)) h.1 g.1 in
      let there = subst (λ k. items_at (pack_at n B) (items_len ds) k ≡ Ok (ds, k + length (items_bytes ds))) (length-append prefix (pack_bytes d)) rest in
      next_item (pack_at n B) (items_len ds) (length prefix) (length prefix + length (pack_bytes d)) _ d ds first there ∙ ap (λ k. Ok (item d ds, k)) (omega (arith, length-append (pack_bytes d) (items_bytes ds)))

  pub members_again : (ms : PackMembers) (n : ℕ) (B prefix more : List ℕ) → B ≡ prefix ++ (members_bytes ms ++ more) → members_depth ms ≤ n → members_have_bytes ms ≡ true
      → members_are_texts ms ≡ true → members_at (pack_at n B) B (members_len ms) (length prefix) ≡ Ok (ms, length prefix + length (members_bytes ms))
  members_again no_members n B prefix more is deep has good = no_member (pack_at n B) B (length prefix)
  members_again (member q d ms) n B prefix more is deep has good =
      let h = and_parts _ (has_bytes d && members_have_bytes ms) has in
      let hh = and_parts (has_bytes d) (members_have_bytes ms) h.1 in
      let g = and_parts (is_utf8 q) (are_texts d && members_are_texts ms) good in
      let gg = and_parts (are_texts d) (members_are_texts ms) g.1 in
      let shape = behind B prefix (text_bytes q) (pack_bytes d ++ members_bytes ms) more is in
      let key = key_again q B prefix ((pack_bytes d ++ members_bytes ms) ++ more) (parted B prefix (text_bytes q) (pack_bytes d ++ members_bytes ms) more is) (ltb_below (length q) 4294967296 h.0) g.0 in
      let value = pack_again d n B (prefix ++ text_bytes q) (members_bytes ms ++ more) (parted B (prefix ++ text_bytes q) (pack_bytes d) (members_bytes ms) more shape) (omega (arith, deep)) hh.0 gg.0 in
      let rest = members_again ms n B ((prefix ++ text_bytes q) ++ pack_bytes d) more (behind B (prefix ++ text_bytes q) (pack_bytes d) (members_bytes ms) more shape) (omega (arith, deep)) hh.1 gg.1 in
      let middle = length-append prefix (text_bytes q) in
      let value' = subst (λ k. pack_at n B k ≡ Ok (d, k + length (pack_bytes d))) middle value in
      let rest' = subst (λ k. members_at (pack_at n B) B (members_len ms) k ≡ Ok (ms, k + length (members_bytes ms))) (length-append (prefix ++ text_bytes q) (pack_bytes d) ∙ ap (λ k. k + length (pack_bytes d)) middle) rest in
      next_member (pack_at n B) B (members_len ms) (length prefix) (length prefix + length (text_bytes q)) _ _ q d ms key value' rest'
      ∙ ap (λ k. Ok (member q d ms, k)) (omega (arith, length-append (text_bytes q) (pack_bytes d ++ members_bytes ms), length-append (pack_bytes d) (members_bytes ms)))

-- what was appended of a value is read again
pub written_again : {A E : Type 0} (r : Result A E) (d : PackData) (old new : List ℕ) → has_bytes d ≡ true → OnOk r (new ≡ old ++ pack_bytes d) → OnOk r (are_texts d ≡ true)
    → OnOk r ((more : List ℕ) → depth d ≤ most_levels → pack_at most_levels (new ++ more) (length old) ≡ Ok (d, length new))
written_again (Ok a) d old new has ok good =
    λ more deep. pack_again d most_levels (new ++ more) old more (ap (λ x. x ++ more) ok ∙ append_assoc old (pack_bytes d) more) deep has good ∙ ap (λ k. Ok (d, k)) (sym (ap length ok ∙ length-append old (pack_bytes d)))
written_again (Err e) d old new has ok good = tt
