-- Values and pairs written one behind another.
use Rattle.std.proofs.Common.{◌≡◌, ℕ, suc, ◌<◌, ◌≤◌, Bool, true, false, ◌&&◌, max, List, [], ◌∷◌, ◌++◌, length, refl, sym, ap, ◌∙◌, arith}
use Rattle.std.specs.Cmp.Derive.{both_true}
use Rattle.std.specs.Str.{is_utf8}
use Rattle.std.proofs.lemmas.Bool.{and_parts}
use Rattle.std.proofs.lemmas.Bool.Decides.{nat_tests}
use Rattle.std.proofs.lemmas.List.{append_assoc}
use Rattle.frame_model.specs.declared.pack.Pack.{Pack}
use Rattle.frame_model.specs.PackData.{item, items_view, member, members_view, PackData, PackItems, PackMembers}
use Rattle.frame_model.specs.Packs.{are_texts, depth, has_bytes, is_short, items_are_texts, items_bytes, items_depth, items_have_bytes, items_len, members_are_texts, members_bytes, members_depth, members_have_bytes, members_len, pack_bytes, text_bytes}

-- ---- lengths and depths

pub items_len-view : (ps : List Pack) → items_len (items_view ps) ≡ length ps
items_len-view [] = refl
items_len-view (p ∷ ps) = ap suc (items_len-view ps)

pub members_len-view : (ms : List (List ℕ × Pack)) → members_len (members_view ms) ≡ length ms
members_len-view [] = refl
members_len-view (m ∷ ms) = ap suc (members_len-view ms)

-- ---- one value more

pub first_has : (left : PackItems) (d : PackData) (rest : PackItems) → left ≡ item d rest → items_have_bytes left ≡ true → has_bytes d ≡ true
first_has left d rest is h = (and_parts (has_bytes d) (items_have_bytes rest) (sym (ap items_have_bytes is) ∙ h)).0

pub rest_has : (left : PackItems) (d : PackData) (rest : PackItems) → left ≡ item d rest → items_have_bytes left ≡ true → items_have_bytes rest ≡ true
rest_has left d rest is h = (and_parts (has_bytes d) (items_have_bytes rest) (sym (ap items_have_bytes is) ∙ h)).1

pub first_depth : (left : PackItems) (d : PackData) (rest : PackItems) (n : ℕ) → left ≡ item d rest → items_depth left ≤ n → depth d ≤ n
first_depth left d rest n is h = let is' : items_depth left ≡ max (depth d) (items_depth rest) = ap items_depth is in omega (arith, is', h)

pub rest_depth : (left : PackItems) (d : PackData) (rest : PackItems) (n : ℕ) → left ≡ item d rest → items_depth left ≤ n → items_depth rest ≤ n
rest_depth left d rest n is h = let is' : items_depth left ≡ max (depth d) (items_depth rest) = ap items_depth is in omega (arith, is', h)

pub next_bytes : (left : PackItems) (d : PackData) (rest : PackItems) (done all : List ℕ) → left ≡ item d rest → done ++ items_bytes left ≡ all → (done ++ pack_bytes d) ++ items_bytes rest ≡ all
next_bytes left d rest done all is h = append_assoc done (pack_bytes d) (items_bytes rest) ∙ (sym (ap (λ x. done ++ items_bytes x) is) ∙ h)

-- ---- one pair more

pub first_key : (left : PackMembers) (q : List ℕ) (d : PackData) (rest : PackMembers) → left ≡ member q d rest → members_have_bytes left ≡ true → is_short (length q) ≡ true
first_key left q d rest is h = (and_parts (is_short (length q)) (has_bytes d && members_have_bytes rest) (sym (ap members_have_bytes is) ∙ h)).0

pub first_value : (left : PackMembers) (q : List ℕ) (d : PackData) (rest : PackMembers) → left ≡ member q d rest → members_have_bytes left ≡ true → has_bytes d ≡ true
first_value left q d rest is h = (and_parts (has_bytes d) (members_have_bytes rest) (and_parts (is_short (length q)) (has_bytes d && members_have_bytes rest) (sym (ap members_have_bytes is) ∙ h)).1).0

pub rest_have : (left : PackMembers) (q : List ℕ) (d : PackData) (rest : PackMembers) → left ≡ member q d rest → members_have_bytes left ≡ true → members_have_bytes rest ≡ true
rest_have left q d rest is h = (and_parts (has_bytes d) (members_have_bytes rest) (and_parts (is_short (length q)) (has_bytes d && members_have_bytes rest) (sym (ap members_have_bytes is) ∙ h)).1).1

pub value_depth : (left : PackMembers) (q : List ℕ) (d : PackData) (rest : PackMembers) (n : ℕ) → left ≡ member q d rest → members_depth left ≤ n → depth d ≤ n
value_depth left q d rest n is h = let is' : members_depth left ≡ max (depth d) (members_depth rest) = ap members_depth is in omega (arith, is', h)

pub pairs_depth : (left : PackMembers) (q : List ℕ) (d : PackData) (rest : PackMembers) (n : ℕ) → left ≡ member q d rest → members_depth left ≤ n → members_depth rest ≤ n
pairs_depth left q d rest n is h = let is' : members_depth left ≡ max (depth d) (members_depth rest) = ap members_depth is in omega (arith, is', h)

pub next_pair_bytes : (left : PackMembers) (q : List ℕ) (d : PackData) (rest : PackMembers) (done all : List ℕ) → left ≡ member q d rest → done ++ members_bytes left ≡ all → ((done ++ text_bytes q) ++ pack_bytes d) ++ members_bytes rest ≡ all
next_pair_bytes left q d rest done all is h =
    append_assoc (done ++ text_bytes q) (pack_bytes d) (members_bytes rest)
    ∙ (append_assoc done (text_bytes q) (pack_bytes d ++ members_bytes rest) ∙ (sym (ap (λ x. done ++ members_bytes x) is) ∙ h))

-- ---- small facts

pub short_is : (n m : ℕ) → is_short n ≡ true → m ≡ n → m < 4294967296
short_is n m h k = grind (arith, nat_tests, h, k)

-- where a length is too long, and where none is
pub too_long : (n m : ℕ) (b x : Bool) → b ≡ false → b ≡ is_short n → n ≡ m → false ≡ (is_short m && x)
too_long n m b x h is same = sym (ap (λ s. s && x) (sym (ap is_short same) ∙ (sym is ∙ h)))

pub all_short : (n m : ℕ) (b x : Bool) → b ≡ true → b ≡ is_short n → n ≡ m → x ≡ true → true ≡ (is_short m && x)
all_short n m b x h is same k = sym (ap (λ s. s && x) (sym (ap is_short same) ∙ (sym is ∙ h)) ∙ k)

-- ---- texts

pub texts_too : (left : PackItems) (d : PackData) (rest : PackItems) → left ≡ item d rest → are_texts d ≡ true → items_are_texts rest ≡ true → items_are_texts left ≡ true
texts_too left d rest is h k = ap items_are_texts is ∙ both_true h k

pub pair_texts_too : (left : PackMembers) (q : List ℕ) (d : PackData) (rest : PackMembers) → left ≡ member q d rest → is_utf8 q ≡ true → are_texts d ≡ true → members_are_texts rest ≡ true → members_are_texts left ≡ true
pair_texts_too left q d rest is g h k = ap members_are_texts is ∙ both_true g (both_true h k)
