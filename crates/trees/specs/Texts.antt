-- Where texts lead: to the number under their hash, if the item of that number has the text, and else to a number of their own.
use Rattle.std.specs.Prelude.{◌≡◌, ℕ, ◌+◌, ◌*◌, ◌%◌, ◌^◌, ◌==◌, ◌&&◌, not, Bool, true, false, List, Option, Some, None, if◌then◌else◌}
use Rattle.std.specs.List.{fold}
use Rattle.std.specs.Option.{option_and_then, option_map}
use Rattle.std.specs.Ordering.{nat_cmp}
use Rattle.std.specs.BTreeMap.{get, get_by_text}
use Rattle.std.specs.Str.{bytes_eq}
use Rattle.lists.specs.Rising.{find}
use Rattle.trees.specs.declared.text_index.TextIndex.{TextIndex}

-- the hash of a text
unfoldable pub text_hash : List ℕ → ℕ
text_hash text = fold (λ h b. (h * 16777619 + b) % 2 ^ 32) 0 text

-- ---- where a text leads

-- the number under a hash
abbrev pub under : TextIndex → ℕ → Option ℕ
under index hash = get nat_cmp index.numbers hash

-- the number of a text by itself
abbrev pub by_itself : TextIndex → List ℕ → Option ℕ
by_itself index text = get_by_text index.others text

-- the text of the item of a number
abbrev pub text_of : {E : Type 0} → (E → ℕ) → (E → Option (List ℕ)) → List E → ℕ → Option (List ℕ)
text_of number text items n = option_and_then text (find number n items)

-- it is this text
abbrev pub is_text : List ℕ → Option (List ℕ) → Bool
is_text text None = false
is_text text (Some t) = bytes_eq t text

-- the item of a number that was found has this text
abbrev pub has_text : (ℕ → Option (List ℕ)) → List ℕ → Option ℕ → Bool
has_text texts text None = false
has_text texts text (Some n) = is_text text (texts n)

-- the number that a text leads to
abbrev pub leads : (ℕ → Option (List ℕ)) → TextIndex → List ℕ → Option ℕ
leads texts index text = if has_text texts text (under index (text_hash text)) then under index (text_hash text) else by_itself index text

-- ---- what the calls of an index do

-- nothing leads anywhere
pub record IsEmpty (index : TextIndex) : Type 0 where
  pub hashes : (h : ℕ) → under index h ≡ None
  pub others : (q : List ℕ) → by_itself index q ≡ None

-- all leads where it led
pub record IsSame (old new : TextIndex) : Type 0 where
  pub hashes : (h : ℕ) → under new h ≡ under old h
  pub others : (q : List ℕ) → by_itself new q ≡ by_itself old q

-- a hash is free for a number, or has it already
abbrev pub is_free : ℕ → Option ℕ → Bool
is_free n None = true
is_free n (Some m) = m == n

-- the number that was found is this one
abbrev pub is_found : ℕ → Option ℕ → Bool
is_found n None = false
is_found n (Some m) = m == n

-- besides, a text leads to a number: by its hash where that is free, else by itself
pub record IsWith (old new : TextIndex) (text : List ℕ) (n : ℕ) : Type 0 where
  pub hashes : (h : ℕ) → under new h ≡ (if is_free n (under old (text_hash text)) && (text_hash text == h) then Some n else under old h)
  pub others : (q : List ℕ) → by_itself new q ≡ (if not (is_free n (under old (text_hash text))) && bytes_eq text q then Some n else by_itself old q)

-- a text leads to a number no more: by its hash where it led so, else by itself
pub record IsWithout (old new : TextIndex) (text : List ℕ) (n : ℕ) : Type 0 where
  pub hashes : (h : ℕ) → under new h ≡ (if is_found n (under old (text_hash text)) && (text_hash text == h) then None else under old h)
  pub others : (q : List ℕ) → by_itself new q ≡ (if not (is_found n (under old (text_hash text))) && bytes_eq text q then None else by_itself old q)

-- ---- what an index keeps

-- nothing is left over: what stands under a hash is the number of an item with a text of that hash; what a text has by itself is the number of its item, and the item under its hash has another text
pub record IsLean (texts : ℕ → Option (List ℕ)) (index : TextIndex) : Type 0 where
  pub hashes : (h n : ℕ) → under index h ≡ Some n → option_map text_hash (texts n) ≡ Some h
  pub others : (q : List ℕ) (n : ℕ) → by_itself index q ≡ Some n → (texts n ≡ Some q) × (has_text texts q (under index (text_hash q)) ≡ false)

-- the index of items no two of which have one text: each text leads to the number of its item, and to none where no item has it, and nothing is left over
pub record IsIndexOf (texts : ℕ → Option (List ℕ)) (index : TextIndex) : Type 0 where
  pub numbers : (q : List ℕ) (n : ℕ) → is_found n (leads texts index q) ≡ is_text q (texts n)
  pub lean : IsLean texts index
