-- The words of a definition are read as it, and nothing else is.
use Rattle.std.proofs.Common.{◌≡◌, ℕ, ◌<◌, ◌^◌, true, ◌&&◌, cond, List, [], ◌∷◌, length, Some, None, refl, sym, ap, ◌∙◌, arith, eqb, leb, le-leb, leb-true, codes}
use Rattle.std.specs.List.{list_all}
use Rattle.std.specs.Fmt.{decimal}
use Rattle.std.proofs.lemmas.Bool.{and_parts, and_from}
use Rattle.std.proofs.lemmas.List.Splits.{join_with_byte-slice_split, length-slice_split}
use Rattle.lists.proofs.Options.{taken_if}
use Rattle.lists.proofs.Passing.{all_append}
use Rattle.state_model.specs.Sound.{keys_differ}
use Rattle.room_model.specs.declared.definition.RoomDef.{RoomDef}
use Rattle.room_model.specs.Definitions.{is_room_def, is_within}
use Rattle.room_model.specs.Limits.{longest_time, most_filters, most_places}
use Rattle.text_model.specs.Decimals.{decimal_within}
use Rattle.text_model.specs.DefLines.{DefNumbers, are_def_words, are_keys, comma_joined, comma_split, def_of, def_with, def_words, filter_of, filter_words, is_named_def, numbers_of}
use Rattle.text_model.specs.Lines.{both, is_word, some_if}
use Rattle.text_model.specs.Marks.{has_name_length, is_id_byte, is_room_name}
use Rattle.text_model.proofs.Choices.{both_is, both_of, choose_if, chosen_if}
use Rattle.text_model.proofs.DecimalLaw.{decimal_plain, decimal_read_within, read_decimal_within}
use Rattle.text_model.proofs.NamesPlain.{room_name_plain}
use Rattle.text_model.proofs.Spaced.{cut_first, cut_last, is_line, is_plain, lacks, lacks_from}
use Rattle.text_model.proofs.WordLaws.{word_is}

-- ---- keys

-- a name has no comma
name_lacks : (w : List ℕ) → is_room_name w ≡ true → lacks 44 w ≡ true
name_lacks w h = lacks_from is_id_byte 44 w refl (and_parts (has_name_length w) (list_all is_id_byte w) h).1

-- names that are joined are cut again
pub keys_cut : (k : List ℕ) (ks : List (List ℕ)) → list_all is_room_name (k ∷ ks) ≡ true → comma_split (comma_joined (k ∷ ks)) ≡ k ∷ ks
keys_cut k [] h = cut_last 44 k (name_lacks k (and_parts (is_room_name k) true h).0)
keys_cut k (q ∷ ks) h =
    let parts = and_parts (is_room_name k) (list_all is_room_name (q ∷ ks)) h in
    cut_first 44 k (comma_joined (q ∷ ks)) (name_lacks k parts.0) ∙ ap (λ l. k ∷ l) (keys_cut q ks parts.1)

joined_plain : (k : List ℕ) (ks : List (List ℕ)) → list_all is_room_name (k ∷ ks) ≡ true → is_plain (comma_joined (k ∷ ks)) ≡ true
joined_plain k [] h = room_name_plain k (and_parts (is_room_name k) true h).0
joined_plain k (q ∷ ks) h =
    let parts = and_parts (is_room_name k) (list_all is_room_name (q ∷ ks)) h in
    all_append (leb 33) k (44 ∷ comma_joined (q ∷ ks)) (room_name_plain k parts.0) (joined_plain q ks parts.1)

-- ---- filters

filter_named : (w : List ℕ) (f ks : List (List ℕ)) → is_word (codes "filter") w ≡ true → 0 < length f → (keys : List ℕ) → keys ≡ comma_joined f → w ∷ keys ∷ [] ≡ filter_words f
filter_named w [] ks word some keys is = absurd (omega arith)
filter_named w (k ∷ f) ks word some keys is = λ i. word_is (codes "filter") w word i ∷ is i ∷ []

filter_read : (ws f : List (List ℕ)) → filter_of ws ≡ Some f → (ws ≡ filter_words f) × (are_keys f ≡ true)
filter_read [] f h = (let none : [] ≡ f = cc in (ap filter_words none, ap are_keys (sym none)))
filter_read (w ∷ []) f h = absurd (cc)
filter_read (w ∷ keys ∷ []) f h =
    let t = taken_if (is_word (codes "filter") w) (some_if (are_keys (comma_split keys)) (comma_split keys)) f h in
    let c = chosen_if (are_keys (comma_split keys)) (comma_split keys) f t.1 in
    let joined : keys ≡ comma_joined f = sym (join_with_byte-slice_split 44 keys) ∙ ap comma_joined c.1 in
    (filter_named w f [] t.0 (omega (arith, ap length c.1, length-slice_split (λ b. eqb b 44) keys)) keys joined, ap are_keys (sym c.1) ∙ c.0)
filter_read (w ∷ keys ∷ x ∷ ws) f h = absurd (cc)

filter_is : (f : List (List ℕ)) → are_keys f ≡ true → filter_of (filter_words f) ≡ Some f
filter_is [] h = refl
filter_is (k ∷ ks) h =
    let named = (and_parts (list_all is_room_name (k ∷ ks)) _ h).0 in
    ap (λ f. some_if (are_keys f) f) (keys_cut k ks named) ∙ choose_if (are_keys (k ∷ ks)) (k ∷ ks) h

filter_plain : (f : List (List ℕ)) → list_all is_room_name f ≡ true → list_all is_plain (filter_words f) ≡ true
filter_plain [] h = refl
filter_plain (k ∷ ks) h = and_from _ _ (joined_plain k ks h) refl

-- ---- numbers

-- they are within the limits
record AreWithin (n : DefNumbers) : Type 0 where
  max : is_within 1 most_places n.max ≡ true
  seat : is_within 1 longest_time n.seat ≡ true
  patch : is_within 1 longest_time n.patch ≡ true
  keep : is_within 0 longest_time n.keep ≡ true

within_read : (low high : ℕ) (w : List ℕ) (n : ℕ) → high < 2 ^ 64 → decimal_within low high w ≡ Some n → (w ≡ decimal n) × (is_within low high n ≡ true)
within_read low high w n top h =
    let d = decimal_read_within low high w n (omega (arith, top)) h in
    (d.0, and_from (leb low n) (leb n high) (le-leb low n d.1) (le-leb n high d.2))

read_within : (low high n : ℕ) → high < 2 ^ 64 → is_within low high n ≡ true → decimal_within low high (decimal n) ≡ Some n
read_within low high n top h =
    let p = and_parts (leb low n) (leb n high) h in
    read_decimal_within low high n (omega (arith, top)) (leb-true low n p.0) (leb-true n high p.1)

record NumbersRead (m s p k : List ℕ) (n : DefNumbers) : Type 0 where
  max : m ≡ decimal n.max
  seat : s ≡ decimal n.seat
  patch : p ≡ decimal n.patch
  keep : k ≡ decimal n.keep
  within : AreWithin n

numbers_read : (m s p k : List ℕ) (n : DefNumbers) → numbers_of m s p k ≡ Some n → NumbersRead m s p k n
numbers_read m s p k n h =
    let b = both_of (λ (a : ℕ × ℕ) (b : ℕ × ℕ). record { max = a.0; seat = a.1; patch = b.0; keep = b.1 }) _ _ n h in
    let x = both_of (λ m s. (m, s)) (decimal_within 1 most_places m) (decimal_within 1 longest_time s) b.0 b.2 in
    let y = both_of (λ p k. (p, k)) (decimal_within 1 longest_time p) (decimal_within 0 longest_time k) b.1 b.3 in
    let d0 = within_read 1 most_places m x.0 (omega arith) x.2 in
    let d1 = within_read 1 longest_time s x.1 (omega arith) x.3 in
    let d2 = within_read 1 longest_time p y.0 (omega arith) y.2 in
    let d3 = within_read 0 longest_time k y.1 (omega arith) y.3 in
    let is : record { max = x.0; seat = x.1; patch = y.0; keep = y.1 } ≡ n = (λ i. record { max = (x.4 i).0; seat = (x.4 i).1; patch = (y.4 i).0; keep = (y.4 i).1 }) ∙ b.4 in
    record {
      max = d0.0 ∙ ap (λ (n : DefNumbers). decimal n.max) is;
      seat = d1.0 ∙ ap (λ (n : DefNumbers). decimal n.seat) is;
      patch = d2.0 ∙ ap (λ (n : DefNumbers). decimal n.patch) is;
      keep = d3.0 ∙ ap (λ (n : DefNumbers). decimal n.keep) is;
      within = record {
        max = ap (λ (n : DefNumbers). is_within 1 most_places n.max) (sym is) ∙ d0.1;
        seat = ap (λ (n : DefNumbers). is_within 1 longest_time n.seat) (sym is) ∙ d1.1;
        patch = ap (λ (n : DefNumbers). is_within 1 longest_time n.patch) (sym is) ∙ d2.1;
        keep = ap (λ (n : DefNumbers). is_within 0 longest_time n.keep) (sym is) ∙ d3.1;
      };
    }

-- ---- a definition

-- its parts
record NamedDef (d : RoomDef) : Type 0 where
  name : is_room_name d.name ≡ true
  keys : are_keys d.filter ≡ true
  max : is_within 1 most_places d.max ≡ true
  seat : is_within 1 longest_time d.seat ≡ true
  patch : is_within 1 longest_time d.patch ≡ true
  keep : is_within 0 longest_time d.keep ≡ true

named_of : (d : RoomDef) → NamedDef d → is_named_def d ≡ true
named_of d n =
    let k = and_parts (list_all is_room_name d.filter) (leb (length d.filter) most_filters && keys_differ d.filter) n.keys in
    let f = and_parts (leb (length d.filter) most_filters) (keys_differ d.filter) k.1 in
    let room : is_room_def d ≡ true = and_from _ _ (and_from _ _ (and_from _ _ (and_from _ _ (and_from _ _ n.max n.seat) n.patch) n.keep) f.0) f.1 in
    and_from (is_room_name d.name) _ n.name (and_from (list_all is_room_name d.filter) (is_room_def d) k.0 room)

named_parts : (d : RoomDef) → is_named_def d ≡ true → NamedDef d
named_parts d h =
    let n = and_parts (is_room_name d.name) (list_all is_room_name d.filter && is_room_def d) h in
    let k = and_parts (list_all is_room_name d.filter) (is_room_def d) n.1 in
    let f = and_parts (is_within 1 most_places d.max && is_within 1 longest_time d.seat && is_within 1 longest_time d.patch && is_within 0 longest_time d.keep && leb (length d.filter) most_filters) (keys_differ d.filter) k.1 in
    let c = and_parts (is_within 1 most_places d.max && is_within 1 longest_time d.seat && is_within 1 longest_time d.patch && is_within 0 longest_time d.keep) (leb (length d.filter) most_filters) f.0 in
    let e = and_parts (is_within 1 most_places d.max && is_within 1 longest_time d.seat && is_within 1 longest_time d.patch) (is_within 0 longest_time d.keep) c.0 in
    let p = and_parts (is_within 1 most_places d.max && is_within 1 longest_time d.seat) (is_within 1 longest_time d.patch) e.0 in
    let s = and_parts (is_within 1 most_places d.max) (is_within 1 longest_time d.seat) p.0 in
    record {
      name = n.0;
      keys = and_from (list_all is_room_name d.filter) _ k.0 (and_from (leb (length d.filter) most_filters) (keys_differ d.filter) c.1 f.1);
      max = s.0;
      seat = s.1;
      patch = p.1;
      keep = e.1;
    }

-- words are those of this definition, which has words
pub record AreDef (ws : List (List ℕ)) (d : RoomDef) : Type 0 where
  pub words : ws ≡ def_words d
  pub fits : is_named_def d ≡ true

long_read : (w name wm m ws s wp p wk k : List ℕ) (filter : List (List ℕ)) (d : RoomDef) → def_of (w ∷ name ∷ wm ∷ m ∷ ws ∷ s ∷ wp ∷ p ∷ wk ∷ k ∷ filter) ≡ Some d → AreDef (w ∷ name ∷ wm ∷ m ∷ ws ∷ s ∷ wp ∷ p ∷ wk ∷ k ∷ filter) d
long_read w name wm m ws s wp p wk k filter d h =
    let t = taken_if (is_word (codes "room") w && (is_room_name name && are_def_words wm ws wp wk)) (both (def_with name) (numbers_of m s p k) (filter_of filter)) d h in
    let a = and_parts (is_word (codes "room") w) (is_room_name name && are_def_words wm ws wp wk) t.0 in
    let b = and_parts (is_room_name name) (are_def_words wm ws wp wk) a.1 in
    let c0 = and_parts (is_word (codes "max") wm) _ b.1 in
    let c1 = and_parts (is_word (codes "seat") ws) _ c0.1 in
    let c2 = and_parts (is_word (codes "patch") wp) (is_word (codes "keep") wk) c1.1 in
    let x = both_of (def_with name) (numbers_of m s p k) (filter_of filter) d t.1 in
    let n = numbers_read m s p k x.0 x.2 in
    let f = filter_read filter x.1 x.3 in
    let made : RoomDef = def_with name x.0 x.1 in
    record {
      words =
          (λ i. word_is (codes "room") w a.0 i ∷ name ∷ word_is (codes "max") wm c0.0 i ∷ n.max i ∷ word_is (codes "seat") ws c1.0 i ∷ n.seat i ∷ word_is (codes "patch") wp c2.0 i ∷ n.patch i ∷ word_is (codes "keep") wk c2.1 i ∷ n.keep i ∷ f.0 i)
          ∙ ap def_words x.4;
      fits = ap is_named_def (sym x.4) ∙ named_of made (record { name = b.0; keys = f.1; max = n.within.max; seat = n.within.seat; patch = n.within.patch; keep = n.within.keep });
    }

pub def_read : (ws : List (List ℕ)) (d : RoomDef) → def_of ws ≡ Some d → AreDef ws d
def_read (w ∷ name ∷ wm ∷ m ∷ ws ∷ s ∷ wp ∷ p ∷ wk ∷ k ∷ filter) d h = long_read w name wm m ws s wp p wk k filter d h
def_read _ d h = absurd (cc)

pub def_is : (d : RoomDef) → is_named_def d ≡ true → def_of (def_words d) ≡ Some d
def_is d h =
    let n = named_parts d h in
    let numbers : numbers_of (decimal d.max) (decimal d.seat) (decimal d.patch) (decimal d.keep) ≡ Some (record { max = d.max; seat = d.seat; patch = d.patch; keep = d.keep }) =
    both_is (λ (a : ℕ × ℕ) (b : ℕ × ℕ). record { max = a.0; seat = a.1; patch = b.0; keep = b.1 }) _ _ (d.max, d.seat) (d.patch, d.keep)
    (both_is (λ m s. (m, s)) _ _ d.max d.seat (read_within 1 most_places d.max (omega arith) n.max) (read_within 1 longest_time d.seat (omega arith) n.seat))
    (both_is (λ p k. (p, k)) _ _ d.patch d.keep (read_within 1 longest_time d.patch (omega arith) n.patch) (read_within 0 longest_time d.keep (omega arith) n.keep)) in
    ap (λ b. cond b (both (def_with d.name) (numbers_of (decimal d.max) (decimal d.seat) (decimal d.patch) (decimal d.keep)) (filter_of (filter_words d.filter))) None) (and_from (is_room_name d.name) true n.name refl)
    ∙ both_is (def_with d.name) _ _ (record { max = d.max; seat = d.seat; patch = d.patch; keep = d.keep }) d.filter numbers (filter_is d.filter n.keys)

within_plain : (low high n : ℕ) → high < 2 ^ 64 → is_within low high n ≡ true → is_plain (decimal n) ≡ true
within_plain low high n top h = decimal_plain n (omega (arith, top, leb-true n high (and_parts (leb low n) (leb n high) h).1))

pub def_plain : (d : RoomDef) → is_named_def d ≡ true → is_line (def_words d) ≡ true
def_plain d h =
    let n = named_parts d h in
    let filter = filter_plain d.filter (and_parts (list_all is_room_name d.filter) _ n.keys).0 in
    and_from _ _ (room_name_plain d.name n.name)
    (and_from _ _ (within_plain 1 most_places d.max (omega arith) n.max)
    (and_from _ _ (within_plain 1 longest_time d.seat (omega arith) n.seat)
    (and_from _ _ (within_plain 1 longest_time d.patch (omega arith) n.patch)
    (and_from _ _ (within_plain 0 longest_time d.keep (omega arith) n.keep) filter))))
