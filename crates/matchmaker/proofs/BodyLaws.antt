-- What bodies say.
use Rattle.std.proofs.Common.{◌≡◌, ℕ, ◌==◌, ◌∙◌, true, false, Bool, List, [], Option, Some, None, option_and_then, refl, sym, ap, length, true≢false, inl, inr, if◌then◌else◌, Ordering, Less, Equal, Greater, is_eq, cond, bytes_eq, nat_cmp}
use Rattle.std.specs.Prelude.{is_some}
use Rattle.std.specs.Option.{option_map_or}
use Rattle.std.specs.Ordering.{match_ordering}
use Rattle.std.specs.Cmp.Lexicographic.{slice_cmp}
use Rattle.std.specs.Str.{IsUtf8, is_utf8}
use Rattle.std.proofs.lemmas.Bool.{cases_Bool}
use Rattle.std.proofs.lemmas.Map.Text.{is_eq-slice_cmp}
use Rattle.std.proofs.lemmas.Str.{is_utf8-from_IsUtf8, IsUtf8-from_is_utf8}
use Rattle.lists.proofs.SameBytes.{bytes_eq_sym}
use Rattle.serde_json.specs.Data.{Data, null, boolean, number, string, array, object, Members, no_members, member}
use Rattle.serde_json.specs.Find.{as_object, as_str, get, get_member}
use Rattle.serde_json.specs.Read.{read}
use Rattle.serde_json.specs.Written.{compact_text, has_float, members_have_float}
use Rattle.lists.proofs.Tests.{or_false}
use Rattle.schema_model.specs.Ids.{is_id}
use Rattle.hub_model.specs.Requests.{Member, said_of}
use Rattle.matchmaker.specs.Bodies.{all_said, data_by, id_said, members_in, members_said, said_by, said_in, said_of_data, token_in}

-- ---- objects

said_some : (d : Data) (o : Option Members) → is_some o ≡ true → said_in d o ≡ Some (record { members = option_map_or members_said o []; token = token_in d })
said_some d None h = absurd (true≢false (sym h))
said_some d (Some ms) h = refl

said_none : (d : Data) (o : Option Members) → is_some o ≡ false → said_in d o ≡ None
said_none d None h = refl
said_none d (Some ms) h = absurd (true≢false h)

pub said_whole : (d : Data) → is_some (as_object d) ≡ true → has_float d ≡ false → said_of_data d ≡ Some (all_said d)
said_whole d some whole = rw whole (said_some d (as_object d) some)

pub said_other : (d : Data) → is_some (as_object d) ≡ false → said_of_data d ≡ None
said_other d other = elim (cases_Bool (has_float d)) [ inl broken ↦ rw broken refl | inr whole ↦ rw whole (said_none d (as_object d) other) ]

pub said_broken : (d : Data) → has_float d ≡ true → said_of_data d ≡ None
said_broken d broken = rw broken refl

-- ---- bodies

pub said_empty : (body : List ℕ) → length body == 0 ≡ true → said_by body ≡ Some (all_said (object no_members))
said_empty body empty = rw empty refl

pub said_read : (body : List ℕ) (d : Data) → length body == 0 ≡ false → IsUtf8 body → read body ≡ Some d → said_by body ≡ said_of_data d
said_read body d long text is = let utf8 = is_utf8-from_IsUtf8 body text in rw (long, utf8, is) refl

pub data_read : (body : List ℕ) (d : Data) → length body == 0 ≡ false → IsUtf8 body → read body ≡ Some d → data_by body ≡ Some d
data_read body d long text is = let utf8 = is_utf8-from_IsUtf8 body text in rw (long, utf8) is

pub said_bad : (body : List ℕ) → length body == 0 ≡ false → (IsUtf8 body → read body ≡ None) → said_by body ≡ None
said_bad body long h = elim (cases_Bool (is_utf8 body)) [ inl text ↦ (let is = h (IsUtf8-from_is_utf8 body text) in rw (long, text, is) refl) | inr other ↦ rw (long, other) refl ]

-- ---- members

abbrev text_or_none : Option Data → List ℕ
text_or_none d = option_map_or compact_text d []

text_of_order : (o : Ordering) (d : Data) (rest : Option Data) → text_or_none (match_ordering o rest (Some d) rest) ≡ cond (is_eq o) (compact_text d) (text_or_none rest)
text_of_order Less d rest = refl
text_of_order Equal d rest = refl
text_of_order Greater d rest = refl

text_of_find : (b : Bool) (m : Member) (rest : Option Member) → option_map_or (λ (m : Member). m.text) (cond b (Some m) rest) [] ≡ cond b m.text (option_map_or (λ (m : Member). m.text) rest [])
text_of_find true m rest = refl
text_of_find false m rest = refl

same_key : (l key : List ℕ) → bytes_eq l key ≡ is_eq (slice_cmp nat_cmp key l)
same_key l key = bytes_eq_sym l key ∙ sym (is_eq-slice_cmp key l)

members_found : (key : List ℕ) (ms : Members) → said_of (members_said ms) key ≡ text_or_none (get_member key ms)
members_found key no_members = refl
members_found key (member l d ms) =
    text_of_find (bytes_eq l key) _ _ ∙ (rw (same_key l key, members_found key ms) (sym (text_of_order (slice_cmp nat_cmp key l) d (get_member key ms))))

pub said_found : (key : List ℕ) (d : Data) → said_of (members_in d) key ≡ text_or_none (get key d)
said_found key null = refl
said_found key (boolean b) = refl
said_found key (number n) = refl
said_found key (string s) = refl
said_found key (array ds) = refl
said_found key (object ms) = members_found key ms

whole_order : (o : Ordering) (d x : Data) (rest : Option Data) → has_float d ≡ false → (rest ≡ Some x → has_float x ≡ false) → match_ordering o rest (Some d) rest ≡ Some x → has_float x ≡ false
whole_order Less d x rest here later h = later h
whole_order Equal d x rest here later h = let is : d ≡ x = cc in rw (← is) here
whole_order Greater d x rest here later h = later h

whole_member : (key : List ℕ) (ms : Members) (x : Data) → get_member key ms ≡ Some x → members_have_float ms ≡ false → has_float x ≡ false
whole_member key no_members x h whole = absurd cc
whole_member key (member l d ms) x h whole =
    let parts = or_false (has_float d) (members_have_float ms) whole in whole_order (slice_cmp nat_cmp key l) d x (get_member key ms) parts.0 (λ is. whole_member key ms x is parts.1) h

pub whole_found : (key : List ℕ) (d x : Data) → get key d ≡ Some x → has_float d ≡ false → has_float x ≡ false
whole_found key null x h whole = absurd cc
whole_found key (boolean b) x h whole = absurd cc
whole_found key (number n) x h whole = absurd cc
whole_found key (string s) x h whole = absurd cc
whole_found key (array ds) x h whole = absurd cc
whole_found key (object ms) x h whole = whole_member key ms x h whole

-- the text of a key's value
pub said_there : (key : List ℕ) (d x : Data) (t : List ℕ) → Some x ≡ get key d → has_float d ≡ false → (has_float x ≡ false → t ≡ compact_text x) → t ≡ said_of (members_in d) key
said_there key d x t is whole written = written (whole_found key d x (sym is) whole) ∙ sym (said_found key d ∙ ap text_or_none (sym is))

pub said_absent : (key : List ℕ) (d : Data) → None ≡ get key d → said_of (members_in d) key ≡ []
said_absent key d is = said_found key d ∙ ap text_or_none (sym is)

-- ---- tokens

pub id_said_is : (d : Data) → id_said d ≡ option_and_then (λ s. if is_id s then Some s else None) (as_str d)
id_said_is null = refl
id_said_is (boolean b) = refl
id_said_is (number n) = refl
id_said_is (string s) = refl
id_said_is (array ds) = refl
id_said_is (object ms) = refl
