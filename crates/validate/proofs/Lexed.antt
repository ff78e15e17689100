-- What the mark of the first lexeme tells of the tokens, by the place that it stands at.
use Rattle.std.proofs.Common.{◌≡◌, ◌≢◌, ℕ, zero, suc, ◌-◌, ◌==◌, Bool, true, false, cond, List, [], ◌∷◌, Option, Some, None, refl, sym, ap, ◌∙◌, subst, inl, inr, arith}
use Rattle.std.proofs.lemmas.Bool.{false≢true, true≢false, ne_eqb}
use Rattle.std.specs.Prelude.{is_some, option_and_then}
use Rattle.json.specs.Token.{Token, begin_object, end_object, begin_array, end_array, key, string, number, boolean, null, bad}
use Rattle.json.specs.Json.{Json, after_end_array, if_last, read_key, skip_value, value}
use Rattle.json.specs.Lex.{Lexeme, Place, after_comma, after_key, after_value, begins_colon, colon, comma, fresh, if_allowed, may_begin, may_close, place_token, punctuate, token}
use Rattle.json.specs.Reads.{skip_items, skip_members}
use Rattle.json.proofs.Grammar.{left, left-parse_map, value-begin_array, value-begin_object, value_is}
use Rattle.validate.specs.Documents.{colon_value, member_from, value_from}
use Rattle.validate.specs.Marks.{IsFirst, IsPlain}
use Rattle.validate.proofs.Lists.{IsItem, IsMember, ItemsAfter, ItemsLead, MembersAfter, MembersLead, items_after, items_all, items_close, members_after, members_all, members_close}
use Rattle.validate.specs.declared.mark.Mark.{Mark}
use Rattle.validate.specs.declared.mark.Mark.TheVariants.{OpenBrace, CloseBrace, OpenBracket, CloseBracket, Comma, Colon, Text, Word, Bad, End}

-- ---- where a value or a member may begin

-- the value and the member that begin the tokens us, and that no bracket or brace closes there
abbrev pub Tells : ℕ → Place → Mark → List Lexeme → List Token → Type 0
Tells d p m ms us =
    (skip_value d us ≡ value_from m d ms) × ((m ≡ CloseBracket → may_close p ≡ false) → after_end_array us ≡ None) × ((m ≡ CloseBrace → may_close p ≡ false) → IsMember d us (member_from m d ms))

-- an object and an array take one level
object_value : (d : ℕ) (ts : List Token) → skip_value d (begin_object ∷ ts) ≡ cond (d == 0) None (skip_members (d - 1) ts)
unfolding value
object_value zero ts = refl
object_value (suc d) ts = ap left (value-begin_object (suc d) ts (omega arith)) ∙ (left-parse_map _ _ ∙ ap (λ b. cond b None (skip_members (suc d - 1) ts)) (sym (ne_eqb (suc d) 0 (λ e. omega arith))))

array_value : (d : ℕ) (ts : List Token) → skip_value d (begin_array ∷ ts) ≡ cond (d == 0) None (skip_items (d - 1) ts)
unfolding value
array_value zero ts = refl
array_value (suc d) ts = ap left (value-begin_array (suc d) ts (omega arith)) ∙ (left-parse_map _ _ ∙ ap (λ b. cond b None (skip_items (suc d - 1) ts)) (sym (ne_eqb (suc d) 0 (λ e. omega arith))))

-- a fault is neither
bad_tells : (d : ℕ) (p : Place) (m : Mark) (ms : List Lexeme) → None ≡ value_from m d ms → None ≡ member_from m d ms → Tells d p m ms (bad ∷ [])
bad_tells d p m ms v o = (ap left (value_is d (bad ∷ [])) ∙ v, λ n. refl, λ n. inl (refl, o))

-- a plain token is one of three
plain : (P : Token → Type 0) → ((s : List ℕ) → P (number s)) → ((b : Bool) → P (boolean b)) → P null → (t : Token) → IsPlain t → P t
plain P f g h t (inl e) = subst P (sym e.1) (f e.0)
plain P f g h t (inr (inl e)) = subst P (sym e.1) (g e.0)
plain P f g h t (inr (inr e)) = subst P (sym e) h

-- a plain token is a value, before a colon too
plain_tells : (d : ℕ) (p : Place) (t : Token) (ms : List Lexeme) → IsPlain t → may_begin p ≡ true → Tells d p Word ms (punctuate p (token t ∷ ms))
unfolding punctuate
plain_tells d p t ms h may =
    let after = punctuate after_value ms in
    let T = λ (t : Token). Tells d p Word ms (punctuate p (token t ∷ ms)) in
    let F = λ (t : Token) (a : Bool). Tells d p Word ms (if_allowed a t (λ n. punctuate n ms) after_value) in
    plain T (λ s. subst (F (number s)) (sym may) (ap left (value_is d (number s ∷ after)), λ n. refl, λ n. inl (refl, refl)))
    (λ b. subst (F (boolean b)) (sym may) (ap left (value_is d (boolean b ∷ after)), λ n. refl, λ n. inl (refl, refl)))
    (subst (F null) (sym may) (ap left (value_is d (null ∷ after)), λ n. refl, λ n. inl (refl, refl))) t h

-- a text is a key before a colon, and a value elsewhere
string_tells : (d : ℕ) (p : Place) (s : List ℕ) (ms : List Lexeme) → may_begin p ≡ true → Some (punctuate after_value ms) ≡ value_from Text d ms → None ≡ colon_value d ms
    → Tells d p Text ms (if_allowed (may_begin p) (string s) (λ n. punctuate n ms) after_value)
string_tells d p s ms may v o =
    subst (λ a. Tells d p Text ms (if_allowed a (string s) (λ n. punctuate n ms) after_value)) (sym may)
    (ap left (value_is d (string s ∷ punctuate after_value ms)) ∙ v, λ n. refl, λ n. inl (refl, o))

text_tells : (d : ℕ) (p : Place) (s : List ℕ) (ms : List Lexeme) → may_begin p ≡ true → Tells d p Text ms (punctuate p (token (string s) ∷ ms))
unfolding punctuate
text_tells d p s [] may = string_tells d p s [] may refl refl
text_tells d p s (token t ∷ ms) may = string_tells d p s (token t ∷ ms) may refl refl
text_tells d p s (comma ∷ ms) may = string_tells d p s (comma ∷ ms) may refl refl
text_tells d p s (colon ∷ ms) may =
    subst (λ a. Tells d p Text (colon ∷ ms) (if_allowed a (key s) (λ n. punctuate n (colon ∷ ms)) after_key)) (sym may)
    (ap left (value_is d (key s ∷ punctuate fresh ms)), λ n. refl, λ n. inr (s, punctuate fresh ms, refl, refl))

-- what the first lexeme tells there
pub tells : (d : ℕ) (p : Place) (m : Mark) (ls ms : List Lexeme) → may_begin p ≡ true → IsFirst ls m ms → Tells d p m ms (punctuate p ls)
unfolding punctuate
tells d fresh OpenBrace ls ms may e = subst (λ l. Tells d fresh OpenBrace ms (punctuate fresh l)) (sym e) (object_value d (punctuate fresh ms), λ n. refl, λ n. inl (refl, refl))
tells d fresh CloseBrace ls ms may e = subst (λ l. Tells d fresh CloseBrace ms (punctuate fresh l)) (sym e) (ap left (value_is d (end_object ∷ punctuate after_value ms)), λ n. refl, λ n. absurd (true≢false (n refl)))
tells d fresh OpenBracket ls ms may e = subst (λ l. Tells d fresh OpenBracket ms (punctuate fresh l)) (sym e) (array_value d (punctuate fresh ms), λ n. refl, λ n. inl (refl, refl))
tells d fresh CloseBracket ls ms may e = subst (λ l. Tells d fresh CloseBracket ms (punctuate fresh l)) (sym e) (ap left (value_is d (end_array ∷ punctuate after_value ms)), λ n. absurd (true≢false (n refl)), λ n. inl (refl, refl))
tells d fresh Comma ls ms may e = subst (λ l. Tells d fresh Comma ms (punctuate fresh l)) (sym e) (bad_tells d fresh Comma ms refl refl)
tells d fresh Colon ls ms may e = subst (λ l. Tells d fresh Colon ms (punctuate fresh l)) (sym e) (bad_tells d fresh Colon ms refl refl)
tells d fresh Text ls ms may e = subst (λ l. Tells d fresh Text ms (punctuate fresh l)) (sym e.1) (text_tells d fresh e.0 ms refl)
tells d fresh Word ls ms may e = subst (λ l. Tells d fresh Word ms (punctuate fresh l)) (sym e.2) (plain_tells d fresh e.0 ms e.1 refl)
tells d fresh Bad ls ms may e = subst (λ l. Tells d fresh Bad ms (punctuate fresh l)) (sym e.1) (bad_tells d fresh Bad ms refl refl)
tells d fresh End ls ms may e = subst (λ l. Tells d fresh End ms (punctuate fresh l)) (sym e) (ap left (value_is d []), λ n. refl, λ n. inl (refl, refl))
tells d after_comma OpenBrace ls ms may e = subst (λ l. Tells d after_comma OpenBrace ms (punctuate after_comma l)) (sym e) (object_value d (punctuate fresh ms), λ n. refl, λ n. inl (refl, refl))
tells d after_comma CloseBrace ls ms may e = subst (λ l. Tells d after_comma CloseBrace ms (punctuate after_comma l)) (sym e) (bad_tells d after_comma CloseBrace ms refl refl)
tells d after_comma OpenBracket ls ms may e = subst (λ l. Tells d after_comma OpenBracket ms (punctuate after_comma l)) (sym e) (array_value d (punctuate fresh ms), λ n. refl, λ n. inl (refl, refl))
tells d after_comma CloseBracket ls ms may e = subst (λ l. Tells d after_comma CloseBracket ms (punctuate after_comma l)) (sym e) (bad_tells d after_comma CloseBracket ms refl refl)
tells d after_comma Comma ls ms may e = subst (λ l. Tells d after_comma Comma ms (punctuate after_comma l)) (sym e) (bad_tells d after_comma Comma ms refl refl)
tells d after_comma Colon ls ms may e = subst (λ l. Tells d after_comma Colon ms (punctuate after_comma l)) (sym e) (bad_tells d after_comma Colon ms refl refl)
tells d after_comma Text ls ms may e = subst (λ l. Tells d after_comma Text ms (punctuate after_comma l)) (sym e.1) (text_tells d after_comma e.0 ms refl)
tells d after_comma Word ls ms may e = subst (λ l. Tells d after_comma Word ms (punctuate after_comma l)) (sym e.2) (plain_tells d after_comma e.0 ms e.1 refl)
tells d after_comma Bad ls ms may e = subst (λ l. Tells d after_comma Bad ms (punctuate after_comma l)) (sym e.1) (bad_tells d after_comma Bad ms refl refl)
tells d after_comma End ls ms may e = subst (λ l. Tells d after_comma End ms (punctuate after_comma l)) (sym e) (bad_tells d after_comma End ms refl refl)
tells d after_value m ls ms may e = absurd (false≢true may)
tells d after_key m ls ms may e = absurd (false≢true may)

-- ---- behind a value

-- no token is left
abbrev pub is_end : List Token → Bool
is_end [] = true
is_end (t ∷ ts) = false

-- neither an item nor a member follows without a comma
abbrev pub Stops : ℕ → Mark → List Token → Type 0
Stops d m us = (m ≢ CloseBracket → m ≢ Comma → IsItem d us None) × (m ≢ CloseBrace → m ≢ Comma → IsMember d us None) × (m ≢ End → is_end us ≡ false)

bad_stops : (d : ℕ) (m : Mark) → Stops d m (bad ∷ [])
bad_stops d m = (λ n o. (refl, ap left (value_is d (bad ∷ []))), λ n o. inl (refl, refl), λ n. refl)

text_stops : (d : ℕ) (s : List ℕ) (b : Bool) (k : Place → List Token) → Stops d Text (place_token after_value (string s) b k)
text_stops d s true k = bad_stops d Text
text_stops d s false k = bad_stops d Text

-- behind a comma some token comes
allowed_more : (b : Bool) (t : Token) (k : Place → List Token) (n : Place) → is_end (if_allowed b t k n) ≡ false
allowed_more true t k n = refl
allowed_more false t k n = refl

token_more : (p : Place) (t : Token) (b : Bool) (k : Place → List Token) → is_end (place_token p t b k) ≡ false
token_more p begin_object b k = allowed_more (may_begin p) begin_object k fresh
token_more p end_object b k = allowed_more (may_close p) end_object k after_value
token_more p begin_array b k = allowed_more (may_begin p) begin_array k fresh
token_more p end_array b k = allowed_more (may_close p) end_array k after_value
token_more p (key s) b k = refl
token_more p (string s) true k = allowed_more (may_begin p) (key s) k after_key
token_more p (string s) false k = allowed_more (may_begin p) (string s) k after_value
token_more p (number s) b k = allowed_more (may_begin p) (number s) k after_value
token_more p (boolean v) b k = allowed_more (may_begin p) (boolean v) k after_value
token_more p null b k = allowed_more (may_begin p) null k after_value
token_more p bad b k = refl

comma_more : (ls : List Lexeme) → is_end (punctuate after_comma ls) ≡ false
unfolding punctuate
comma_more [] = refl
comma_more (token t ∷ ls) = token_more after_comma t (begins_colon ls) (λ n. punctuate n ls)
comma_more (comma ∷ ls) = refl
comma_more (colon ∷ ls) = refl

-- what the first lexeme tells there
pub stops : (d : ℕ) (m : Mark) (ls ms : List Lexeme) → IsFirst ls m ms → Stops d m (punctuate after_value ls)
unfolding punctuate
stops d OpenBrace ls ms e = subst (λ l. Stops d OpenBrace (punctuate after_value l)) (sym e) (bad_stops d OpenBrace)
stops d CloseBrace ls ms e = subst (λ l. Stops d CloseBrace (punctuate after_value l)) (sym e) (λ n o. (refl, ap left (value_is d (end_object ∷ punctuate after_value ms))), λ n o. absurd (n refl), λ n. refl)
stops d OpenBracket ls ms e = subst (λ l. Stops d OpenBracket (punctuate after_value l)) (sym e) (bad_stops d OpenBracket)
stops d CloseBracket ls ms e = subst (λ l. Stops d CloseBracket (punctuate after_value l)) (sym e) (λ n o. absurd (n refl), λ n o. inl (refl, refl), λ n. refl)
stops d Comma ls ms e = subst (λ l. Stops d Comma (punctuate after_value l)) (sym e) (λ n o. absurd (o refl), λ n o. absurd (o refl), λ n. comma_more ms)
stops d Colon ls ms e = subst (λ l. Stops d Colon (punctuate after_value l)) (sym e) (bad_stops d Colon)
stops d Text ls ms e = subst (λ l. Stops d Text (punctuate after_value l)) (sym e.1) (text_stops d e.0 (begins_colon ms) (λ n. punctuate n ms))
stops d Word ls ms e = subst (λ l. Stops d Word (punctuate after_value l)) (sym e.2) (plain (λ t. Stops d Word (punctuate after_value (token t ∷ ms))) (λ s. bad_stops d Word) (λ b. bad_stops d Word) (bad_stops d Word) e.0 e.1)
stops d Bad ls ms e = subst (λ l. Stops d Bad (punctuate after_value l)) (sym e.1) (bad_stops d Bad)
stops d End ls ms e = subst (λ l. Stops d End (punctuate after_value l)) (sym e) (λ n o. (refl, ap left (value_is d [])), λ n o. inl (refl, refl), λ n. absurd (n refl))

-- a comma leads on
pub comma_leads : (m : Mark) (ls ms : List Lexeme) → m ≡ Comma → IsFirst ls m ms → punctuate after_value ls ≡ punctuate after_comma ms
unfolding punctuate
comma_leads m ls ms is e = ap (punctuate after_value) (subst (λ k. IsFirst ls k ms) is e)

-- ---- the turns of an array, by the marks that its loop meets

pub item_first : (d : ℕ) (m : Mark) (ls ms : List Lexeme) (r : Option (List Token)) → m ≢ CloseBracket → IsFirst ls m ms → r ≡ value_from m d ms → ItemsAfter d (punctuate fresh ls) (punctuate fresh ls) r
item_first d m ls ms r n e v = let t = tells d fresh m ls ms refl e in items_after d _ _ r (items_all d _) (t.1 (λ is. absurd (n is)), t.0 ∙ sym v)

pub item_next : (d : ℕ) (ts : List Token) (k m : Mark) (ks ls ms : List Lexeme) (r : Option (List Token)) → ItemsLead d ts (punctuate after_value ks) → k ≡ Comma → IsFirst ks k ls → IsFirst ls m ms
    → r ≡ value_from m d ms → ItemsAfter d ts (punctuate after_value ks) r
item_next d ts k m ks ls ms r l is e f v =
    let t = tells d after_comma m ls ms refl f in
    items_after d ts _ r l (subst (λ us. IsItem d us r) (sym (comma_leads k ks ls is e)) (t.1 (λ is. refl), t.0 ∙ sym v))

pub item_none : (d : ℕ) (ts : List Token) (k : Mark) (ks ls : List Lexeme) → ItemsLead d ts (punctuate after_value ks) → k ≢ CloseBracket → k ≢ Comma → IsFirst ks k ls → skip_items d ts ≡ None
item_none d ts k ks ls l n o e = items_after d ts _ None l ((stops d k ks ls e).0 n o)

pub array_closes : (d : ℕ) (ts : List Token) (p : Place) (k : Mark) (ks ls : List Lexeme) → ItemsLead d ts (punctuate p ks) → may_close p ≡ true → k ≡ CloseBracket → IsFirst ks k ls → skip_items d ts ≡ Some (punctuate after_value ls)
unfolding punctuate
array_closes d ts p k ks ls l may is e =
    items_close d ts _ _ l (ap (λ l. after_end_array (punctuate p l)) (subst (λ k. IsFirst ks k ls) is e) ∙ ap (λ a. after_end_array (if_allowed a end_array (λ n. punctuate n ls) after_value)) may)

-- the same of an object
pub member_first : (d : ℕ) (m : Mark) (ls ms : List Lexeme) (r : Option (List Token)) → m ≢ CloseBrace → IsFirst ls m ms → r ≡ member_from m d ms → MembersAfter d (punctuate fresh ls) (punctuate fresh ls) r
member_first d m ls ms r n e v = members_after d _ _ r (members_all d _) (subst (IsMember d (punctuate fresh ls)) (sym v) ((tells d fresh m ls ms refl e).2 (λ is. absurd (n is))))

pub member_next : (d : ℕ) (ts : List Token) (k m : Mark) (ks ls ms : List Lexeme) (r : Option (List Token)) → MembersLead d ts (punctuate after_value ks) → k ≡ Comma → IsFirst ks k ls → IsFirst ls m ms
    → r ≡ member_from m d ms → MembersAfter d ts (punctuate after_value ks) r
member_next d ts k m ks ls ms r l is e f v =
    let o = subst (IsMember d (punctuate after_comma ls)) (sym v) ((tells d after_comma m ls ms refl f).2 (λ is. refl)) in
    members_after d ts _ r l (subst (λ us. IsMember d us r) (sym (comma_leads k ks ls is e)) o)

pub member_none : (d : ℕ) (ts : List Token) (k : Mark) (ks ls : List Lexeme) → MembersLead d ts (punctuate after_value ks) → k ≢ CloseBrace → k ≢ Comma → IsFirst ks k ls → skip_members d ts ≡ None
member_none d ts k ks ls l n o e = members_after d ts _ None l ((stops d k ks ls e).1 n o)

pub object_closes : (d : ℕ) (ts : List Token) (p : Place) (k : Mark) (ks ls : List Lexeme) → MembersLead d ts (punctuate p ks) → may_close p ≡ true → k ≡ CloseBrace → IsFirst ks k ls → skip_members d ts ≡ Some (punctuate after_value ls)
unfolding punctuate
object_closes d ts p k ks ls l may is e =
    members_close d ts _ _ l (ap (λ l. read_key (punctuate p l)) (subst (λ k. IsFirst ks k ls) is e) ∙ ap (λ a. read_key (if_allowed a end_object (λ n. punctuate n ls) after_value)) may)

-- ---- a document

-- one value is the whole document where no token is left behind it
last_value : (j : Json) (ts : List Token) → is_some (if_last j ts) ≡ is_end ts
last_value j [] = refl
last_value j (t ∷ ts) = refl

abbrev leaves_none : Option (List Token) → Bool
leaves_none None = false
leaves_none (Some ts) = is_end ts

pub one_value : (r : Option (Json × List Token)) (o : Option (List Token)) → left r ≡ o → is_some (option_and_then (λ p. if_last p.0 p.1) r) ≡ leaves_none o
one_value None o e = ap leaves_none e
one_value (Some (j, us)) o e = last_value j us ∙ ap leaves_none e

pub at_end : (m : Mark) (ls ms : List Lexeme) → m ≡ End → IsFirst ls m ms → is_end (punctuate after_value ls) ≡ true
unfolding punctuate
at_end m ls ms is e = ap (λ l. is_end (punctuate after_value l)) (subst (λ k. IsFirst ls k ms) is e)
