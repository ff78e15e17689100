-- The index of a set's values while items are put in and taken out.
use Rattle.std.proofs.Common.{◌≡◌, ℕ, ◌==◌, Bool, true, false, cond, List, [], ◌∷◌, ◌++◌, Option, Some, None, option_map, refl, sym, ap, ◌∙◌, arith}
use Rattle.std.specs.Map.{update}
use Rattle.std.specs.Option.{option_and_then}
use Rattle.std.proofs.lemmas.Bool.Decides.{nat_tests}
use Rattle.lists.specs.Rising as rising
use Rattle.lists.specs.Rising.{IsAbove}
use Rattle.schema_model.specs.declared.value.Value.{Value}
use Rattle.schema_model.specs.declared.value.Value.TheVariants.{Whole, Str, Truth, Link}
use Rattle.schema_model.specs.Values.{same_value}
use Rattle.state_model.specs.declared.row.SetItem.{SetItem}
use Rattle.trees.specs.Texts.{leads, IsEmpty, IsSame, IsLean}
use Rattle.trees.proofs.TextLaws.{text-push, text-remove, text-above, leads-empty, IsLean-empty, leads-same, IsLean-same, leads-with, IsLean-with, leads-without, IsLean-without, leads-undone, IsLean-undone}
use Rattle.state_laws.proofs.SameValues.{same_is}
use Rattle.collection_ops.specs.Bodies.{set_number, value_item, LeadsValues}
use Rattle.collection_ops.specs.Indexes.{text_in, value_text, value_texts, plain_number, value_number, IsSameIndex, IsWithValue, IsWithoutValue, IsValueIndex}
use Rattle.collection_ops.specs.declared.value_index.ValueIndex.{ValueIndex}

-- ---- texts and other values

-- what holds of each text and of each other value holds of all values
by_value : (P : Value → Type 0) → ((t : List ℕ) → P (Str t)) → ((v : Value) → text_in v ≡ None → P v) → (v : Value) → P v
by_value P text plain (Whole z) = plain (Whole z) refl
by_value P text plain (Str t) = text t
by_value P text plain (Truth b) = plain (Truth b) refl
by_value P text plain (Link n) = plain (Link n) refl

-- no text is another value
text_apart : (t : List ℕ) (v : Value) → text_in v ≡ None → same_value (Str t) v ≡ false
text_apart t (Whole z) h = refl
text_apart t (Str s) h = cc
text_apart t (Truth b) h = refl
text_apart t (Link n) h = refl

apart_text : (v : Value) (t : List ℕ) → text_in v ≡ None → same_value v (Str t) ≡ false
apart_text (Whole z) t h = refl
apart_text (Str s) t h = cc
apart_text (Truth b) t h = refl
apart_text (Link n) t h = refl

-- where a value leads that is no text
number_plain : (items : List SetItem) (index : ValueIndex) (v : Value) → text_in v ≡ None → value_number items index v ≡ plain_number index v
number_plain items index (Whole z) h = refl
number_plain items index (Str t) h = cc
number_plain items index (Truth true) h = refl
number_plain items index (Truth false) h = refl
number_plain items index (Link n) h = refl

-- no text comes or goes with an item that has none
no_text : (texts : ℕ → Option (List ℕ)) (n k : ℕ) (o : Option (List ℕ)) → o ≡ None → texts n ≡ None → cond (n == k) o (texts k) ≡ texts k
no_text texts n k o is none = grind (arith, nat_tests, is, none)

-- ---- the index

-- an index leads where this function does, and nothing is left over
pub record LeadsBy (items : List SetItem) (index : ValueIndex) (f : Value → Option ℕ) : Type 0 where
  pub same : (q : Value) → value_number items index q ≡ f q
  pub lean : IsLean (value_texts items) index.texts

-- where that is to the number of each value's item, it is the index of the items
pub index_by : (items : List SetItem) (index : ValueIndex) (f : Value → Option ℕ) → LeadsBy items index f → LeadsValues items f → IsValueIndex items index
index_by items index f by leads = record { values = λ q. by.same q ∙ leads q; lean = by.lean }

-- the index of no items
pub empty_index : (index : ValueIndex) → ((q : Value) → plain_number index q ≡ None) → IsEmpty index.texts → IsValueIndex [] index
empty_index index plain none = record {
  values = by_value (λ q. value_number [] index q ≡ option_map set_number (value_item [] q)) (λ t. leads-empty (value_texts []) index.texts none t) (λ v h. number_plain [] index v h ∙ plain v);
  lean = IsLean-empty (value_texts []) index.texts none;
}

-- where the texts of the items and an index of them are the same, so is where the values lead, if that of others is
module _ (items now : List SetItem) (old new : ValueIndex) (stays : (k : ℕ) → value_texts now k ≡ value_texts items k) (same : IsSame old.texts new.texts) (f : Value → Option ℕ)
    (texts : (t : List ℕ) → f (Str t) ≡ value_number items old (Str t)) (plain : (q : Value) → text_in q ≡ None → plain_number new q ≡ f q) where
  same_texts : IsLean (value_texts items) old.texts → LeadsBy now new f
  same_texts lean = record {
    same = by_value (λ q. value_number now new q ≡ f q) (λ t. leads-same (value_texts items) (value_texts now) stays old.texts new.texts same t ∙ sym (texts t)) (λ q h. number_plain now new q h ∙ plain q h);
    lean = IsLean-same (value_texts items) (value_texts now) stays old.texts new.texts same lean;
  }

module _ (items : List SetItem) (old : ValueIndex) (is : IsValueIndex items old) where
  -- where a value leads whose item is known
  leads_to : (v : Value) (o : Option ℕ) → option_map set_number (value_item items v) ≡ o → value_number items old v ≡ o
  leads_to v o at = is.values v ∙ at

  nowhere : (v : Value) → value_item items v ≡ None → value_number items old v ≡ None
  nowhere v absent = leads_to v None (ap (option_map set_number) absent)

  -- the index is as it was
  pub kept_index : (new : ValueIndex) → IsSameIndex old new → IsValueIndex items new
  kept_index new same = index_by items new (value_number items old)
      (same_texts items items old new (λ k. refl) same.texts (value_number items old) (λ t. refl) (λ q h. same.plain q ∙ sym (number_plain items old q h)) is.lean) is.values

  -- where values lead besides one, or all but one
  others : (v : Value) (w : Option ℕ) (new : ValueIndex) → ((q : Value) → plain_number new q ≡ update same_value (plain_number old) v w q) → (q : Value) → text_in q ≡ None → plain_number new q ≡ update same_value (value_number items old) v w q
  others v w new plain q h = plain q ∙ ap (λ o. cond (same_value v q) w o) (sym (number_plain items old q h))

  -- no text leads elsewhere by another value
  text_stays : (v : Value) (w : Option ℕ) (t : List ℕ) → text_in v ≡ None → update same_value (value_number items old) v w (Str t) ≡ value_number items old (Str t)
  text_stays v w t h = ap (λ b. cond b w (value_number items old (Str t))) (apart_text v t h)

  -- no other value leads elsewhere by a text
  plain_stays : (t : List ℕ) (w : Option ℕ) (new : ValueIndex) → ((q : Value) → plain_number new q ≡ plain_number old q) → (now : List SetItem) (q : Value) → text_in q ≡ None →
      value_number now new q ≡ update same_value (value_number items old) (Str t) w q
  plain_stays t w new plain now q h =
      number_plain now new q h ∙ (plain q ∙ (sym (number_plain items old q h) ∙ sym (ap (λ b. cond b w (value_number items old q)) (text_apart t q h))))

  -- a value that is no text and isn't there is put in, of an item behind all others
  more_plain : (new : ValueIndex) (v : Value) (n : ℕ) → text_in v ≡ None → IsAbove set_number n items → ((q : Value) → plain_number new q ≡ update same_value (plain_number old) v (Some n) q) → IsSame old.texts new.texts →
      LeadsBy (items ++ record { number = n; value = v } ∷ []) new (update same_value (value_number items old) v (Some n))
  more_plain new v n lacks above plain same =
      let x : SetItem = record { number = n; value = v } in
      let stays = λ (k : ℕ). text-push set_number value_text items x k above ∙ no_text (value_texts items) n k (text_in v) lacks (text-above set_number value_text items n above) in
      same_texts items (items ++ x ∷ []) old new stays same (update same_value (value_number items old) v (Some n)) (λ t. text_stays v (Some n) t lacks) (others v (Some n) new plain) is.lean

  -- the same of each value
  pub more_index : (new : ValueIndex) (v : Value) (n : ℕ) → IsAbove set_number n items → value_item items v ≡ None → IsWithValue old new v n →
      LeadsBy (items ++ record { number = n; value = v } ∷ []) new (update same_value (value_number items old) v (Some n))
  more_index new (Str t) n above absent more =
      let x : SetItem = record { number = n; value = Str t } in
      let now = items ++ x ∷ [] in
      let added = λ (k : ℕ). text-push set_number value_text items x k above in
      let none = text-above set_number value_text items n above in
      let led = leads-with (value_texts items) (value_texts now) old.texts new.texts t n added none more.1 (nowhere (Str t) absent) in record {
        same = by_value (λ q. value_number now new q ≡ update same_value (value_number items old) (Str t) (Some n) q) led (plain_stays t (Some n) new more.0 now);
        lean = IsLean-with (value_texts items) (value_texts now) old.texts new.texts t n added none more.1 (nowhere (Str t) absent) is.lean;
      }
  more_index new (Whole z) n above absent more = more_plain new (Whole z) n refl above more.0 more.1
  more_index new (Truth b) n above absent more = more_plain new (Truth b) n refl above more.0 more.1
  more_index new (Link m) n above absent more = more_plain new (Link m) n refl above more.0 more.1

  -- a value that is no text is taken out
  less_plain : (new : ValueIndex) (v : Value) (n : ℕ) → text_in v ≡ None → value_texts items n ≡ None → ((q : Value) → plain_number new q ≡ update same_value (plain_number old) v None q) → IsSame old.texts new.texts →
      LeadsBy (rising.remove set_number n items) new (update same_value (value_number items old) v None)
  less_plain new v n lacks none plain same =
      let stays = λ (k : ℕ). text-remove set_number value_text items n k ∙ no_text (value_texts items) n k None refl none in
      same_texts items (rising.remove set_number n items) old new stays same (update same_value (value_number items old) v None) (λ t. text_stays v None t lacks) (others v None new plain) is.lean

  -- the same of each value
  pub less_index : (new : ValueIndex) (v : Value) (n : ℕ) (i : SetItem) → option_map set_number (value_item items v) ≡ Some n → rising.find set_number n items ≡ Some i → i.value ≡ v → IsWithoutValue old new v n →
      LeadsBy (rising.remove set_number n items) new (update same_value (value_number items old) v None)
  less_index new (Str t) n i led at holds less =
      let now = rising.remove set_number n items in
      let gone = λ (k : ℕ). text-remove set_number value_text items n k in
      let out = leads-without (value_texts items) (value_texts now) old.texts new.texts t n gone less.1 is.lean (leads_to (Str t) (Some n) led) in record {
        same = by_value (λ q. value_number now new q ≡ update same_value (value_number items old) (Str t) None q) out (plain_stays t None new less.0 now);
        lean = IsLean-without (value_texts items) (value_texts now) old.texts new.texts t n gone less.1 is.lean (leads_to (Str t) (Some n) led);
      }
  less_index new (Whole z) n i led at holds less = less_plain new (Whole z) n refl (ap (option_and_then value_text) at ∙ ap text_in holds) less.0 less.1
  less_index new (Truth b) n i led at holds less = less_plain new (Truth b) n refl (ap (option_and_then value_text) at ∙ ap text_in holds) less.0 less.1
  less_index new (Link m) n i led at holds less = less_plain new (Link m) n refl (ap (option_and_then value_text) at ∙ ap text_in holds) less.0 less.1

  -- a value that is no text is put in and taken out again
  undone_plain : (between new : ValueIndex) (v : Value) (n : ℕ) → text_in v ≡ None → value_item items v ≡ None → ((q : Value) → plain_number between q ≡ update same_value (plain_number old) v (Some n) q) → IsSame old.texts between.texts →
      ((q : Value) → plain_number new q ≡ update same_value (plain_number between) v None q) → IsSame between.texts new.texts → IsSameIndex old new
  undone_plain between new v n lacks absent plain same plain_2 same_2 = record {
    plain = λ q. plain_2 q ∙ (ap (λ o. cond (same_value v q) None o) (plain q) ∙ back q (same_value v q) refl);
    texts = record { hashes = λ h. same_2.hashes h ∙ same.hashes h; others = λ t. same_2.others t ∙ same.others t };
  }
    where
      back : (q : Value) (b : Bool) → same_value v q ≡ b → cond b None (cond b (Some n) (plain_number old q)) ≡ plain_number old q
      back q true is_q = sym (ap (plain_number old) (sym (same_is v q is_q)) ∙ (sym (number_plain items old v lacks) ∙ nowhere v absent))
      back q false apart = refl

  -- the same of each value, since there is no memory for the item
  pub undone_index : (between new : ValueIndex) (v : Value) (n : ℕ) → IsAbove set_number n items → value_item items v ≡ None → IsWithValue old between v n → IsWithoutValue between new v n → IsValueIndex items new
  undone_index between new (Str t) n above absent more less =
      let texts = value_texts items in
      let none = text-above set_number value_text items n above in
      let same = leads-undone texts old.texts between.texts new.texts t n none (nowhere (Str t) absent) more.1 less.1 is.lean in record {
        values = by_value (λ q. value_number items new q ≡ option_map set_number (value_item items q)) (λ s. same s ∙ is.values (Str s)) (λ q h. number_plain items new q h ∙ (less.0 q ∙ (more.0 q ∙ (sym (number_plain items old q h) ∙ is.values q))));
        lean = IsLean-undone texts old.texts between.texts new.texts t n none (nowhere (Str t) absent) more.1 less.1 is.lean;
      }
  undone_index between new (Whole z) n above absent more less = kept_index new (undone_plain between new (Whole z) n refl absent more.0 more.1 less.0 less.1)
  undone_index between new (Truth b) n above absent more less = kept_index new (undone_plain between new (Truth b) n refl absent more.0 more.1 less.0 less.1)
  undone_index between new (Link m) n above absent more less = kept_index new (undone_plain between new (Link m) n refl absent more.0 more.1 less.0 less.1)
