-- The index of the items of a map is kept while items are put in and taken out.
use Rattle.std.proofs.Common.{◌≡◌, ℕ, suc, Bool, true, false, cond, not, ◌||◌, ◌==◌, List, [], ◌∷◌, ◌++◌, append_assoc, Option, Some, None, IfSome, refl, sym, ap, subst, ◌∙◌, arith}
use Rattle.std.specs.Option.{option_and_then}
use Rattle.std.specs.Str.{bytes_eq}
use Rattle.std.proofs.lemmas.Bool.Decides.{nat_tests}
use Rattle.std.proofs.lemmas.Option.{IfSome_then}
use Rattle.lists.specs.Rising.{RisesFrom, find, put, remove}
use Rattle.lists.proofs.RisingLaws.{find_key, find_below, find-put, find-remove, find-filter, RisesFrom-put, RisesFrom-filter, RisesFrom-remove, same_rising}
use Rattle.schema_model.specs.declared.value.Value.{Value}
use Rattle.state_model.specs.declared.row.MapItem.{MapItem}
use Rattle.trees.specs.declared.text_index.TextIndex.{TextIndex}
use Rattle.trees.specs.Texts.{is_text, leads, is_found, IsWith, IsIndexOf}
use Rattle.trees.proofs.TextLaws.{text-is, text-put, text-remove, index-same, leads-nowhere, index-with, index-without}
use Rattle.wire_model.specs.Effect.{without_key, put_named}
use Rattle.wire_ops.specs.Index.{key_texts, without_item, IsWithoutAny, IsWithoutItem, IsIndexWithout}
use Rattle.wire_ops.proofs.ItemLaws.{number_of}

-- the key of an item
abbrev key_in : MapItem → Option (List ℕ)
key_in i = Some i.key

abbrev Rises : List MapItem → Type 0
Rises items = RisesFrom number_of 0 items

-- an item stays when one with this number and this key is put in
abbrev stays : ℕ → List ℕ → MapItem → Bool
stays n key i = (i.number == n) || not (bytes_eq i.key key)

-- an item that is looked up, if it stays
abbrev if_stays : ℕ → List ℕ → Option MapItem → Option MapItem
if_stays n key held = option_and_then (λ i. cond (stays n key i) (Some i) None) held

find-without_item : (other : Option ℕ) (items : List MapItem) (k : ℕ) →
    find number_of k (without_item other items) ≡ cond (is_found k other) None (find number_of k items)
find-without_item None items k = refl
find-without_item (Some m) items k = find-remove number_of m items k

RisesFrom-without_item : (other : Option ℕ) (items : List MapItem) → Rises items → Rises (without_item other items)
RisesFrom-without_item None items r = r
RisesFrom-without_item (Some m) items r = RisesFrom-remove number_of 0 m items r

-- the keys of the items that are left
text-without_item : (other : Option ℕ) (items : List MapItem) (k : ℕ) → key_texts (without_item other items) k ≡ cond (is_found k other) None (key_texts items k)
text-without_item None items k = refl
text-without_item (Some m) items k = text-remove number_of key_in items m k

-- where a number has no text nothing goes with it
none_at : (texts : ℕ → Option (List ℕ)) (n k : ℕ) → texts n ≡ None → cond (n == k) None (texts k) ≡ texts k
none_at texts n k none = grind (arith, nat_tests, none)

none_at_own : (texts : ℕ → Option (List ℕ)) (n : ℕ) → cond (n == n) None (texts n) ≡ None
none_at_own texts n = grind (arith, nat_tests)

-- ---- an item is put in, and another one that has its key is taken out

find-put_named : (n : ℕ) (key : List ℕ) (v : Value) (items : List MapItem) (k : ℕ) → Rises items →
    find number_of k (put_named n key v items) ≡ cond (n == k) (Some (record { number = n; key = key; value = v })) (if_stays n key (find number_of k items))
find-put_named n key v items k r =
    let x : MapItem = record { number = n; key = key; value = v } in
    find-put number_of x (without_key n key items) k ∙ ap (λ o. cond (n == k) (Some x) o) (find-filter number_of 0 (stays n key) items k r)

-- the one that is taken out is the other one that doesn't stay
same_found : (n k : ℕ) (key : List ℕ) (x : MapItem) (held : Option MapItem) (owner : Option ℕ) → is_found n owner ≡ false → ((n == k) ≡ false → is_found k owner ≡ is_text key (option_and_then key_in held))
    → ((i : MapItem) → held ≡ Some i → i.number ≡ k) →
    cond (is_found k owner) None (cond (n == k) (Some x) held) ≡ cond (n == k) (Some x) (if_stays n key held)
same_found n k key x held owner other owns numbered = by_test (n == k) refl held owns numbered
  where
    by_test : (b : Bool) → (n == k) ≡ b → (o : Option MapItem) → (b ≡ false → is_found k owner ≡ is_text key (option_and_then key_in o)) → ((i : MapItem) → o ≡ Some i → i.number ≡ k) →
        cond (is_found k owner) None (cond b (Some x) o) ≡ cond b (Some x) (if_stays n key o)
    by_test true same o owns numbered = (let number : n ≡ k = grind (arith, nat_tests, same) in ap (λ b. cond b None (Some x)) (ap (λ j. is_found j owner) (sym number) ∙ other))
    by_test false apart None owns numbered = ap (λ b. cond b None None) (owns refl)
    by_test false apart (Some i) owns numbered = (let number : i.number ≡ k = numbered i refl in grind (arith, nat_tests, number, apart, owns refl))

put_named-found : (n : ℕ) (key : List ℕ) (v : Value) (items : List MapItem) (owner : Option ℕ) → Rises items → is_found n owner ≡ false → ((k : ℕ) → (n == k) ≡ false → is_found k owner ≡ is_text key (key_texts items k)) →
    without_item owner (put number_of (record { number = n; key = key; value = v }) items) ≡ put_named n key v items
put_named-found n key v items owner r other owns =
    let x : MapItem = record { number = n; key = key; value = v } in
    same_rising number_of 0 0 (without_item owner (put number_of x items)) (put_named n key v items)
    (RisesFrom-without_item owner (put number_of x items) (RisesFrom-put number_of 0 x items r (omega arith)))
    (RisesFrom-put number_of 0 x (without_key n key items) (RisesFrom-filter number_of 0 (stays n key) items r) (omega arith))
    (λ k. find-without_item owner (put number_of x items) k
    ∙ (ap (λ o. cond (is_found k owner) None o) (find-put number_of x items k)
    ∙ (same_found n k key x (find number_of k items) owner other (owns k) (find_key number_of k items)
    ∙ sym (find-put_named n key v items k r))))

module _ (n : ℕ) (key : List ℕ) (v : Value) (items : List MapItem) (index : TextIndex) (r : Rises items) (is : IsIndexOf (key_texts items) index) where
  abbrev x : MapItem
  x = record { number = n; key = key; value = v }

  -- the key is that of the item of the number
  pub put_own : leads (key_texts items) index key ≡ Some n → (put number_of x items ≡ put_named n key v items) × IsIndexOf (key_texts (put number_of x items)) index
  put_own led = (put_named-found n key v items None r refl others, index-same (key_texts items) (key_texts (put number_of x items)) index kept is)
    where
      others : (k : ℕ) → (n == k) ≡ false → false ≡ is_text key (key_texts items k)
      others k apart = sym apart ∙ (ap (is_found k) (sym led) ∙ is.numbers key k)

      here : key_texts items n ≡ Some key
      here = text-is key (key_texts items n) (sym (is.numbers key n) ∙ (ap (is_found n) led ∙ grind (arith, nat_tests)))

      kept : (k : ℕ) → key_texts (put number_of x items) k ≡ key_texts items k
      kept k = text-put number_of key_in items x k ∙ by_test (n == k) refl
        where
          by_test : (b : Bool) → (n == k) ≡ b → cond b (Some key) (key_texts items k) ≡ key_texts items k
          by_test true same = (let number : n ≡ k = grind (arith, nat_tests, same) in sym here ∙ ap (key_texts items) number)
          by_test false apart = refl

  -- it is that of another item, or of none
  pub put_other : (owner : Option ℕ) (old : Option MapItem) (after : List MapItem) (first second third : TextIndex) → leads (key_texts items) index key ≡ owner → is_found n owner ≡ false → find number_of n items ≡ old →
      after ≡ without_item owner (put number_of x items) → IsWithoutAny index first key owner → IsWithoutItem first second old → IsWith second third key n →
      (after ≡ put_named n key v items) × IsIndexOf (key_texts after) third
  put_other owner old after first second third led other held made out gone more =
      (made ∙ put_named-found n key v items owner r other (λ k apart. owns k), index-with without_both (key_texts after) second third key n put_in gone_here (leads-nowhere without_both second key is_second nowhere) is_second more)
    where
      owns : (k : ℕ) → is_found k owner ≡ is_text key (key_texts items k)
      owns k = ap (is_found k) (sym led) ∙ is.numbers key k

      -- without the item that has the key, and then without that of the number
      without_owner : ℕ → Option (List ℕ)
      without_owner k = cond (is_found k owner) None (key_texts items k)

      without_both : ℕ → Option (List ℕ)
      without_both k = cond (n == k) None (without_owner k)

      is_first : IsIndexOf without_owner first
      is_first = by_owner owner refl out
        where
          by_owner : (o : Option ℕ) → owner ≡ o → IsWithoutAny index first key o → IsIndexOf without_owner first
          by_owner None at same =
              subst (λ i. IsIndexOf without_owner i) (sym same) (index-same (key_texts items) without_owner index (λ k. ap (λ o. cond (is_found k o) None (key_texts items k)) at) is)
          by_owner (Some m) at without =
              let there : key_texts items m ≡ Some key = text-is key (key_texts items m) (sym (is.numbers key m) ∙ (ap (is_found m) (led ∙ at) ∙ grind (arith, nat_tests))) in
              index-without (key_texts items) without_owner index first key m (λ k. ap (λ o. cond (is_found k o) None (key_texts items k)) at) there is without

      is_second : IsIndexOf without_both second
      is_second = by_old old held gone
        where
          by_old : (o : Option MapItem) → find number_of n items ≡ o → IsWithoutItem first second o → IsIndexOf without_both second
          by_old None at same = subst (λ i. IsIndexOf without_both i) (sym same)
              (index-same without_owner without_both first (λ k. none_at without_owner n k (ap (λ o. cond (is_found n owner) None (option_and_then key_in o)) at ∙ ap (λ b. cond {A = Option (List ℕ)} b None None) other)) is_first)
          by_old (Some i) at without =
              let number : i.number ≡ n = find_key number_of n items i at in
              let there : without_owner i.number ≡ Some i.key = ap without_owner number ∙ (ap (λ b. cond b None (key_texts items n)) other ∙ ap (option_and_then key_in) at) in
              index-without without_owner without_both first second i.key i.number (λ k. ap (λ m. cond (m == k) None (without_owner k)) (sym number)) there is_first without

          either : (b : Bool) → cond {A = Option (List ℕ)} b None None ≡ None
          either true = refl
          either false = refl

      gone_here : without_both n ≡ None
      gone_here = none_at_own without_owner n

      nowhere : (k : ℕ) → is_text key (without_both k) ≡ false
      nowhere k = by_test (n == k) (is_found k owner) refl
        where
          by_test : (b c : Bool) → is_found k owner ≡ c → is_text key (cond b None (cond c None (key_texts items k))) ≡ false
          by_test true c h = refl
          by_test false true h = refl
          by_test false false h = sym (owns k) ∙ h

      put_in : (k : ℕ) → key_texts after k ≡ cond (n == k) (Some key) (without_both k)
      put_in k =
          ap (λ l. key_texts l k) made ∙ (text-without_item owner (put number_of x items) k
          ∙ (ap (λ o. cond (is_found k owner) None o) (text-put number_of key_in items x k) ∙ by_test (n == k) refl))
        where
          by_test : (b : Bool) → (n == k) ≡ b → cond (is_found k owner) None (cond b (Some key) (key_texts items k)) ≡ cond b (Some key) (cond b None (without_owner k))
          by_test true same = (let number : n ≡ k = grind (arith, nat_tests, same) in ap (λ j. cond (is_found j owner) None (Some key)) (sym number) ∙ ap (λ b. cond b None (Some key)) other)
          by_test false apart = refl

-- ---- an item is added, is taken out, or gets a new value

pub add_index : (items : List MapItem) (old new : TextIndex) (x : MapItem) → find number_of x.number items ≡ None → leads (key_texts items) old x.key ≡ None → IsIndexOf (key_texts items) old → IsWith old new x.key x.number →
    IsIndexOf (key_texts (put number_of x items)) new
add_index items old new x none absent is more = index-with (key_texts items) (key_texts (put number_of x items)) old new x.key x.number (text-put number_of key_in items x) (ap (option_and_then key_in) none) absent is more

-- an item before others that rise has a number of its own
apart_behind : (low : ℕ) (xs : List MapItem) (x : MapItem) (ys : List MapItem) → RisesFrom number_of low (xs ++ x ∷ ys) → find number_of x.number ys ≡ None
apart_behind low [] x ys r = find_below number_of (suc x.number) ys x.number r.1 (omega arith)
apart_behind low (z ∷ xs) x ys r = apart_behind (suc z.number) xs x ys r.1

-- the last of what is left has a number that none has which was moved
pub next_apart : (all rest : List MapItem) (x : MapItem) (done left : List MapItem) → Rises all → all ≡ left ++ done → left ≡ rest ++ x ∷ [] → find number_of x.number done ≡ None
next_apart all rest x done left r h p =
    let whole : all ≡ rest ++ x ∷ done = h ∙ (ap (λ l. l ++ done) p ∙ append_assoc rest (x ∷ []) done) in
    apart_behind 0 rest x done (rw whole at r)

remove_index : (items : List MapItem) (old new : TextIndex) (n : ℕ) (held : Option MapItem) → held ≡ find number_of n items → IsIndexOf (key_texts items) old → IsWithoutItem old new held →
    IsIndexOf (key_texts (remove number_of n items)) new
remove_index items old new n held at is gone = by_held held (sym at) gone
  where
    by_held : (o : Option MapItem) → find number_of n items ≡ o → IsWithoutItem old new o → IsIndexOf (key_texts (remove number_of n items)) new
    by_held None none same = subst (λ i. IsIndexOf (key_texts (remove number_of n items)) i) (sym same) (index-same (key_texts items) (key_texts (remove number_of n items)) old kept is)
      where
        kept : (k : ℕ) → key_texts (remove number_of n items) k ≡ key_texts items k
        kept k = text-remove number_of key_in items n k ∙ none_at (key_texts items) n k (ap (option_and_then key_in) none)
    by_held (Some i) there without =
        let number : i.number ≡ n = find_key number_of n items i there in
        let here : key_texts items i.number ≡ Some i.key = ap (key_texts items) number ∙ ap (option_and_then key_in) there in
        index-without (key_texts items) (key_texts (remove number_of n items)) old new i.key i.number (λ k. text-remove number_of key_in items n k ∙ ap (λ m. cond (m == k) None (key_texts items k)) (sym number)) here is without

-- the same where there may be no index
pub remove_from : (items : List MapItem) (old new : Option TextIndex) (n : ℕ) (held : Option MapItem) → held ≡ find number_of n items → IfSome old (IsIndexOf (key_texts items)) → IsIndexWithout old new held →
    IfSome new (IsIndexOf (key_texts (remove number_of n items)))
remove_from items None new n held at is gone = rw gone tt
remove_from items (Some old) new n held at is gone = IfSome_then new gone (λ i without. remove_index items old i n held at is without)

pub again_index : (n : ℕ) (v : Value) (old : MapItem) (items : List MapItem) (index : TextIndex) → find number_of n items ≡ Some old → IsIndexOf (key_texts items) index →
    IsIndexOf (key_texts (put number_of (record { number = n; key = old.key; value = v }) (remove number_of n items))) index
again_index n v old items index at is = index-same (key_texts items) (key_texts (put number_of x (remove number_of n items))) index kept is
  where
    x : MapItem
    x = record { number = n; key = old.key; value = v }

    kept : (k : ℕ) → key_texts (put number_of x (remove number_of n items)) k ≡ key_texts items k
    kept k = text-put number_of key_in (remove number_of n items) x k ∙ (ap (λ o. cond (n == k) (Some old.key) o) (text-remove number_of key_in items n k) ∙ by_test (n == k) refl)
      where
        by_test : (b : Bool) → (n == k) ≡ b → cond b (Some old.key) (cond b None (key_texts items k)) ≡ key_texts items k
        by_test true same = (let number : n ≡ k = grind (arith, nat_tests, same) in sym (ap (option_and_then key_in) at) ∙ ap (key_texts items) number)
        by_test false apart = refl
