-- Sums over the first items of a list, the value of a map's key by its number, and the text after a command.
use Rattle.std.proofs.Common.{◌≡◌, ℕ, zero, suc, ◌+◌, ◌<◌, ◌≤◌, Bool, true, false, cond, not, ◌&&◌, List, [], ◌∷◌, ◌++◌, length, take, nat_lt, Option, Some, None, is_some, option_and_then, refl, sym, ap, ap₂, ◌∙◌, arith}
use Rattle.std.specs.Prelude.{slice_get}
use Rattle.std.specs.List.{sum_by}
use Rattle.std.specs.Option.{option_map, option_map_or}
use Rattle.std.proofs.lemmas.Bool.Decides.{nat_tests}
use Rattle.std.proofs.lemmas.List.Sums.{sum_by-cons}
use Rattle.std.proofs.Math.Seq.{take-length}
use Rattle.lists.specs.Rising.{RisesFrom, find}
use Rattle.schema_model.specs.Classes.{Schema}
use Rattle.schema_model.specs.declared.value.Value.{Value}
use Rattle.state_model.specs.declared.row.Row.{Row}
use Rattle.state_model.specs.declared.row.Row.TheVariants as row
use Rattle.state_model.specs.declared.row.MapItem.{MapItem}
use Rattle.state_model.specs.declared.command.Command.{Command}
use Rattle.state_model.specs.declared.command.Command.TheVariants as command
use Rattle.state_model.specs.Rows.{row_at, emptied, put_row, text_bytes_of}
use Rattle.state_model.specs.State.{State, next_item, text_limit}
use Rattle.state_model.specs.Commands.{edited, holder_of, is_no_field, is_no_item, is_present, made_row, makes_row, row_for, state_after, value_put, with_change, with_new}
use Rattle.command_laws.specs.Accounts.{is_clear, key_added, key_taken, replaced, row_text, text_in_value, IsFit}
use Rattle.command_laws.specs.Kept.{IsKept}
use Rattle.command_laws.proofs.Accepted.{made_new}
use Rattle.command_laws.proofs.Accounts.{clear_counts, edited_text}
use Rattle.command_laws.proofs.NewRows.{next_free}
use Rattle.command_laws.proofs.RowSums.{new_row_text, put_row_text}
use Rattle.command_laws.proofs.SoundRows.{sound_rises, sound_row}
use Rattle.collection_ops.specs.Bodies.{map_number, key_item}
use Rattle.collection_ops.proofs.MapLaws.{number_from}
use Rattle.instance_table.specs.Amounts.{is_text_full, text_of_place}

-- the sum over one item more
pub sum_next : {X : Type 0} (w : X → ℕ) (n : ℕ) (xs : List X) → n < length xs → sum_by w (take (n + 1) xs) ≡ sum_by w (take n xs) + option_map_or w (slice_get xs n) 0
sum_next w n [] h = absurd (omega arith)
sum_next w zero (x ∷ xs) h = omega (arith, sum_by-cons w x [])
sum_next w (suc n) (x ∷ xs) h =
    let more : suc n + 1 ≡ suc (n + 1) = omega arith in
    let whole = ap (λ m. sum_by w (take m (x ∷ xs))) more in
    omega (arith, whole, sum_by-cons w x (take (n + 1) xs), sum_by-cons w x (take n xs), sum_next w n xs (omega arith))

-- the sum over the first items is at most the sum over all
pub sum_within : {X : Type 0} (w : X → ℕ) (n : ℕ) (xs : List X) → sum_by w (take n xs) ≤ sum_by w xs
sum_within w zero xs = omega arith
sum_within w (suc n) [] = omega arith
sum_within w (suc n) (x ∷ xs) = omega (arith, sum_by-cons w x (take n xs), sum_by-cons w x xs, sum_within w n xs)

-- the sum over all, where the first items are all
pub sum_all : {X : Type 0} (w : X → ℕ) (size n : ℕ) (xs : List X) → n ≡ length xs → size ≡ sum_by w (take n xs) → size ≡ sum_by w xs
sum_all w size n xs all is = is ∙ ap (sum_by w) (ap (λ m. take m xs) all ∙ take-length xs)

-- the sum with the weight of the next item added
pub sum_grown : {X : Type 0} (w : X → ℕ) (size n more : ℕ) (xs : List X) → n < length xs → size ≡ sum_by w (take n xs) → more ≡ option_map_or w (slice_get xs n) 0 → size + more ≡ sum_by w (take (n + 1) xs)
sum_grown w size n more xs h is next = omega (arith, is, next, sum_next w n xs h)

-- the same where no item is next
pub sum_same : {X : Type 0} (w : X → ℕ) (size n : ℕ) (xs : List X) → n < length xs → size ≡ sum_by w (take n xs) → None ≡ slice_get xs n → size ≡ sum_by w (take (n + 1) xs)
sum_same w size n xs h is none = omega (arith, is, ap (λ o. option_map_or w o 0) none, sum_next w n xs h)

-- that sum is within a limit that the sum over all keeps
pub sum_bounded : {X : Type 0} (w : X → ℕ) (size n more limit : ℕ) (xs : List X) → n < length xs → size ≡ sum_by w (take n xs) → more ≡ option_map_or w (slice_get xs n) 0 → sum_by w xs ≤ limit → size + more ≤ limit
sum_bounded w size n more limit xs h is next few = omega (arith, sum_grown w size n more xs h is next, sum_within w (n + 1) xs, few)

-- the item of a key is found by its number
key_found : (low : ℕ) (items : List MapItem) (key : List ℕ) (i : MapItem) → RisesFrom map_number low items → key_item items key ≡ Some i → find map_number i.number items ≡ Some i
key_found low [] key i r h = cc
key_found low (x ∷ items) key i r h = grind (arith, nat_tests, number_from (suc x.number) items key i r.1, key_found (suc x.number) items key i r.1)

-- the value of a key is that of its number
pub value_by_number : (items : List MapItem) (key : List ℕ) (n : ℕ) → RisesFrom map_number 0 items → Some n ≡ option_map map_number (key_item items key)
    → option_map (λ (i : MapItem). i.value) (find map_number n items) ≡ option_map (λ (i : MapItem). i.value) (key_item items key)
value_by_number items key n r h = from (key_item items key) refl h
  where
    from : (o : Option MapItem) → key_item items key ≡ o → Some n ≡ option_map map_number o → option_map (λ (i : MapItem). i.value) (find map_number n items) ≡ option_map (λ (i : MapItem). i.value) (key_item items key)
    from None e h = cc
    from (Some i) e h =
        let same : n ≡ i.number = cc in
        ap (option_map (λ (i : MapItem). i.value)) (ap (λ m. find map_number m items) same ∙ (key_found 0 items key i r e ∙ sym e))

-- ---- how many bytes of text there are after a command

-- not more than the limit
pub within_limit : (n : ℕ) → n ≤ text_limit → nat_lt text_limit n ≡ false
within_limit n h = grind (arith, nat_tests)

-- a row without places has no text
no_text : (r : Row) → row_text (emptied r) ≡ 0
no_text (row.Struct class fields) = refl
no_text (row.Map home items) = refl
no_text (row.Array home values) = refl
no_text (row.Set home items) = refl

-- a row that is made has none
made_textless : (schema : Schema) (c : Command) (r : Row) → made_row schema c ≡ Some r → row_text r ≡ 0
made_textless schema c r h = ap row_text (sym (made_new schema c r h).empty) ∙ no_text r

-- a new row leaves the text as it was
pub text_made : (schema : Schema) (s : State) (c : Command) → IsKept schema s → text_bytes_of (with_new s (made_row schema c)).rows ≡ text_bytes_of s.rows
text_made schema s c kept = by_row (made_row schema c) refl
  where
    by_row : (o : Option Row) → made_row schema c ≡ o → text_bytes_of (with_new s o).rows ≡ text_bytes_of s.rows
    by_row None h = refl
    by_row (Some r) h = omega (arith, new_row_text s.rows (suc s.given) r (sound_rises schema s.rows kept.sound) (next_free schema s kept), made_textless schema c r h)

-- a command that changes a row makes none
pub makes_none : (c : Command) (holder : ℕ) → holder_of c ≡ Some holder → makes_row c ≡ false
makes_none (command.Make class) holder h = cc
makes_none (command.MakeFor home) holder h = cc
makes_none c holder h = refl

-- the rows after it
rows_after : (schema : Schema) (s : State) (c : Command) (holder : ℕ) (r : Row) → holder_of c ≡ Some holder → row_at s.rows holder ≡ Some r
    → (state_after schema s c).rows ≡ put_row holder (edited c (next_item s holder) r) s.rows
rows_after schema s c holder r names stands =
    let over : row_for s.rows c ≡ Some r = ap (option_and_then (row_at s.rows)) names ∙ stands in
    ap (λ b. (cond b (with_new s (made_row schema c)) (with_change s c (holder_of c) (row_for s.rows c))).rows) (makes_none c holder names)
    ∙ (ap (λ o. (with_change s c o (row_for s.rows c)).rows) names
    ∙ ap (λ o. (with_change s c (Some holder) o).rows) over)

-- a cleared row has no text, and nothing is put
cleared_text : (schema : Schema) (c : Command) (next : ℕ) (r : Row) → is_clear c ≡ true → is_no_field schema c (Some r) ≡ false → row_text (edited c next r) ≡ 0
cleared_text schema (command.Clear who) next r t h = (clear_counts schema who next r h).2
cleared_text schema c next r t h = cc

cleared_puts : (c : Command) → is_clear c ≡ true → value_put c ≡ None
cleared_puts (command.Clear who) t = refl
cleared_puts c t = cc

-- a set that holds the value already stays
present_stays : (c : Command) (next : ℕ) (r : Row) → is_present c (Some r) ≡ true → edited c next r ≡ r
present_stays (command.Add who v) next (row.Set home items) t = ap (λ b. cond b (row.Set home items) (row.Set home (items ++ record { number = next; value = v } ∷ []))) t
present_stays c next r t = cc

-- where no value is put, no key is
no_key_added : (c : Command) (r : Row) → value_put c ≡ None → key_added c r ≡ 0
no_key_added (command.PutKey who k v) r h = cc
no_key_added c r h = refl

-- what is there already isn't put again
present_full : (a b d : Bool) → b ≡ true → (a && not b && d) ≡ false
present_full a b d t = grind (arith, nat_tests)

-- the text is too much exactly where the row's own account says so
pub text_full_is : (schema : Schema) (s : State) (c : Command) (holder : ℕ) (r : Row) (text : ℕ) → IsKept schema s → holder_of c ≡ Some holder → row_at s.rows holder ≡ Some r → is_no_field schema c (Some r) ≡ false → is_no_item c (Some r) ≡ false
    → text ≡ text_bytes_of s.rows → text ≤ text_limit → nat_lt text_limit (text_bytes_of (state_after schema s c).rows) ≡ is_text_full c r text
text_full_is schema s c holder r text kept names stands field item is few = ap (λ rows. nat_lt text_limit (text_bytes_of rows)) (rows_after schema s c holder r names stands) ∙ by_clear (is_clear c) refl
  where
    after : Row
    after = edited c (next_item s holder) r

    now : ℕ
    now = text_bytes_of (put_row holder after s.rows)

    grown : now + row_text r ≡ text + row_text after
    grown = put_row_text s.rows holder r after (sound_rises schema s.rows kept.sound) stands ∙ ap (λ n. n + row_text after) (sym is)

    -- no more than before
    no_more : row_text after ≤ row_text r → nat_lt text_limit now ≡ false
    no_more h = within_limit now (omega (arith, grown, few, h))

    nothing_put : value_put c ≡ None → is_text_full c r text ≡ false
    nothing_put h = ap (λ o. is_some o && not (is_present c (Some r)) && nat_lt text_limit (text_of_place c r text)) h

    by_value : (o : Option Value) → value_put c ≡ o → is_present c (Some r) ≡ false → row_text after + text_in_value (replaced c r) + key_taken c r ≡ row_text r + text_in_value (value_put c) + key_added c r
        → nat_lt text_limit now ≡ is_text_full c r text
    by_value None e fresh total =
        let no_key = no_key_added c r e in
        let no_text = ap text_in_value e in
        no_more (omega (arith, total, no_key, no_text)) ∙ sym (nothing_put e)
    by_value (Some v) e fresh total =
        let same : now ≡ text_of_place c r text = omega (arith, grown, total) in
        ap (nat_lt text_limit) same
        ∙ sym (ap₂ (λ o b. is_some o && not b && nat_lt text_limit (text_of_place c r text)) e fresh)

    by_present : (b : Bool) → is_present c (Some r) ≡ b → is_clear c ≡ false → nat_lt text_limit now ≡ is_text_full c r text
    by_present true t other =
        let stays = ap row_text (present_stays c (next_item s holder) r t) in
        no_more (omega (arith, stays)) ∙ sym (present_full (is_some (value_put c)) (is_present c (Some r)) (nat_lt text_limit (text_of_place c r text)) t)
    by_present false f other =
        let own = sound_row schema s.rows kept.sound holder r stands in
        let fit : IsFit schema s.rows c r = record { fits = own.fits; differs = own.differs; field = field; item = item; fresh = f } in
        by_value (value_put c) refl f (edited_text schema s.rows c (next_item s holder) r other fit)

    by_clear : (b : Bool) → is_clear c ≡ b → nat_lt text_limit now ≡ is_text_full c r text
    by_clear true t =
        let none = cleared_text schema c (next_item s holder) r t field in
        no_more (omega (arith, none)) ∙ sym (nothing_put (cleared_puts c t))
    by_clear false f = by_present (is_present c (Some r)) refl f
