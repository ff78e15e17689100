-- The line of an output is read as it, and nothing else is.
use Rattle.std.proofs.Common.{◌≡◌, ℕ, Bool, true, false, not, ◌&&◌, cond, List, [], ◌∷◌, ◌++◌, length, Option, Some, None, is_some, refl, sym, ap, ◌∙◌, arith, eqb, leb, ltb, lt-ltb, ltb-true, codes, option_map}
use Rattle.std.specs.List.{find}
use Rattle.std.specs.Fmt.{decimal}
use Rattle.std.proofs.lemmas.Bool.{and_parts, and_from, true≢false}
use Rattle.std.proofs.lemmas.List.Splits.{length-slice_split}
use Rattle.lists.proofs.Passing.{all_append}
use Rattle.lists.proofs.Options.{mapped_some}
use Rattle.state_model.specs.declared.command.TableFault.TheVariants as fault
use Rattle.frame_model.specs.declared.frame.MsgKind.{MsgKind}
use Rattle.room_model.specs.declared.refusal.Refusal.{Refusal}
use Rattle.room_model.specs.declared.refusal.Refusal.TheVariants as refusal
use Rattle.hub_model.specs.declared.event.HubOut.{HubOut}
use Rattle.hub_model.specs.declared.event.HubOut.TheVariants.{Send, Close, Reply, Created, Joined, Returned, Message, RawMessage, Dropped, Left, Disposed, Made, Refused}
use Rattle.text_model.specs.Acts.{is_kind, is_ref, ref_of}
use Rattle.text_model.specs.Decimals.{decimal_below}
use Rattle.text_model.specs.Events.{is_number, number_of_word}
use Rattle.text_model.specs.Lines.{both, is_word, some_if, three, words_of}
use Rattle.text_model.specs.Marks.{hex_word, is_id, is_room_name, spaced}
use Rattle.text_model.specs.Outputs.{kind_word, out_words, refusal_word}
use Rattle.text_model.specs.OutLines.{is_one_line, is_out, is_told, long_out, middle_out, of_who, out_of, plain_out, refusal_of, refusals, reply_of, short_out, who_of}
use Rattle.text_model.specs.WordForms.{are_bytes, hex_of, id_of, is_text, kind_of}
use Rattle.text_model.proofs.ActLaws.{read_ref, ref_read, two_fit}
use Rattle.text_model.proofs.Choices.{both_is, both_of, choose_if, chosen_if, three_is, three_of_them}
use Rattle.text_model.proofs.DecimalLaw.{decimal_plain, decimal_read, read_decimal}
use Rattle.text_model.proofs.EventLaws.{number_read, read_number}
use Rattle.text_model.proofs.NamesPlain.{id_plain, room_name_plain}
use Rattle.text_model.proofs.Spaced.{cut_first, is_line, is_plain, lacks, lacks_from, lacks_line, spaced-words_of, words_of_line}
use Rattle.text_model.proofs.WordLaws.{hex_read, id_read, kind_read, read_hex, read_id, read_kind, word_is}
use Rattle.text_model.proofs.WordsPlain.{hex_plain, long_plain, message_plain, ref_plain}

-- ---- refusals

found_word : (rs : List Refusal) (w : List ℕ) (r : Refusal) → find (λ r. is_word (refusal_word r) w) rs ≡ Some r → w ≡ refusal_word r
found_word [] w r h = absurd (cc)
found_word (q ∷ rs) w r h = by_first (is_word (refusal_word q) w) refl h (found_word rs w r)
  where
    by_first : (t : Bool) → is_word (refusal_word q) w ≡ t → cond t (Some q) (find (λ r. is_word (refusal_word r) w) rs) ≡ Some r → (find (λ r. is_word (refusal_word r) w) rs ≡ Some r → w ≡ refusal_word r) → w ≡ refusal_word r
    by_first true is k others = (let one : q ≡ r = cc in word_is (refusal_word q) w is ∙ ap refusal_word one)
    by_first false other k others = others k

refusal_read : (w : List ℕ) (r : Refusal) → refusal_of w ≡ Some r → (w ≡ refusal_word r) × (is_told r ≡ true)
refusal_read w r h =
    let word = found_word refusals w r h in
    (word, ap is_some (sym (ap refusal_of word) ∙ h))

-- ---- what a line is read as

-- a line is that of this output, which has one
pub record AreOut (ws : List (List ℕ)) (o : HubOut) : Type 0 where
  pub text : spaced ws ≡ spaced (out_words o)
  pub fits : is_out o ≡ true

same_out : (ws : List (List ℕ)) (o p : HubOut) → p ≡ o → AreOut ws p → AreOut ws o
same_out ws o p is h = record { text = h.text ∙ ap (λ o. spaced (out_words o)) is; fits = ap is_out (sym is) ∙ h.fits }

first_or : {P : Type 0} (test : Bool) (o rest : Option HubOut) (e : HubOut) → (test ≡ true → o ≡ Some e → P) → (rest ≡ Some e → P) → cond test o rest ≡ Some e → P
first_or true o rest e here behind h = here refl h
first_or false o rest e here behind h = behind h

none_taken : {P : Type 0} (e : HubOut) → None ≡ Some e → P
none_taken e h = absurd (cc)

module _ {A : Type 0} (lit : List ℕ) (f : A → HubOut) (ra : List ℕ → Option A) (wa : A → List ℕ) (fa : A → Bool) (reads : (w : List ℕ) (x : A) → ra w ≡ Some x → (w ≡ wa x) × (fa x ≡ true)) (words : (x : A) → out_words (f x) ≡ lit ∷ wa x ∷ [])
    (fits : (x : A) → fa x ≡ true → is_out (f x) ≡ true) where
  one_by : (w a : List ℕ) (o : HubOut) → is_word lit w ≡ true → option_map f (ra a) ≡ Some o → AreOut (w ∷ a ∷ []) o
  one_by w a o word h =
      let m = mapped_some f (ra a) o h in
      let x = reads a m.0 m.1 in
      same_out (w ∷ a ∷ []) o (f m.0) m.2 (record { text = (λ i. spaced (word_is lit w word i ∷ x.0 i ∷ [])) ∙ ap spaced (sym (words m.0)); fits = fits m.0 x.1 })

module _ {A B : Type 0} (lit : List ℕ) (f : A → B → HubOut) (ra : List ℕ → Option A) (wa : A → List ℕ) (fa : A → Bool) (reads_a : (w : List ℕ) (x : A) → ra w ≡ Some x → (w ≡ wa x) × (fa x ≡ true))
    (rb : List ℕ → Option B) (wb : B → List ℕ) (fb : B → Bool)
    (reads_b : (w : List ℕ) (x : B) → rb w ≡ Some x → (w ≡ wb x) × (fb x ≡ true)) (words : (x : A) (y : B) → out_words (f x y) ≡ lit ∷ wa x ∷ wb y ∷ []) (fits : (x : A) (y : B) → fa x ≡ true → fb y ≡ true → is_out (f x y) ≡ true) where
  two_by : (w a b : List ℕ) (o : HubOut) → is_word lit w ≡ true → both f (ra a) (rb b) ≡ Some o → AreOut (w ∷ a ∷ b ∷ []) o
  two_by w a b o word h =
      let m = both_of f (ra a) (rb b) o h in
      let x = reads_a a m.0 m.2 in
      let y = reads_b b m.1 m.3 in
      same_out (w ∷ a ∷ b ∷ []) o (f m.0 m.1) m.4 (record { text = (λ i. spaced (word_is lit w word i ∷ x.0 i ∷ y.0 i ∷ [])) ∙ ap spaced (sym (words m.0 m.1)); fits = fits m.0 m.1 x.1 y.1 })

-- a room and a session
who_read : (lit : List ℕ) (f : List ℕ → List ℕ → HubOut) → ((r s : List ℕ) → out_words (f r s) ≡ lit ∷ r ∷ s ∷ []) → ((r s : List ℕ) → is_id r ≡ true → is_id s ≡ true → is_out (f r s) ≡ true)
    → (w a b : List ℕ) (o : HubOut) → is_word lit w ≡ true → of_who f a b ≡ Some o → AreOut (w ∷ a ∷ b ∷ []) o
who_read lit f words fits w a b o word h =
    let m = mapped_some (λ (w : List ℕ × List ℕ). f w.0 w.1) (who_of a b) o h in
    let p = both_of (λ r s. (r, s)) (id_of a) (id_of b) m.0 m.1 in
    let x = id_read a p.0 p.2 in
    let y = id_read b p.1 p.3 in
    same_out (w ∷ a ∷ b ∷ []) o (f p.0 p.1) (ap (λ (w : List ℕ × List ℕ). f w.0 w.1) p.4 ∙ m.2) (record { text = (λ i. spaced (word_is lit w word i ∷ x.0 i ∷ y.0 i ∷ [])) ∙ ap spaced (sym (words p.0 p.1)); fits = fits p.0 p.1 x.1 y.1 })

code_read : (w : List ℕ) (n : ℕ) → decimal_below 65536 w ≡ Some n → (w ≡ decimal n) × (ltb n 65536 ≡ true)
code_read w n h =
    let d = decimal_read 65536 w n (omega arith) h in
    (d.0, lt-ltb n 65536 d.1)

name_read : (w name : List ℕ) → some_if (is_room_name w) w ≡ Some name → (w ≡ name) × (is_room_name name ≡ true)
name_read w name h =
    let c = chosen_if (is_room_name w) w name h in
    (c.1, ap is_room_name (sym c.1) ∙ c.0)

short_read : (w a : List ℕ) (o : HubOut) → short_out w a ≡ Some o → AreOut (w ∷ a ∷ []) o
short_read w a o h =
    first_or (is_word (codes "disposed") w) _ _ o (one_by (codes "disposed") Disposed id_of (λ s. s) is_id id_read (λ x. refl) (λ x p. p) w a o)
    (first_or (is_word (codes "refused") w) _ _ o (one_by (codes "refused") Refused refusal_of refusal_word is_told refusal_read (λ x. refl) (λ x p. p) w a o)
    (none_taken o))
    h

middle_read : (w a b : List ℕ) (o : HubOut) → middle_out w a b ≡ Some o → AreOut (w ∷ a ∷ b ∷ []) o
middle_read w a b o h =
    first_or (is_word (codes "send") w) _ _ o (two_by (codes "send") Send number_of_word decimal is_number number_read hex_of hex_word are_bytes hex_read (λ x y. refl) (λ x y. two_fit (is_number x) (are_bytes y)) w a b o)
    (first_or (is_word (codes "close") w) _ _ o (two_by (codes "close") Close number_of_word decimal is_number number_read (decimal_below 65536) decimal (λ n. ltb n 65536) code_read (λ x y. refl) (λ x y. two_fit (is_number x) (ltb y 65536)) w a b o)
    (first_or (is_word (codes "created") w) _ _ o (two_by (codes "created") Created id_of (λ s. s) is_id id_read (λ w. some_if (is_room_name w) w) (λ s. s) is_room_name name_read (λ x y. refl) (λ x y. two_fit (is_id x) (is_room_name y)) w a b o)
    (first_or (is_word (codes "joined") w) _ _ o (who_read (codes "joined") Joined (λ r s. refl) (λ r s. two_fit (is_id r) (is_id s)) w a b o)
    (first_or (is_word (codes "returned") w) _ _ o (who_read (codes "returned") Returned (λ r s. refl) (λ r s. two_fit (is_id r) (is_id s)) w a b o)
    (first_or (is_word (codes "dropped") w) _ _ o (who_read (codes "dropped") Dropped (λ r s. refl) (λ r s. two_fit (is_id r) (is_id s)) w a b o)
    (first_or (is_word (codes "left") w) _ _ o (who_read (codes "left") Left (λ r s. refl) (λ r s. two_fit (is_id r) (is_id s)) w a b o)
    (first_or (is_word (codes "made") w) _ _ o (two_by (codes "made") Made id_of (λ s. s) is_id id_read ref_of decimal is_ref ref_read (λ x y. refl) (λ x y. two_fit (is_id x) (is_ref y)) w a b o)
    (none_taken o))))))))
    h

-- a message
message_read : (lit : List ℕ) (f : List ℕ → List ℕ → MsgKind → List ℕ → HubOut) → ((r s : List ℕ) (k : MsgKind) (p : List ℕ) → out_words (f r s k p) ≡ lit ∷ r ∷ s ∷ kind_word k ∷ hex_word p ∷ [])
    → ((r s : List ℕ) (k : MsgKind) (p : List ℕ) → is_out (f r s k p) ≡ ((is_id r && is_id s) && (is_kind k && are_bytes p)))
    → (w a b c d : List ℕ) (o : HubOut) → is_word lit w ≡ true → three (λ (who : List ℕ × List ℕ). f who.0 who.1) (who_of a b) (kind_of c) (hex_of d) ≡ Some o → AreOut (w ∷ a ∷ b ∷ c ∷ d ∷ []) o
message_read lit f words fits w a b c d o word h =
    let m = three_of_them (λ (who : List ℕ × List ℕ). f who.0 who.1) (who_of a b) (kind_of c) (hex_of d) o h in
    let p = both_of (λ r s. (r, s)) (id_of a) (id_of b) m.0 m.3 in
    let x = id_read a p.0 p.2 in
    let y = id_read b p.1 p.3 in
    let k = kind_read c m.1 m.4 in
    let q = hex_read d m.2 m.5 in
    same_out (w ∷ a ∷ b ∷ c ∷ d ∷ []) o (f p.0 p.1 m.1 m.2) (ap (λ (who : List ℕ × List ℕ). f who.0 who.1 m.1 m.2) p.4 ∙ m.6)
    (record {
      text = (λ i. spaced (word_is lit w word i ∷ x.0 i ∷ y.0 i ∷ k.0 i ∷ q.0 i ∷ [])) ∙ ap spaced (sym (words p.0 p.1 m.1 m.2));
      fits = fits p.0 p.1 m.1 m.2 ∙ and_from (is_id p.0 && is_id p.1) _ (and_from (is_id p.0) (is_id p.1) x.1 y.1) (and_from (is_kind m.1) (are_bytes m.2) k.1 q.1);
    })

long_read : (w a b c d : List ℕ) (o : HubOut) → long_out w a b c d ≡ Some o → AreOut (w ∷ a ∷ b ∷ c ∷ d ∷ []) o
long_read w a b c d o h =
    first_or (is_word (codes "message") w) _ _ o (message_read (codes "message") Message (λ r s k p. refl) (λ r s k p. refl) w a b c d o)
    (first_or (is_word (codes "rawmessage") w) _ _ o (message_read (codes "rawmessage") RawMessage (λ r s k p. refl) (λ r s k p. refl) w a b c d o)
    (none_taken o))
    h

reply_read : (w a : List ℕ) (ws : List (List ℕ)) (o : HubOut) → is_word (codes "reply") w ≡ true → reply_of a ws ≡ Some o → AreOut (w ∷ a ∷ ws) o
reply_read w a [] o word h = absurd (cc)
reply_read w a (v ∷ ws) o word h =
    let m = both_of Reply (number_of_word a) (some_if (is_one_line (spaced (v ∷ ws))) (spaced (v ∷ ws))) o h in
    let x = number_read a m.0 m.2 in
    let c = chosen_if (is_one_line (spaced (v ∷ ws))) (spaced (v ∷ ws)) m.1 m.3 in
    same_out (w ∷ a ∷ v ∷ ws) o (Reply m.0 m.1) m.4 (record {
      text = λ i. word_is (codes "reply") w word i ++ 32 ∷ (x.0 i ++ 32 ∷ c.1 i);
      fits = and_from (is_number m.0) (is_one_line m.1) x.1 (ap is_one_line (sym c.1) ∙ c.0);
    })

plain_read : (w : List ℕ) (ws : List (List ℕ)) (o : HubOut) → plain_out w ws ≡ Some o → AreOut (w ∷ ws) o
plain_read w [] o h = absurd (cc)
plain_read w (a ∷ []) o h = short_read w a o h
plain_read w (a ∷ b ∷ []) o h = middle_read w a b o h
plain_read w (a ∷ b ∷ c ∷ []) o h = absurd (cc)
plain_read w (a ∷ b ∷ c ∷ d ∷ []) o h = long_read w a b c d o h
plain_read w (a ∷ b ∷ c ∷ d ∷ e ∷ ws) o h = absurd (cc)

-- words are read as the output of which they are the line
pub out_read : (ws : List (List ℕ)) (o : HubOut) → out_of ws ≡ Some o → AreOut ws o
out_read [] o h = absurd (cc)
out_read (w ∷ []) o h = absurd (cc)
out_read (w ∷ a ∷ ws) o h = first_or (is_word (codes "reply") w) (reply_of a ws) (plain_out w (a ∷ ws)) o (reply_read w a ws o) (plain_read w (a ∷ ws) o) h

-- ---- and the line of an output is read as it

-- words behind which nothing is cut
of_words : (ws : List (List ℕ)) (o : HubOut) → is_line ws ≡ true → out_of ws ≡ Some o → out_of (words_of (spaced ws)) ≡ Some o
of_words ws o plain h = ap out_of (words_of_line ws plain) ∙ h

who_is : (f : List ℕ → List ℕ → HubOut) (r s : List ℕ) → is_id r ≡ true → is_id s ≡ true → of_who f r s ≡ Some (f r s)
who_is f r s h k = ap (option_map (λ (w : List ℕ × List ℕ). f w.0 w.1)) (both_is (λ r s. (r, s)) _ _ r s (read_id r h) (read_id s k))

told_is : (r : Refusal) → is_told r ≡ true → refusal_of (refusal_word r) ≡ Some r
told_is refusal.NoRoom h = refl
told_is refusal.NoConn h = refl
told_is refusal.ConnInUse h = refl
told_is refusal.NoSession h = refl
told_is refusal.NotHere h = refl
told_is refusal.QueueFull h = refl
told_is refusal.ViewFull h = refl
told_is (refusal.Table fault.NoRef) h = refl
told_is (refusal.Table fault.NoField) h = refl
told_is (refusal.Table fault.NoItem) h = refl
told_is (refusal.Table fault.WrongType) h = refl
told_is (refusal.Table fault.OutOfRange) h = refl
told_is (refusal.Table fault.Cycle) h = refl
told_is (refusal.Table fault.Duplicate) h = refl
told_is (refusal.Table fault.InstancesFull) h = refl
told_is (refusal.Table fault.PlacesFull) h = refl
told_is (refusal.Table fault.TextFull) h = refl
told_is (refusal.Table fault.TextTooLong) h = refl
told_is (refusal.Table fault.RefsSpent) h = refl
told_is (refusal.Table fault.NumbersSpent) h = refl
told_is (refusal.Table fault.Present) h = refl
told_is (refusal.Table fault.Memory) h = absurd (true≢false (sym h))

told_plain : (r : Refusal) → is_plain (refusal_word r) ≡ true
told_plain refusal.NoRoom = refl
told_plain refusal.NoConn = refl
told_plain refusal.ConnInUse = refl
told_plain refusal.NoSession = refl
told_plain refusal.NotHere = refl
told_plain refusal.QueueFull = refl
told_plain refusal.ViewFull = refl
told_plain (refusal.Table fault.NoRef) = refl
told_plain (refusal.Table fault.NoField) = refl
told_plain (refusal.Table fault.NoItem) = refl
told_plain (refusal.Table fault.WrongType) = refl
told_plain (refusal.Table fault.OutOfRange) = refl
told_plain (refusal.Table fault.Cycle) = refl
told_plain (refusal.Table fault.Duplicate) = refl
told_plain (refusal.Table fault.InstancesFull) = refl
told_plain (refusal.Table fault.PlacesFull) = refl
told_plain (refusal.Table fault.TextFull) = refl
told_plain (refusal.Table fault.TextTooLong) = refl
told_plain (refusal.Table fault.RefsSpent) = refl
told_plain (refusal.Table fault.NumbersSpent) = refl
told_plain (refusal.Table fault.Present) = refl
told_plain (refusal.Table fault.Memory) = refl

message_is : (f : List ℕ → List ℕ → MsgKind → List ℕ → HubOut) (r s : List ℕ) (k : MsgKind) (p : List ℕ) → ((is_id r && is_id s) && (is_kind k && are_bytes p)) ≡ true
    → three (λ (who : List ℕ × List ℕ). f who.0 who.1) (who_of r s) (kind_of (kind_word k)) (hex_of (hex_word p)) ≡ Some (f r s k p)
message_is f r s k p h =
    let a = and_parts (is_id r && is_id s) (is_kind k && are_bytes p) h in
    let b = and_parts (is_id r) (is_id s) a.0 in
    let c = and_parts (is_kind k) (are_bytes p) a.1 in
    three_is (λ (who : List ℕ × List ℕ). f who.0 who.1) _ _ _ (r, s) k p (both_is (λ r s. (r, s)) _ _ r s (read_id r b.0) (read_id s b.1)) (read_kind k c.0) (read_hex p c.1)

message_line : (w r s : List ℕ) (k : MsgKind) (p : List ℕ) → is_plain w ≡ true → ((is_id r && is_id s) && (is_kind k && are_bytes p)) ≡ true → is_line (w ∷ r ∷ s ∷ kind_word k ∷ hex_word p ∷ []) ≡ true
message_line w r s k p own h =
    let a = and_parts (is_id r && is_id s) (is_kind k && are_bytes p) h in
    let b = and_parts (is_id r) (is_id s) a.0 in
    let c = and_parts (is_kind k) (are_bytes p) a.1 in
    and_from _ _ own (and_from _ _ (id_plain r b.0) (and_from _ _ (id_plain s b.1) (message_plain k p c.0 c.1)))

who_line : (w r s : List ℕ) → is_plain w ≡ true → is_id r ≡ true → is_id s ≡ true → is_line (w ∷ r ∷ s ∷ []) ≡ true
who_line w r s own h k = and_from _ _ own (and_from _ _ (id_plain r h) (and_from _ _ (id_plain s k) refl))

-- a reply's text may have spaces
reply_is : (conn : ℕ) (json : List ℕ) → is_number conn ≡ true → is_one_line json ≡ true → out_of (words_of (spaced (out_words (Reply conn json)))) ≡ Some (Reply conn json)
reply_is conn json h k = by_words (words_of json) refl
  where
    prefix : words_of (codes "reply" ++ 32 ∷ (decimal conn ++ 32 ∷ json)) ≡ codes "reply" ∷ decimal conn ∷ words_of json
    prefix =
        cut_first 32 (codes "reply") (decimal conn ++ 32 ∷ json) refl
        ∙ ap (λ l. codes "reply" ∷ l) (cut_first 32 (decimal conn) json (lacks_from (leb 33) 32 (decimal conn) refl (long_plain conn h)))

    by_words : (ws : List (List ℕ)) → words_of json ≡ ws → out_of (words_of (codes "reply" ++ 32 ∷ (decimal conn ++ 32 ∷ json))) ≡ Some (Reply conn json)
    by_words [] is = absurd (omega (arith, ap length is, length-slice_split (λ b. eqb b 32) json))
    by_words (v ∷ vs) is =
        let text : spaced (v ∷ vs) ≡ json = ap spaced (sym is) ∙ spaced-words_of json in
        ap out_of (prefix ∙ ap (λ ws. codes "reply" ∷ decimal conn ∷ ws) is)
        ∙ both_is Reply _ _ conn json (read_number conn h) (ap (λ t. some_if (is_one_line t) t) text ∙ choose_if (is_one_line json) json k)

pub out_is : (o : HubOut) → is_out o ≡ true → out_of (words_of (spaced (out_words o))) ≡ Some o
out_is (Send conn bytes) h =
    let p = and_parts (is_number conn) (are_bytes bytes) h in
    of_words (out_words (Send conn bytes)) (Send conn bytes) (and_from _ _ (long_plain conn p.0) (and_from _ _ (hex_plain bytes p.1) refl)) (both_is Send _ _ conn bytes (read_number conn p.0) (read_hex bytes p.1))
out_is (Close conn code) h =
    let p = and_parts (is_number conn) (ltb code 65536) h in
    let low = ltb-true code 65536 p.1 in
    of_words (out_words (Close conn code)) (Close conn code) (and_from _ _ (long_plain conn p.0) (and_from _ _ (decimal_plain code (omega (arith, low))) refl))
    (both_is Close _ _ conn code (read_number conn p.0) (read_decimal 65536 code (omega arith) low))
out_is (Reply conn json) h = (let p = and_parts (is_number conn) (is_one_line json) h in reply_is conn json p.0 p.1)
out_is (Created room name) h =
    let p = and_parts (is_id room) (is_room_name name) h in
    of_words (out_words (Created room name)) (Created room name) (and_from _ _ (id_plain room p.0) (and_from _ _ (room_name_plain name p.1) refl)) (both_is Created _ _ room name (read_id room p.0) (choose_if (is_room_name name) name p.1))
out_is (Joined room session) h = (let p = and_parts (is_id room) (is_id session) h in of_words (out_words (Joined room session)) (Joined room session) (who_line (codes "joined") room session refl p.0 p.1) (who_is Joined room session p.0 p.1))
out_is (Returned room session) h = (let p = and_parts (is_id room) (is_id session) h in
    of_words (out_words (Returned room session)) (Returned room session) (who_line (codes "returned") room session refl p.0 p.1) (who_is Returned room session p.0 p.1))
out_is (Dropped room session) h = (let p = and_parts (is_id room) (is_id session) h in of_words (out_words (Dropped room session)) (Dropped room session) (who_line (codes "dropped") room session refl p.0 p.1) (who_is Dropped room session p.0 p.1))
out_is (Left room session) h = (let p = and_parts (is_id room) (is_id session) h in of_words (out_words (Left room session)) (Left room session) (who_line (codes "left") room session refl p.0 p.1) (who_is Left room session p.0 p.1))
out_is (Message room session k payload) h = of_words (out_words (Message room session k payload)) (Message room session k payload) (message_line (codes "message") room session k payload refl h) (message_is Message room session k payload h)
out_is (RawMessage room session k payload) h = of_words (out_words (RawMessage room session k payload)) (RawMessage room session k payload) (message_line (codes "rawmessage") room session k payload refl h)
    (message_is RawMessage room session k payload h)
out_is (Disposed room) h = of_words (out_words (Disposed room)) (Disposed room) (and_from _ _ (id_plain room h) refl) (ap (option_map Disposed) (read_id room h))
out_is (Made room n) h =
    let p = and_parts (is_id room) (is_ref n) h in
    of_words (out_words (Made room n)) (Made room n) (and_from _ _ (id_plain room p.0) (and_from _ _ (ref_plain n p.1) refl)) (both_is Made _ _ room n (read_id room p.0) (read_ref n p.1))
out_is (Refused r) h = of_words (out_words (Refused r)) (Refused r) (and_from _ _ (told_plain r) refl) (ap (option_map Refused) (told_is r h))

-- ---- the line of an output has no LF

json_lacks : (conn : ℕ) (json : List ℕ) → is_number conn ≡ true → is_one_line json ≡ true → lacks 10 (codes "reply" ++ 32 ∷ (decimal conn ++ 32 ∷ json)) ≡ true
json_lacks conn json h k =
    let number = lacks_from (leb 33) 10 (decimal conn) refl (long_plain conn h) in
    all_append (λ b. not (eqb b 10)) (codes "reply") (32 ∷ (decimal conn ++ 32 ∷ json)) refl (all_append (λ b. not (eqb b 10)) (decimal conn) (32 ∷ json) number (and_parts (is_text json) _ k).1)

pub line_lacks : (o : HubOut) → is_out o ≡ true → lacks 10 (spaced (out_words o)) ≡ true
line_lacks (Reply conn json) h = (let p = and_parts (is_number conn) (is_one_line json) h in json_lacks conn json p.0 p.1)
line_lacks (Send conn bytes) h = (let p = and_parts (is_number conn) (are_bytes bytes) h in lacks_line (out_words (Send conn bytes)) (and_from _ _ (long_plain conn p.0) (and_from _ _ (hex_plain bytes p.1) refl)))
line_lacks (Close conn code) h = (let p = and_parts (is_number conn) (ltb code 65536) h in
    lacks_line (out_words (Close conn code)) (and_from _ _ (long_plain conn p.0) (and_from _ _ (decimal_plain code (omega (arith, ltb-true code 65536 p.1))) refl)))
line_lacks (Created room name) h = (let p = and_parts (is_id room) (is_room_name name) h in lacks_line (out_words (Created room name)) (and_from _ _ (id_plain room p.0) (and_from _ _ (room_name_plain name p.1) refl)))
line_lacks (Joined room session) h = (let p = and_parts (is_id room) (is_id session) h in lacks_line (out_words (Joined room session)) (who_line (codes "joined") room session refl p.0 p.1))
line_lacks (Returned room session) h = (let p = and_parts (is_id room) (is_id session) h in lacks_line (out_words (Returned room session)) (who_line (codes "returned") room session refl p.0 p.1))
line_lacks (Dropped room session) h = (let p = and_parts (is_id room) (is_id session) h in lacks_line (out_words (Dropped room session)) (who_line (codes "dropped") room session refl p.0 p.1))
line_lacks (Left room session) h = (let p = and_parts (is_id room) (is_id session) h in lacks_line (out_words (Left room session)) (who_line (codes "left") room session refl p.0 p.1))
line_lacks (Message room session k payload) h = lacks_line (out_words (Message room session k payload)) (message_line (codes "message") room session k payload refl h)
line_lacks (RawMessage room session k payload) h = lacks_line (out_words (RawMessage room session k payload)) (message_line (codes "rawmessage") room session k payload refl h)
line_lacks (Disposed room) h = lacks_line (out_words (Disposed room)) (and_from _ _ (id_plain room h) refl)
line_lacks (Made room n) h = (let p = and_parts (is_id room) (is_ref n) h in lacks_line (out_words (Made room n)) (and_from _ _ (id_plain room p.0) (and_from _ _ (ref_plain n p.1) refl)))
line_lacks (Refused r) h = lacks_line (out_words (Refused r)) (and_from _ _ (told_plain r) refl)
