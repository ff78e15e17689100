-- The words of an act are read as it, and nothing else is.
use Rattle.std.proofs.Common.{◌≡◌, ℕ, ◌^◌, Bool, true, false, ◌&&◌, cond, List, [], ◌∷◌, Option, Some, None, refl, sym, ap, ◌∙◌, arith, lt-ltb, ltb-true, leb, le-leb, leb-true, codes, option_map}
use Rattle.std.specs.Fmt.{decimal}
use Rattle.std.proofs.lemmas.Bool.{and_parts, and_from}
use Rattle.lists.proofs.Options.{mapped_some}
use Rattle.schema_model.specs.declared.place.Home.{Home}
use Rattle.schema_model.specs.declared.place.Pair.{Pair}
use Rattle.state_model.specs.declared.command.Command.{Command}
use Rattle.state_model.specs.declared.command.Command.TheVariants.{Make, MakeFor, Put, Unset, PutKey, DelKey, Push, SetAt, DelAt, Add, Del, Clear}
use Rattle.room_model.specs.Limits.{longest_time}
use Rattle.room_model.specs.declared.event.Act.{Act}
use Rattle.room_model.specs.declared.event.Act.TheVariants.{State, ViewAdd, ViewDel, Send, Raw, ToAll, Kick, Lock, Unlock, Keep}
use Rattle.text_model.specs.Acts.{act_of, act_words, code_of, command_words, field_of_word, home_of, is_act, is_command, is_field_number, is_home, is_kick_code, is_kind, is_pair, is_ref, is_value, is_view_tag, keep_of, one_of, pair_of, ref_of, three_of, two_of}
use Rattle.text_model.specs.Decimals.{signed_text}
use Rattle.text_model.specs.Lines.{both, is_word, some_if, three}
use Rattle.text_model.specs.Marks.{hex_word, is_id, quoted}
use Rattle.text_model.specs.Outputs.{kind_word}
use Rattle.text_model.specs.WordForms.{are_bytes, hex_of, id_of, is_text, kind_of, quoted_of, tag_of_word, value_of, value_word}
use Rattle.text_model.proofs.Choices.{both_is, both_of, chosen_if, three_is, three_of_them}
use Rattle.text_model.proofs.DecimalLaw.{decimal_read, decimal_read_within, read_decimal, read_decimal_within}
use Rattle.text_model.proofs.WordLaws.{code_read, hex_read, id_read, kind_read, quoted_read, read_code, read_hex, read_id, read_kind, read_quoted, read_tag, read_value, tag_read, value_read, word_is}

-- ---- numbers

pub ref_read : (w : List ℕ) (n : ℕ) → ref_of w ≡ Some n → (w ≡ decimal n) × (is_ref n ≡ true)
ref_read w n h =
    let d = decimal_read (2 ^ 32) w n (omega arith) h in
    (d.0, lt-ltb n (2 ^ 32) d.1)

pub read_ref : (n : ℕ) → is_ref n ≡ true → ref_of (decimal n) ≡ Some n
read_ref n h = read_decimal (2 ^ 32) n (omega arith) (ltb-true n (2 ^ 32) h)

field_read : (w : List ℕ) (n : ℕ) → field_of_word w ≡ Some n → (w ≡ decimal n) × (is_field_number n ≡ true)
field_read w n h =
    let d = decimal_read 256 w n (omega arith) h in
    (d.0, lt-ltb n 256 d.1)

read_field : (n : ℕ) → is_field_number n ≡ true → field_of_word (decimal n) ≡ Some n
read_field n h = read_decimal 256 n (omega arith) (ltb-true n 256 h)

keep_read : (w : List ℕ) (n : ℕ) → keep_of w ≡ Some n → (w ≡ decimal n) × (leb n longest_time ≡ true)
keep_read w n h =
    let d = decimal_read_within 0 longest_time w n (omega arith) h in
    (d.0, le-leb n longest_time d.2)

read_keep : (n : ℕ) → leb n longest_time ≡ true → keep_of (decimal n) ≡ Some n
read_keep n h = read_decimal_within 0 longest_time n (omega arith) (omega arith) (leb-true n longest_time h)

-- ---- homes and members

home_read : (t f : List ℕ) (home : Home) → home_of t f ≡ Some home → (t ≡ decimal home.class) × (f ≡ decimal home.field) × (is_home home ≡ true)
home_read t f home h =
    let b = both_of (λ t f. record { class = t; field = f }) (ref_of t) (field_of_word f) home h in
    let x = ref_read t b.0 b.2 in
    let y = field_read f b.1 b.3 in
    (x.0 ∙ ap (λ (g : Home). decimal g.class) b.4, y.0 ∙ ap (λ (g : Home). decimal g.field) b.4, ap is_home (sym b.4) ∙ and_from (is_ref b.0) (is_field_number b.1) x.1 y.1)

pair_read : (r t : List ℕ) (p : Pair) → pair_of r t ≡ Some p → (r ≡ decimal p.who) × (t ≡ signed_text p.tag) × (is_pair p ≡ true)
pair_read r t p h =
    let b = both_of (λ r t. record { who = r; tag = t }) (ref_of r) (tag_of_word t) p h in
    let x = ref_read r b.0 b.2 in
    let y = tag_read t b.1 b.3 in
    (x.0 ∙ ap (λ (q : Pair). decimal q.who) b.4, y.0 ∙ ap (λ (q : Pair). signed_text q.tag) b.4, ap is_pair (sym b.4) ∙ and_from (is_ref b.0) (is_view_tag b.1) x.1 y.1)

-- ---- what words are read as

-- words are those of this act, which has words
pub record AreWords (ws : List (List ℕ)) (a : Act) : Type 0 where
  pub words : ws ≡ act_words a
  pub fits : is_act a ≡ true

-- the same of an act that is another one's
same_act : (ws : List (List ℕ)) (a b : Act) → b ≡ a → AreWords ws b → AreWords ws a
same_act ws a b is h = record { words = h.words ∙ ap act_words is; fits = ap is_act (sym is) ∙ h.fits }

-- choices one after another
first_or : {P : Type 0} (test : Bool) (o rest : Option Act) (a : Act) → (test ≡ true → o ≡ Some a → P) → (rest ≡ Some a → P) → cond test o rest ≡ Some a → P
first_or true o rest a here behind h = here refl h
first_or false o rest a here behind h = behind h

none_taken : {P : Type 0} (a : Act) → None ≡ Some a → P
none_taken a h = absurd (cc)

-- a word that is read as a value is the word of that value, which fits
abbrev pub Reads : {A : Type 0} → (List ℕ → Option A) → (A → List ℕ) → (A → Bool) → Type 0
Reads {A} read word fits = (w : List ℕ) (x : A) → read w ≡ Some x → (w ≡ word x) × (fits x ≡ true)

-- acts of one word, two and three behind the first one

module _ {A : Type 0} (lit : List ℕ) (f : A → Act) (ra : List ℕ → Option A) (wa : A → List ℕ) (fa : A → Bool) (reads : Reads ra wa fa) (words : (x : A) → act_words (f x) ≡ lit ∷ wa x ∷ []) (fits : (x : A) → fa x ≡ true → is_act (f x) ≡ true) where
  one_by : (w a : List ℕ) (act : Act) → is_word lit w ≡ true → option_map f (ra a) ≡ Some act → AreWords (w ∷ a ∷ []) act
  one_by w a act word h =
      let m = mapped_some f (ra a) act h in
      let x = reads a m.0 m.1 in
      same_act (w ∷ a ∷ []) act (f m.0) m.2 (record { words = (λ i. word_is lit w word i ∷ x.0 i ∷ []) ∙ sym (words m.0); fits = fits m.0 x.1 })

module _ {A B : Type 0} (lit : List ℕ) (f : A → B → Act) (ra : List ℕ → Option A) (wa : A → List ℕ) (fa : A → Bool) (reads_a : Reads ra wa fa) (rb : List ℕ → Option B) (wb : B → List ℕ) (fb : B → Bool) (reads_b : Reads rb wb fb)
    (words : (x : A) (y : B) → act_words (f x y) ≡ lit ∷ wa x ∷ wb y ∷ []) (fits : (x : A) (y : B) → fa x ≡ true → fb y ≡ true → is_act (f x y) ≡ true) where
  two_by : (w a b : List ℕ) (act : Act) → is_word lit w ≡ true → both f (ra a) (rb b) ≡ Some act → AreWords (w ∷ a ∷ b ∷ []) act
  two_by w a b act word h =
      let m = both_of f (ra a) (rb b) act h in
      let x = reads_a a m.0 m.2 in
      let y = reads_b b m.1 m.3 in
      same_act (w ∷ a ∷ b ∷ []) act (f m.0 m.1) m.4 (record { words = (λ i. word_is lit w word i ∷ x.0 i ∷ y.0 i ∷ []) ∙ sym (words m.0 m.1); fits = fits m.0 m.1 x.1 y.1 })

module _ {A B C : Type 0} (lit : List ℕ) (f : A → B → C → Act) (ra : List ℕ → Option A) (wa : A → List ℕ) (fa : A → Bool) (reads_a : Reads ra wa fa) (rb : List ℕ → Option B) (wb : B → List ℕ) (fb : B → Bool) (reads_b : Reads rb wb fb)
    (rc : List ℕ → Option C) (wc : C → List ℕ) (fc : C → Bool) (reads_c : Reads rc wc fc) (words : (x : A) (y : B) (z : C) → act_words (f x y z) ≡ lit ∷ wa x ∷ wb y ∷ wc z ∷ [])
    (fits : (x : A) (y : B) (z : C) → fa x ≡ true → fb y ≡ true → fc z ≡ true → is_act (f x y z) ≡ true) where
  three_by : (w a b c : List ℕ) (act : Act) → is_word lit w ≡ true → three f (ra a) (rb b) (rc c) ≡ Some act → AreWords (w ∷ a ∷ b ∷ c ∷ []) act
  three_by w a b c act word h =
      let m = three_of_them f (ra a) (rb b) (rc c) act h in
      let x = reads_a a m.0 m.3 in
      let y = reads_b b m.1 m.4 in
      let z = reads_c c m.2 m.5 in
      same_act (w ∷ a ∷ b ∷ c ∷ []) act (f m.0 m.1 m.2) m.6 (record { words = (λ i. word_is lit w word i ∷ x.0 i ∷ y.0 i ∷ z.0 i ∷ []) ∙ sym (words m.0 m.1 m.2); fits = fits m.0 m.1 m.2 x.1 y.1 z.1 })

-- one of two tests, or of three
pub two_fit : (a b : Bool) → a ≡ true → b ≡ true → (a && b) ≡ true
two_fit a b p q = and_from a b p q

three_fit : (a b c : Bool) → a ≡ true → b ≡ true → c ≡ true → (a && (b && c)) ≡ true
three_fit a b c p q r = and_from a (b && c) p (and_from b c q r)

one_read : (w a : List ℕ) (act : Act) → one_of w a ≡ Some act → AreWords (w ∷ a ∷ []) act
one_read w a act h =
    first_or (is_word (codes "make") w) _ _ act (one_by (codes "make") (λ t. State (Make t)) ref_of decimal is_ref ref_read (λ x. refl) (λ x p. p) w a act)
    (first_or (is_word (codes "clear") w) _ _ act (one_by (codes "clear") (λ r. State (Clear r)) ref_of decimal is_ref ref_read (λ x. refl) (λ x p. p) w a act)
    (none_taken act))
    h

-- a class and a field
makefor_read : (w a b : List ℕ) (act : Act) → is_word (codes "makefor") w ≡ true → option_map (λ home. State (MakeFor home)) (home_of a b) ≡ Some act → AreWords (w ∷ a ∷ b ∷ []) act
makefor_read w a b act word h =
    let m = mapped_some (λ home. State (MakeFor home)) (home_of a b) act h in
    let x = home_read a b m.0 m.1 in
    same_act (w ∷ a ∷ b ∷ []) act (State (MakeFor m.0)) m.2 (record { words = λ i. word_is (codes "makefor") w word i ∷ x.0 i ∷ x.1 i ∷ []; fits = x.2 })

two_read : (w a b : List ℕ) (act : Act) → two_of w a b ≡ Some act → AreWords (w ∷ a ∷ b ∷ []) act
two_read w a b act h =
    first_or (is_word (codes "makefor") w) _ _ act (makefor_read w a b act)
    (first_or (is_word (codes "unset") w) _ _ act (two_by (codes "unset") (λ r f. State (Unset r f)) ref_of decimal is_ref ref_read field_of_word decimal is_field_number field_read
    (λ x y. refl) (λ x y. two_fit (is_ref x) (is_field_number y)) w a b act)
    (first_or (is_word (codes "delkey") w) _ _ act (two_by (codes "delkey") (λ r k. State (DelKey r k)) ref_of decimal is_ref ref_read quoted_of quoted is_text quoted_read (λ x y. refl) (λ x y. two_fit (is_ref x) (is_text y)) w a b act)
    (first_or (is_word (codes "push") w) _ _ act (two_by (codes "push") (λ r v. State (Push r v)) ref_of decimal is_ref ref_read value_of value_word is_value value_read (λ x y. refl) (λ x y. two_fit (is_ref x) (is_value y)) w a b act)
    (first_or (is_word (codes "delat") w) _ _ act (two_by (codes "delat") (λ r n. State (DelAt r n)) ref_of decimal is_ref ref_read ref_of decimal is_ref ref_read (λ x y. refl) (λ x y. two_fit (is_ref x) (is_ref y)) w a b act)
    (first_or (is_word (codes "add") w) _ _ act (two_by (codes "add") (λ r v. State (Add r v)) ref_of decimal is_ref ref_read value_of value_word is_value value_read (λ x y. refl) (λ x y. two_fit (is_ref x) (is_value y)) w a b act)
    (first_or (is_word (codes "del") w) _ _ act (two_by (codes "del") (λ r v. State (Del r v)) ref_of decimal is_ref ref_read value_of value_word is_value value_read (λ x y. refl) (λ x y. two_fit (is_ref x) (is_value y)) w a b act)
    (first_or (is_word (codes "toall") w) _ _ act (two_by (codes "toall") ToAll kind_of kind_word is_kind kind_read hex_of hex_word are_bytes hex_read (λ x y. refl) (λ x y. two_fit (is_kind x) (are_bytes y)) w a b act)
    (first_or (is_word (codes "kick") w) _ _ act (two_by (codes "kick") Kick id_of (λ s. s) is_id id_read code_of decimal is_kick_code code_read (λ x y. refl) (λ x y. two_fit (is_id x) (is_kick_code y)) w a b act)
    (first_or (is_word (codes "keep") w) _ _ act (two_by (codes "keep") Keep id_of (λ s. s) is_id id_read keep_of decimal (λ n. leb n longest_time) keep_read (λ x y. refl) (λ x y. two_fit (is_id x) (leb y longest_time)) w a b act)
    (none_taken act))))))))))
    h

-- a session and a member
member_read : (lit : List ℕ) (f : List ℕ → Pair → Act) → ((s : List ℕ) (p : Pair) → act_words (f s p) ≡ lit ∷ s ∷ decimal p.who ∷ signed_text p.tag ∷ []) → ((s : List ℕ) (p : Pair) → is_id s ≡ true → is_pair p ≡ true → is_act (f s p) ≡ true)
    → (w a b c : List ℕ) (act : Act) → is_word lit w ≡ true → both f (id_of a) (pair_of b c) ≡ Some act → AreWords (w ∷ a ∷ b ∷ c ∷ []) act
member_read lit f words fits w a b c act word h =
    let m = both_of f (id_of a) (pair_of b c) act h in
    let s = id_read a m.0 m.2 in
    let p = pair_read b c m.1 m.3 in
    same_act (w ∷ a ∷ b ∷ c ∷ []) act (f m.0 m.1) m.4 (record { words = (λ i. word_is lit w word i ∷ s.0 i ∷ p.0 i ∷ p.1 i ∷ []) ∙ sym (words m.0 m.1); fits = fits m.0 m.1 s.1 p.2 })

three_read : (w a b c : List ℕ) (act : Act) → three_of w a b c ≡ Some act → AreWords (w ∷ a ∷ b ∷ c ∷ []) act
three_read w a b c act h =
    first_or (is_word (codes "put") w) _ _ act (three_by (codes "put") (λ r f v. State (Put r f v)) ref_of decimal is_ref ref_read field_of_word decimal is_field_number field_read value_of value_word is_value value_read
    (λ x y z. refl) (λ x y z. three_fit (is_ref x) (is_field_number y) (is_value z)) w a b c act)
    (first_or (is_word (codes "putkey") w) _ _ act (three_by (codes "putkey") (λ r k v. State (PutKey r k v)) ref_of decimal is_ref ref_read quoted_of quoted is_text quoted_read value_of value_word is_value value_read
    (λ x y z. refl) (λ x y z. three_fit (is_ref x) (is_text y) (is_value z)) w a b c act)
    (first_or (is_word (codes "setat") w) _ _ act (three_by (codes "setat") (λ r n v. State (SetAt r n v)) ref_of decimal is_ref ref_read ref_of decimal is_ref ref_read value_of value_word is_value value_read
    (λ x y z. refl) (λ x y z. three_fit (is_ref x) (is_ref y) (is_value z)) w a b c act)
    (first_or (is_word (codes "viewadd") w) _ _ act (member_read (codes "viewadd") ViewAdd (λ s p. refl) (λ s p. two_fit (is_id s) (is_pair p)) w a b c act)
    (first_or (is_word (codes "viewdel") w) _ _ act (member_read (codes "viewdel") ViewDel (λ s p. refl) (λ s p. two_fit (is_id s) (is_pair p)) w a b c act)
    (first_or (is_word (codes "send") w) _ _ act (three_by (codes "send") Send id_of (λ s. s) is_id id_read kind_of kind_word is_kind kind_read hex_of hex_word are_bytes hex_read
    (λ x y z. refl) (λ x y z. three_fit (is_id x) (is_kind y) (are_bytes z)) w a b c act)
    (first_or (is_word (codes "raw") w) _ _ act (three_by (codes "raw") Raw id_of (λ s. s) is_id id_read kind_of kind_word is_kind kind_read hex_of hex_word are_bytes hex_read
    (λ x y z. refl) (λ x y z. three_fit (is_id x) (is_kind y) (are_bytes z)) w a b c act)
    (none_taken act)))))))
    h

none_read : (w : List ℕ) (act : Act) → act_of (w ∷ []) ≡ Some act → AreWords (w ∷ []) act
none_read w act h =
    first_or (is_word (codes "lock") w) (Some Lock) (some_if (is_word (codes "unlock") w) Unlock) act
    (λ word is. same_act (w ∷ []) act Lock (let k : Lock ≡ act = cc in k) (record { words = λ i. word_is (codes "lock") w word i ∷ []; fits = refl }))
    (λ is.
    let c = chosen_if (is_word (codes "unlock") w) Unlock act is in
    same_act (w ∷ []) act Unlock c.1 (record { words = λ i. word_is (codes "unlock") w c.0 i ∷ []; fits = refl })) h

-- words are read as the act of which they are the words
pub act_read : (ws : List (List ℕ)) (act : Act) → act_of ws ≡ Some act → AreWords ws act
act_read [] act h = absurd (cc)
act_read (w ∷ []) act h = none_read w act h
act_read (w ∷ a ∷ []) act h = one_read w a act h
act_read (w ∷ a ∷ b ∷ []) act h = two_read w a b act h
act_read (w ∷ a ∷ b ∷ c ∷ []) act h = three_read w a b c act h
act_read (w ∷ a ∷ b ∷ c ∷ d ∷ ws) act h = absurd (cc)

-- ---- and the words of an act are read as it

command_is : (c : Command) → is_command c ≡ true → act_of (command_words c) ≡ Some (State c)
command_is (Make t) h = ap (option_map (λ t. State (Make t))) (read_ref t h)
command_is (Clear r) h = ap (option_map (λ r. State (Clear r))) (read_ref r h)
command_is (MakeFor home) h =
    let p = and_parts (is_ref home.class) (is_field_number home.field) h in
    ap (option_map (λ home. State (MakeFor home))) (both_is (λ t f. record { class = t; field = f }) _ _ home.class home.field (read_ref home.class p.0) (read_field home.field p.1))
command_is (Unset r f) h =
    let p = and_parts (is_ref r) (is_field_number f) h in
    both_is (λ r f. State (Unset r f)) _ _ r f (read_ref r p.0) (read_field f p.1)
command_is (DelKey r k) h =
    let p = and_parts (is_ref r) (is_text k) h in
    both_is (λ r k. State (DelKey r k)) _ _ r k (read_ref r p.0) (read_quoted k p.1)
command_is (Push r v) h =
    let p = and_parts (is_ref r) (is_value v) h in
    both_is (λ r v. State (Push r v)) _ _ r v (read_ref r p.0) (read_value v p.1)
command_is (DelAt r n) h =
    let p = and_parts (is_ref r) (is_ref n) h in
    both_is (λ r n. State (DelAt r n)) _ _ r n (read_ref r p.0) (read_ref n p.1)
command_is (Add r v) h =
    let p = and_parts (is_ref r) (is_value v) h in
    both_is (λ r v. State (Add r v)) _ _ r v (read_ref r p.0) (read_value v p.1)
command_is (Del r v) h =
    let p = and_parts (is_ref r) (is_value v) h in
    both_is (λ r v. State (Del r v)) _ _ r v (read_ref r p.0) (read_value v p.1)
command_is (Put r f v) h =
    let p = and_parts (is_ref r) (is_field_number f && is_value v) h in
    let q = and_parts (is_field_number f) (is_value v) p.1 in
    three_is (λ r f v. State (Put r f v)) _ _ _ r f v (read_ref r p.0) (read_field f q.0) (read_value v q.1)
command_is (PutKey r k v) h =
    let p = and_parts (is_ref r) (is_text k && is_value v) h in
    let q = and_parts (is_text k) (is_value v) p.1 in
    three_is (λ r k v. State (PutKey r k v)) _ _ _ r k v (read_ref r p.0) (read_quoted k q.0) (read_value v q.1)
command_is (SetAt r n v) h =
    let p = and_parts (is_ref r) (is_ref n && is_value v) h in
    let q = and_parts (is_ref n) (is_value v) p.1 in
    three_is (λ r n v. State (SetAt r n v)) _ _ _ r n v (read_ref r p.0) (read_ref n q.0) (read_value v q.1)

pair_is : (p : Pair) → is_pair p ≡ true → pair_of (decimal p.who) (signed_text p.tag) ≡ Some p
pair_is p h =
    let q = and_parts (is_ref p.who) (is_view_tag p.tag) h in
    both_is (λ r t. record { who = r; tag = t }) _ _ p.who p.tag (read_ref p.who q.0) (read_tag p.tag q.1)

pub act_is : (a : Act) → is_act a ≡ true → act_of (act_words a) ≡ Some a
act_is (State c) h = command_is c h
act_is (ViewAdd s p) h =
    let q = and_parts (is_id s) (is_pair p) h in
    both_is ViewAdd _ _ s p (read_id s q.0) (pair_is p q.1)
act_is (ViewDel s p) h =
    let q = and_parts (is_id s) (is_pair p) h in
    both_is ViewDel _ _ s p (read_id s q.0) (pair_is p q.1)
act_is (Send s k payload) h =
    let p = and_parts (is_id s) (is_kind k && are_bytes payload) h in
    let q = and_parts (is_kind k) (are_bytes payload) p.1 in
    three_is Send _ _ _ s k payload (read_id s p.0) (read_kind k q.0) (read_hex payload q.1)
act_is (Raw s k payload) h =
    let p = and_parts (is_id s) (is_kind k && are_bytes payload) h in
    let q = and_parts (is_kind k) (are_bytes payload) p.1 in
    three_is Raw _ _ _ s k payload (read_id s p.0) (read_kind k q.0) (read_hex payload q.1)
act_is (ToAll k payload) h =
    let q = and_parts (is_kind k) (are_bytes payload) h in
    both_is ToAll _ _ k payload (read_kind k q.0) (read_hex payload q.1)
act_is (Kick s code) h =
    let q = and_parts (is_id s) (is_kick_code code) h in
    both_is Kick _ _ s code (read_id s q.0) (read_code code q.1)
act_is Lock h = refl
act_is Unlock h = refl
act_is (Keep s ms) h =
    let q = and_parts (is_id s) (leb ms longest_time) h in
    both_is Keep _ _ s ms (read_id s q.0) (read_keep ms q.1)
