-- The words of an event are read as it, and nothing else is.
use Rattle.std.proofs.Common.{◌≡◌, ℕ, ◌^◌, Bool, true, false, ◌&&◌, cond, List, [], ◌∷◌, Option, Some, None, refl, sym, ap, ◌∙◌, arith, lt-ltb, ltb-true, codes, option_map}
use Rattle.std.specs.Fmt.{decimal}
use Rattle.std.proofs.lemmas.Bool.{and_parts, and_from}
use Rattle.lists.proofs.Options.{taken_if, mapped_some}
use Rattle.hub_model.specs.declared.event.HubEvent.{HubEvent}
use Rattle.hub_model.specs.declared.event.HubEvent.TheVariants.{At, Ask, Bad, Opening, Frame, Lost, Act, Tick}
use Rattle.text_model.specs.Acts.{act_of, is_act}
use Rattle.text_model.specs.Events.{Seeking, acted_of, asked_of, event_of, event_words, frame_of, ids_of, is_event, is_number, number_of_word, opening_of_words, plainly_of, seeking_of, short_of}
use Rattle.text_model.specs.Lines.{is_word}
use Rattle.text_model.specs.Marks.{is_id}
use Rattle.text_model.specs.WordForms.{are_bytes, hex_of, id_of, is_text, plain_of, plain_text_of}
use Rattle.text_model.proofs.ActLaws.{act_is, act_read}
use Rattle.text_model.proofs.Choices.{both_is, both_of, three_is, three_of_them}
use Rattle.text_model.proofs.DecimalLaw.{decimal_read, read_decimal}
use Rattle.text_model.proofs.WordLaws.{hex_read, id_read, plain_read, plain_text_read, read_hex, read_id, read_plain, read_plain_text, word_is}

-- ---- numbers

pub number_read : (w : List ℕ) (n : ℕ) → number_of_word w ≡ Some n → (w ≡ decimal n) × (is_number n ≡ true)
number_read w n h =
    let d = decimal_read (2 ^ 64) w n (omega arith) h in
    (d.0, lt-ltb n (2 ^ 64) d.1)

pub read_number : (n : ℕ) → is_number n ≡ true → number_of_word (decimal n) ≡ Some n
read_number n h = read_decimal (2 ^ 64) n (omega arith) (ltb-true n (2 ^ 64) h)

-- ---- what words are read as

-- words are those of this event, which has words
pub record AreEvent (ws : List (List ℕ)) (e : HubEvent) : Type 0 where
  pub words : ws ≡ event_words e
  pub fits : is_event e ≡ true

same_event : (ws : List (List ℕ)) (e f : HubEvent) → f ≡ e → AreEvent ws f → AreEvent ws e
same_event ws e f is h = record { words = h.words ∙ ap event_words is; fits = ap is_event (sym is) ∙ h.fits }

first_or : {P : Type 0} (test : Bool) (o rest : Option HubEvent) (e : HubEvent) → (test ≡ true → o ≡ Some e → P) → (rest ≡ Some e → P) → cond test o rest ≡ Some e → P
first_or true o rest e here behind h = here refl h
first_or false o rest e here behind h = behind h

none_taken : {P : Type 0} (e : HubEvent) → None ≡ Some e → P
none_taken e h = absurd (cc)

-- an event of one word behind the first
module _ {A : Type 0} (lit : List ℕ) (f : A → HubEvent) (ra : List ℕ → Option A) (wa : A → List ℕ) (fa : A → Bool) (reads : (w : List ℕ) (x : A) → ra w ≡ Some x → (w ≡ wa x) × (fa x ≡ true)) (words : (x : A) → event_words (f x) ≡ lit ∷ wa x ∷ [])
    (fits : (x : A) → fa x ≡ true → is_event (f x) ≡ true) where
  one_by : (w a : List ℕ) (e : HubEvent) → is_word lit w ≡ true → option_map f (ra a) ≡ Some e → AreEvent (w ∷ a ∷ []) e
  one_by w a e word h =
      let m = mapped_some f (ra a) e h in
      let x = reads a m.0 m.1 in
      same_event (w ∷ a ∷ []) e (f m.0) m.2 (record { words = (λ i. word_is lit w word i ∷ x.0 i ∷ []) ∙ sym (words m.0); fits = fits m.0 x.1 })

short_read : (w a : List ℕ) (e : HubEvent) → short_of w a ≡ Some e → AreEvent (w ∷ a ∷ []) e
short_read w a e h =
    first_or (is_word (codes "at") w) _ _ e (one_by (codes "at") At number_of_word decimal is_number number_read (λ x. refl) (λ x p. p) w a e)
    (first_or (is_word (codes "bad") w) _ _ e (one_by (codes "bad") Bad number_of_word decimal is_number number_read (λ x. refl) (λ x p. p) w a e)
    (first_or (is_word (codes "drop") w) _ _ e (one_by (codes "drop") Lost number_of_word decimal is_number number_read (λ x. refl) (λ x p. p) w a e)
    (first_or (is_word (codes "tick") w) _ _ e (one_by (codes "tick") Tick id_of (λ s. s) is_id id_read (λ x. refl) (λ x p. p) w a e)
    (none_taken e))))
    h

frame_read : (w a b : List ℕ) (e : HubEvent) → is_word (codes "frame") w ≡ true → frame_of a b ≡ Some e → AreEvent (w ∷ a ∷ b ∷ []) e
frame_read w a b e word h =
    let m = both_of Frame (number_of_word a) (hex_of b) e h in
    let x = number_read a m.0 m.2 in
    let y = hex_read b m.1 m.3 in
    same_event (w ∷ a ∷ b ∷ []) e (Frame m.0 m.1) m.4 (record { words = λ i. word_is (codes "frame") w word i ∷ x.0 i ∷ y.0 i ∷ []; fits = and_from (is_number m.0) (are_bytes m.1) x.1 y.1 })

opening_read : (w a b c : List ℕ) (e : HubEvent) → is_word (codes "open") w ≡ true → opening_of_words a b c ≡ Some e → AreEvent (w ∷ a ∷ b ∷ c ∷ []) e
opening_read w a b c e word h =
    let m = three_of_them Opening (number_of_word a) (plain_text_of b) (id_of c) e h in
    let x = number_read a m.0 m.3 in
    let y = plain_text_read b m.1 m.4 in
    let z = id_read c m.2 m.5 in
    same_event (w ∷ a ∷ b ∷ c ∷ []) e (Opening m.0 m.1 m.2) m.6
    (record { words = λ i. word_is (codes "open") w word i ∷ x.0 i ∷ y.0 i ∷ z.0 i ∷ []; fits = and_from (is_number m.0) (is_text m.1 && is_id m.2) x.1 (and_from (is_text m.1) (is_id m.2) y.1 z.1) })

-- a request
abbrev ask_of : Seeking → List ℕ × List ℕ → HubEvent
ask_of s ids = Ask s.conn s.target s.body ids.0 ids.1

asked_read : (w a b c d e : List ℕ) (ev : HubEvent) → is_word (codes "ask") w ≡ true → asked_of a b c d e ≡ Some ev → AreEvent (w ∷ a ∷ b ∷ c ∷ d ∷ e ∷ []) ev
asked_read w a b c d e ev word h =
    let m = both_of ask_of (seeking_of a b c) (ids_of d e) ev h in
    let s = three_of_them (λ conn target body. record { conn = conn; target = target; body = body }) (number_of_word a) (plain_text_of b) (plain_of c) m.0 m.2 in
    let ids = both_of (λ room session. (room, session)) (id_of d) (id_of e) m.1 m.3 in
    let x = number_read a s.0 s.3 in
    let y = plain_text_read b s.1 s.4 in
    let z = plain_read c s.2 s.5 in
    let u = id_read d ids.0 ids.2 in
    let v = id_read e ids.1 ids.3 in
    let is : Ask s.0 s.1 s.2 ids.0 ids.1 ≡ ev = (λ i. ask_of (s.6 i) (ids.4 i)) ∙ m.4 in
    same_event (w ∷ a ∷ b ∷ c ∷ d ∷ e ∷ []) ev (Ask s.0 s.1 s.2 ids.0 ids.1) is (record {
      words = λ i. word_is (codes "ask") w word i ∷ x.0 i ∷ y.0 i ∷ z.0 i ∷ u.0 i ∷ v.0 i ∷ [];
      fits = and_from (is_number s.0) _ x.1 (and_from (is_text s.1) _ y.1 (and_from (are_bytes s.2) _ z.1 (and_from (is_id ids.0) (is_id ids.1) u.1 v.1)));
    })

acted_read : (w a : List ℕ) (ws : List (List ℕ)) (e : HubEvent) → is_word (codes "act") w ≡ true → acted_of a ws ≡ Some e → AreEvent (w ∷ a ∷ ws) e
acted_read w a ws e word h =
    let m = both_of Act (id_of a) (act_of ws) e h in
    let x = id_read a m.0 m.2 in
    let y = act_read ws m.1 m.3 in
    same_event (w ∷ a ∷ ws) e (Act m.0 m.1) m.4 (record { words = λ i. word_is (codes "act") w word i ∷ x.0 i ∷ y.words i; fits = and_from (is_id m.0) (is_act m.1) x.1 y.fits })

plainly_read : (w : List ℕ) (ws : List (List ℕ)) (e : HubEvent) → plainly_of w ws ≡ Some e → AreEvent (w ∷ ws) e
plainly_read w [] e h = absurd (cc)
plainly_read w (a ∷ []) e h = short_read w a e h
plainly_read w (a ∷ b ∷ []) e h = (let t = taken_if (is_word (codes "frame") w) (frame_of a b) e h in frame_read w a b e t.0 t.1)
plainly_read w (a ∷ b ∷ c ∷ []) e h = (let t = taken_if (is_word (codes "open") w) (opening_of_words a b c) e h in opening_read w a b c e t.0 t.1)
plainly_read w (a ∷ b ∷ c ∷ d ∷ []) e h = absurd (cc)
plainly_read w (a ∷ b ∷ c ∷ d ∷ f ∷ []) e h = (let t = taken_if (is_word (codes "ask") w) (asked_of a b c d f) e h in asked_read w a b c d f e t.0 t.1)
plainly_read w (a ∷ b ∷ c ∷ d ∷ f ∷ g ∷ ws) e h = absurd (cc)

-- words are read as the event of which they are the words
pub event_read : (ws : List (List ℕ)) (e : HubEvent) → event_of ws ≡ Some e → AreEvent ws e
event_read [] e h = absurd (cc)
event_read (w ∷ []) e h = absurd (cc)
event_read (w ∷ a ∷ ws) e h = first_or (is_word (codes "act") w) (acted_of a ws) (plainly_of w (a ∷ ws)) e (acted_read w a ws e) (plainly_read w (a ∷ ws) e) h

-- ---- and the words of an event are read as it

pub event_is : (e : HubEvent) → is_event e ≡ true → event_of (event_words e) ≡ Some e
event_is (At ms) h = ap (option_map At) (read_number ms h)
event_is (Bad conn) h = ap (option_map Bad) (read_number conn h)
event_is (Lost conn) h = ap (option_map Lost) (read_number conn h)
event_is (Tick room) h = ap (option_map Tick) (read_id room h)
event_is (Frame conn bytes) h =
    let p = and_parts (is_number conn) (are_bytes bytes) h in
    both_is Frame _ _ conn bytes (read_number conn p.0) (read_hex bytes p.1)
event_is (Opening conn target fresh) h =
    let p = and_parts (is_number conn) (is_text target && is_id fresh) h in
    let q = and_parts (is_text target) (is_id fresh) p.1 in
    three_is Opening _ _ _ conn target fresh (read_number conn p.0) (read_plain_text target q.0) (read_id fresh q.1)
event_is (Ask conn target body room session) h =
    let p = and_parts (is_number conn) (is_text target && (are_bytes body && (is_id room && is_id session))) h in
    let q = and_parts (is_text target) (are_bytes body && (is_id room && is_id session)) p.1 in
    let r = and_parts (are_bytes body) (is_id room && is_id session) q.1 in
    let s = and_parts (is_id room) (is_id session) r.1 in
    let seeking = three_is (λ conn target body. record { conn = conn; target = target; body = body }) _ _ _ conn target body (read_number conn p.0) (read_plain_text target q.0) (read_plain body r.0) in
    let ids = both_is (λ room session. (room, session)) _ _ room session (read_id room s.0) (read_id session s.1) in
    both_is ask_of _ _ _ _ seeking ids
event_is (Act room a) h =
    let p = and_parts (is_id room) (is_act a) h in
    both_is Act _ _ room a (read_id room p.0) (act_is a p.1)
