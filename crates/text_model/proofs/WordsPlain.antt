-- The words of events and outputs hold no space and no LF, so that lines are cut where they were joined.
use Rattle.std.proofs.Common.{◌≡◌, ℕ, ◌^◌, ◌<◌, ◌≤◌, Bool, true, false, ◌&&◌, cond, List, [], ◌∷◌, ℤ, pos, negsuc, refl, ap, arith, leb, leb-true, ltb, ltb-true, eqb-true, codes}
use Rattle.std.specs.List.{flat_map, list_all}
use Rattle.std.specs.Fmt.{decimal}
use Rattle.std.proofs.lemmas.Bool.{agree_below_at, and_parts, and_from}
use Rattle.schema_model.specs.Fits.{in_signed}
use Rattle.schema_model.specs.declared.place.Pair.{Pair}
use Rattle.schema_model.specs.declared.value.Value.{Value}
use Rattle.schema_model.specs.declared.value.Value.TheVariants.{Whole, Str, Truth, Link}
use Rattle.state_model.specs.declared.command.Command.{Command}
use Rattle.state_model.specs.declared.command.Command.TheVariants.{Make, MakeFor, Put, Unset, PutKey, DelKey, Push, SetAt, DelAt, Add, Del, Clear}
use Rattle.frame_model.specs.declared.frame.MsgKind.{MsgKind}
use Rattle.frame_model.specs.declared.frame.MsgKind.TheVariants.{Name, Num}
use Rattle.room_model.specs.Limits.{longest_time}
use Rattle.room_model.specs.declared.event.Act.{Act}
use Rattle.room_model.specs.declared.event.Act.TheVariants.{State, ViewAdd, ViewDel, Send, Raw, ToAll, Kick, Lock, Unlock, Keep}
use Rattle.hub_model.specs.declared.event.HubEvent.{HubEvent}
use Rattle.hub_model.specs.declared.event.HubEvent.TheVariants as event
use Rattle.text_model.specs.Acts.{act_words, command_words, is_act, is_command, is_field_number, is_kick_code, is_kind, is_pair, is_ref, is_value, is_view_tag}
use Rattle.text_model.specs.Decimals.{signed_text}
use Rattle.text_model.specs.Events.{event_words, is_event, is_number}
use Rattle.text_model.specs.Lines.{is_word}
use Rattle.text_model.specs.Marks.{escaped, hex_byte, hex_word, is_id, quoted}
use Rattle.text_model.specs.Outputs.{kind_word}
use Rattle.text_model.specs.WordForms.{are_bytes, is_text, plain, value_word}
use Rattle.std.specs.Str.{is_utf8}
use Rattle.lists.proofs.Passing.{all_append}
use Rattle.text_model.proofs.DecimalLaw.{decimal_plain, signed_plain}
use Rattle.text_model.proofs.NamesPlain.{id_plain}
use Rattle.text_model.proofs.Spaced.{is_line, is_plain}
use Rattle.text_model.proofs.WordLaws.{code_low}

-- ---- numbers

number_plain : (limit n : ℕ) → limit ≤ 10 ^ 64 → ltb n limit ≡ true → is_plain (decimal n) ≡ true
number_plain limit n top h = decimal_plain n (omega (arith, top, ltb-true n limit h))

pub long_plain : (n : ℕ) → is_number n ≡ true → is_plain (decimal n) ≡ true
long_plain n h = number_plain (2 ^ 64) n (omega arith) h

pub ref_plain : (n : ℕ) → is_ref n ≡ true → is_plain (decimal n) ≡ true
ref_plain n h = number_plain (2 ^ 32) n (omega arith) h

field_plain : (n : ℕ) → is_field_number n ≡ true → is_plain (decimal n) ≡ true
field_plain n h = number_plain 256 n (omega arith) h

-- ---- escapes and digits

escaped_plain : (b : ℕ) → b < 256 → is_plain (escaped b) ≡ true
escaped_plain b small = agree_below_at (λ b. is_plain (escaped b)) (λ b. true) 256 b refl small

pub escapes_plain : (t : List ℕ) → are_bytes t ≡ true → is_plain (flat_map escaped t) ≡ true
escapes_plain [] h = refl
escapes_plain (b ∷ bs) h =
    let parts = and_parts (ltb b 256) (are_bytes bs) h in
    all_append (leb 33) (escaped b) (flat_map escaped bs) (escaped_plain b (ltb-true b 256 parts.0)) (escapes_plain bs parts.1)

pub quoted_plain : (t : List ℕ) → is_text t ≡ true → is_plain (quoted t) ≡ true
quoted_plain t h = escapes_plain t (and_parts (are_bytes t) (is_utf8 t) h).0

pub plain_plain : (t : List ℕ) → are_bytes t ≡ true → is_plain (plain t) ≡ true
plain_plain [] h = refl
plain_plain (b ∷ bs) h = by_hyphen (is_word (codes "-") (b ∷ bs))
  where
    by_hyphen : (t : Bool) → is_plain (cond t (codes "%2D") (flat_map escaped (b ∷ bs))) ≡ true
    by_hyphen true = refl
    by_hyphen false = escapes_plain (b ∷ bs) h

hex_byte_plain : (b : ℕ) → b < 256 → is_plain (hex_byte b) ≡ true
hex_byte_plain b small = agree_below_at (λ b. is_plain (hex_byte b)) (λ b. true) 256 b refl small

hex_bytes_plain : (bs : List ℕ) → are_bytes bs ≡ true → is_plain (flat_map hex_byte bs) ≡ true
hex_bytes_plain [] h = refl
hex_bytes_plain (b ∷ bs) h =
    let parts = and_parts (ltb b 256) (are_bytes bs) h in
    all_append (leb 33) (hex_byte b) (flat_map hex_byte bs) (hex_byte_plain b (ltb-true b 256 parts.0)) (hex_bytes_plain bs parts.1)

pub hex_plain : (bs : List ℕ) → are_bytes bs ≡ true → is_plain (hex_word bs) ≡ true
hex_plain [] h = refl
hex_plain (b ∷ bs) h = hex_bytes_plain (b ∷ bs) h

-- ---- values, kinds and tags

pub value_plain : (v : Value) → is_value v ≡ true → is_plain (value_word v) ≡ true
value_plain (Whole z) h = signed_plain (2 ^ 127) z (omega arith) h
value_plain (Str t) h = quoted_plain t h
value_plain (Truth true) h = refl
value_plain (Truth false) h = refl
value_plain (Link n) h = ref_plain n h

pub kind_plain : (k : MsgKind) → is_kind k ≡ true → is_plain (kind_word k) ≡ true
kind_plain (Name t) h = quoted_plain t (and_parts (is_text t) _ h).0
kind_plain (Num z) h = signed_plain (2 ^ 31) z (omega arith) h

tag_plain : (z : ℤ) → is_view_tag z ≡ true → is_plain (signed_text z) ≡ true
tag_plain (pos n) h = number_plain 256 n (omega arith) h
tag_plain (negsuc n) h = signed_plain (2 ^ 31) (negsuc n) (omega arith) (ap (λ n. in_signed (2 ^ 31) (negsuc n)) (eqb-true n 0 h))

-- ---- words of a line

one : (v : List ℕ) → is_plain v ≡ true → list_all is_plain (v ∷ []) ≡ true
one v h = and_from (is_plain v) true h refl

command_plain : (c : Command) → is_command c ≡ true → is_line (command_words c) ≡ true
command_plain (Make t) h = one (decimal t) (ref_plain t h)
command_plain (Clear r) h = one (decimal r) (ref_plain r h)
command_plain (MakeFor home) h =
    let p = and_parts (is_ref home.class) (is_field_number home.field) h in
    and_from _ _ (ref_plain home.class p.0) (one (decimal home.field) (field_plain home.field p.1))
command_plain (Unset r f) h =
    let p = and_parts (is_ref r) (is_field_number f) h in
    and_from _ _ (ref_plain r p.0) (one (decimal f) (field_plain f p.1))
command_plain (DelKey r k) h =
    let p = and_parts (is_ref r) (is_text k) h in
    and_from _ _ (ref_plain r p.0) (one (quoted k) (quoted_plain k p.1))
command_plain (Push r v) h =
    let p = and_parts (is_ref r) (is_value v) h in
    and_from _ _ (ref_plain r p.0) (one (value_word v) (value_plain v p.1))
command_plain (DelAt r n) h =
    let p = and_parts (is_ref r) (is_ref n) h in
    and_from _ _ (ref_plain r p.0) (one (decimal n) (ref_plain n p.1))
command_plain (Add r v) h =
    let p = and_parts (is_ref r) (is_value v) h in
    and_from _ _ (ref_plain r p.0) (one (value_word v) (value_plain v p.1))
command_plain (Del r v) h =
    let p = and_parts (is_ref r) (is_value v) h in
    and_from _ _ (ref_plain r p.0) (one (value_word v) (value_plain v p.1))
command_plain (Put r f v) h =
    let p = and_parts (is_ref r) (is_field_number f && is_value v) h in
    let q = and_parts (is_field_number f) (is_value v) p.1 in
    and_from _ _ (ref_plain r p.0) (and_from _ _ (field_plain f q.0) (one (value_word v) (value_plain v q.1)))
command_plain (PutKey r k v) h =
    let p = and_parts (is_ref r) (is_text k && is_value v) h in
    let q = and_parts (is_text k) (is_value v) p.1 in
    and_from _ _ (ref_plain r p.0) (and_from _ _ (quoted_plain k q.0) (one (value_word v) (value_plain v q.1)))
command_plain (SetAt r n v) h =
    let p = and_parts (is_ref r) (is_ref n && is_value v) h in
    let q = and_parts (is_ref n) (is_value v) p.1 in
    and_from _ _ (ref_plain r p.0) (and_from _ _ (ref_plain n q.0) (one (value_word v) (value_plain v q.1)))

pair_plain : (s : List ℕ) (p : Pair) → is_id s ≡ true → is_pair p ≡ true → list_all is_plain (s ∷ decimal p.who ∷ signed_text p.tag ∷ []) ≡ true
pair_plain s p h k =
    let q = and_parts (is_ref p.who) (is_view_tag p.tag) k in
    and_from _ _ (id_plain s h) (and_from _ _ (ref_plain p.who q.0) (one (signed_text p.tag) (tag_plain p.tag q.1)))

pub message_plain : (k : MsgKind) (payload : List ℕ) → is_kind k ≡ true → are_bytes payload ≡ true → list_all is_plain (kind_word k ∷ hex_word payload ∷ []) ≡ true
message_plain k payload h b = and_from _ _ (kind_plain k h) (one (hex_word payload) (hex_plain payload b))

act_plain : (a : Act) → is_act a ≡ true → is_line (act_words a) ≡ true
act_plain (State c) h = command_plain c h
act_plain (ViewAdd s p) h = (let q = and_parts (is_id s) (is_pair p) h in pair_plain s p q.0 q.1)
act_plain (ViewDel s p) h = (let q = and_parts (is_id s) (is_pair p) h in pair_plain s p q.0 q.1)
act_plain (Send s k payload) h =
    let p = and_parts (is_id s) (is_kind k && are_bytes payload) h in
    let q = and_parts (is_kind k) (are_bytes payload) p.1 in
    and_from _ _ (id_plain s p.0) (message_plain k payload q.0 q.1)
act_plain (Raw s k payload) h =
    let p = and_parts (is_id s) (is_kind k && are_bytes payload) h in
    let q = and_parts (is_kind k) (are_bytes payload) p.1 in
    and_from _ _ (id_plain s p.0) (message_plain k payload q.0 q.1)
act_plain (ToAll k payload) h = (let q = and_parts (is_kind k) (are_bytes payload) h in message_plain k payload q.0 q.1)
act_plain (Kick s code) h =
    let q = and_parts (is_id s) (is_kick_code code) h in
    and_from _ _ (id_plain s q.0) (one (decimal code) (decimal_plain code (omega (arith, code_low code q.1))))
act_plain Lock h = refl
act_plain Unlock h = refl
act_plain (Keep s ms) h =
    let q = and_parts (is_id s) (leb ms longest_time) h in
    and_from _ _ (id_plain s q.0) (one (decimal ms) (decimal_plain ms (omega (arith, leb-true ms longest_time q.1))))

words_plain : (ws : List (List ℕ)) → is_line ws ≡ true → list_all is_plain ws ≡ true
words_plain [] h = refl
words_plain (w ∷ ws) h = h

pub event_plain : (e : HubEvent) → is_event e ≡ true → is_line (event_words e) ≡ true
event_plain (event.At ms) h = one (decimal ms) (long_plain ms h)
event_plain (event.Bad conn) h = one (decimal conn) (long_plain conn h)
event_plain (event.Lost conn) h = one (decimal conn) (long_plain conn h)
event_plain (event.Tick room) h = one room (id_plain room h)
event_plain (event.Frame conn bytes) h =
    let p = and_parts (is_number conn) (are_bytes bytes) h in
    and_from _ _ (long_plain conn p.0) (one (hex_word bytes) (hex_plain bytes p.1))
event_plain (event.Opening conn target fresh) h =
    let p = and_parts (is_number conn) (is_text target && is_id fresh) h in
    let q = and_parts (is_text target) (is_id fresh) p.1 in
    and_from _ _ (long_plain conn p.0) (and_from _ _ (plain_plain target (and_parts (are_bytes target) (is_utf8 target) q.0).0) (one fresh (id_plain fresh q.1)))
event_plain (event.Ask conn target body room session) h =
    let p = and_parts (is_number conn) (is_text target && (are_bytes body && (is_id room && is_id session))) h in
    let q = and_parts (is_text target) (are_bytes body && (is_id room && is_id session)) p.1 in
    let r = and_parts (are_bytes body) (is_id room && is_id session) q.1 in
    let s = and_parts (is_id room) (is_id session) r.1 in
    and_from _ _ (long_plain conn p.0)
    (and_from _ _ (plain_plain target (and_parts (are_bytes target) (is_utf8 target) q.0).0) (and_from _ _ (plain_plain body r.0) (and_from _ _ (id_plain room s.0) (one session (id_plain session s.1)))))
event_plain (event.Act room a) h =
    let p = and_parts (is_id room) (is_act a) h in
    and_from _ _ (id_plain room p.0) (words_plain (act_words a) (act_plain a p.1))
