-- What is read of a client's bytes has a line: its message is about a short text or a number of 32 bits, and its payload is bytes.
use Rattle.std.proofs.Common.{◌≡◌, ℕ, zero, suc, ◌+◌, ◌-◌, ◌^◌, ◌<◌, ◌≤◌, ◌==◌, Bool, true, false, cond, ◌&&◌, List, [], ◌∷◌, length, take, drop, get_or, ℤ, pos, negsuc, Result, Ok, Err, refl, arith, ltb-true, ltb-false, lt-ltb, length-drop}
use Rattle.std.specs.Prelude.{nat_lt, nat_le, slice_get, IfOk}
use Rattle.std.specs.Int.{Width, w8, w16, w32, byte_len, cast_signed, from_le_bytes}
use mir.Val.{sel}
use Rattle.std.specs.Option.{option_map_or}
use Rattle.std.specs.Str.{is_utf8}
use Rattle.std.proofs.lemmas.Bool.{and_parts, and_from}
use Rattle.std.proofs.lemmas.List.{length-take-le}
use Rattle.schema_model.specs.Fits.{in_signed}
use Rattle.schema_model.specs.Reading.{◌>>=◌, fixed_at, number_at, number_of, signed_at, text_at, text_length, text_of, unsigned_at, wide_at}
use Rattle.schema_model.specs.declared.fault.ReadFault.{ReadFault}
use Rattle.frame_model.specs.declared.frame.ClientFrame.{ClientFrame}
use Rattle.frame_model.specs.declared.frame.ClientFrame.TheVariants.{Ack, Leave, Msg, Raw}
use Rattle.frame_model.specs.declared.frame.MsgKind.{MsgKind}
use Rattle.frame_model.specs.Reading.{begins_text, frame_by_code, frame_of, is_payload, kind_at, message_behind, named_kind, numbered_kind, raw_behind, read_client, without_payload}
use Rattle.text_model.specs.Acts.{is_kind}
use Rattle.text_model.specs.WordForms.{are_bytes, is_text}
use Rattle.print_laws.proofs.Bytes.{bytes_behind, bytes_taken, utf8_bytes}

-- ---- steps of reading

either : {A E : Type 0} (P : A → Type 0) (b : Bool) (x y : Result A E) → (b ≡ true → IfOk x P) → (b ≡ false → IfOk y P) → IfOk (cond b x y) P
either P true x y f g = f refl
either P false x y f g = g refl

behind : {A B E : Type 0} (P : A → Type 0) (Q : B → Type 0) (r : Result A E) (f : A → Result B E) → IfOk r P → ((x : A) → P x → IfOk (f x) Q) → IfOk (r >>= f) Q
behind P Q (Ok x) f p g = g x p
behind P Q (Err e) f p g = tt

-- ---- numbers of fixed widths

byte_in : (bs : List ℕ) (i : ℕ) → are_bytes bs ≡ true → get_or bs i 0 < 256
byte_in [] i h = omega arith
byte_in (b ∷ bs) zero h = ltb-true b 256 (and_parts (nat_lt b 256) (are_bytes bs) h).0
byte_in (b ∷ bs) (suc i) h = byte_in bs i (and_parts (nat_lt b 256) (are_bytes bs) h).1

below_8 : (bs : List ℕ) → are_bytes bs ≡ true → from_le_bytes w8 bs < 256
below_8 bs h = omega (arith, byte_in bs 0 h)

below_16 : (bs : List ℕ) → are_bytes bs ≡ true → from_le_bytes w16 bs < 65536
below_16 bs h = omega (arith, byte_in bs 0 h, byte_in bs 1 h)

-- a number that was read is that of some bytes
fixed_read : (P : ℕ × ℕ → Type 0) (w : Width) (bytes : List ℕ) (at : ℕ) → are_bytes bytes ≡ true
    → ((bs : List ℕ) (next : ℕ) → are_bytes bs ≡ true → P (from_le_bytes w bs, next)) → IfOk (fixed_at w bytes at) P
fixed_read P w bytes at h all =
    either P (nat_lt (length bytes) (at + byte_len w)) _ _ (λ e. tt)
    (λ e. all (take (byte_len w) (drop at bytes)) (at + byte_len w) (bytes_taken (byte_len w) (drop at bytes) (bytes_behind at bytes h)))

-- ---- a number of 32 bits

abbrev Is32 : ℤ × ℕ → Type 0
Is32 z = in_signed (2 ^ 31) z.0 ≡ true

-- a number of a width is read as one of 32 bits, where its half is within them
signed_within : (half whole n : ℕ) (b : Bool) → half ≤ 2 ^ 31 → whole ≤ half + half → nat_lt n half ≡ b → in_signed (2 ^ 31) (sel b (pos n) (negsuc (whole - suc n))) ≡ true
signed_within half whole n true low fits e = lt-ltb n (2 ^ 31) (omega (arith, ltb-true n half e))
signed_within half whole n false low fits e = lt-ltb (whole - suc n) (2 ^ 31) (omega (arith, ltb-false n half e))

signed_8 : (n : ℕ) → in_signed (2 ^ 31) (cast_signed w8 n) ≡ true
signed_8 n = signed_within 128 256 n (nat_lt n 128) (omega arith) (omega arith) refl

signed_16 : (n : ℕ) → in_signed (2 ^ 31) (cast_signed w16 n) ≡ true
signed_16 n = signed_within 32768 65536 n (nat_lt n 32768) (omega arith) (omega arith) refl

signed_32 : (n : ℕ) → in_signed (2 ^ 31) (cast_signed w32 n) ≡ true
signed_32 n = signed_within 2147483648 4294967296 n (nat_lt n 2147483648) (omega arith) (omega arith) refl

signed_read : (w : Width) (bytes : List ℕ) (at : ℕ) → ((n : ℕ) → in_signed (2 ^ 31) (cast_signed w n) ≡ true) → are_bytes bytes ≡ true → IfOk (signed_at w bytes at) Is32
unfolding signed_at
signed_read w bytes at each h = behind (λ n. Unit {0}) Is32 (fixed_at w bytes at) _ (fixed_read (λ n. Unit {0}) w bytes at h (λ bs next all. tt)) (λ n t. each n.0)

unsigned_read : (w : Width) (bytes : List ℕ) (at : ℕ) → ((bs : List ℕ) → are_bytes bs ≡ true → nat_lt (from_le_bytes w bs) (2 ^ 31) ≡ true) → are_bytes bytes ≡ true → IfOk (unsigned_at w bytes at) Is32
unfolding unsigned_at
unsigned_read w bytes at each h =
    behind (λ (n : ℕ × ℕ). nat_lt n.0 (2 ^ 31) ≡ true) Is32 (fixed_at w bytes at) _ (fixed_read (λ (n : ℕ × ℕ). nat_lt n.0 (2 ^ 31) ≡ true) w bytes at h (λ bs next all. each bs all)) (λ n t. t)

wide_read : (bytes : List ℕ) (value_at at : ℕ) → are_bytes bytes ≡ true → IfOk (wide_at bytes value_at at) Is32
unfolding wide_at
wide_read bytes value_at at h =
    behind (λ n. Unit {0}) Is32 (fixed_at w32 bytes at) _ (fixed_read (λ n. Unit {0}) w32 bytes at h (λ bs next all. tt)) (λ n t. either Is32 (nat_lt n.0 2147483648) _ _ (λ e. e) (λ e. tt))

number_read : (bytes : List ℕ) (at first : ℕ) → are_bytes bytes ≡ true → IfOk (number_of bytes at first) Is32
unfolding number_of
number_read bytes at first h =
    either Is32 (nat_lt first 128) _ _ (λ e. lt-ltb first (2 ^ 31) (omega (arith, ltb-true first 128 e)))
    (λ _. either Is32 (nat_le 224 first) _ _ (λ e. lt-ltb (255 - first) (2 ^ 31) (omega arith))
    (λ _. either Is32 (first == 204) _ _ (λ e. unsigned_read w8 bytes (at + 1) (λ bs all. lt-ltb (from_le_bytes w8 bs) (2 ^ 31) (omega (arith, below_8 bs all))) h)
    (λ _. either Is32 (first == 205) _ _ (λ e. unsigned_read w16 bytes (at + 1) (λ bs all. lt-ltb (from_le_bytes w16 bs) (2 ^ 31) (omega (arith, below_16 bs all))) h)
    (λ _. either Is32 (first == 206) _ _ (λ e. wide_read bytes at (at + 1) h)
    (λ _. either Is32 (first == 208) _ _ (λ e. signed_read w8 bytes (at + 1) signed_8 h)
    (λ _. either Is32 (first == 209) _ _ (λ e. signed_read w16 bytes (at + 1) signed_16 h)
    (λ _. either Is32 (first == 210) _ _ (λ e. signed_read w32 bytes (at + 1) signed_32 h)
    (λ _. either Is32 (first == 202) _ _ (λ e. tt) (λ _. either Is32 (first == 203) _ _ (λ e. tt) (λ _. either Is32 (first == 207) _ _ (λ e. tt) (λ _. either Is32 (first == 211) _ _ (λ e. tt) (λ e. tt))))))))))))

number_is : (bytes : List ℕ) (at : ℕ) → are_bytes bytes ≡ true → IfOk (number_at bytes at) Is32
unfolding number_at
number_is bytes at h = behind (λ n. Unit {0}) Is32 (fixed_at w8 bytes at) _ (fixed_read (λ n. Unit {0}) w8 bytes at h (λ bs next all. tt)) (λ first t. number_read bytes at first.0 h)

-- ---- a text

-- it is in UTF-8 and no longer than the bytes
abbrev IsShortText : List ℕ → List ℕ × ℕ → Type 0
IsShortText bytes t = (is_utf8 t.0 ≡ true) × (length t.0 ≤ length bytes)

text_read : (bytes : List ℕ) (value_at at len : ℕ) → IfOk (text_of bytes value_at at len) (IsShortText bytes)
unfolding text_of
text_read bytes value_at at len =
    either (IsShortText bytes) (nat_lt (length bytes) (at + len)) _ _ (λ e. tt)
    (λ e. either (IsShortText bytes) (is_utf8 (take len (drop at bytes))) _ _ (λ words. (words, omega (arith, ltb-false (length bytes) (at + len) e, length-take-le len (drop at bytes), length-drop at bytes))) (λ e. tt))

whatever : {A E : Type 0} (r : Result A E) → IfOk r (λ x. Unit {0})
whatever (Ok x) = tt
whatever (Err e) = tt

text_is : (bytes : List ℕ) (at : ℕ) → IfOk (text_at bytes at) (IsShortText bytes)
unfolding text_at
text_is bytes at =
    behind (λ n. Unit {0}) (IsShortText bytes) (fixed_at w8 bytes at) _ (whatever (fixed_at w8 bytes at))
    (λ first t. behind (λ n. Unit {0}) (IsShortText bytes) (text_length bytes at first.0) _ (whatever (text_length bytes at first.0)) (λ head t. text_read bytes at head.1 head.0))

-- ---- a message kind

abbrev HasKind : MsgKind × ℕ → Type 0
HasKind k = is_kind k.0 ≡ true

named_is : (bytes : List ℕ) (at : ℕ) (r : Result (List ℕ × ℕ) ReadFault) → length bytes ≤ 65536 → IfOk r (IsShortText bytes) → IfOk (named_kind at r) HasKind
named_is bytes at (Ok t) short h = and_from (is_text t.0) (nat_lt (length t.0) (2 ^ 32)) (and_from (are_bytes t.0) (is_utf8 t.0) (utf8_bytes t.0 h.0) h.0) (lt-ltb (length t.0) (2 ^ 32) (omega (arith, short, h.1)))
named_is bytes at (Err f) short h = tt

numbered_is : (at : ℕ) (r : Result (ℤ × ℕ) ReadFault) → IfOk r Is32 → IfOk (numbered_kind at r) HasKind
numbered_is at (Ok z) h = h
numbered_is at (Err f) h = tt

kind_is : (bytes : List ℕ) (at : ℕ) → length bytes ≤ 65536 → are_bytes bytes ≡ true → IfOk (kind_at bytes at) HasKind
kind_is bytes at short h =
    either HasKind (option_map_or begins_text (slice_get bytes at) false) _ _ (λ e. named_is bytes at (text_at bytes at) short (text_is bytes at)) (λ e. numbered_is at (number_at bytes at) (number_is bytes at h))

-- ---- a frame

-- a frame's message has a line
abbrev pub is_told_frame : ClientFrame → Bool
is_told_frame Ack = true
is_told_frame Leave = true
is_told_frame (Msg kind payload) = is_kind kind && are_bytes payload
is_told_frame (Raw kind payload) = is_kind kind && are_bytes payload

abbrev IsToldFrame : ClientFrame → Type 0
IsToldFrame f = is_told_frame f ≡ true

alone_is : (f : ClientFrame) (rest : List ℕ) → IsToldFrame f → IfOk (without_payload f rest) IsToldFrame
alone_is f [] h = h
alone_is f (b ∷ bs) h = tt

message_is : (bytes : List ℕ) (k : MsgKind × ℕ) → are_bytes bytes ≡ true → HasKind k → IfOk (message_behind bytes k) IsToldFrame
message_is bytes k h has =
    either IsToldFrame (is_payload (drop k.1 bytes)) _ _ (λ e. and_from (is_kind k.0) (are_bytes (drop k.1 bytes)) has (bytes_behind k.1 bytes h)) (λ e. tt)

raw_is : (bytes : List ℕ) (k : MsgKind × ℕ) → are_bytes bytes ≡ true → HasKind k → IfOk (raw_behind bytes k) IsToldFrame
raw_is bytes k h has = and_from (is_kind k.0) (are_bytes (drop k.1 bytes)) has (bytes_behind k.1 bytes h)

code_is : (code : ℕ) (rest : List ℕ) → length (code ∷ rest) ≤ 65536 → are_bytes (code ∷ rest) ≡ true → IfOk (frame_by_code code rest) IsToldFrame
code_is code rest short h =
    either IsToldFrame (code == 10) _ _ (λ e. alone_is Ack rest refl)
    (λ _. either IsToldFrame (code == 12) _ _ (λ e. alone_is Leave rest refl)
    (λ _. either IsToldFrame (code == 13) _ _ (λ e. behind HasKind IsToldFrame (kind_at (code ∷ rest) 1) (message_behind (code ∷ rest)) (kind_is (code ∷ rest) 1 short h) (λ k has. message_is (code ∷ rest) k h has))
    (λ _. either IsToldFrame (code == 17) _ _ (λ e. behind HasKind IsToldFrame (kind_at (code ∷ rest) 1) (raw_behind (code ∷ rest)) (kind_is (code ∷ rest) 1 short h) (λ k has. raw_is (code ∷ rest) k h has))
    (λ e. tt))))

frame_is : (bytes : List ℕ) → length bytes ≤ 65536 → are_bytes bytes ≡ true → IfOk (frame_of bytes) IsToldFrame
frame_is [] short h = tt
frame_is (code ∷ rest) short h = code_is code rest short h

pub client_is : (bytes : List ℕ) → are_bytes bytes ≡ true → IfOk (read_client bytes) IsToldFrame
client_is bytes h = either IsToldFrame (nat_lt (2 ^ 16) (length bytes)) _ _ (λ e. tt) (λ e. frame_is bytes (ltb-false (2 ^ 16) (length bytes) e) h)
