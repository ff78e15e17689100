-- What was written as a frame is read again.
use Rattle.std.proofs.Common.{◌≡◌, ℕ, ◌+◌, ◌^◌, ◌<◌, ◌≤◌, Bool, true, false, List, [], ◌∷◌, ◌++◌, length, drop, codes, Some, Ok, refl, ap, sym, ◌∙◌, arith, ℤ, pos, negsuc, append_assoc, length-append, append-nil, ltb, nat_lt, ◌==◌}
use Rattle.std.specs.Prelude.{slice_get}
use Rattle.std.specs.Option.{option_map_or}
use Rattle.std.specs.Str.{is_utf8}
use Rattle.std.proofs.lemmas.List.{take_at, drop_at}
use Rattle.std.proofs.lemmas.Bool.Decides.{nat_tests}
use Rattle.schema_model.specs.Spelling.{number_bytes, text_bytes, text_head}
use Rattle.schema_model.specs.Reading.{◌>>=◌, number_at, text_at}
use Rattle.schema_model.specs.Fits.{in_signed}
use Rattle.schema_model.proofs.NumberAgain.{by_chain, number_again}
use Rattle.schema_model.proofs.ScalarAgain.{text_again}
use Rattle.frame_model.specs.declared.frame.MsgKind.{MsgKind}
use Rattle.frame_model.specs.declared.frame.MsgKind.TheVariants.{Name, Num}
use Rattle.frame_model.specs.declared.frame.ServerFrame.{ServerFrame}
use Rattle.frame_model.specs.declared.frame.ServerFrame.TheVariants as server
use Rattle.frame_model.specs.declared.frame.ClientFrame.TheVariants as client
use Rattle.frame_model.specs.Frames.{client_bytes, kind_bytes, server_bytes, short_text}
use Rattle.frame_model.specs.Reading.{begins_text, frame_of, is_payload, kind_at, message_behind, raw_behind, read_client}
use Rattle.frame_model.specs.ServerReading.{behind, counted_at, faulted, joined, read_server}
use Rattle.client_frames.specs.Kinds.{IsKept}
use Rattle.client_frames.specs.Written.{HasClientBytes, IsShortKind}

-- ---- message kinds

-- the byte behind a code begins a text, or doesn't
abbrev Begins : ℕ → List ℕ → Bool → List ℕ → Type 0
Begins code more b bytes = option_map_or begins_text (slice_get (code ∷ (bytes ++ more)) 1) false ≡ b

text_begins : (code : ℕ) (more t : List ℕ) → Begins code more true (text_bytes t)
text_begins code more t =
    by_chain (λ head. Begins code more true (head ++ t)) (ltb (length t) 32) (ltb (length t) 256) (ltb (length t) 65536) _ _ _ _
    (λ e. grind (arith, nat_tests)) (λ _. refl) (λ _. refl) refl

number_begins : (code : ℕ) (more : List ℕ) (z : ℤ) → Begins code more false (number_bytes z)
number_begins code more (pos n) =
    by_chain (Begins code more false) (ltb n 128) (ltb n 256) (ltb n 65536) _ _ _ _
    (λ e. grind (arith, nat_tests)) (λ _. refl) (λ _. refl) refl
number_begins code more (negsuc n) =
    by_chain (Begins code more false) (ltb n 32) (ltb n 128) (ltb n 32768) _ _ _ _
    (λ e. grind (arith, nat_tests)) (λ _. refl) (λ _. refl) refl

-- a kind behind a code is read again, whatever follows
kind_again : (code : ℕ) (more : List ℕ) (k : MsgKind) → IsShortKind k → IsKept k
    → kind_at (code ∷ (kind_bytes k ++ more)) 1 ≡ Ok (k, 1 + length (kind_bytes k))
kind_again code more (Name t) short good = rw (text_begins code more t, text_again (code ∷ []) more t short good) refl
kind_again code more (Num z) short good = rw (number_begins code more z, number_again (code ∷ []) more z good) refl

-- what stands behind it is the rest
rest_again : (code : ℕ) (more : List ℕ) (k : MsgKind) → drop (1 + length (kind_bytes k)) (code ∷ (kind_bytes k ++ more)) ≡ more
rest_again code more k = drop_at (code ∷ kind_bytes k) more (1 + length (kind_bytes k)) (omega arith)

-- ---- frames of a client

-- a message from its parts
message_is : (bytes payload : List ℕ) (k : MsgKind) (at : ℕ) → kind_at bytes 1 ≡ Ok (k, at) → drop at bytes ≡ payload → is_payload payload ≡ true
    → (kind_at bytes 1 >>= message_behind bytes) ≡ Ok (client.Msg k payload)
message_is bytes payload k at kind rest good = rw (kind, rest, good) refl

raw_is : (bytes payload : List ℕ) (k : MsgKind) (at : ℕ) → kind_at bytes 1 ≡ Ok (k, at) → drop at bytes ≡ payload
    → (kind_at bytes 1 >>= raw_behind bytes) ≡ Ok (client.Raw k payload)
raw_is bytes payload k at kind rest = rw (kind, rest) refl

-- a frame that isn't too long
short_is : (bytes : List ℕ) → length bytes ≤ 2 ^ 16 → read_client bytes ≡ frame_of bytes
short_is bytes h =
    let no : nat_lt (2 ^ 16) (length bytes) ≡ false = grind (arith, nat_tests) in
    rw no refl

-- a client's kind has a length of four bytes, since its frame is short
pub short_kind : (code : ℕ) (k : MsgKind) (payload : List ℕ) → length (code ∷ (kind_bytes k ++ payload)) ≤ 2 ^ 16 → IsShortKind k
short_kind code (Name t) payload h = omega (arith, length-append (text_bytes t) payload, length-append (text_head (length t)) t)
short_kind code (Num z) payload h = tt

pub message_again : (k : MsgKind) (payload : List ℕ) → HasClientBytes (client.Msg k payload) → IsKept k
    → read_client (client_bytes (client.Msg k payload)) ≡ Ok (client.Msg k payload)
message_again k payload h good =
    short_is (client_bytes (client.Msg k payload)) h.1
    ∙ message_is (13 ∷ (kind_bytes k ++ payload)) payload k (1 + length (kind_bytes k)) (kind_again 13 payload k (short_kind 13 k payload h.1) good) (rest_again 13 payload k) h.0

pub raw_again : (k : MsgKind) (payload : List ℕ) → HasClientBytes (client.Raw k payload) → IsKept k
    → read_client (client_bytes (client.Raw k payload)) ≡ Ok (client.Raw k payload)
raw_again k payload h good =
    short_is (client_bytes (client.Raw k payload)) h.1
    ∙ raw_is (17 ∷ (kind_bytes k ++ payload)) payload k (1 + length (kind_bytes k)) (kind_again 17 payload k (short_kind 17 k payload h.1) good) (rest_again 17 payload k)

-- ---- frames of a server

behind_is : (frame : MsgKind → List ℕ → ServerFrame) (bytes payload : List ℕ) (k : MsgKind) (at : ℕ) → kind_at bytes 1 ≡ Ok (k, at) → drop at bytes ≡ payload
    → (kind_at bytes 1 >>= behind frame bytes) ≡ Ok (frame k payload)
behind_is frame bytes payload k at kind rest = rw (kind, rest) refl

pub server_message_again : (k : MsgKind) (payload : List ℕ) → IsShortKind k → IsKept k
    → read_server (server_bytes (server.Msg k payload)) ≡ Ok (server.Msg k payload)
server_message_again k payload short good =
    behind_is server.Msg (13 ∷ (kind_bytes k ++ payload)) payload k (1 + length (kind_bytes k)) (kind_again 13 payload k short good) (rest_again 13 payload k)

pub server_raw_again : (k : MsgKind) (payload : List ℕ) → IsShortKind k → IsKept k
    → read_server (server_bytes (server.Raw k payload)) ≡ Ok (server.Raw k payload)
server_raw_again k payload short good =
    behind_is server.Raw (17 ∷ (kind_bytes k ++ payload)) payload k (1 + length (kind_bytes k)) (kind_again 17 payload k short good) (rest_again 17 payload k)

-- an error from its parts
fault_is : (bytes t : List ℕ) (z : ℤ) (at end : ℕ) → number_at bytes 1 ≡ Ok (z, at) → text_at bytes at ≡ Ok (t, end) → end ≡ length bytes
    → faulted bytes ≡ Ok (server.Fault z t)
unfolding faulted
fault_is bytes t z at end number words all =
    let whole : (end == length bytes) ≡ true = grind (arith, nat_tests) in
    rw (number, words, whole) refl

pub fault_again : (z : ℤ) (t : List ℕ) → in_signed (2 ^ 31) z ≡ true → length t < 2 ^ 32 → is_utf8 t ≡ true
    → read_server (server_bytes (server.Fault z t)) ≡ Ok (server.Fault z t)
fault_again z t number short good =
    let prefix = 11 ∷ number_bytes z in
    let place : 1 + length (number_bytes z) ≡ length prefix = omega arith in
    let number' = number_again (11 ∷ []) (text_bytes t) z number ∙ ap (λ n. Ok (z, n)) place in
    let words = rw (append-nil (text_bytes t)) at (text_again prefix [] t short good) in
    fault_is (prefix ++ text_bytes t) t z (length prefix) (length prefix + length (text_bytes t)) number' words
    (sym (length-append prefix (text_bytes t)))

-- bytes behind one byte of their length are read again
first_behind : (prefix more : List ℕ) (n : ℕ) → slice_get (prefix ++ n ∷ more) (length prefix) ≡ Some n
first_behind [] more n = refl
first_behind (b ∷ bs) more n = first_behind bs more n

counted_again : (prefix t more : List ℕ) → counted_at (prefix ++ (short_text t ++ more)) (length prefix) ≡ Ok (t, length prefix + 1 + length t)
counted_again prefix t more =
    let there : nat_lt (length (prefix ++ (short_text t ++ more))) (length prefix + 1 + length t) ≡ false =
    grind (arith, nat_tests, length-append prefix (short_text t ++ more), length-append t more) in
    let past : drop (length prefix + 1) (prefix ++ (short_text t ++ more)) ≡ t ++ more =
    ap (drop (length prefix + 1)) (sym (append_assoc prefix (length t ∷ []) (t ++ more))) ∙ drop_at (prefix ++ length t ∷ []) (t ++ more) (length prefix + 1) (length-append prefix (length t ∷ [])) in
    rw (first_behind prefix (t ++ more) (length t), there, past, take_at t more (length t) refl) refl

-- a welcome from its parts
join_is : (bytes token handshake : List ℕ) (at end : ℕ) → counted_at bytes 1 ≡ Ok (token, at) → counted_at bytes at ≡ Ok (codes "schema", end) → drop end bytes ≡ handshake
    → joined bytes ≡ Ok (server.Join token handshake)
unfolding joined
join_is bytes token handshake at end first second rest = rw (first, second, rest) refl

pub join_again : (token handshake : List ℕ) → read_server (server_bytes (server.Join token handshake)) ≡ Ok (server.Join token handshake)
join_again token handshake =
    let prefix = 10 ∷ short_text token in
    let word = short_text (codes "schema") in
    let end = length prefix + 1 + length (codes "schema") in
    let place : 1 + 1 + length token ≡ length prefix = omega arith in
    let first = counted_again (10 ∷ []) token (word ++ handshake) ∙ ap (λ n. Ok (token, n)) place in
    let rest = drop_at (prefix ++ word) handshake end (omega (arith, length-append prefix word)) in
    join_is (prefix ++ (word ++ handshake)) token handshake (length prefix) end first (counted_again prefix (codes "schema") handshake)
    (ap (drop end) (sym (append_assoc prefix word handshake)) ∙ rest)
