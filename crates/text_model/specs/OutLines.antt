-- Lines of outputs: the output that a line stands for, and the texts that a replay prints. Ours.
use Rattle.std.specs.Prelude.{◌≡◌, ℕ, suc, ◌==◌, Bool, true, not, ◌&&◌, List, [], ◌∷◌, ◌++◌, length, map, Option, Some, None, if◌then◌else◌, is_some, nat_lt, codes, Result, Ok, Err}
use Rattle.std.specs.List.{find, list_all}
use Rattle.std.specs.Option.{option_map, option_map_or}
use Rattle.schema_model.specs.Reading.{◌>>=◌}
use Rattle.state_model.specs.declared.command.TableFault.{TableFault}
use Rattle.state_model.specs.declared.command.TableFault.TheVariants as fault
use Rattle.room_model.specs.declared.refusal.Refusal.{Refusal}
use Rattle.room_model.specs.declared.refusal.Refusal.TheVariants as refusal
use Rattle.hub_model.specs.declared.event.HubOut.{HubOut}
use Rattle.hub_model.specs.declared.event.HubOut.TheVariants.{Send, Close, Reply, Created, Joined, Returned, Message, RawMessage, Dropped, Left, Disposed, Made, Refused}
use Rattle.text_model.specs.declared.schedule.Print.{Print}
use Rattle.text_model.specs.declared.schedule.Word.TheVariants as word
use Rattle.text_model.specs.Acts.{is_kind, is_ref, ref_of}
use Rattle.text_model.specs.Decimals.{decimal_below}
use Rattle.text_model.specs.Events.{is_number, number_of_word}
use Rattle.text_model.specs.Lines.{behind_lines, both, is_word, lines_in, passing, some_if, three, words_of}
use Rattle.text_model.specs.Marks.{is_id, is_room_name, lines, spaced}
use Rattle.text_model.specs.Outputs.{out_words, refusal_word}
use Rattle.text_model.specs.Schedules.{Fault, at_end, breaks_off, with_schema}
use Rattle.text_model.specs.SchemaLines.{is_spelled, lines_of, schema_text}
use Rattle.text_model.specs.WordForms.{are_bytes, hex_of, id_of, is_text, kind_of}

-- ---- which outputs have a line

-- bytes without LF that are a text
abbrev pub is_one_line : List ℕ → Bool
is_one_line t = is_text t && list_all (λ b. not (b == 10)) t

-- the refusals that come out; out of memory is none
abbrev pub table_refusals : List TableFault
table_refusals =
    fault.NoRef ∷ fault.NoField ∷ fault.NoItem ∷ fault.WrongType ∷ fault.OutOfRange ∷ fault.Cycle ∷ fault.Duplicate ∷ fault.InstancesFull
    ∷ fault.PlacesFull ∷ fault.TextFull ∷ fault.TextTooLong ∷ fault.RefsSpent ∷ fault.NumbersSpent ∷ fault.Present ∷ []

abbrev pub refusals : List Refusal
refusals =
    refusal.NoRoom ∷ refusal.NoConn ∷ refusal.ConnInUse ∷ refusal.NoSession ∷ refusal.NotHere ∷ refusal.QueueFull ∷ refusal.ViewFull
    ∷ map refusal.Table table_refusals

-- the refusal whose word this is
abbrev pub refusal_of : List ℕ → Option Refusal
refusal_of w = find (λ r. is_word (refusal_word r) w) refusals

abbrev pub is_told : Refusal → Bool
is_told r = is_some (refusal_of (refusal_word r))

abbrev pub is_out : HubOut → Bool
is_out (Send conn bytes) = is_number conn && are_bytes bytes
is_out (Close conn code) = is_number conn && nat_lt code 65536
is_out (Reply conn json) = is_number conn && is_one_line json
is_out (Created room name) = is_id room && is_room_name name
is_out (Joined room session) = is_id room && is_id session
is_out (Returned room session) = is_id room && is_id session
is_out (Message room session k payload) = (is_id room && is_id session) && (is_kind k && are_bytes payload)
is_out (RawMessage room session k payload) = (is_id room && is_id session) && (is_kind k && are_bytes payload)
is_out (Dropped room session) = is_id room && is_id session
is_out (Left room session) = is_id room && is_id session
is_out (Disposed room) = is_id room
is_out (Made room n) = is_id room && is_ref n
is_out (Refused r) = is_told r

-- ---- what words stand for

-- a room and a session
abbrev pub who_of : List ℕ → List ℕ → Option (List ℕ × List ℕ)
who_of room session = both (λ r s. (r, s)) (id_of room) (id_of session)

abbrev pub of_who : (List ℕ → List ℕ → HubOut) → List ℕ → List ℕ → Option HubOut
of_who f room session = option_map (λ (w : List ℕ × List ℕ). f w.0 w.1) (who_of room session)

abbrev pub short_out : List ℕ → List ℕ → Option HubOut
short_out w a =
    if is_word (codes "disposed") w then option_map Disposed (id_of a)
    else if is_word (codes "refused") w then option_map Refused (refusal_of a)
    else None

abbrev pub middle_out : List ℕ → List ℕ → List ℕ → Option HubOut
middle_out w a b =
    if is_word (codes "send") w then both Send (number_of_word a) (hex_of b)
    else if is_word (codes "close") w then both Close (number_of_word a) (decimal_below 65536 b)
    else if is_word (codes "created") w then both Created (id_of a) (some_if (is_room_name b) b)
    else if is_word (codes "joined") w then of_who Joined a b
    else if is_word (codes "returned") w then of_who Returned a b
    else if is_word (codes "dropped") w then of_who Dropped a b
    else if is_word (codes "left") w then of_who Left a b
    else if is_word (codes "made") w then both Made (id_of a) (ref_of b)
    else None

abbrev pub long_out : List ℕ → List ℕ → List ℕ → List ℕ → List ℕ → Option HubOut
long_out w a b c d =
    if is_word (codes "message") w then three (λ (who : List ℕ × List ℕ). Message who.0 who.1) (who_of a b) (kind_of c) (hex_of d)
    else if is_word (codes "rawmessage") w then three (λ (who : List ℕ × List ℕ). RawMessage who.0 who.1) (who_of a b) (kind_of c) (hex_of d)
    else None

-- a reply's text may have spaces
abbrev pub reply_of : List ℕ → List (List ℕ) → Option HubOut
reply_of a [] = None
reply_of a (w ∷ ws) = both Reply (number_of_word a) (passing is_one_line (Some (spaced (w ∷ ws))))

abbrev pub plain_out : List ℕ → List (List ℕ) → Option HubOut
plain_out w (a ∷ []) = short_out w a
plain_out w (a ∷ b ∷ []) = middle_out w a b
plain_out w (a ∷ b ∷ c ∷ d ∷ []) = long_out w a b c d
plain_out w ws = None

-- the output whose words these are
abbrev pub out_of : List (List ℕ) → Option HubOut
out_of (w ∷ a ∷ ws) = if is_word (codes "reply") w then reply_of a ws else plain_out w (a ∷ ws)
out_of ws = None

-- ---- what a replay prints

-- outputs from a line of this number on, each with its number, up to `end`
abbrev pub outs_from : ℕ → List (List ℕ) → List ℕ → Result (List (ℕ × HubOut)) Fault
outs_from n [] rest = Err (breaks_off n word.Output rest)
outs_from n (l ∷ ls) rest =
    if is_word (codes "end") l then at_end (suc n) ls rest []
    else option_map_or (λ o. outs_from (suc n) ls rest >>= (λ os. Ok ((n, o) ∷ os))) (out_of (words_of l)) (Err (n, word.Output))

-- a text as what a replay prints, or its first fault
abbrev pub read_print_text : List ℕ → Result Print Fault
read_print_text text =
    with_schema (lines_in text) (behind_lines text) (λ n s ls. outs_from n ls (behind_lines text) >>= (λ os. Ok (record { schema = s; outs = os })))

-- ---- the one text

-- outputs with the numbers of their lines, from a line of this number on
abbrev pub are_numbered : ℕ → List (ℕ × HubOut) → Bool
are_numbered n [] = true
are_numbered n ((m, o) ∷ os) = (m == n) && are_numbered (suc n) os

abbrev pub print_text : Print → List ℕ
print_text p = schema_text p.schema ++ lines (map (λ (o : ℕ × HubOut). out_words o.1) p.outs ++ (codes "end" ∷ []) ∷ [])

abbrev pub is_print : Print → Bool
is_print p = is_spelled p.schema && (are_numbered (suc (length (lines_of p.schema))) p.outs && list_all (λ (o : ℕ × HubOut). is_out o.1) p.outs)

-- the bytes are what a replay prints
abbrev pub IsPrintText : List ℕ → Print → Type 0
IsPrintText text p = (is_print p ≡ true) × (text ≡ print_text p)
