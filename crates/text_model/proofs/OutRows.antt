-- Examples: outputs by their lines, what a replay prints, and the lines of rows; worked out by hand from the forms.
use Rattle.std.specs.Prelude.{◌≡◌, ℕ, true, false, List, [], ◌∷◌, ◌++◌, negsuc, Some, None, Ok, Err, codes, refl}
use Rattle.std.specs.Fmt.{digits}
use Rattle.std.specs.Str.{chars, is_utf8}
use lib.Utf8.{encode}
use Rattle.percent_encoding.specs.Percent.{percent_decode}
use Rattle.schema_model.specs.declared.value.Value.TheVariants.{Whole, Str, Truth, Link}
use Rattle.state_model.specs.declared.command.TableFault.TheVariants as fault
use Rattle.state_model.specs.declared.row.Row.TheVariants.{Struct, Map, Array, Set}
use Rattle.frame_model.specs.declared.frame.MsgKind.TheVariants.{Name, Num}
use Rattle.room_model.specs.declared.refusal.Refusal.TheVariants as refusal
use Rattle.hub_model.specs.declared.event.HubOut.{HubOut}
use Rattle.hub_model.specs.declared.event.HubOut.TheVariants.{Send, Close, Reply, Created, Joined, Returned, Message, RawMessage, Dropped, Left, Disposed, Made, Refused}
use Rattle.text_model.specs.declared.schedule.Print.{Print}
use Rattle.text_model.specs.declared.schedule.Word.TheVariants as word
use Rattle.text_model.specs.Lines.{words_of}
use Rattle.text_model.specs.Marks.{spaced}
use Rattle.text_model.specs.Outputs.{out_words}
use Rattle.text_model.specs.OutLines.{is_out, is_print, out_of, print_text, read_print_text}
use Rattle.text_model.specs.RowLines.{rows_text}
use Rattle.text_model.proofs.ScheduleRows.{number_schema, schema_lines, text}

abbrev room : List ℕ
room = codes "room00001"

abbrev session : List ℕ
session = codes "sess00001"

-- an output, its line, and that it is read again
abbrev IsLine : HubOut → List ℕ → Type 0
IsLine o l = (spaced (out_words o) ≡ l) × (out_of (words_of l) ≡ Some o) × (is_out o ≡ true)

send_row : IsLine (Send 2 (14 ∷ 128 ∷ 5 ∷ [])) (codes "send 2 0e8005")
unfolding digits
send_row = (refl, refl, refl)

close_row : IsLine (Close 1 4000) (codes "close 1 4000")
unfolding digits
close_row = (refl, refl, refl)

reply_row : IsLine (Reply 1 (codes "{\"a b\":1}")) (codes "reply 1 {\"a b\":1}")
unfolding digits is_utf8 chars encode
reply_row = (refl, refl, refl)

reply_empty : IsLine (Reply 1 []) (codes "reply 1 ")
unfolding digits is_utf8 chars encode
reply_empty = (refl, refl, refl)

created_row : IsLine (Created room (codes "duel")) (codes "created room00001 duel")
created_row = (refl, refl, refl)

joined_row : IsLine (Joined room session) (codes "joined room00001 sess00001")
joined_row = (refl, refl, refl)

returned_row : IsLine (Returned room session) (codes "returned room00001 sess00001")
returned_row = (refl, refl, refl)

message_row : IsLine (Message room session (Num (negsuc 4)) (192 ∷ [])) (codes "message room00001 sess00001 -5 c0")
unfolding digits
message_row = (refl, refl, refl)

raw_row : IsLine (RawMessage room session (Name (codes "a b")) []) (codes "rawmessage room00001 sess00001 'a%20b -")
unfolding percent_decode is_utf8 chars encode
raw_row = (refl, refl, refl)

dropped_row : IsLine (Dropped room session) (codes "dropped room00001 sess00001")
dropped_row = (refl, refl, refl)

left_row : IsLine (Left room session) (codes "left room00001 sess00001")
left_row = (refl, refl, refl)

disposed_row : IsLine (Disposed room) (codes "disposed room00001")
disposed_row = (refl, refl, refl)

made_row : IsLine (Made room 10) (codes "made room00001 10")
unfolding digits
made_row = (refl, refl, refl)

refused_row : IsLine (Refused refusal.QueueFull) (codes "refused queue-full")
refused_row = (refl, refl, refl)

refused_table : IsLine (Refused (refusal.Table fault.OutOfRange)) (codes "refused out-of-range")
refused_table = (refl, refl, refl)

-- ---- lines that are none

no_code : out_of (words_of (codes "close 1 65536")) ≡ None
no_code = refl

no_memory : out_of (words_of (codes "refused memory")) ≡ None
no_memory = refl

no_reply : out_of (words_of (codes "reply 1")) ≡ None
no_reply = refl

no_ref : out_of (words_of (codes "made room00001 4294967296")) ≡ None
no_ref = refl

-- ---- what a replay prints

abbrev printed : Print
printed = record { schema = number_schema; outs = (4, Joined room session) ∷ (5, Close 1 4000) ∷ [] }

abbrev printed_text : List ℕ
printed_text = text (schema_lines ++ codes "joined room00001 sess00001" ∷ codes "close 1 4000" ∷ codes "end" ∷ [])

printed_written : print_text printed ≡ printed_text
unfolding digits
printed_written = refl

printed_read : read_print_text printed_text ≡ Ok printed
printed_read = refl

printed_spelled : is_print printed ≡ true
printed_spelled = refl

printed_bad : read_print_text (text (schema_lines ++ codes "join" ∷ codes "end" ∷ [])) ≡ Err (4, word.Output)
printed_bad = refl

printed_ends : read_print_text (text schema_lines) ≡ Err (4, word.End)
printed_ends = refl

-- ---- rows

rows_written :
    rows_text
    (record { who = 0; row = Struct 0 (record { field = 0; value = Link 1 } ∷ record { field = 2; value = Whole (negsuc 0) } ∷ []) }
    ∷ record { who = 1; row = Map (record { class = 0; field = 0 }) (record { number = 0; key = codes "a b"; value = Link 2 } ∷ record { number = 3; key = []; value = Link 3 } ∷ []) }
    ∷ record { who = 2; row = Array (record { class = 1; field = 5 }) (Str (codes "-") ∷ Truth true ∷ []) }
    ∷ record { who = 3; row = Set (record { class = 1; field = 6 }) (record { number = 9; value = Truth false } ∷ []) } ∷ [])
    ≡ text (codes "struct 0 0 0=#1 2=-1" ∷ codes "map 1 0.0 0:'a%20b=#2 3:'=#3" ∷ codes "array 2 1.5 '- true" ∷ codes "set 3 1.6 9=false" ∷ [])
unfolding digits
rows_written = refl

rows_bare : rows_text (record { who = 0; row = Struct 0 [] } ∷ []) ≡ text (codes "struct 0 0" ∷ [])
unfolding digits
rows_bare = refl
