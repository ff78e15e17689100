-- Examples: events, acts and values by their words, and words that are none; worked out by hand from the forms.
use Rattle.std.specs.Prelude.{◌≡◌, ℕ, true, false, List, [], ◌∷◌, ◌++◌, pos, negsuc, Some, None, codes, refl}
use Rattle.std.specs.Fmt.{digits}
use Rattle.std.specs.Str.{chars, is_utf8}
use lib.Utf8.{encode}
use Rattle.percent_encoding.specs.Percent.{percent_decode}
use Rattle.schema_model.specs.declared.value.Value.TheVariants.{Whole, Str, Truth, Link}
use Rattle.state_model.specs.declared.command.Command.TheVariants.{Make, MakeFor, Put, Unset, PutKey, DelKey, Push, SetAt, DelAt, Add, Del, Clear}
use Rattle.frame_model.specs.declared.frame.MsgKind.TheVariants.{Name, Num}
use Rattle.room_model.specs.declared.event.Act.{Act}
use Rattle.room_model.specs.declared.event.Act.TheVariants.{State, ViewAdd, ViewDel, Send, Raw, ToAll, Kick, Lock, Unlock, Keep}
use Rattle.hub_model.specs.declared.event.HubEvent.{HubEvent}
use Rattle.hub_model.specs.declared.event.HubEvent.TheVariants.{At, Ask, Bad, Opening, Frame, Lost, Act as Acted, Tick}
use Rattle.text_model.specs.Events.{event_of_line, event_words, is_event}
use Rattle.text_model.specs.Marks.{spaced}
use Rattle.text_model.specs.WordForms.{hex_of, kind_of, plain_of, quoted_of, value_of}

abbrev room : List ℕ
room = codes "room00001"

abbrev session : List ℕ
session = codes "sess00001"

-- an event, its line, and that it is read again
abbrev IsLine : HubEvent → List ℕ → Type 0
IsLine e l = (spaced (event_words e) ≡ l) × (event_of_line l ≡ Some e) × (is_event e ≡ true)

abbrev IsAct : Act → List ℕ → Type 0
IsAct a l = IsLine (Acted room a) l

-- ---- words

plain_none : plain_of (codes "-") ≡ Some []
unfolding percent_decode
plain_none = refl

plain_hyphen : plain_of (codes "%2D") ≡ Some (codes "-")
unfolding percent_decode
plain_hyphen = refl

plain_long : plain_of (codes "a%2Db") ≡ None
unfolding percent_decode
plain_long = refl

plain_space : plain_of (codes "a%20b%25%C3%A9") ≡ Some (97 ∷ 32 ∷ 98 ∷ 37 ∷ 195 ∷ 169 ∷ [])
unfolding percent_decode
plain_space = refl

plain_needless : plain_of (codes "%41") ≡ None
unfolding percent_decode
plain_needless = refl

plain_low : plain_of (codes "%c3%a9") ≡ None
unfolding percent_decode
plain_low = refl

plain_lone : plain_of (codes "%") ≡ None
unfolding percent_decode
plain_lone = refl

plain_empty : plain_of [] ≡ None
unfolding percent_decode
plain_empty = refl

quoted_empty : quoted_of (codes "'") ≡ Some []
unfolding percent_decode is_utf8 chars encode
quoted_empty = refl

quoted_hyphen : quoted_of (codes "'-") ≡ Some (codes "-")
unfolding percent_decode is_utf8 chars encode
quoted_hyphen = refl

quoted_other : quoted_of (codes "'%FF") ≡ None
unfolding percent_decode is_utf8 chars encode
quoted_other = refl

hex_none : hex_of (codes "-") ≡ Some []
hex_none = refl

hex_some : hex_of (codes "0aff") ≡ Some (10 ∷ 255 ∷ [])
hex_some = refl

hex_upper : hex_of (codes "0A") ≡ None
hex_upper = refl

hex_odd : hex_of (codes "0") ≡ None
hex_odd = refl

hex_letter : hex_of (codes "g0") ≡ None
hex_letter = refl

hex_empty : hex_of [] ≡ None
hex_empty = refl

-- ---- values and kinds

value_least : value_of (codes "-170141183460469231731687303715884105728") ≡ Some (Whole (negsuc 170141183460469231731687303715884105727))
value_least = refl

value_most : value_of (codes "170141183460469231731687303715884105727") ≡ Some (Whole (pos 170141183460469231731687303715884105727))
value_most = refl

value_past : value_of (codes "170141183460469231731687303715884105728") ≡ None
value_past = refl

value_zero : value_of (codes "-0") ≡ None
value_zero = refl

value_truth : value_of (codes "true") ≡ Some (Truth true)
value_truth = refl

value_untruth : value_of (codes "false") ≡ Some (Truth false)
value_untruth = refl

value_other : value_of (codes "truth") ≡ None
value_other = refl

value_link : value_of (codes "#4294967295") ≡ Some (Link 4294967295)
value_link = refl

value_link_past : value_of (codes "#4294967296") ≡ None
value_link_past = refl

value_text : value_of (codes "'a%20b") ≡ Some (Str (97 ∷ 32 ∷ 98 ∷ []))
unfolding percent_decode is_utf8 chars encode
value_text = refl

value_none : value_of [] ≡ None
value_none = refl

kind_number : kind_of (codes "-2147483648") ≡ Some (Num (negsuc 2147483647))
kind_number = refl

kind_past : kind_of (codes "2147483648") ≡ None
kind_past = refl

kind_name : kind_of (codes "'move") ≡ Some (Name (codes "move"))
unfolding percent_decode is_utf8 chars encode
kind_name = refl

-- ---- events

at_row : IsLine (At 5) (codes "at 5")
unfolding digits
at_row = (refl, refl, refl)

ask_row : IsLine (Ask 1 (codes "/matchmake/joinOrCreate/duel") (codes "{}") room session) (codes "ask 1 /matchmake/joinOrCreate/duel {} room00001 sess00001")
unfolding digits percent_decode is_utf8 chars encode
ask_row = (refl, refl, refl)

ask_no_body : IsLine (Ask 1 (codes "-") [] room session) (codes "ask 1 %2D - room00001 sess00001")
unfolding digits percent_decode is_utf8 chars encode
ask_no_body = (refl, refl, refl)

bad_row : IsLine (Bad 7) (codes "bad 7")
unfolding digits
bad_row = (refl, refl, refl)

open_row : IsLine (Opening 2 (codes "/proc00001/room00001?sessionId=sess00001") (codes "tok000001")) (codes "open 2 /proc00001/room00001?sessionId=sess00001 tok000001")
unfolding digits percent_decode is_utf8 chars encode
open_row = (refl, refl, refl)

frame_row : IsLine (Frame 2 (10 ∷ [])) (codes "frame 2 0a")
unfolding digits
frame_row = (refl, refl, refl)

frame_empty : IsLine (Frame 2 []) (codes "frame 2 -")
unfolding digits
frame_empty = (refl, refl, refl)

drop_row : IsLine (Lost 18446744073709551615) (codes "drop 18446744073709551615")
unfolding digits
drop_row = (refl, refl, refl)

tick_row : IsLine (Tick room) (codes "tick room00001")
tick_row = (refl, refl, refl)

-- ---- acts

make_row : IsAct (State (Make 3)) (codes "act room00001 make 3")
unfolding digits
make_row = (refl, refl, refl)

makefor_row : IsAct (State (MakeFor (record { class = 0; field = 1 }))) (codes "act room00001 makefor 0 1")
unfolding digits
makefor_row = (refl, refl, refl)

put_row : IsAct (State (Put 0 255 (Whole (negsuc 4)))) (codes "act room00001 put 0 255 -5")
unfolding digits
put_row = (refl, refl, refl)

unset_row : IsAct (State (Unset 0 1)) (codes "act room00001 unset 0 1")
unfolding digits
unset_row = (refl, refl, refl)

putkey_row : IsAct (State (PutKey 1 (codes "a b") (Link 3))) (codes "act room00001 putkey 1 'a%20b #3")
unfolding digits percent_decode is_utf8 chars encode
putkey_row = (refl, refl, refl)

delkey_row : IsAct (State (DelKey 1 [])) (codes "act room00001 delkey 1 '")
unfolding digits percent_decode is_utf8 chars encode
delkey_row = (refl, refl, refl)

push_row : IsAct (State (Push 1 (Truth true))) (codes "act room00001 push 1 true")
unfolding digits
push_row = (refl, refl, refl)

setat_row : IsAct (State (SetAt 1 0 (Whole (pos 0)))) (codes "act room00001 setat 1 0 0")
unfolding digits
setat_row = (refl, refl, refl)

delat_row : IsAct (State (DelAt 1 4294967295)) (codes "act room00001 delat 1 4294967295")
unfolding digits
delat_row = (refl, refl, refl)

add_row : IsAct (State (Add 1 (Str (codes "-")))) (codes "act room00001 add 1 '-")
unfolding digits percent_decode is_utf8 chars encode
add_row = (refl, refl, refl)

del_row : IsAct (State (Del 1 (Truth false))) (codes "act room00001 del 1 false")
unfolding digits
del_row = (refl, refl, refl)

clear_row : IsAct (State (Clear 1)) (codes "act room00001 clear 1")
unfolding digits
clear_row = (refl, refl, refl)

viewadd_row : IsAct (ViewAdd session (record { who = 3; tag = negsuc 0 })) (codes "act room00001 viewadd sess00001 3 -1")
unfolding digits
viewadd_row = (refl, refl, refl)

viewdel_row : IsAct (ViewDel session (record { who = 3; tag = pos 255 })) (codes "act room00001 viewdel sess00001 3 255")
unfolding digits
viewdel_row = (refl, refl, refl)

send_row : IsAct (Send session (Num (pos 5)) (192 ∷ [])) (codes "act room00001 send sess00001 5 c0")
unfolding digits
send_row = (refl, refl, refl)

raw_row : IsAct (Raw session (Name (codes "a")) []) (codes "act room00001 raw sess00001 'a -")
unfolding percent_decode is_utf8 chars encode
raw_row = (refl, refl, refl)

toall_row : IsAct (ToAll (Num (negsuc 0)) (1 ∷ [])) (codes "act room00001 toall -1 01")
unfolding digits
toall_row = (refl, refl, refl)

kick_row : IsAct (Kick session 4001) (codes "act room00001 kick sess00001 4001")
unfolding digits
kick_row = (refl, refl, refl)

lock_row : IsAct Lock (codes "act room00001 lock")
lock_row = (refl, refl, refl)

unlock_row : IsAct Unlock (codes "act room00001 unlock")
unlock_row = (refl, refl, refl)

keep_row : IsAct (Keep session 3600000) (codes "act room00001 keep sess00001 3600000")
unfolding digits
keep_row = (refl, refl, refl)

-- ---- lines that are none

no_moment : event_of_line (codes "at 18446744073709551616") ≡ None
no_moment = refl

no_zero : event_of_line (codes "at 00") ≡ None
no_zero = refl

no_spaces : event_of_line (codes "at  5") ≡ None
no_spaces = refl

no_return : event_of_line (codes "tick room00001" ++ 13 ∷ []) ≡ None
no_return = refl

no_field : event_of_line (codes "act room00001 unset 0 256") ≡ None
no_field = refl

no_ref : event_of_line (codes "act room00001 clear 4294967296") ≡ None
no_ref = refl

no_code : event_of_line (codes "act room00001 kick sess00001 1001") ≡ None
no_code = refl

no_time : event_of_line (codes "act room00001 keep sess00001 3600001") ≡ None
no_time = refl

no_tag : event_of_line (codes "act room00001 viewadd sess00001 3 256") ≡ None
no_tag = refl

no_default_tag : event_of_line (codes "act room00001 viewadd sess00001 3 -2") ≡ None
no_default_tag = refl

no_id : event_of_line (codes "tick room0001") ≡ None
no_id = refl

no_act : event_of_line (codes "act room00001") ≡ None
no_act = refl

no_word : event_of_line (codes "end") ≡ None
no_word = refl
