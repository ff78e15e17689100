-- Examples: what handlers do and say, statement by statement; worked out by hand from the manual.
use Rattle.std.specs.Prelude.{◌≡◌, ℕ, zero, suc, ◌^◌, ◌-◌, Bool, true, false, List, [], ◌∷◌, ◌++◌, ℤ, pos, negsuc, Option, Some, None, Result, Ok, Err, codes, refl}
use Rattle.std.specs.Fmt.{digits}
use Rattle.std.specs.Str.{chars, is_utf8}
use lib.Utf8.{encode}
use Rattle.percent_encoding.specs.Percent.{percent_decode}
use Rattle.schema_model.specs.Classes.{Schema}
use Rattle.schema_model.specs.declared.class.Item.TheVariants as item
use Rattle.schema_model.specs.declared.class.Shape.TheVariants.{One, Map, Array, Set}
use Rattle.schema_model.specs.declared.scalar.ScalarKind.TheVariants.{Number, Str}
use Rattle.schema_model.specs.declared.value.Value.TheVariants as value
use Rattle.state_model.specs.declared.command.Command.{Command}
use Rattle.state_model.specs.declared.command.Command.TheVariants as command
use Rattle.state_model.specs.declared.row.Row.TheVariants as row
use Rattle.state_model.specs.declared.row.RowEntry.{RowEntry}
use Rattle.frame_model.specs.PackData.{PackData, nil, truth, whole, text, list, dict, no_items, item as an_item, no_members, member}
use Rattle.frame_model.specs.declared.frame.MsgKind.TheVariants as kind
use Rattle.room_model.specs.declared.event.Act.{Act}
use Rattle.room_model.specs.declared.event.Act.TheVariants as act
use Rattle.script_model.specs.declared.facts.Said.{Said}
use Rattle.script_model.specs.declared.facts.Said.TheVariants as said
use Rattle.script_model.specs.declared.line.When.TheVariants as when
use Rattle.script_model.specs.Plays.{acts_of}
use Rattle.script_model.specs.Presence.{no_presence}
use Rattle.script_model.specs.Scenes.{FactsData, World}
use Rattle.script_model.specs.ScriptReading.{Handled, handler_at, read_script_text}
use Rattle.script_model.specs.Steps.{Steps, no_steps}

-- a text of lines
abbrev pub text_of : List (List ℕ) → List ℕ
text_of [] = []
text_of (l ∷ ls) = l ++ 10 ∷ text_of ls

-- class 0: x a number, name a text, list an array of numbers, map a map of texts, things a map of class 1; class 1: rank a number
abbrev pub schema : Schema
schema = record {
  classes =
      record {
        name = codes "State";
        parent = None;
        own =
            record { name = codes "x"; shape = One (item.Scalar Number); tag = None }
            ∷ record { name = codes "name"; shape = One (item.Scalar Str); tag = None }
            ∷ record { name = codes "list"; shape = Array (item.Scalar Number); tag = None }
            ∷ record { name = codes "map"; shape = Map (item.Scalar Str); tag = None }
            ∷ record { name = codes "bag"; shape = Set (item.Scalar Number); tag = None } ∷ [];
      }
      ∷ record { name = codes "Card"; parent = None; own = record { name = codes "rank"; shape = One (item.Scalar Number); tag = None } ∷ [] } ∷ [];
  root = 0;
}

-- x is 3, the array is 7 and 9, the map has `a` and `b`, the set has 4
abbrev pub rows : List RowEntry
rows =
    record {
      who = 0;
      row = row.Struct 0 (record { field = 0; value = value.Whole (pos 3) } ∷ record { field = 2; value = value.Link 1 }
          ∷ record { field = 3; value = value.Link 2 } ∷ record { field = 4; value = value.Link 3 } ∷ []);
    }
    ∷ record { who = 1; row = row.Array (record { class = 0; field = 2 }) (value.Whole (pos 7) ∷ value.Whole (pos 9) ∷ []) }
    ∷ record {
      who = 2;
      row = row.Map (record { class = 0; field = 3 }) (record { number = 1; key = codes "b"; value = value.Str (codes "B") }
          ∷ record { number = 4; key = codes "a"; value = value.Str (codes "A") } ∷ []);
    }
    ∷ record { who = 3; row = row.Set (record { class = 0; field = 4 }) (record { number = 2; value = value.Whole (pos 4) } ∷ []) } ∷ []

abbrev pub world : World
world = record { schema = schema; rows = rows; presence = no_presence; made = None }

-- a world that an act leaves as it is, but that what is made is row 5
abbrev pub after : World → Said → World
after w s = record { schema = w.schema; rows = w.rows; presence = w.presence; made = Some 5 }

-- one in which whatever is said takes all rows but the root's, which has no fields then
abbrev pub emptied_by : World → Said → World
emptied_by w s = record { schema = w.schema; rows = record { who = 0; row = row.Struct 0 [] } ∷ []; presence = w.presence; made = None }

abbrev pub about : PackData → FactsData
about d = record { sender = Some (codes "sess00001"); item = d; room = codes "room00001" }

-- the steps of the only handler of these lines
abbrev pub steps_in_handlers : List Handled → Steps
steps_in_handlers [] = no_steps
steps_in_handlers (h ∷ hs) = h.body

abbrev pub steps_read : Result (List Handled) ℕ → Steps
steps_read (Ok hs) = steps_in_handlers hs
steps_read (Err n) = no_steps

abbrev pub steps_by : List ℕ → List (List ℕ) → Steps
steps_by head ls = steps_read (read_script_text schema (text_of (codes "room A" ∷ head ∷ ls ++ codes "done" ∷ codes "end" ∷ [])))

-- what lines say of an item
abbrev pub Says : PackData → List (List ℕ) → List Said → Type 0
Says d ls ss = acts_of after (about d) (steps_by (codes "on message 'add") ls) world ≡ ss

abbrev pub does : Command → Said
does c = said.Act (act.State c)

abbrev pub puts_x : ℤ → Said
puts_x z = does (command.Put 0 0 (value.Whole z))

-- ---- a sum, and what it is put into

item_added : Says (whole (pos 5)) (codes "let $A get root 'x" ∷ codes "let $B plus $A item" ∷ codes "put root x $B" ∷ []) (puts_x (pos 8) ∷ [])
unfolding digits percent_decode is_utf8 chars encode
item_added = refl

other_kind_is_told : Says nil (codes "put root x 'a" ∷ []) (does (command.Put 0 0 (value.Str (codes "a"))) ∷ [])
unfolding digits percent_decode is_utf8 chars encode
other_kind_is_told = refl

past_64_bits : Says (whole (pos (2 ^ 64 - 1))) (codes "let $A plus item 1" ∷ codes "put root x $A" ∷ []) []
unfolding digits percent_decode is_utf8 chars encode
past_64_bits = refl

up_to_64_bits : Says (whole (pos (2 ^ 64 - 1))) (codes "let $A plus item 0" ∷ codes "put root x $A" ∷ []) (puts_x (pos (2 ^ 64 - 1)) ∷ [])
unfolding digits percent_decode is_utf8 chars encode
up_to_64_bits = refl

below_64_bits : Says (whole (negsuc (2 ^ 63 - 1))) (codes "let $A minus item 1" ∷ codes "put root x $A" ∷ []) []
unfolding digits percent_decode is_utf8 chars encode
below_64_bits = refl

long_literals : Says nil (codes "let $A minus 18446744073709551617 2" ∷ codes "put root x $A" ∷ []) (puts_x (pos (2 ^ 64 - 1)) ∷ [])
unfolding digits percent_decode is_utf8 chars encode
long_literals = refl

unset_is_nil : Says nil (codes "put root x $A" ∷ []) []
unfolding digits percent_decode is_utf8 chars encode
unset_is_nil = refl

unfit_forgets : Says nil (codes "let $A 1" ∷ codes "let $A plus 'a 1" ∷ codes "put root x $A" ∷ []) []
unfolding digits percent_decode is_utf8 chars encode
unfit_forgets = refl

-- ---- truth

texts_are_not_less : Says nil (codes "let $A less 'a 'b" ∷ codes "if $A" ∷ codes "lock" ∷ codes "fi" ∷ codes "put root x $A" ∷ []) []
unfolding digits percent_decode is_utf8 chars encode
texts_are_not_less = refl

numbers_are_less : Says nil (codes "let $A less -1 0" ∷ codes "if $A" ∷ codes "lock" ∷ codes "fi" ∷ []) (said.Act act.Lock ∷ [])
unfolding digits percent_decode is_utf8 chars encode
numbers_are_less = refl

only_true_is_true : Says (whole (pos 1)) (codes "if item" ∷ codes "lock" ∷ codes "fi" ∷ codes "unlock" ∷ []) (said.Act act.Unlock ∷ [])
unfolding digits percent_decode is_utf8 chars encode
only_true_is_true = refl

kinds_differ : Says nil (codes "let $A equal 1 '1" ∷ codes "let $B equal $A false" ∷ codes "if $B" ∷ codes "lock" ∷ codes "fi" ∷ []) (said.Act act.Lock ∷ [])
unfolding digits percent_decode is_utf8 chars encode
kinds_differ = refl

nils_are_equal : Says nil (codes "let $A equal item $B" ∷ codes "if $A" ∷ codes "lock" ∷ codes "fi" ∷ []) (said.Act act.Lock ∷ [])
unfolding digits percent_decode is_utf8 chars encode
nils_are_equal = refl

order_counts : Says (dict (member (codes "a") (whole (pos 1)) (member (codes "b") nil no_members)))
    (codes "let $A equal item item" ∷ codes "if $A" ∷ codes "lock" ∷ codes "fi" ∷ codes "let $B get item 'a" ∷ codes "put root x $B" ∷ []) (said.Act act.Lock ∷ puts_x (pos 1) ∷ [])
unfolding digits percent_decode is_utf8 chars encode
order_counts = refl

-- ---- what rows and payloads hold

positions : Says nil (codes "let $L get root 'list" ∷ codes "let $A get $L 1" ∷ codes "put root x $A" ∷ codes "let $B get $L 2" ∷ codes "put root x $B" ∷ []) (puts_x (pos 9) ∷ [])
unfolding digits percent_decode is_utf8 chars encode
positions = refl

keys_of_maps : Says nil (codes "let $M get root 'map" ∷ codes "let $A get $M 'a" ∷ codes "put root name $A" ∷ codes "let $B get $M 'c" ∷ codes "put root name $B" ∷ [])
    (does (command.Put 0 1 (value.Str (codes "A"))) ∷ [])
unfolding digits percent_decode is_utf8 chars encode
keys_of_maps = refl

sets_have_no_places : Says nil (codes "let $S get root 'bag" ∷ codes "let $A get $S 2" ∷ codes "put root x $A" ∷ codes "let $N size $S" ∷ codes "put root x $N" ∷ []) (puts_x (pos 1) ∷ [])
unfolding digits percent_decode is_utf8 chars encode
sets_have_no_places = refl

instances_have_no_size : Says nil (codes "let $A size root" ∷ codes "put root x $A" ∷ []) []
unfolding digits percent_decode is_utf8 chars encode
instances_have_no_size = refl

first_of_a_repeated_key : Says (dict (member (codes "a") (whole (pos 1)) (member (codes "a") (whole (pos 2)) no_members)))
    (codes "let $A get item 'a" ∷ codes "put root x $A" ∷ codes "let $N size item" ∷ codes "put root x $N" ∷ []) (puts_x (pos 1) ∷ puts_x (pos 2) ∷ [])
unfolding digits percent_decode is_utf8 chars encode
first_of_a_repeated_key = refl

items_of_a_list : Says (list (an_item (whole (pos 6)) (an_item nil no_items))) (codes "let $A get item 0" ∷ codes "put root x $A" ∷ codes "let $B get item 1" ∷ codes "put root x $B" ∷ []) (puts_x (pos 6) ∷ [])
unfolding digits percent_decode is_utf8 chars encode
items_of_a_list = refl

-- ---- blocks

keys_by_number : Says nil (codes "let $M get root 'map" ∷ codes "each $K $M" ∷ codes "delkey $M $K" ∷ codes "next" ∷ [])
    (does (command.DelKey 2 (codes "b")) ∷ does (command.DelKey 2 (codes "a")) ∷ [])
unfolding digits percent_decode is_utf8 chars encode
keys_by_number = refl

positions_of_arrays : Says nil (codes "let $L get root 'list" ∷ codes "each $I $L" ∷ codes "delat $L $I" ∷ codes "next" ∷ []) (does (command.DelAt 1 0) ∷ does (command.DelAt 1 1) ∷ [])
unfolding digits percent_decode is_utf8 chars encode
positions_of_arrays = refl

values_of_sets : Says nil (codes "let $S get root 'bag" ∷ codes "each $V $S" ∷ codes "del $S $V" ∷ codes "next" ∷ []) (does (command.Del 3 (value.Whole (pos 4))) ∷ [])
unfolding digits percent_decode is_utf8 chars encode
values_of_sets = refl

payloads_are_no_collections : Says (list (an_item nil no_items)) (codes "each $V item" ∷ codes "lock" ∷ codes "next" ∷ []) []
unfolding digits percent_decode is_utf8 chars encode
payloads_are_no_collections = refl

-- the keys are those of the start, whatever the acts leave of the map
items_as_they_stood : acts_of emptied_by (about nil) (steps_by (codes "on join") (codes "let $M get root 'map" ∷ codes "each $K $M" ∷ codes "delkey $M $K" ∷ codes "next" ∷ codes "let $N size $M" ∷ codes "put root x $N" ∷ [])) world
    ≡ does (command.DelKey 2 (codes "b")) ∷ does (command.DelKey 2 (codes "a")) ∷ []
unfolding digits percent_decode is_utf8 chars encode
items_as_they_stood = refl

-- ---- what is made

made_is_told : Says nil (codes "let $C make Card" ∷ codes "put $C x 1" ∷ codes "put root x $C" ∷ [])
    (does (command.Make 1) ∷ does (command.Put 0 0 (value.Link 5)) ∷ [])
unfolding digits percent_decode is_utf8 chars encode
made_is_told = refl

made_for_a_field : Says nil (codes "let $L makefor State list" ∷ codes "push $L 1" ∷ []) (does (command.MakeFor (record { class = 0; field = 2 })) ∷ does (command.Push 5 (value.Whole (pos 1))) ∷ [])
unfolding digits percent_decode is_utf8 chars encode
made_for_a_field = refl

nothing_made : acts_of emptied_by (about nil) (steps_by (codes "on join") (codes "let $C make Card" ∷ codes "push $C 1" ∷ [])) world ≡ does (command.Make 1) ∷ []
unfolding digits percent_decode is_utf8 chars encode
nothing_made = refl

-- ---- messages, sessions and what is shared

sender_and_kind : Says (whole (pos 3)) (codes "send sender 'got item" ∷ codes "toall 7 'all" ∷ codes "kick sender 4001" ∷ codes "keep sender 5" ∷ [])
    (said.Act (act.Send (codes "sess00001") (kind.Name (codes "got")) (3 ∷ [])) ∷ said.Act (act.ToAll (kind.Num (pos 7)) (163 ∷ codes "all"))
    ∷ said.Act (act.Kick (codes "sess00001") 4001) ∷ said.Act (act.Keep (codes "sess00001") 5) ∷ [])
unfolding digits percent_decode is_utf8 chars encode
sender_and_kind = refl

rows_are_not_sent : Says nil (codes "toall 'a root" ∷ codes "toall 'a item" ∷ codes "toall 'a 18446744073709551616" ∷ codes "send 'nobody 'a 1" ∷ []) []
unfolding digits percent_decode is_utf8 chars encode
rows_are_not_sent = refl

published : Says (list no_items) (codes "publish 'c 'x" ∷ codes "publish 'c true" ∷ codes "publish 'c -1" ∷ codes "publish 'c item" ∷ codes "publish 'c root" ∷ [])
    (said.Publish (codes "c") (value.Str (codes "x")) ∷ said.Publish (codes "c") (value.Truth true) ∷ said.Publish (codes "c") (value.Whole (negsuc 0)) ∷ [])
unfolding digits percent_decode is_utf8 chars encode
published = refl

shared_numbers : Says nil (codes "let $A pincr 'k 2" ∷ codes "let $B pget 'k" ∷ codes "toall 'n $B" ∷ codes "psadd 'k 'x" ∷ codes "let $C pscard 'k" ∷ codes "put root x $C" ∷ codes "put root x $A" ∷ [])
    (said.Act (act.ToAll (kind.Name (codes "n")) (161 ∷ 50 ∷ [])) ∷ puts_x (pos 2) ∷ [])
unfolding digits percent_decode is_utf8 chars encode
shared_numbers = refl

shared_sets : Says nil (codes "psadd 's 'b" ∷ codes "psadd 's 'a" ∷ codes "pmembers $M 's" ∷ codes "put root name $M" ∷ codes "psrem 's $M" ∷ codes "next" ∷ codes "let $N pscard 's" ∷ codes "put root x $N" ∷ [])
    (does (command.Put 0 1 (value.Str (codes "a"))) ∷ does (command.Put 0 1 (value.Str (codes "b"))) ∷ puts_x (pos 0) ∷ [])
unfolding digits percent_decode is_utf8 chars encode
shared_sets = refl

no_sender : acts_of after (record { sender = None; item = nil; room = codes "room00001" }) (steps_by (codes "on tick") (codes "kick sender 4001" ∷ codes "toall 'a sender" ∷ [])) world ≡ []
unfolding digits percent_decode is_utf8 chars encode
no_sender = refl
