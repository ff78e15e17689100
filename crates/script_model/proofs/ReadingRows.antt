-- Examples: scripts that are read, and the first line of each that isn't; worked out by hand from the manual.
use Rattle.std.specs.Prelude.{◌≡◌, ℕ, zero, suc, Bool, true, false, List, [], ◌∷◌, ◌++◌, ℤ, pos, negsuc, Option, Some, None, Result, Ok, Err, codes, refl}
use Rattle.std.specs.Fmt.{digits}
use Rattle.std.specs.Str.{chars, is_utf8}
use lib.Utf8.{encode}
use Rattle.percent_encoding.specs.Percent.{percent_decode}
use Rattle.frame_model.specs.declared.frame.MsgKind.TheVariants as kind
use Rattle.script_model.specs.declared.action.Action.TheVariants as action
use Rattle.script_model.specs.declared.line.When.TheVariants as when
use Rattle.script_model.specs.declared.operand.Operand.TheVariants as operand
use Rattle.script_model.specs.declared.statement.Opener.TheVariants as opener
use Rattle.script_model.specs.ScriptReading.{Handled, handler_at, read_script_text}
use Rattle.script_model.specs.Steps.{Steps, does, more, no_steps, opens}
use Rattle.script_model.proofs.HandlerRows.{schema, text_of}

abbrev pub Fails : List (List ℕ) → ℕ → Type 0
Fails ls n = read_script_text schema (text_of ls) ≡ Err n

-- lines of a handler that run at an event
abbrev pub handler : List ℕ → List (List ℕ) → List (List ℕ)
handler head ls = head ∷ ls ++ codes "done" ∷ []

abbrev pub within : List (List ℕ) → List (List ℕ)
within ls = codes "room A max 2 seat 1 patch 1 keep 0" ∷ ls ++ codes "end" ∷ []

abbrev pub locks : Steps
locks = more (does action.Lock) no_steps

nothing_handled : read_script_text schema (text_of (within [])) ≡ Ok []
nothing_handled = refl

two_rooms : read_script_text schema (text_of (within (handler (codes "on create") (codes "lock" ∷ []) ++ codes "room B" ∷ handler (codes "on create") [])))
    ≡ Ok (record { def = 0; when = when.Create; body = locks } ∷ record { def = 1; when = when.Create; body = no_steps } ∷ [])
two_rooms = refl

each_event : read_script_text schema (text_of (within (
    handler (codes "on join") [] ++ handler (codes "on leave") [] ++ handler (codes "on tick") []
    ++ handler (codes "on message 'a") [] ++ handler (codes "on message 5") [] ++ handler (codes "on message '5") [] ++ handler (codes "on topic 'c") [])))
    ≡ Ok (record { def = 0; when = when.Join; body = no_steps } ∷ record { def = 0; when = when.Leave; body = no_steps }
    ∷ record { def = 0; when = when.Tick; body = no_steps } ∷ record { def = 0; when = when.Message (kind.Name (codes "a")); body = no_steps }
    ∷ record { def = 0; when = when.Message (kind.Num (pos 5)); body = no_steps } ∷ record { def = 0; when = when.Message (kind.Name (codes "5")); body = no_steps }
    ∷ record { def = 0; when = when.Topic (codes "c"); body = no_steps } ∷ [])
unfolding percent_decode is_utf8 chars encode
each_event = refl

blocks_in_blocks : read_script_text schema (text_of (within (handler (codes "on tick") (codes "each $A root" ∷ codes "if true" ∷ codes "lock" ∷ codes "fi" ∷ codes "next" ∷ codes "lock" ∷ []))))
    ≡ Ok (record { def = 0; when = when.Tick; body = more (opens (opener.Each (codes "A") operand.Root) (more (opens (opener.If (operand.Truth true)) locks) no_steps)) locks } ∷ [])
blocks_in_blocks = refl

-- ---- faults

head_twice : Fails (within (handler (codes "on message 5") [] ++ handler (codes "on message 5") [])) 4
head_twice = refl

statement_outside : Fails (within (codes "lock" ∷ [])) 2
statement_outside = refl

end_inside : Fails (within (codes "on tick" ∷ [])) 3
end_inside = refl

room_inside : Fails (within (codes "on tick" ∷ codes "room B" ∷ [])) 3
room_inside = refl

head_inside : Fails (within (codes "on tick" ∷ codes "on join" ∷ [])) 3
head_inside = refl

done_in_a_block : Fails (within (handler (codes "on tick") (codes "if true" ∷ []))) 4
done_in_a_block = refl

done_outside : Fails (within (codes "done" ∷ [])) 2
done_outside = refl

closes_nothing : Fails (within (handler (codes "on tick") (codes "fi" ∷ []))) 3
closes_nothing = refl

closes_the_other_kind : Fails (within (handler (codes "on tick") (codes "if true" ∷ codes "next" ∷ []))) 4
closes_the_other_kind = refl

closes_an_each_with_fi : Fails (within (handler (codes "on tick") (codes "pmembers $A 's" ∷ codes "fi" ∷ []))) 4
unfolding percent_decode is_utf8 chars encode
closes_an_each_with_fi = refl

abbrev pub ifs : List (List ℕ)
ifs = codes "if true" ∷ codes "if true" ∷ codes "if true" ∷ codes "if true" ∷ codes "if true" ∷ codes "if true" ∷ codes "if true" ∷ codes "if true" ∷ []

ninth_block : Fails (within (handler (codes "on tick") (ifs ++ codes "if true" ∷ []))) 11
ninth_block = refl

-- the eighth is opened: what fails is the end of the handler inside it
eighth_block : Fails (within (handler (codes "on tick") ifs)) 11
eighth_block = refl

unknown_class : Fails (within (handler (codes "on tick") (codes "let $A make Nobody" ∷ []))) 3
unknown_class = refl

field_of_another_class : Fails (within (handler (codes "on tick") (codes "let $A makefor State rank" ∷ []))) 3
field_of_another_class = refl

field_of_some_class : read_script_text schema (text_of (within (handler (codes "on tick") (codes "put root rank 1" ∷ []))))
    ≡ Ok (record { def = 0; when = when.Tick; body = more (does (action.Put operand.Root (codes "rank") (operand.Whole (pos 1)))) no_steps } ∷ [])
field_of_some_class = refl

field_of_no_class : Fails (within (handler (codes "on tick") (codes "put root suit 1" ∷ []))) 3
field_of_no_class = refl

published_for_a_publication : Fails (within (handler (codes "on topic 'c") (codes "if true" ∷ codes "publish 'c 1" ∷ codes "fi" ∷ []))) 4
unfolding percent_decode is_utf8 chars encode
published_for_a_publication = refl

needless_escape : Fails (within (handler (codes "on tick") (codes "put root name '%41" ∷ []))) 3
unfolding percent_decode is_utf8 chars encode
needless_escape = refl

link_as_literal : Fails (within (handler (codes "on tick") (codes "put root x #1" ∷ []))) 3
link_as_literal = refl

long_variable : Fails (within (handler (codes "on tick") (codes "let $abcdefghijklmnopq 1" ∷ []))) 3
long_variable = refl

digit_in_variable : Fails (within (handler (codes "on tick") (codes "let $a1 1" ∷ []))) 3
digit_in_variable = refl

code_out_of_range : Fails (within (handler (codes "on tick") (codes "kick sender 3999" ∷ []))) 3
code_out_of_range = refl

time_too_long : Fails (within (handler (codes "on tick") (codes "keep sender 3600001" ∷ []))) 3
time_too_long = refl

tag_out_of_range : Fails (within (handler (codes "on tick") (codes "viewadd sender root 256" ∷ []))) 3
tag_out_of_range = refl

word_too_many : Fails (within (handler (codes "on tick") (codes "lock lock" ∷ []))) 3
word_too_many = refl

empty_line : Fails (within ([] ∷ [])) 2
empty_line = refl

handler_before_a_room : Fails (codes "on tick" ∷ []) 1
handler_before_a_room = refl

end_before_a_room : Fails (codes "end" ∷ []) 1
end_before_a_room = refl

behind_the_end : Fails (within [] ++ codes "room B" ∷ []) 3
behind_the_end = refl

no_end : Fails (codes "room A" ∷ []) 2
no_end = refl

piece_behind : read_script_text schema (text_of (codes "room A" ∷ []) ++ codes "end") ≡ Err 2
piece_behind = refl

piece_behind_the_end : read_script_text schema (text_of (within []) ++ codes "e") ≡ Err 3
piece_behind_the_end = refl
