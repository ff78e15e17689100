-- Reading the handlers behind the definitions of rooms, line by line, up to the first line that can't stand where it stands. Ours.
use Rattle.std.specs.Prelude.{ℕ, suc, ◌-◌, ◌==◌, Bool, true, false, not, ◌&&◌, List, [], ◌∷◌, ◌++◌, length, Option, Some, None, option_and_then, nat_lt, if◌then◌else◌, Result, Ok, Err}
use Rattle.std.specs.List.{find, list_any}
use Rattle.std.specs.Option.{option_map, option_map_or}
use Rattle.std.specs.Str.{bytes_eq}
use Rattle.schema_model.specs.Classes.{Schema}
use Rattle.schema_model.specs.Reading.{◌>>=◌}
use Rattle.schema_model.specs.Values.{same_truth, same_whole}
use Rattle.frame_model.specs.declared.frame.MsgKind.{MsgKind}
use Rattle.frame_model.specs.declared.frame.MsgKind.TheVariants as kind
use Rattle.text_model.specs.Lines.{behind_lines, lines_in, some_if, words_of}
use Rattle.script_model.specs.declared.action.Action.{Action}
use Rattle.script_model.specs.declared.action.Action.TheVariants.{Publish}
use Rattle.script_model.specs.declared.line.ScriptLine.{ScriptLine}
use Rattle.script_model.specs.declared.line.ScriptLine.TheVariants.{Room, End, On, Done, Let, Do, Open, Fi, Next}
use Rattle.script_model.specs.declared.line.When.{When}
use Rattle.script_model.specs.declared.line.When.TheVariants as when
use Rattle.script_model.specs.declared.statement.Opener.{Opener}
use Rattle.script_model.specs.declared.statement.Opener.TheVariants.{If, Each, EachMember}
use Rattle.script_model.specs.ScriptWords.{line_of}
use Rattle.script_model.specs.Steps.{Step, Steps, does, no_steps, opens, sets, steps_then}

-- ---- handlers

-- a handler, with the number of its room's definition and the event at which it runs
pub record Handled : Type 0 where
  pub def : ℕ
  pub when : When
  pub body : Steps

abbrev pub same_kind : MsgKind → MsgKind → Bool
same_kind (kind.Name a) (kind.Name b) = bytes_eq a b
same_kind (kind.Num a) (kind.Num b) = same_whole a b
same_kind a b = false

-- two events are one
abbrev pub same_when : When → When → Bool
same_when when.Create when.Create = true
same_when when.Join when.Join = true
same_when (when.Message a) (when.Message b) = same_kind a b
same_when when.Leave when.Leave = true
same_when when.Tick when.Tick = true
same_when (when.Topic a) (when.Topic b) = bytes_eq a b
same_when a b = false

abbrev pub is_handler_of : ℕ → When → Handled → Bool
is_handler_of def w h = (h.def == def) && same_when h.when w

-- what a room of a definition does at an event
abbrev pub handler_at : List Handled → ℕ → When → Option Steps
handler_at hs def w = option_map (λ (h : Handled). h.body) (find (is_handler_of def w) hs)

-- ---- what was read so far

-- a block that isn't closed: what opened it, and the steps before it
pub record OpenBlock : Type 0 where
  pub opener : Opener
  pub before : Steps

-- a handler that isn't done: its open blocks, the innermost first, and the steps of that one
pub record OpenHandler : Type 0 where
  pub when : When
  pub blocks : List OpenBlock
  pub steps : Steps

-- how many definitions came, the handlers that are done, the one that isn't, and whether the end came
pub record ScriptDraft : Type 0 where
  pub rooms : ℕ
  pub handlers : List Handled
  pub «open» : Option OpenHandler
  pub ended : Bool

abbrev pub empty_script : ScriptDraft
empty_script = record { rooms = 0; handlers = []; «open» = None; ended = false }

-- how deep blocks may stand in one another
abbrev pub most_blocks : ℕ
most_blocks = 8

-- ---- a line inside a handler

abbrev pub with_step : OpenHandler → Step → OpenHandler
with_step h s = record { when = h.when; blocks = h.blocks; steps = steps_then h.steps s }

abbrev pub is_topic : When → Bool
is_topic (when.Topic t) = true
is_topic w = false

abbrev pub is_publish : Action → Bool
is_publish (Publish t a) = true
is_publish a = false

-- nothing is published because of a publication
abbrev pub done_in : OpenHandler → Action → Option OpenHandler
done_in h a = some_if (not (is_topic h.when && is_publish a)) (with_step h (does a))

abbrev pub opened_in : OpenHandler → Opener → Option OpenHandler
opened_in h o =
    some_if (nat_lt (length h.blocks) most_blocks)
    (record { when = h.when; blocks = record { opener = o; before = h.steps } ∷ h.blocks; steps = no_steps })

-- the innermost block is closed by what closes its kind
abbrev pub is_if : Opener → Bool
is_if (If a) = true
is_if (Each v a) = false
is_if (EachMember v a) = false

abbrev pub closed_by : Bool → OpenHandler → List OpenBlock → Option OpenHandler
closed_by by_fi h [] = None
closed_by by_fi h (b ∷ bs) =
    some_if (same_truth by_fi (is_if b.opener)) (record { when = h.when; blocks = bs; steps = steps_then b.before (opens b.opener h.steps) })

abbrev pub taken_in : OpenHandler → ScriptLine → Option OpenHandler
taken_in h (Let v e) = Some (with_step h (sets v e))
taken_in h (Do a) = done_in h a
taken_in h (Open o) = opened_in h o
taken_in h Fi = closed_by true h h.blocks
taken_in h Next = closed_by false h h.blocks
taken_in h l = None

-- ---- a line

abbrev pub with_open : ScriptDraft → OpenHandler → ScriptDraft
with_open d h = record { rooms = d.rooms; handlers = d.handlers; «open» = Some h; ended = false }

-- the handler is done, where none of its blocks is open
abbrev pub handler_done : ScriptDraft → OpenHandler → List OpenBlock → Option ScriptDraft
handler_done d h (b ∷ bs) = None
handler_done d h [] =
    Some (record { rooms = d.rooms; handlers = d.handlers ++ record { def = d.rooms - 1; when = h.when; body = h.steps } ∷ []; «open» = None; ended = false })

abbrev pub inside : ScriptDraft → OpenHandler → ScriptLine → Option ScriptDraft
inside d h Done = handler_done d h h.blocks
inside d h l = option_map (with_open d) (taken_in h l)

-- a head that no handler of this room has
abbrev pub head_taken : ScriptDraft → When → Option ScriptDraft
head_taken d w =
    some_if (nat_lt 0 d.rooms && not (list_any (is_handler_of (d.rooms - 1) w) d.handlers))
    (with_open d (record { when = w; blocks = []; steps = no_steps }))

abbrev pub outside : ScriptDraft → ScriptLine → Option ScriptDraft
outside d Room = Some (record { rooms = suc d.rooms; handlers = d.handlers; «open» = None; ended = false })
outside d End = some_if (nat_lt 0 d.rooms) (record { rooms = d.rooms; handlers = d.handlers; «open» = None; ended = true })
outside d (On w) = head_taken d w
outside d l = None

abbrev pub placed : ScriptDraft → Option OpenHandler → ScriptLine → Option ScriptDraft
placed d None l = outside d l
placed d (Some h) l = inside d h l

-- what a line makes of it; nothing stands behind the end
abbrev pub line_taken : ScriptDraft → ScriptLine → Option ScriptDraft
line_taken d l = if d.ended then None else placed d d.«open» l

-- ---- a text

-- lines from this number on; the fault is the number of a line
abbrev pub script_taken : Schema → ℕ → ScriptDraft → List (List ℕ) → Result ScriptDraft ℕ
script_taken schema n d [] = Ok d
script_taken schema n d (l ∷ ls) =
    option_map_or (λ next. script_taken schema (suc n) next ls) (option_and_then (line_taken d) (line_of schema (words_of l))) (Err n)

-- the end came, and nothing stands behind it
abbrev pub script_ended : ℕ → List ℕ → ScriptDraft → Result (List Handled) ℕ
script_ended n [] d = if d.ended then Ok d.handlers else Err n
script_ended n (b ∷ bs) d = Err n

-- the handlers of a text, or its first line that can't stand where it stands
abbrev pub read_script_text : Schema → List ℕ → Result (List Handled) ℕ
read_script_text schema text =
    script_taken schema 1 empty_script (lines_in text) >>= script_ended (suc (length (lines_in text))) (behind_lines text)
