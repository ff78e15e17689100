-- The lines of scripts: what the words of each stand for. Ours.
use Rattle.std.specs.Prelude.{ℕ, ◌==◌, Bool, false, ◌&&◌, ◌||◌, List, [], ◌∷◌, length, Option, Some, None, option_and_then, if◌then◌else◌, nat_le, codes}
use Rattle.std.specs.List.{list_all, list_any, position}
use Rattle.std.specs.Option.{option_map}
use Rattle.std.specs.Str.{bytes_eq}
use Rattle.schema_model.specs.Classes.{Schema, Declared, fields_from}
use Rattle.schema_model.specs.declared.class.Class.{Class}
use Rattle.schema_model.specs.declared.class.FieldDecl.{FieldDecl}
use Rattle.schema_model.specs.declared.place.Home.{Home}
use Rattle.schema_model.specs.declared.value.Value.{Value}
use Rattle.schema_model.specs.declared.value.Value.TheVariants as value
use Rattle.text_model.specs.Acts.{code_of, keep_of}
use Rattle.text_model.specs.Lines.{both, is_word, some_if, three}
use Rattle.text_model.specs.WordForms.{kind_of, quoted_of, tag_of_word, value_of}
use Rattle.script_model.specs.declared.action.Action.{Action}
use Rattle.script_model.specs.declared.action.Action.TheVariants as action
use Rattle.script_model.specs.declared.expression.Expression.{Expression}
use Rattle.script_model.specs.declared.expression.Expression.TheVariants as expression
use Rattle.script_model.specs.declared.expression.Operator.{Operator}
use Rattle.script_model.specs.declared.expression.Operator.TheVariants as operator
use Rattle.script_model.specs.declared.line.ScriptLine.{ScriptLine}
use Rattle.script_model.specs.declared.line.ScriptLine.TheVariants.{Room, End, On, Done, Let, Do, Open, Fi, Next}
use Rattle.script_model.specs.declared.line.When.{When}
use Rattle.script_model.specs.declared.line.When.TheVariants as when
use Rattle.script_model.specs.declared.operand.Operand.{Operand}
use Rattle.script_model.specs.declared.operand.Operand.TheVariants as operand
use Rattle.script_model.specs.declared.statement.Opener.{Opener}
use Rattle.script_model.specs.declared.statement.Opener.TheVariants as opener
use Rattle.script_model.specs.Scenes.{field_named}

-- ---- names

abbrev pub is_letter : ℕ → Bool
is_letter b = (nat_le 65 b && nat_le b 90) || (nat_le 97 b && nat_le b 122)

-- the name of a variable: 1 to 16 letters behind a `$`
abbrev pub is_variable : List ℕ → Bool
is_variable v = nat_le 1 (length v) && (nat_le (length v) 16 && list_all is_letter v)

abbrev pub variable_of : List ℕ → Option (List ℕ)
variable_of [] = None
variable_of (c ∷ v) = some_if ((c == 36) && is_variable v) v

-- the number of a class by its name
abbrev pub class_of : Schema → List ℕ → Option ℕ
class_of schema name = position (λ (c : Class). bytes_eq c.name name) schema.classes

-- a field of a class by their names
abbrev pub home_with : Schema → List ℕ → ℕ → Option Home
home_with schema field class = option_map (λ index. let h : Home = record { class = class; field = index } in h) (field_named schema class field)

abbrev pub home_of : Schema → List ℕ → List ℕ → Option Home
home_of schema class field = option_and_then (home_with schema field) (class_of schema class)

-- the name of a field that some class has
abbrev pub has_own : List ℕ → Class → Bool
has_own name c = list_any (λ (f : FieldDecl). bytes_eq f.name name) c.own

abbrev pub field_of : Schema → List ℕ → Option (List ℕ)
field_of schema name = some_if (list_any (has_own name) schema.classes) name

-- ---- operands

-- a literal; none is a link
abbrev pub literal_of : Value → Option Operand
literal_of (value.Whole z) = Some (operand.Whole z)
literal_of (value.Str t) = Some (operand.Str t)
literal_of (value.Truth b) = Some (operand.Truth b)
literal_of (value.Link n) = None

-- a word that begins as a variable does
abbrev pub is_dollar : List ℕ → Bool
is_dollar [] = false
is_dollar (c ∷ w) = c == 36

abbrev pub operand_of_word : List ℕ → Option Operand
operand_of_word w =
    if is_word (codes "root") w then Some operand.Root
    else if is_word (codes "sender") w then Some operand.Sender
    else if is_word (codes "item") w then Some operand.Item
    else if is_dollar w then option_map operand.Variable (variable_of w)
    else option_and_then literal_of (value_of w)

-- ---- what a variable is set to

abbrev pub operator_of : List ℕ → Option Operator
operator_of w =
    if is_word (codes "plus") w then Some operator.Plus
    else if is_word (codes "minus") w then Some operator.Minus
    else if is_word (codes "times") w then Some operator.Times
    else if is_word (codes "less") w then Some operator.Less
    else some_if (is_word (codes "equal") w) operator.Equal

-- with one word or two behind the first one
abbrev pub one_behind : Schema → List ℕ → List ℕ → Option Expression
one_behind schema w a =
    if is_word (codes "make") w then option_map expression.Make (class_of schema a)
    else if is_word (codes "size") w then option_map expression.Size (operand_of_word a)
    else if is_word (codes "pget") w then option_map expression.Stored (operand_of_word a)
    else if is_word (codes "pscard") w then option_map expression.Members (operand_of_word a)
    else None

abbrev pub two_behind : Schema → List ℕ → List ℕ → List ℕ → Option Expression
two_behind schema w a b =
    if is_word (codes "makefor") w then option_map expression.MakeFor (home_of schema a b)
    else if is_word (codes "get") w then both expression.Get (operand_of_word a) (operand_of_word b)
    else if is_word (codes "pincr") w then both expression.Raised (operand_of_word a) (operand_of_word b)
    else three expression.Compute (operator_of w) (operand_of_word a) (operand_of_word b)

abbrev pub expression_of : Schema → List (List ℕ) → Option Expression
expression_of schema (a ∷ []) = option_map expression.Operand (operand_of_word a)
expression_of schema (w ∷ a ∷ []) = one_behind schema w a
expression_of schema (w ∷ a ∷ b ∷ []) = two_behind schema w a b
expression_of schema ws = None

-- ---- actions, with so many words behind the first one

abbrev pub no_words : List ℕ → Option Action
no_words w = if is_word (codes "lock") w then Some action.Lock else some_if (is_word (codes "unlock") w) action.Unlock

abbrev pub one_word : List ℕ → List ℕ → Option Action
one_word w a =
    if is_word (codes "clear") w then option_map action.Clear (operand_of_word a)
    else if is_word (codes "pdel") w then option_map action.Forget (operand_of_word a)
    else if is_word (codes "subscribe") w then option_map action.Subscribe (quoted_of a)
    else None

abbrev pub two_words : Schema → List ℕ → List ℕ → List ℕ → Option Action
two_words schema w a b =
    if is_word (codes "unset") w then both action.Unset (operand_of_word a) (field_of schema b)
    else if is_word (codes "delkey") w then both action.DelKey (operand_of_word a) (operand_of_word b)
    else if is_word (codes "push") w then both action.Push (operand_of_word a) (operand_of_word b)
    else if is_word (codes "delat") w then both action.DelAt (operand_of_word a) (operand_of_word b)
    else if is_word (codes "add") w then both action.Add (operand_of_word a) (operand_of_word b)
    else if is_word (codes "del") w then both action.Del (operand_of_word a) (operand_of_word b)
    else if is_word (codes "toall") w then both action.ToAll (kind_of a) (operand_of_word b)
    else if is_word (codes "kick") w then both action.Kick (operand_of_word a) (code_of b)
    else if is_word (codes "keep") w then both action.Keep (operand_of_word a) (keep_of b)
    else if is_word (codes "pset") w then both action.Store (operand_of_word a) (operand_of_word b)
    else if is_word (codes "psadd") w then both action.Include (operand_of_word a) (operand_of_word b)
    else if is_word (codes "psrem") w then both action.Exclude (operand_of_word a) (operand_of_word b)
    else if is_word (codes "publish") w then both action.Publish (quoted_of a) (operand_of_word b)
    else None

abbrev pub three_words : Schema → List ℕ → List ℕ → List ℕ → List ℕ → Option Action
three_words schema w a b c =
    if is_word (codes "put") w then three action.Put (operand_of_word a) (field_of schema b) (operand_of_word c)
    else if is_word (codes "putkey") w then three action.PutKey (operand_of_word a) (operand_of_word b) (operand_of_word c)
    else if is_word (codes "setat") w then three action.SetAt (operand_of_word a) (operand_of_word b) (operand_of_word c)
    else if is_word (codes "viewadd") w then three action.ViewAdd (operand_of_word a) (operand_of_word b) (tag_of_word c)
    else if is_word (codes "viewdel") w then three action.ViewDel (operand_of_word a) (operand_of_word b) (tag_of_word c)
    else if is_word (codes "send") w then three action.Send (operand_of_word a) (kind_of b) (operand_of_word c)
    else None

abbrev pub action_of : Schema → List ℕ → List (List ℕ) → Option Action
action_of schema w [] = no_words w
action_of schema w (a ∷ []) = one_word w a
action_of schema w (a ∷ b ∷ []) = two_words schema w a b
action_of schema w (a ∷ b ∷ c ∷ []) = three_words schema w a b c
action_of schema w ws = None

-- ---- heads and blocks

-- the event of a head, with no word or one behind it
abbrev pub plain_when : List ℕ → Option When
plain_when w =
    if is_word (codes "create") w then Some when.Create
    else if is_word (codes "join") w then Some when.Join
    else if is_word (codes "leave") w then Some when.Leave
    else some_if (is_word (codes "tick") w) when.Tick

abbrev pub when_about : List ℕ → List ℕ → Option When
when_about w a =
    if is_word (codes "message") w then option_map when.Message (kind_of a)
    else if is_word (codes "topic") w then option_map when.Topic (quoted_of a)
    else None

abbrev pub when_of : List (List ℕ) → Option When
when_of (w ∷ []) = plain_when w
when_of (w ∷ a ∷ []) = when_about w a
when_of ws = None

abbrev pub if_of : List (List ℕ) → Option Opener
if_of (a ∷ []) = option_map opener.If (operand_of_word a)
if_of ws = None

abbrev pub each_of : (List ℕ → Operand → Opener) → List (List ℕ) → Option Opener
each_of f (v ∷ a ∷ []) = both f (variable_of v) (operand_of_word a)
each_of f ws = None

abbrev pub let_of : Schema → List (List ℕ) → Option ScriptLine
let_of schema [] = None
let_of schema (v ∷ ws) = both Let (variable_of v) (expression_of schema ws)

-- ---- lines

-- a line of one word
abbrev pub lone_line : List (List ℕ) → ScriptLine → Option ScriptLine
lone_line [] l = Some l
lone_line ws l = None

-- the line whose words these are
abbrev pub line_with : Schema → List ℕ → List (List ℕ) → Option ScriptLine
line_with schema w ws =
    if is_word (codes "room") w then Some Room
    else if is_word (codes "end") w then lone_line ws End
    else if is_word (codes "done") w then lone_line ws Done
    else if is_word (codes "fi") w then lone_line ws Fi
    else if is_word (codes "next") w then lone_line ws Next
    else if is_word (codes "on") w then option_map On (when_of ws)
    else if is_word (codes "let") w then let_of schema ws
    else if is_word (codes "if") w then option_map Open (if_of ws)
    else if is_word (codes "each") w then option_map Open (each_of opener.Each ws)
    else if is_word (codes "pmembers") w then option_map Open (each_of opener.EachMember ws)
    else option_map Do (action_of schema w ws)

abbrev pub line_of : Schema → List (List ℕ) → Option ScriptLine
line_of schema [] = None
line_of schema (w ∷ ws) = line_with schema w ws
