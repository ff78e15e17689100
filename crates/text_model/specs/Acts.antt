-- Acts as words: the words of each, and the act that words stand for. Ours.
use Rattle.std.specs.Prelude.{ℕ, ◌^◌, ◌==◌, Bool, true, ◌&&◌, ◌||◌, List, [], ◌∷◌, ℤ, pos, negsuc, Option, Some, None, if◌then◌else◌, nat_le, nat_lt, codes}
use Rattle.std.specs.Option.{option_map}
use Rattle.std.specs.Fmt.{decimal}
use Rattle.schema_model.specs.Fits.{in_signed}
use Rattle.schema_model.specs.declared.place.Home.{Home}
use Rattle.schema_model.specs.declared.place.Pair.{Pair}
use Rattle.schema_model.specs.declared.value.Value.{Value}
use Rattle.schema_model.specs.declared.value.Value.TheVariants as value
use Rattle.state_model.specs.declared.command.Command.{Command}
use Rattle.state_model.specs.declared.command.Command.TheVariants.{Make, MakeFor, Put, Unset, PutKey, DelKey, Push, SetAt, DelAt, Add, Del, Clear}
use Rattle.frame_model.specs.Kinds.{is_kept_kind}
use Rattle.frame_model.specs.declared.frame.MsgKind.{MsgKind}
use Rattle.frame_model.specs.declared.frame.MsgKind.TheVariants as kind
use Rattle.room_model.specs.Acts.{is_short_kind}
use Rattle.room_model.specs.declared.event.Act.{Act}
use Rattle.room_model.specs.declared.event.Act.TheVariants.{State, ViewAdd, ViewDel, Send, Raw, ToAll, Kick, Lock, Unlock, Keep}
use Rattle.room_model.specs.Limits.{longest_time}
use Rattle.text_model.specs.Decimals.{decimal_below, decimal_within, signed_text}
use Rattle.text_model.specs.Lines.{both, is_word, passing, some_if, three}
use Rattle.text_model.specs.Marks.{hex_word, is_id, quoted}
use Rattle.text_model.specs.Outputs.{kind_word}
use Rattle.text_model.specs.WordForms.{are_bytes, hex_of, id_of, is_text, kind_of, quoted_of, tag_of_word, value_of, value_word}

-- ---- the words of each

abbrev pub command_words : Command → List (List ℕ)
command_words (Make t) = codes "make" ∷ decimal t ∷ []
command_words (MakeFor home) = codes "makefor" ∷ decimal home.class ∷ decimal home.field ∷ []
command_words (Put r f v) = codes "put" ∷ decimal r ∷ decimal f ∷ value_word v ∷ []
command_words (Unset r f) = codes "unset" ∷ decimal r ∷ decimal f ∷ []
command_words (PutKey r k v) = codes "putkey" ∷ decimal r ∷ quoted k ∷ value_word v ∷ []
command_words (DelKey r k) = codes "delkey" ∷ decimal r ∷ quoted k ∷ []
command_words (Push r v) = codes "push" ∷ decimal r ∷ value_word v ∷ []
command_words (SetAt r n v) = codes "setat" ∷ decimal r ∷ decimal n ∷ value_word v ∷ []
command_words (DelAt r n) = codes "delat" ∷ decimal r ∷ decimal n ∷ []
command_words (Add r v) = codes "add" ∷ decimal r ∷ value_word v ∷ []
command_words (Del r v) = codes "del" ∷ decimal r ∷ value_word v ∷ []
command_words (Clear r) = codes "clear" ∷ decimal r ∷ []

abbrev pub act_words : Act → List (List ℕ)
act_words (State c) = command_words c
act_words (ViewAdd s p) = codes "viewadd" ∷ s ∷ decimal p.who ∷ signed_text p.tag ∷ []
act_words (ViewDel s p) = codes "viewdel" ∷ s ∷ decimal p.who ∷ signed_text p.tag ∷ []
act_words (Send s k payload) = codes "send" ∷ s ∷ kind_word k ∷ hex_word payload ∷ []
act_words (Raw s k payload) = codes "raw" ∷ s ∷ kind_word k ∷ hex_word payload ∷ []
act_words (ToAll k payload) = codes "toall" ∷ kind_word k ∷ hex_word payload ∷ []
act_words (Kick s code) = codes "kick" ∷ s ∷ decimal code ∷ []
act_words Lock = codes "lock" ∷ []
act_words Unlock = codes "unlock" ∷ []
act_words (Keep s ms) = codes "keep" ∷ s ∷ decimal ms ∷ []

-- ---- which acts have words

abbrev pub is_ref : ℕ → Bool
is_ref n = nat_lt n (2 ^ 32)

abbrev pub is_field_number : ℕ → Bool
is_field_number n = nat_lt n 256

abbrev pub is_value : Value → Bool
is_value (value.Whole z) = in_signed (2 ^ 127) z
is_value (value.Str t) = is_text t
is_value (value.Truth b) = true
is_value (value.Link n) = is_ref n

abbrev pub is_kind : MsgKind → Bool
is_kind (kind.Name t) = is_text t && is_short_kind (kind.Name t)
is_kind (kind.Num z) = is_kept_kind (kind.Num z)

-- the default tag, or 0 to 255
abbrev pub is_view_tag : ℤ → Bool
is_view_tag (negsuc n) = n == 0
is_view_tag (pos n) = nat_lt n 256

-- 1000, or 4000 to 4999
abbrev pub is_kick_code : ℕ → Bool
is_kick_code n = (n == 1000) || (nat_le 4000 n && nat_le n 4999)

abbrev pub is_home : Home → Bool
is_home home = is_ref home.class && is_field_number home.field

abbrev pub is_pair : Pair → Bool
is_pair p = is_ref p.who && is_view_tag p.tag

abbrev pub is_command : Command → Bool
is_command (Make t) = is_ref t
is_command (MakeFor home) = is_home home
is_command (Put r f v) = is_ref r && (is_field_number f && is_value v)
is_command (Unset r f) = is_ref r && is_field_number f
is_command (PutKey r k v) = is_ref r && (is_text k && is_value v)
is_command (DelKey r k) = is_ref r && is_text k
is_command (Push r v) = is_ref r && is_value v
is_command (SetAt r n v) = is_ref r && (is_ref n && is_value v)
is_command (DelAt r n) = is_ref r && is_ref n
is_command (Add r v) = is_ref r && is_value v
is_command (Del r v) = is_ref r && is_value v
is_command (Clear r) = is_ref r

abbrev pub is_act : Act → Bool
is_act (State c) = is_command c
is_act (ViewAdd s p) = is_id s && is_pair p
is_act (ViewDel s p) = is_id s && is_pair p
is_act (Send s k payload) = is_id s && (is_kind k && are_bytes payload)
is_act (Raw s k payload) = is_id s && (is_kind k && are_bytes payload)
is_act (ToAll k payload) = is_kind k && are_bytes payload
is_act (Kick s code) = is_id s && is_kick_code code
is_act Lock = true
is_act Unlock = true
is_act (Keep s ms) = is_id s && nat_le ms longest_time

-- ---- what words stand for

abbrev pub ref_of : List ℕ → Option ℕ
ref_of w = decimal_below (2 ^ 32) w

abbrev pub field_of_word : List ℕ → Option ℕ
field_of_word w = decimal_below 256 w

abbrev pub code_of : List ℕ → Option ℕ
code_of w = passing is_kick_code (decimal_below 65536 w)

abbrev pub keep_of : List ℕ → Option ℕ
keep_of w = decimal_within 0 longest_time w

abbrev pub home_of : List ℕ → List ℕ → Option Home
home_of t f = both (λ t f. record { class = t; field = f }) (ref_of t) (field_of_word f)

abbrev pub pair_of : List ℕ → List ℕ → Option Pair
pair_of r t = both (λ r t. record { who = r; tag = t }) (ref_of r) (tag_of_word t)

-- with one word, two or three behind the first one

abbrev pub one_of : List ℕ → List ℕ → Option Act
one_of w a =
    if is_word (codes "make") w then option_map (λ t. State (Make t)) (ref_of a)
    else if is_word (codes "clear") w then option_map (λ r. State (Clear r)) (ref_of a)
    else None

abbrev pub two_of : List ℕ → List ℕ → List ℕ → Option Act
two_of w a b =
    if is_word (codes "makefor") w then option_map (λ h. State (MakeFor h)) (home_of a b)
    else if is_word (codes "unset") w then both (λ r f. State (Unset r f)) (ref_of a) (field_of_word b)
    else if is_word (codes "delkey") w then both (λ r k. State (DelKey r k)) (ref_of a) (quoted_of b)
    else if is_word (codes "push") w then both (λ r v. State (Push r v)) (ref_of a) (value_of b)
    else if is_word (codes "delat") w then both (λ r n. State (DelAt r n)) (ref_of a) (ref_of b)
    else if is_word (codes "add") w then both (λ r v. State (Add r v)) (ref_of a) (value_of b)
    else if is_word (codes "del") w then both (λ r v. State (Del r v)) (ref_of a) (value_of b)
    else if is_word (codes "toall") w then both ToAll (kind_of a) (hex_of b)
    else if is_word (codes "kick") w then both Kick (id_of a) (code_of b)
    else if is_word (codes "keep") w then both Keep (id_of a) (keep_of b)
    else None

abbrev pub three_of : List ℕ → List ℕ → List ℕ → List ℕ → Option Act
three_of w a b c =
    if is_word (codes "put") w then three (λ r f v. State (Put r f v)) (ref_of a) (field_of_word b) (value_of c)
    else if is_word (codes "putkey") w then three (λ r k v. State (PutKey r k v)) (ref_of a) (quoted_of b) (value_of c)
    else if is_word (codes "setat") w then three (λ r n v. State (SetAt r n v)) (ref_of a) (ref_of b) (value_of c)
    else if is_word (codes "viewadd") w then both ViewAdd (id_of a) (pair_of b c)
    else if is_word (codes "viewdel") w then both ViewDel (id_of a) (pair_of b c)
    else if is_word (codes "send") w then three Send (id_of a) (kind_of b) (hex_of c)
    else if is_word (codes "raw") w then three Raw (id_of a) (kind_of b) (hex_of c)
    else None

-- the act whose words these are
abbrev pub act_of : List (List ℕ) → Option Act
act_of (w ∷ []) = if is_word (codes "lock") w then Some Lock else some_if (is_word (codes "unlock") w) Unlock
act_of (w ∷ a ∷ []) = one_of w a
act_of (w ∷ a ∷ b ∷ []) = two_of w a b
act_of (w ∷ a ∷ b ∷ c ∷ []) = three_of w a b c
act_of ws = None
