-- What one statement does: what a variable is set to, an act, a publication, or a change of the presence. Ours.
use Rattle.std.specs.Prelude.{ℕ, ◌^◌, ◌&&◌, Bool, List, ℤ, pos, negsuc, Option, Some, None, option_and_then, if◌then◌else◌, nat_lt, Result, Ok, Err}
use Rattle.std.specs.Option.{option_map}
use Rattle.schema_model.specs.Fits.{in_signed}
use Rattle.schema_model.specs.Ids.{is_id}
use Rattle.schema_model.specs.declared.place.Pair.{Pair}
use Rattle.schema_model.specs.declared.value.Value.{Value}
use Rattle.schema_model.specs.declared.value.Value.TheVariants as value
use Rattle.state_model.specs.declared.command.Command.{Command}
use Rattle.state_model.specs.declared.command.Command.TheVariants as command
use Rattle.state_model.specs.Places.{row_class}
use Rattle.state_model.specs.Rows.{row_at}
use Rattle.frame_model.specs.PackData.{PackData, nil, truth, whole, text}
use Rattle.frame_model.specs.Packs.{has_bytes, is_whole, pack_bytes}
use Rattle.room_model.specs.declared.event.Act.{Act}
use Rattle.room_model.specs.declared.event.Act.TheVariants as act
use Rattle.text_model.specs.Lines.{both, passing, three}
use Rattle.script_model.specs.declared.action.Action.{Action}
use Rattle.script_model.specs.declared.action.Action.TheVariants.{Put, Unset, PutKey, DelKey, Push, SetAt, DelAt, Add, Del, Clear, ViewAdd, ViewDel, Send, ToAll, Kick, Keep, Lock, Unlock, Store, Forget, Include, Exclude, Subscribe, Publish}
use Rattle.script_model.specs.declared.expression.Expression.{Expression}
use Rattle.script_model.specs.declared.expression.Expression.TheVariants as expression
use Rattle.script_model.specs.declared.fault.PresenceFault.{PresenceFault}
use Rattle.script_model.specs.declared.operand.Operand.{Operand}
use Rattle.script_model.specs.Datum.{Datum, row, plain, nothing, or_nothing, payload_of, row_of, text_of, value_of, whole_of}
use Rattle.script_model.specs.Presence.{PresenceData, del, get, incr, raised, sadd, scard, set, srem, subscribed}
use Rattle.script_model.specs.Scenes.{Scene, World, computed, field_named, got, number_or_nothing, operand_of, size_of}

-- ---- what a variable is set to

-- a value with the presence behind it, or what is made by a command and told when the handler goes on
pub data Outcome : Type 0 where
  gives : Datum → PresenceData → Outcome
  makes : Command → Outcome

-- the text that is stored
abbrev pub stored_text : Result (Option (List ℕ)) PresenceFault → Datum
stored_text (Ok (Some t)) = plain (text t)
stored_text (Ok None) = nothing
stored_text (Err e) = nothing

abbrev pub stored_number : Result ℤ PresenceFault → Datum
stored_number (Ok z) = plain (whole z)
stored_number (Err e) = nothing

abbrev pub stored_count : Result ℕ PresenceFault → Datum
stored_count (Ok n) = plain (whole (pos n))
stored_count (Err e) = nothing

-- a number of 64 bits with a sign
abbrev pub step_by : Datum → Option ℤ
step_by d = passing (in_signed (2 ^ 63)) (whole_of d)

-- what is stored under a key that is a text
abbrev pub got_stored : Option (List ℕ) → PresenceData → Datum
got_stored None p = nothing
got_stored (Some key) p = stored_text (get key p)

abbrev pub got_count : Option (List ℕ) → PresenceData → Datum
got_count None p = nothing
got_count (Some key) p = stored_count (scard key p)

abbrev pub got_raised : Option (List ℕ) → Option ℤ → PresenceData → Outcome
got_raised (Some key) (Some by) p = gives (stored_number (incr key by p)) (raised key by p)
got_raised key by p = gives nothing p

abbrev pub evaluated : Expression → Scene → Outcome
evaluated (expression.Operand a) s = gives (operand_of a s) s.world.presence
evaluated (expression.Make class) s = makes (command.Make class)
evaluated (expression.MakeFor home) s = makes (command.MakeFor home)
evaluated (expression.Get a b) s = gives (got (operand_of a s) (operand_of b s) s.world) s.world.presence
evaluated (expression.Size a) s = gives (number_or_nothing (size_of (operand_of a s) s.world)) s.world.presence
evaluated (expression.Compute o a b) s = gives (computed o (operand_of a s) (operand_of b s)) s.world.presence
evaluated (expression.Stored a) s = gives (got_stored (text_of (operand_of a s)) s.world.presence) s.world.presence
evaluated (expression.Raised a b) s = got_raised (text_of (operand_of a s)) (step_by (operand_of b s)) s.world.presence
evaluated (expression.Members a) s = gives (got_count (text_of (operand_of a s)) s.world.presence) s.world.presence

-- ---- what an action works on

-- the index of a field of a row's class
abbrev pub field_in : World → ℕ → List ℕ → Option ℕ
field_in w n name = option_and_then (λ class. field_named w.schema class name) (option_and_then row_class (row_at w.rows n))

abbrev pub field_at : World → Option ℕ → List ℕ → Option ℕ
field_at w None name = None
field_at w (Some n) name = field_in w n name

-- a position of 32 bits
abbrev pub at_of_whole : ℤ → Option ℕ
at_of_whole (pos n) = if nat_lt n (2 ^ 32) then Some n else None
at_of_whole (negsuc n) = None

abbrev pub at_of : Datum → Option ℕ
at_of d = option_and_then at_of_whole (whole_of d)

-- a session's id
abbrev pub session_of : Datum → Option (List ℕ)
session_of d = passing is_id (text_of d)

-- the bytes of what may be sent
abbrev pub bytes_of : Datum → Option (List ℕ)
bytes_of d = option_map pack_bytes (passing has_bytes (payload_of d))

-- what may be published
abbrev pub topic_value : Datum → Option Value
topic_value (plain (text t)) = Some (value.Str t)
topic_value (plain (truth b)) = Some (value.Truth b)
topic_value (plain (whole z)) = if is_whole z then Some (value.Whole z) else None
topic_value d = None

-- ---- what an action does

-- nothing, an act, a publication, or a change of the presence
pub data Effect : Type 0 where
  idle : Effect
  acts : Act → Effect
  publishes : List ℕ → Value → Effect
  stores : PresenceData → Effect

-- an act, where it can be made
abbrev pub act_if : Option Act → Effect
act_if None = idle
act_if (Some a) = acts a

abbrev pub command_if : Option Command → Effect
command_if c = act_if (option_map act.State c)

abbrev pub publish_if : List ℕ → Option Value → Effect
publish_if channel None = idle
publish_if channel (Some v) = publishes channel v

abbrev pub store_if : Option PresenceData → Effect
store_if None = idle
store_if (Some p) = stores p

-- a row and a tag
abbrev pub pair_with : ℤ → ℕ → Pair
pair_with tag n = record { who = n; tag = tag }

-- an action, on the values of its operands
abbrev pub effect : Action → Scene → Effect
effect (Put a f b) s = command_if (three command.Put (row_of (operand_of a s)) (field_at s.world (row_of (operand_of a s)) f) (value_of (operand_of b s)))
effect (Unset a f) s = command_if (both command.Unset (row_of (operand_of a s)) (field_at s.world (row_of (operand_of a s)) f))
effect (PutKey a b c) s = command_if (three command.PutKey (row_of (operand_of a s)) (text_of (operand_of b s)) (value_of (operand_of c s)))
effect (DelKey a b) s = command_if (both command.DelKey (row_of (operand_of a s)) (text_of (operand_of b s)))
effect (Push a b) s = command_if (both command.Push (row_of (operand_of a s)) (value_of (operand_of b s)))
effect (SetAt a b c) s = command_if (three command.SetAt (row_of (operand_of a s)) (at_of (operand_of b s)) (value_of (operand_of c s)))
effect (DelAt a b) s = command_if (both command.DelAt (row_of (operand_of a s)) (at_of (operand_of b s)))
effect (Add a b) s = command_if (both command.Add (row_of (operand_of a s)) (value_of (operand_of b s)))
effect (Del a b) s = command_if (both command.Del (row_of (operand_of a s)) (value_of (operand_of b s)))
effect (Clear a) s = command_if (option_map command.Clear (row_of (operand_of a s)))
effect (ViewAdd a b tag) s = act_if (both act.ViewAdd (session_of (operand_of a s)) (option_map (pair_with tag) (row_of (operand_of b s))))
effect (ViewDel a b tag) s = act_if (both act.ViewDel (session_of (operand_of a s)) (option_map (pair_with tag) (row_of (operand_of b s))))
effect (Send a k b) s = act_if (both (λ id bytes. act.Send id k bytes) (session_of (operand_of a s)) (bytes_of (operand_of b s)))
effect (ToAll k a) s = act_if (option_map (act.ToAll k) (bytes_of (operand_of a s)))
effect (Kick a code) s = act_if (option_map (λ id. act.Kick id code) (session_of (operand_of a s)))
effect (Keep a ms) s = act_if (option_map (λ id. act.Keep id ms) (session_of (operand_of a s)))
effect Lock s = acts act.Lock
effect Unlock s = acts act.Unlock
effect (Store a b) s = store_if (both (λ key t. set key t s.world.presence) (text_of (operand_of a s)) (text_of (operand_of b s)))
effect (Forget a) s = store_if (option_map (λ key. del key s.world.presence) (text_of (operand_of a s)))
effect (Include a b) s = store_if (both (λ key t. sadd key t s.world.presence) (text_of (operand_of a s)) (text_of (operand_of b s)))
effect (Exclude a b) s = store_if (both (λ key t. srem key t s.world.presence) (text_of (operand_of a s)) (text_of (operand_of b s)))
effect (Subscribe channel) s = stores (subscribed channel s.facts.room s.world.presence)
effect (Publish channel a) s = publish_if channel (topic_value (operand_of a s))
