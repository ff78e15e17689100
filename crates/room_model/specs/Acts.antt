-- Acts that may come: within the limits, and with texts that are UTF-8. Ours.
use Rattle.std.specs.Prelude.{Bool, true, length, nat_le, nat_lt}
use Rattle.state_model.specs.Worded.{is_worded_command}
use Rattle.frame_model.specs.Kinds.{is_kept_kind}
use Rattle.frame_model.specs.declared.frame.MsgKind.{MsgKind}
use Rattle.frame_model.specs.declared.frame.MsgKind.TheVariants as kind
use Rattle.room_model.specs.Limits.{longest_time, kind_bound}
use Rattle.room_model.specs.declared.event.Act.{Act}
use Rattle.room_model.specs.declared.event.Act.TheVariants as act

-- a message may be about this
abbrev pub is_short_kind : MsgKind → Bool
is_short_kind (kind.Name name) = nat_lt (length name) kind_bound
is_short_kind (kind.Num n) = true

-- an act may happen: messages are about short kinds, and the time for which a seat is kept is within the limits
abbrev pub may_act : Act → Bool
may_act (act.Send session kind payload) = is_short_kind kind
may_act (act.Raw session kind payload) = is_short_kind kind
may_act (act.ToAll kind payload) = is_short_kind kind
may_act (act.Keep session ms) = nat_le ms longest_time
may_act a = true

-- the texts that an act's command puts are UTF-8
abbrev pub is_worded_act : Act → Bool
is_worded_act (act.State command) = is_worded_command command
is_worded_act a = true

-- what an act's message is about is such as a program has: a name in UTF-8, or a number of 32 bits
abbrev pub has_kept_kind : Act → Bool
has_kept_kind (act.Send session kind payload) = is_kept_kind kind
has_kept_kind (act.Raw session kind payload) = is_kept_kind kind
has_kept_kind (act.ToAll kind payload) = is_kept_kind kind
has_kept_kind a = true
