-- Message kinds as they lie in bytes.
use Rattle.std.specs.Prelude.{◌≡◌, true}
use Rattle.frame_model.specs.Kinds.{is_kept_kind}
use Rattle.frame_model.specs.declared.frame.MsgKind.{MsgKind}
use Rattle.frame_model.specs.declared.frame.MsgKind.TheVariants as msg
use Rattle.client_frames.specs.declared.kind.Kind.{Kind}
use Rattle.client_frames.specs.declared.kind.Kind.TheVariants.{Name, Num}

-- the message kind with its own copy of the name
abbrev pub kind_of : Kind → MsgKind
kind_of (Name t) = msg.Name t.now
kind_of (Num z) = msg.Num z

-- what every kind that a program has keeps
abbrev pub IsKept : MsgKind → Type 0
IsKept k = is_kept_kind k ≡ true
