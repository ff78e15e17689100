-- Message kinds as a program has them. Ours.
use Rattle.std.specs.Prelude.{Bool, ◌^◌}
use Rattle.std.specs.Str.{is_utf8}
use Rattle.schema_model.specs.Fits.{in_signed}
use Rattle.frame_model.specs.declared.frame.MsgKind.{MsgKind}
use Rattle.frame_model.specs.declared.frame.MsgKind.TheVariants as kind

-- a name is UTF-8, and a number one of 32 bits, as of every kind that a program has
abbrev pub is_kept_kind : MsgKind → Bool
is_kept_kind (kind.Name t) = is_utf8 t
is_kept_kind (kind.Num z) = in_signed (2 ^ 31) z
