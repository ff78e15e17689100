use Rattle.std.proofs.Common.{[], sym, ap, ◌∙◌}
use Rattle.std.proofs.lemmas.Str.{IsUtf8-nil, is_utf8-from_IsUtf8}
use Rattle.std.specs.Str.{is_utf8}
use Rattle.validate.proofs.escaped.is_escaped_text.Goals as goal

pub returns : goal.returns
returns c = sym (c.loop-first.invariant ∙ (ap is_utf8 c.in_default.ensures.steps.0 ∙ is_utf8-from_IsUtf8 [] IsUtf8-nil))
