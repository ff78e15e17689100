use Rattle.std.proofs.Common.{◌∙◌}
use Rattle.std.proofs.lemmas.Str.{is_utf8-from_IsUtf8}
use Rattle.lists.proofs.Utf8Laws.{is_utf8-no}
use Rattle.lists.proofs.text.Text.from_bytes.Goals as goal

pub returns-in_default : goal.returns-in_default
returns-in_default c = is_utf8-no _ c.in_default.ensures.cases.0

pub returns-in-Ok-from_str : goal.returns-in-Ok-from_str
returns-in-Ok-from_str c = (is_utf8-from_IsUtf8 _ c.in-Ok.ensures.cases.1, c.in-Ok-from_str.ensures.ok ∙ c.in-Ok.ensures.cases.0)

pub returns-in-Err : goal.returns-in-Err
returns-in-Err c = is_utf8-from_IsUtf8 _ c.in-Ok.ensures.cases.1
