use Rattle.std.proofs.Common.{◌∙◌, ap}
use Rattle.json.specs.Print.{quoted}
use Rattle.matchmaker.proofs.Replies.{quoted_is, written_text}
use Rattle.matchmaker.proofs.reply.quoted.Goals as goal

pub returns : goal.returns
returns c = written_text c.in_ok-from_str.field-0 _ c.in_ok-to_string.ensures.text ∙ (ap quoted c.in_ok-from_str.ensures.ok ∙ quoted_is c.args.text.now)
