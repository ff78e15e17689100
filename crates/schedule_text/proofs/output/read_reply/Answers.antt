use Rattle.std.proofs.Common.{subst, sym}
use Rattle.schedule_text.specs.Reads.{Reads}
use Rattle.schedule_text.proofs.ReplyLaws.{replied_is}
use Rattle.schedule_text.proofs.output.read_reply.Goals as goal

pub returns-in-Some : goal.returns-in-Some
returns-in-Some c = subst (Reads c.reply_of.result) (sym (replied_is c.args.behind.now c.in-Some.conn.now c.in-Some.json.now c.in-Some.ensures)) c.reply_of.ensures
