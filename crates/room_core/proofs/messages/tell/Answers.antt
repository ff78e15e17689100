use Rattle.std.proofs.Common.{refl}
use Rattle.room_core.proofs.Told.{live_told, queue_told}
use Rattle.room_core.proofs.messages.tell.Goals as goal

pub returns-in-Live-clause-told : goal.returns-in-Live-clause-told
returns-in-Live-clause-told c = live_told c.args.frame c.args.client.now c.args.outs.now c.push.new.self c.push.result c.in-Live.is c.push.ensures

pub returns-in_default : goal.returns-in_default
returns-in_default c = record {
  told = queue_told c.args.frame c.args.client.now c.push-in_default.new.self c.args.outs.now c.push-in_default.result c.requires c.in_default.not-Live c.push-in_default.ensures;
  same = refl;
}
