use Rattle.std.proofs.Common.{◌≡◌, refl, sym, ap, ◌∙◌}
use Rattle.std.proofs.lemmas.Result.{IfOk-weaker}
use Rattle.lists.proofs.Results.{on_ok, on_err}
use Rattle.room_model.specs.Room.{with_sessions}
use Rattle.room_core.specs.Messages.{AreTold}
use Rattle.room_core.specs.Values.{room_of}
use Rattle.room_core.proofs.Orders.{told_ordered, told_sessions}
use Rattle.room_core.proofs.Told.{all_told_outs, all_told_sessions, all_unqueued_stand, all_unqueued_tell, if_ok_on}
use Rattle.room_core.proofs.parts.Parts.send_all.Goals as goal

pub returns-clause-outs : goal.returns-clause-outs
returns-clause-outs c =
    let cs = c.args.self.now.clients.items in
    let frame = c.args.frame.now in
    IfOk-weaker c.tell_all.result (AreTold frame cs c.tell_all.new.clients.items) _ (λ outs told. told.sent ∙ all_told_outs frame cs) c.tell_all.ensures.told

pub returns-clause-room : goal.returns-clause-room
returns-clause-room c =
    let p = c.args.self.now in
    let cs = p.clients.items in
    let frame = c.args.frame.now in
    if_ok_on (AreTold frame cs c.tell_all.new.clients.items) _ c.tell_all.result (λ outs told. ap (with_sessions (room_of p)) (told.sessions ∙ all_told_sessions frame cs)) c.tell_all.ensures.told

pub returns-clause-stands : goal.returns-clause-stands
returns-clause-stands c =
    let p = c.args.self.now in
    on_ok c.tell_all.result (all_unqueued_stand p.live p.shared p.clients.items c.tell_all.new.clients.items c.tell_all.ensures.same c.requires.stands.0, c.requires.stands.1, c.requires.stands.2)

pub returns-clause-order : goal.returns-clause-order
returns-clause-order c =
    let p = c.args.self.now in
    on_err c.tell_all.result (told_ordered (room_of p) _ refl (told_sessions p.clients.items _ (all_unqueued_tell p.clients.items c.tell_all.new.clients.items c.tell_all.ensures.same)) c.requires.order)
