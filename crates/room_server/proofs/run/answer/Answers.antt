use Rattle.std.proofs.Common.{◌∙◌, Some, ap, subst, sym}
use Rattle.room_server.specs.Endings.{IsEnded}
use Rattle.room_server.proofs.run.answer.Goals as goal

pub returns-in-Some-Make-clause-ends : goal.returns-in-Some-Make-clause-ends
returns-in-Some-Make-clause-ends g c =
    subst (λ t. IsEnded t (g.S.Source.left c.args.source.now) (g.S.Source.left c.args.source.now) (g.K.Sink.taken c.args.sink.now) (g.K.Sink.taken c.make.new.sink) c.make.result)
    (ap Some (sym c.in-Some-Make.field-0-is) ∙ c.in-Some-Make.ensures.task) c.make.ensures.ends
