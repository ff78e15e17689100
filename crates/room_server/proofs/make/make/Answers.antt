use Rattle.std.proofs.Common.{◌∙◌, inl, refl, subst}
use Rattle.outside.proofs.TakeLaws.{no_prefix}
use Rattle.load_maker.specs.Generated.{generated}
use Rattle.room_server.specs.Endings.{Writes}
use Rattle.room_server.specs.Summaries.{summary_text}
use Rattle.room_server.specs.declared.ending.Ending.TheVariants.{Done}
use Rattle.room_server.proofs.EndingLaws.{written_ends}
use Rattle.room_server.proofs.WriteLaws.{cause_of, quiet_of}
use Rattle.room_server.proofs.make.make.Goals as goal

pub returns-in-Ok-clause-ends : goal.returns-in-Ok-clause-ends
returns-in-Ok-clause-ends g c =
    let output = summary_text (generated c.args.seed c.args.rounds) in
    written_ends Done output c.write_text.result (g.K.Sink.taken c.args.sink.now) (g.K.Sink.taken c.write_text.new.sink) c.ended.result (inl refl)
    (subst (λ t. Writes (g.K.Sink.taken c.args.sink.now) (g.K.Sink.taken c.write_text.new.sink) t c.write_text.result) (c.deref.ensures.value ∙ c.in-Ok.ensures) c.write_text.ensures.writes) c.ended.ensures

pub returns-in-Ok-clause-cause : goal.returns-in-Ok-clause-cause
returns-in-Ok-clause-cause g c = cause_of _ _ c.write_text.result Done c.ended.result c.write_text.ensures.cause c.ended.ensures (λ same. cc)

pub returns-in-Ok-clause-quiet : goal.returns-in-Ok-clause-quiet
returns-in-Ok-clause-quiet g c = quiet_of _ _ c.write_text.result Done c.ended.result c.write_text.ensures.cause c.ended.ensures

pub returns-in-Err-clause-ends : goal.returns-in-Err-clause-ends
returns-in-Err-clause-ends g c = no_prefix (g.K.Sink.taken c.args.sink.now) (summary_text (generated c.args.seed c.args.rounds))
