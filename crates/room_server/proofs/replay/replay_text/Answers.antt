use Rattle.std.proofs.Common.{inl, refl, subst, sym}
use Rattle.room_server.specs.Answers.{schedule_answer}
use Rattle.room_server.specs.Endings.{EndsAs}
use Rattle.room_server.specs.Turns.{printed}
use Rattle.room_server.specs.declared.ending.Ending.TheVariants.{Done}
use Rattle.room_server.proofs.EndingLaws.{written_ends}
use Rattle.room_server.proofs.ReplayedLaws.{schedule_replays}
use Rattle.room_server.proofs.replay.replay_text.Goals as goal

pub replay-requires : goal.replay-requires
replay-requires g c = schedule_replays c.in-Ok.schedule c.in-Ok.ensures.found.0

pub returns-in-Ok-clause-ends : goal.returns-in-Ok-clause-ends
returns-in-Ok-clause-ends g c =
    subst (λ r. EndsAs (schedule_answer r) (g.K.Sink.taken c.args.sink.now) (g.K.Sink.taken c.replay.new.sink) c.ended.result) (sym c.in-Ok.ensures.exact)
    (written_ends Done (printed c.in-Ok.schedule) c.replay.result _ _ c.ended.result (inl refl) c.replay.ensures.writes c.ended.ensures)
