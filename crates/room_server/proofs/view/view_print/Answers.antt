use Rattle.std.proofs.Common.{◌++◌, inl, refl, subst, sym}
use Rattle.text_model.specs.RowLines.{rows_text}
use Rattle.room_server.specs.Answers.{client_answer}
use Rattle.room_server.specs.Endings.{EndsAs, Writes}
use Rattle.room_server.specs.Turns.{end_line}
use Rattle.room_server.specs.declared.ending.Ending.TheVariants.{Done}
use Rattle.room_server.proofs.EndingLaws.{written_ends}
use Rattle.room_server.proofs.view.view_print.Goals as goal

pub returns-in-Ok-clause-ends : goal.returns-in-Ok-clause-ends
returns-in-Ok-clause-ends g c =
    let seen = c.in-Ok.ensures in
    let writes = subst (λ rows. Writes (g.K.Sink.taken c.args.sink.now) (g.K.Sink.taken c.write_rows.new.sink) (rows_text rows ++ end_line) c.write_rows.result) seen.2 c.write_rows.ensures.writes in
    subst (λ there. EndsAs (client_answer there) (g.K.Sink.taken c.args.sink.now) (g.K.Sink.taken c.write_rows.new.sink) c.ended.result) (sym seen.1)
    (written_ends Done (rows_text seen.0.rows ++ end_line) c.write_rows.result (g.K.Sink.taken c.args.sink.now) (g.K.Sink.taken c.write_rows.new.sink) c.ended.result (inl refl) writes c.ended.ensures)
