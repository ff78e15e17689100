use Rattle.std.proofs.Common.{is_ok, ap, sym, ◌∙◌}
use Rattle.state_model.specs.Commands.{do_command}
use Rattle.live_state.specs.Live.{Live, schema_of}
use Rattle.live_state.proofs.SchemaStays.{schema_stays}
use Rattle.live_state.proofs.live.LiveState.apply.Goals as goal

pub returns-clause-schema : goal.returns-clause-schema
returns-clause-schema c =
    let t = c.self.inside.table in
    schema_stays (do_command t.schema t.state c.args.command.now) t c.apply.new.self c.apply.result c.apply.ensures.answer ∙ ap (λ (l : Live). schema_of l) c.self.view_is

pub returns-clause-lacks : goal.returns-clause-lacks
returns-clause-lacks c = λ h. ap (λ (l : Live). is_ok (do_command l.table.schema l.table.state c.args.command.now)) (sym c.self.view_is) ∙ c.apply.ensures.lacks h
