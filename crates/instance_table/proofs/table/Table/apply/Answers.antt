use Rattle.std.proofs.Common.{◌≡◌, ◌∙◌, None, Some, ap, sym, subst, arith}
use Rattle.state_model.specs.declared.command.TableFault.{TableFault}
use Rattle.state_model.specs.declared.command.TableFault.TheVariants as fault
use Rattle.state_model.specs.Commands.{answer_of, do_command, number_made, refusal_of, state_after}
use Rattle.state_model.specs.State.{State}
use Rattle.command_laws.specs.Later.{IsLater}
use Rattle.command_laws.proofs.LaterLaws.{later_command, later_same}
use Rattle.instance_table.specs.declared.plan.Verdict.{Verdict}
use Rattle.instance_table.specs.Found.{IsJudged}
use Rattle.instance_table.specs.Nodes.{node_at}
use Rattle.instance_table.specs.Table.{TableState, state_in}
use Rattle.instance_table.proofs.ChangeLaws.{of_some}
use Rattle.instance_table.proofs.JudgeLaws.{done_as_planned}
use Rattle.instance_table.proofs.TableSteps.{can_edit, never_memory, refused_answers, undone_table}
use Rattle.instance_table.proofs.table.Table.apply.Goals as goal

pub change-requires-clause-can : goal.change-requires-clause-can
change-requires-clause-can c =
    let i = c.self.inside in
    let es = i.graph.nodes in
    let command = c.args.command.now in
    let judged = subst (λ (v : Verdict). IsJudged i.schema es i.given i.totals.places i.totals.text command v) c.in-Changes.is c.judge-verdict.ensures.value in
    of_some (node_at es c.in-Changes.holder) (λ n at. can_edit i.schema es i.given i.totals.places i.totals.text c.in-Changes.holder command n c.self.invariant.0 judged.0 judged.1 at)

pub invariant_of-self-in-Ok-change : goal.invariant_of-self-in-Ok-change
invariant_of-self-in-Ok-change c =
    let i = c.self.inside in
    let es = i.graph.nodes in
    let command = c.args.command.now in
    let judged = subst (λ (v : Verdict). IsJudged i.schema es i.given i.totals.places i.totals.text command v) c.in-Changes.is c.judge-verdict.ensures.value in
    let done = done_as_planned i.schema es c.change.new.graph.nodes i.given i.totals.places i.totals.text c.in-Changes.holder command c.in-Changes.plan c.self.invariant.0 c.know_texts.ensures judged c.in-Ok-change.ensures.ok in
    (done.table, omega (arith, c.self.invariant.1, done.long), omega (arith, c.self.invariant.2, done.long, c.judge-verdict.ensures.kept))

pub invariant_of-self-in-Err-change : goal.invariant_of-self-in-Err-change
invariant_of-self-in-Err-change c =
    let i = c.self.inside in
    let back = undone_table i.schema c.args.command.now c.in-Changes.holder i.graph.nodes c.change.new.graph.nodes i.given i.totals.places i.totals.text c.self.invariant.0 c.in-Err-change.ensures.err in
    (back.table, omega (arith, back.long, c.self.invariant.1), omega (arith, back.long, c.self.invariant.2, c.judge-verdict.ensures.kept))

pub returns-in-Refused-clause-answer : goal.returns-in-Refused-clause-answer
returns-in-Refused-clause-answer c =
    let i = c.self.inside in
    let t = c.args.self.now in
    let command = c.args.command.now in
    let judged = subst (λ (v : Verdict). IsJudged i.schema i.graph.nodes i.given i.totals.places i.totals.text command v) c.in-Refused.is c.judge-verdict.ensures.value in
    let told : refusal_of t.schema t.state command ≡ Some c.in-Refused.fault = ap (λ (t : TableState). refusal_of t.schema t.state command) (sym c.self.view_is) ∙ judged in
    let same : TableState = record { schema = i.schema; state = state_in i.graph.nodes i.given; swept = i.swept.numbers } in
    refused_answers (do_command t.schema t.state command) t same c.in-Refused.fault (ap (λ o. answer_of o (state_after t.schema t.state command) (number_made t.state command)) told) c.self.view_is

pub returns-in-Refused-clause-lacks : goal.returns-in-Refused-clause-lacks
returns-in-Refused-clause-lacks c = λ h.
    let i = c.self.inside in
    let command = c.args.command.now in
    let judged = subst (λ (v : Verdict). IsJudged i.schema i.graph.nodes i.given i.totals.places i.totals.text command v) c.in-Refused.is c.judge-verdict.ensures.value in
    let same : c.in-Refused.fault ≡ fault.Memory = cc in
    absurd (never_memory i.schema (state_in i.graph.nodes i.given) command (judged ∙ ap (λ (f : TableFault). Some f) same))

pub returns-in-Ok-clause-later : goal.returns-in-Ok-clause-later
returns-in-Ok-clause-later c =
    let i = c.self.inside in
    let later = later_command i.schema (state_in i.graph.nodes i.given) c.args.command.now c.make.new.self.state c.in-Ok.made c.self.invariant.0.kept c.in-Ok.ensures.ok in
    subst (λ (t : TableState). IsLater t.state c.make.new.self.state) c.self.view_is later

pub returns-in-Ok-change-clause-answer : goal.returns-in-Ok-change-clause-answer
returns-in-Ok-change-clause-answer c =
    let i = c.self.inside in
    let es = i.graph.nodes in
    let command = c.args.command.now in
    let judged = subst (λ (v : Verdict). IsJudged i.schema es i.given i.totals.places i.totals.text command v) c.in-Changes.is c.judge-verdict.ensures.value in
    let done = done_as_planned i.schema es c.change.new.graph.nodes i.given i.totals.places i.totals.text c.in-Changes.holder command c.in-Changes.plan c.self.invariant.0 c.know_texts.ensures judged c.in-Ok-change.ensures.ok in
    let after = state_in c.change.new.graph.nodes i.given in (
      ap (λ (t : TableState). do_command t.schema t.state command) (sym c.self.view_is) ∙ done.answer,
      ap (λ (t : TableState). let u : TableState = record { schema = t.schema; state = after; swept = t.swept } in u) c.self.view_is,
    )

pub returns-in-Ok-change-clause-later : goal.returns-in-Ok-change-clause-later
returns-in-Ok-change-clause-later c =
    let i = c.self.inside in
    let es = i.graph.nodes in
    let command = c.args.command.now in
    let judged = subst (λ (v : Verdict). IsJudged i.schema es i.given i.totals.places i.totals.text command v) c.in-Changes.is c.judge-verdict.ensures.value in
    let done = done_as_planned i.schema es c.change.new.graph.nodes i.given i.totals.places i.totals.text c.in-Changes.holder command c.in-Changes.plan c.self.invariant.0 c.know_texts.ensures judged c.in-Ok-change.ensures.ok in
    let later = later_command i.schema (state_in es i.given) command (state_in c.change.new.graph.nodes i.given) None c.self.invariant.0.kept done.answer in
    subst (λ (t : TableState). IsLater t.state (state_in c.change.new.graph.nodes i.given)) c.self.view_is later

pub returns-in-Err-change-clause-answer : goal.returns-in-Err-change-clause-answer
returns-in-Err-change-clause-answer c =
    let i = c.self.inside in
    let back = undone_table i.schema c.args.command.now c.in-Changes.holder i.graph.nodes c.change.new.graph.nodes i.given i.totals.places i.totals.text c.self.invariant.0 c.in-Err-change.ensures.err in
    ap (λ (s : State). let t : TableState = record { schema = i.schema; state = s; swept = i.swept.numbers } in t) back.same ∙ c.self.view_is

pub returns-in-Err-change-clause-later : goal.returns-in-Err-change-clause-later
returns-in-Err-change-clause-later c =
    let i = c.self.inside in
    let back = undone_table i.schema c.args.command.now c.in-Changes.holder i.graph.nodes c.change.new.graph.nodes i.given i.totals.places i.totals.text c.self.invariant.0 c.in-Err-change.ensures.err in
    let now = subst (λ (s : State). IsLater (state_in i.graph.nodes i.given) s) (sym back.same) (later_same (state_in i.graph.nodes i.given)) in
    subst (λ (t : TableState). IsLater t.state (state_in c.change.new.graph.nodes i.given)) c.self.view_is now
