use Rattle.std.proofs.Common.{◌≡◌, ℕ, List, None, option_and_then, option_copied, sym, ap, subst, ◌∙◌}
use Rattle.std.specs.Option.{option_map}
use Rattle.state_model.specs.Commands.{refusal_of, row_for, first_cause, is_no_field}
use Rattle.state_model.specs.Rows.{row_at}
use Rattle.instance_table.specs.declared.node.Node.{Node}
use Rattle.instance_table.specs.declared.body.Body.{Body}
use Rattle.instance_table.specs.declared.plan.Verdict.{Verdict}
use Rattle.instance_table.specs.Amounts.{make_causes}
use Rattle.instance_table.specs.Bodies.{row_of}
use Rattle.instance_table.specs.Found.{IsJudged, IsPlanned}
use Rattle.instance_table.specs.Nodes.{node_at, rows_in}
use Rattle.instance_table.specs.Table.{IsTable, state_in}
use Rattle.instance_table.proofs.JudgeLaws.{body_few, body_named, make_judged, none_named, with_body}
use Rattle.instance_table.proofs.RefusalLaws.{reaches, value_refused, link_refused, limit_refused, make_refused}
use Rattle.instance_table.proofs.refusal.judge.Goals as goal
use Rattle.instance_table.proofs.refusal.judge.Goals.{in_default-via-in-Some+in_default, in_default-via-in_default}

pub returns-in_default-clause-value : goal.returns-in_default-clause-value
returns-in_default-clause-value c =
    let es = c.nodes-nodes.result.now in
    let command = c.args.command.now in
    let told = c.body_for-body.ensures.row in
    let none : row_for (rows_in es) command ≡ None = elim c.in_default.branch [
      | in_default-via-in-Some+in_default w ↦ sym told ∙ ap (λ o. option_map row_of (option_copied o)) w.in_default.is-1
      | in_default-via-in_default w ↦ ap (option_and_then (row_at (rows_in es))) (sym c.holder_of.ensures ∙ w.in_default.is-0)
    ] in
    let field = sym (c.if-is_no_field.ensures ∙ ap (is_no_field c.args.schema.now command) told) in
    let table = subst (λ (l : List (ℕ × Node)). IsTable c.args.schema.now l c.args.given c.args.totals.places c.args.totals.text) (sym c.nodes-nodes.ensures) c.requires.table in
    let first = ap (λ n. first_cause (make_causes n c.args.given)) c.len.ensures.value
    ∙ (make_refused c.args.schema.now es c.args.given c.args.totals.places c.args.totals.text command table field none
    ∙ ap (λ (l : List (ℕ × Node)). refusal_of c.args.schema.now (state_in l c.args.given) command) c.nodes-nodes.ensures) in
    let named = none_named c.args.schema.now command (ap (is_no_field c.args.schema.now command) (sym none) ∙ field) in
    subst (λ (v : Verdict). IsJudged c.args.schema.now c.args.graph.now.nodes c.args.given c.args.totals.places c.args.totals.text command v) (sym c.judge_make.ensures)
    (make_judged c.args.schema.now c.args.graph.now.nodes c.args.given c.args.totals.places c.args.totals.text command (first_cause (make_causes c.len.result c.args.given)) first named)

pub returns-in-Some-clause-value : goal.returns-in-Some-clause-value
returns-in-Some-clause-value c =
    let es = c.nodes-nodes.result.now in
    let command = c.args.command.now in
    let r = row_of c.in-Some-Some.body.now in
    let own = reaches c.args.schema.now es c.args.given command (option_map row_of (option_copied c.body_for-body.result)) r c.if-is_no_ref.ensures c.if-is_no_field.ensures c.body_for-body.ensures.row
    (ap (λ o. option_map row_of (option_copied o)) c.in-Some-Some.is-1) in
    sym (value_refused c.args.schema.now (state_in es c.args.given) command r c.in-Some.fault own c.in-Some.ensures
    ∙ ap (λ (l : List (ℕ × Node)). refusal_of c.args.schema.now (state_in l c.args.given) command) c.nodes-nodes.ensures)

pub returns-in-Some-link_cause-clause-value : goal.returns-in-Some-link_cause-clause-value
returns-in-Some-link_cause-clause-value c =
    let es = c.nodes-nodes.result.now in
    let command = c.args.command.now in
    let r = row_of c.in-Some-Some.body.now in
    let own = reaches c.args.schema.now es c.args.given command (option_map row_of (option_copied c.body_for-body.result)) r c.if-is_no_ref.ensures c.if-is_no_field.ensures c.body_for-body.ensures.row
    (ap (λ o. option_map row_of (option_copied o)) c.in-Some-Some.is-1) in
    sym (link_refused c.args.schema.now (state_in es c.args.given) command r c.in-Some-link_cause.fault own c.in_default-value_cause.ensures (sym c.in-Some-link_cause.is ∙ c.link_cause.ensures.value)
    ∙ ap (λ (l : List (ℕ × Node)). refusal_of c.args.schema.now (state_in l c.args.given) command) c.nodes-nodes.ensures)

pub returns-in-Some-limit_cause-clause-value : goal.returns-in-Some-limit_cause-clause-value
returns-in-Some-limit_cause-clause-value c =
    let es = c.nodes-nodes.result.now in
    let command = c.args.command.now in
    let r = row_of c.in-Some-Some.body.now in
    let own = reaches c.args.schema.now es c.args.given command (option_map row_of (option_copied c.body_for-body.result)) r c.if-is_no_ref.ensures c.if-is_no_field.ensures c.body_for-body.ensures.row
    (ap (λ o. option_map row_of (option_copied o)) c.in-Some-Some.is-1) in
    let table = subst (λ (l : List (ℕ × Node)). IsTable c.args.schema.now l c.args.given c.args.totals.places c.args.totals.text) (sym c.nodes-nodes.ensures) c.requires.table in
    let found = sym (ap option_copied c.in-Some-Some.is-1) ∙ c.body_for-body.ensures.body in
    let last = c.limit_cause.ensures
    ∙ (limit_refused c.args.schema.now es c.args.given c.args.totals.places c.args.totals.text c.in-Some-Some.holder command c.in-Some-Some.body.now table own c.in-Some-Some.ensures found c.in_default-value_cause.ensures
    (sym c.in_default-link_cause.is ∙ c.link_cause.ensures.value)
    ∙ ap (λ (l : List (ℕ × Node)). refusal_of c.args.schema.now (state_in l c.args.given) command) c.nodes-nodes.ensures) in
    sym last ∙ c.in-Some-limit_cause.is

pub plan-requires-clause-text : goal.plan-requires-clause-text
plan-requires-clause-text c =
    let es = c.args.graph.now.nodes in
    let body = body_named es c.nodes-nodes.result.now c.holder_of.result c.in-Some-Some.holder (option_copied c.body_for-body.result)
    c.in-Some-Some.body.now c.nodes-nodes.ensures c.holder_of.ensures c.in-Some-Some.is-0 c.body_for-body.ensures.body (ap option_copied c.in-Some-Some.is-1) in
    body_few c.args.schema.now es c.args.given c.args.totals.places c.args.totals.text c.in-Some-Some.holder c.in-Some-Some.body.now c.requires.table body

pub returns-clause-value : goal.returns-clause-value
returns-clause-value c =
    let es = c.nodes-nodes.result.now in
    let command = c.args.command.now in
    let r = row_of c.in-Some-Some.body.now in
    let own = reaches c.args.schema.now es c.args.given command (option_map row_of (option_copied c.body_for-body.result)) r c.if-is_no_ref.ensures c.if-is_no_field.ensures c.body_for-body.ensures.row
    (ap (λ o. option_map row_of (option_copied o)) c.in-Some-Some.is-1) in
    let table = subst (λ (l : List (ℕ × Node)). IsTable c.args.schema.now l c.args.given c.args.totals.places c.args.totals.text) (sym c.nodes-nodes.ensures) c.requires.table in
    let found = sym (ap option_copied c.in-Some-Some.is-1) ∙ c.body_for-body.ensures.body in
    let last = c.limit_cause.ensures
    ∙ (limit_refused c.args.schema.now es c.args.given c.args.totals.places c.args.totals.text c.in-Some-Some.holder command c.in-Some-Some.body.now table own c.in-Some-Some.ensures found c.in_default-value_cause.ensures
    (sym c.in_default-link_cause.is ∙ c.link_cause.ensures.value)
    ∙ ap (λ (l : List (ℕ × Node)). refusal_of c.args.schema.now (state_in l c.args.given) command) c.nodes-nodes.ensures) in
    let body = body_named c.args.graph.now.nodes es c.holder_of.result c.in-Some-Some.holder (option_copied c.body_for-body.result)
    c.in-Some-Some.body.now c.nodes-nodes.ensures c.holder_of.ensures c.in-Some-Some.is-0 c.body_for-body.ensures.body (ap option_copied c.in-Some-Some.is-1) in (
      sym last ∙ c.in_default-limit_cause.is,
      sym c.holder_of.ensures ∙ c.in-Some-Some.is-0,
      with_body (λ (b : Body). IsPlanned command (row_of b) c.args.totals.places c.args.totals.text c.plan.result) (node_at c.args.graph.now.nodes c.in-Some-Some.holder) c.in-Some-Some.body.now body c.plan.ensures,
    )
