use Rattle.std.proofs.Common.{◌≡◌, ap, ◌∙◌}
use Rattle.command_laws.specs.Accounts.{is_clear}
use Rattle.plain_rows.specs.Links.{held_at}
use Rattle.instance_table.specs.Bodies.{CanEdit, row_of}
use Rattle.instance_table.specs.Found.{item_number}
use Rattle.instance_table.specs.Nodes.{node_at, rows_in}
use Rattle.instance_table.proofs.ChangeLaws.{clear_done, of_body, of_some}
use Rattle.instance_table.proofs.LetGoLaws.{body_at, body_let_go}
use Rattle.instance_table.proofs.changes.change.Goals as goal

pub edit-requires-clause-can : goal.edit-requires-clause-can
edit-requires-clause-can c =
    let start = c.args.graph.now.nodes in
    let h = c.args.holder in
    of_body (λ b. CanEdit c.args.command.now b) start c.let_go_links.new.graph.nodes h (ap (λ es. body_at es h) c.let_go_links.ensures ∙ body_let_go (held_at (rows_in start) h) h start h) c.requires.can

pub edit-requires-clause-number : goal.edit-requires-clause-number
edit-requires-clause-number c =
    let start = c.args.graph.now.nodes in
    let h = c.args.holder in
    of_body (λ b. c.args.located.now.number ≡ item_number c.args.command.now (row_of b)) start c.let_go_links.new.graph.nodes h (ap (λ es. body_at es h) c.let_go_links.ensures ∙ body_let_go (held_at (rows_in start) h) h start h) c.requires.number

pub returns-in-Clear-clause-ok : goal.returns-in-Clear-clause-ok
returns-in-Clear-clause-ok c =
    let start = c.args.graph.now.nodes in
    let h = c.args.holder in
    of_some (node_at start h) (λ n at.
    clear_done c.edit.result c.args.command.now h start c.let_go_links.new.graph c.edit.new.self n c.let_go_links.ensures c.edit.ensures.after at (ap is_clear c.in-Clear.is))
