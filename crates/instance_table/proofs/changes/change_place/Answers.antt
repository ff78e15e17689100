use Rattle.std.proofs.Common.{◌≡◌, ap, ◌∙◌}
use Rattle.instance_table.specs.Bodies.{CanEdit, row_of}
use Rattle.instance_table.specs.Found.{item_number}
use Rattle.instance_table.proofs.ChangeLaws.{of_body, body_hold}
use Rattle.instance_table.proofs.LetGoLaws.{body_at}
use Rattle.instance_table.proofs.changes.change_place.Goals as goal

pub edit-requires-clause-can : goal.edit-requires-clause-can
edit-requires-clause-can c =
    let start = c.args.graph.now.nodes in
    let h = c.args.holder in
    of_body (λ b. CanEdit c.args.command.now b) start c.hold_link.new.graph.nodes h (ap (λ es. body_at es h) c.in_ok-hold_link.ensures.ok ∙ body_hold c.link_of.result h start h) c.requires.can

pub edit-requires-clause-number : goal.edit-requires-clause-number
edit-requires-clause-number c =
    let start = c.args.graph.now.nodes in
    let h = c.args.holder in
    of_body (λ b. c.args.located.now.number ≡ item_number c.args.command.now (row_of b)) start c.hold_link.new.graph.nodes h (ap (λ es. body_at es h) c.in_ok-hold_link.ensures.ok ∙ body_hold c.link_of.result h start h) c.requires.number
