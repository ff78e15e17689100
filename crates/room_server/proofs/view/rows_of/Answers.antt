use Rattle.std.proofs.Common.{◌∙◌, ◌≤◌, arith, length, sym}
use Rattle.room_server.proofs.ViewLaws.{end_outs}
use Rattle.room_server.proofs.view.rows_of.Goals as goal

pub returns : goal.returns
returns c =
    let core = c.loop-line.core in
    let items = c.as_slice-line-items.result.now in
    let all : length items ≤ c.loop-line.line-index = omega (arith, c.loop-line-test.false) in
    (core.client, sym c.loop-line.invariant ∙ end_outs c.args.conn core.schema core.client items c.loop-line.line-index all, c.in_ok-rows.ensures)
