use Rattle.std.proofs.Common.{◌≡◌, drop}
use Rattle.room_server.specs.Views.{client_behind, client_of}
use Rattle.room_server.proofs.view.rows_of.Given as goal

abbrev pub invariant-loop-line : goal.invariant-loop-line
invariant-loop-line l = client_behind l.conn l.core.schema l.core.client (drop l.line-index l.line-items) ≡ client_of l.conn l.fn.print
