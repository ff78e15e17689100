use Rattle.std.proofs.Common.{arith}
use Rattle.std.proofs.lemmas.Bool.Decides.{nat_tests}
use Rattle.lists.proofs.Places.{is_equal}
use Rattle.plain_rows.proofs.HeldRows.{among_at}
use Rattle.plain_rows.proofs.freed_rows.is_held.Goals as goal

pub returns-in-Ok : goal.returns-in-Ok
returns-in-Ok c =
    let found = among_at c.args.who c.args.held.now c.in-Ok.field-0 c.args.who c.in-Ok.ensures.bound (is_equal _ _ (c.in-Ok.ensures.ok c.args.who)) in
    λ _. grind (arith, nat_tests, found)
