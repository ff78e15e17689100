use Rattle.std.proofs.Common.{◌++◌, sym}
use Rattle.std.proofs.lemmas.Option.{IfSome_then}
use Rattle.std.specs.Prelude.{codes}
use Rattle.hub_model.specs.Requests.{method_word}
use Rattle.matchmaker.proofs.Targets.{escape_behind}
use Rattle.matchmaker.proofs.target.named_by.Goals as goal

pub returns-in-Some-clause-escape : goal.returns-in-Some-clause-escape
returns-in-Some-clause-escape c = IfSome_then c.named.result c.named.ensures.same (λ n same e.
    escape_behind (codes "/matchmake/" ++ (method_word c.args.method ++ codes "/")) c.args.target.now c.in-Some.raw.now (sym c.in-Some.ensures) (rw (← same) e))
