use Rattle.std.proofs.Common.{◌++◌}
use Rattle.std.specs.Prelude.{codes}
use Rattle.hub_model.specs.Requests.{method_word, up_to}
use Rattle.matchmaker.proofs.Targets.{behind_nothing, behind_some}
use Rattle.matchmaker.proofs.target.raw_name.Goals as goal

pub returns-in-Some : goal.returns-in-Some
returns-in-Some c =
    behind_some (codes "/matchmake/") (method_word c.args.method ++ codes "/") (up_to 63 c.args.target.now) _ _ _ c.up_to.ensures c.in-Some.ensures c.behind_word.ensures

pub returns-in-None : goal.returns-in-None
returns-in-None c = behind_nothing (codes "/matchmake/") (method_word c.args.method ++ codes "/") (up_to 63 c.args.target.now) _ c.up_to.ensures c.in-None.ensures
