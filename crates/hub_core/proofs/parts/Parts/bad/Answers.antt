use Rattle.std.proofs.Common.{[], ◌∷◌}
use Rattle.hub_model.specs.declared.event.HubOut.TheVariants as out
use Rattle.hub_core.proofs.EventLaws.{no_request}
use Rattle.hub_core.proofs.RoomLaws.{one_ok, pushed_ok}
use Rattle.hub_core.proofs.parts.Parts.bad.Goals as goal

pub returns : goal.returns
returns g c =
    one_ok _ _ c.push.result (λ outs. no_request g.R.RoomLike.room g.R.RoomLike.Holds g.R.RoomLike.handled c.args.self.now c.requires c.know.ensures c.args.conn c.args.outs.now c.push.new.self outs)
    (pushed_ok c.push.result c.push.new.self c.args.outs.now (out.Close c.args.conn 1002 ∷ []) c.push.ensures)
