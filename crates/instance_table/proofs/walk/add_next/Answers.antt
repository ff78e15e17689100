use Rattle.std.proofs.Common.{None, Some, sym, append-nil}
use Rattle.instance_table.specs.declared.way.Way.TheVariants.{Links, Holders}
use Rattle.instance_table.proofs.WayLaws.{along_held}
use Rattle.instance_table.proofs.walk.add_next.Goals as goal

pub returns-in_default : goal.returns-in_default
returns-in_default c = rw (along_held c.args.way c.args.nodes.now c.args.who None c.in_default.ensures) (sym (append-nil c.args.waiting.now.items))

pub returns-in-Links : goal.returns-in-Links
returns-in-Links c = rw (c.in-Links.is, along_held Links c.args.nodes.now c.args.who (Some c.in-Some.node.now) c.in-Some.ensures) c.add_links.ensures

pub returns-in_ok-extend_from_slice-in-Holders : goal.returns-in_ok-extend_from_slice-in-Holders
returns-in_ok-extend_from_slice-in-Holders c =
    let added = rw c.as_slice.ensures at c.in_ok-extend_from_slice-in-Holders.ensures.items in
    rw (c.in-Holders.is, along_held Holders c.args.nodes.now c.args.who (Some c.in-Some.node.now) c.in-Some.ensures) added
