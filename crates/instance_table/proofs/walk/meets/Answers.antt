use Rattle.std.proofs.Common.{◌≡◌, ◌∙◌, ap}
use Rattle.state_model.specs.Reached.{is_among, reached}
use Rattle.command_laws.proofs.SoundRows.{sound_rises}
use Rattle.plain_rows.proofs.Walks.{walk_start}
use Rattle.instance_table.specs.Nodes.{rows_in}
use Rattle.instance_table.specs.declared.way.Way.TheVariants.{Links, Holders}
use Rattle.instance_table.specs.Ways.{rows_along}
use Rattle.instance_table.proofs.WayLaws.{nodes_rise, reached_back}
use Rattle.instance_table.proofs.walk.meets.Goals as goal

pub loop-holders-init : goal.loop-holders-init
loop-holders-init c = record {
  ahead = rw (c.in_ok-push.ensures.items, c.new-links.ensures.items, c.new-ahead.ensures) (walk_start (rows_along Links c.args.nodes.now) c.args.from);
  unseen = ap (is_among c.args.to) c.new-ahead.ensures;
  back = rw (c.in_ok-push-2.ensures.items, c.new-holders.ensures.items, c.new-back.ensures) (walk_start (rows_along Holders c.args.nodes.now) c.args.to);
  unmet = ap (is_among c.args.from) c.new-back.ensures;
}

pub returns-in-Some-2 : goal.returns-in-Some-2
returns-in-Some-2 c =
    let es = c.args.nodes.now in
    let sound = c.requires.sound in
    let rise = nodes_rise 0 es (sound_rises sound.0 (rows_in es) sound.1) in
    let turned = c.in_ok-found-2.ensures c.args.to c.loop-holders.invariant.back c.loop-holders.invariant.unmet in
    let back : c.in-Some-2.found ≡ is_among c.args.from (reached (rows_along Holders es) c.args.to) = rw c.in-Some-2.is at turned in
    back ∙ reached_back sound.0 es c.args.from c.args.to rise sound.1 c.requires.exact
