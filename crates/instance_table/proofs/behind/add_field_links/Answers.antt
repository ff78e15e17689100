use Rattle.std.proofs.Common.{◌≡◌, length, take, ap, arith}
use Rattle.std.specs.List.{flat_map}
use Rattle.std.proofs.lemmas.List.{length-append}
use Rattle.lists.proofs.Results.{on_err}
use Rattle.instance_table.specs.Behind.{held_through}
use Rattle.instance_table.proofs.BehindLaws.{fields_all, fields_through}
use Rattle.instance_table.proofs.WalkRooms.{part_held}
use Rattle.instance_table.proofs.behind.add_field_links.Goals as goal

pub returns-clause-links : goal.returns-clause-links
returns-clause-links g c =
    let end : c.loop-field.field-index ≡ length c.args.fields.now =
    omega (arith, c.loop-field-test.false, c.loop-field.auto.field-index-end) in
    fields_all c.args.schema.now c.args.tag c.args.class (g.R.WalkRoom.waiting_in c.args.room.now) (g.R.WalkRoom.waiting_in c.loop-field.room)
    c.loop-field.field-index c.args.fields.now end c.loop-field.invariant.links

pub returns-in_err-add_link-clause-lacks : goal.returns-in_err-add_link-clause-lacks
returns-in_err-add_link-clause-lacks g c =
    let through = held_through c.args.schema.now c.args.tag c.args.class in
    let fields = c.args.fields.now in
    let k = c.loop-field.field-index in
    let part = part_held through fields k c.field-item.result c.loop-field-test.true c.field-item.is in
    let all = ap length (fields_through c.args.schema.now c.args.tag c.args.class fields) in
    let before = ap length c.loop-field.invariant.links in
    let here = ap length c.link_through.ensures in
    on_err c.from_residual.result (omega (arith, c.in_err-add_link.ensures.lacks, before, length-append (g.R.WalkRoom.waiting_in c.args.room.now) (flat_map through (take k fields)), here, part, all))
