use Rattle.std.proofs.Common.{◌≡◌, ◌∙◌, ◌<◌, length, refl, ap, sym, append-nil, arith}
use Rattle.std.specs.Prelude.{option_copied, slice_get}
use Rattle.std.proofs.lemmas.List.{length-append}
use Rattle.lists.proofs.Results.{on_err}
use Rattle.state_model.specs.Rows.{values_in}
use Rattle.command_laws.specs.Accounts.{held_in_value}
use Rattle.instance_table.specs.Bodies.{row_of}
use Rattle.instance_table.proofs.PlaceSteps.{behind_start}
use Rattle.instance_table.proofs.LinkLaws.{first_held, held_first, links_all, links_next}
use Rattle.instance_table.proofs.behind.add_all_links.Goals as goal

pub loop-n-init : goal.loop-n-init
loop-n-init g c = record { links = sym (append-nil (g.R.WalkRoom.waiting_in c.args.room.now)); seen = refl; cost = omega arith; behind = behind_start (row_of c.args.body.now) }

pub loop-n-preserved : goal.loop-n-preserved
loop-n-preserved g c =
    let values = values_in (row_of c.args.body.now) in
    let at : option_copied c.value_nth-next.result.0 ≡ slice_get values c.loop-n.n = c.value_nth-next.ensures.value in
    let held = c.link_of.ensures.held ∙ ap held_in_value at in
    let here : c.loop-n.n < length values = omega (arith, c.len-count.ensures, c.loop-n-test.true) in
    record {
      links = links_next (g.R.WalkRoom.waiting_in c.args.room.now) (g.R.WalkRoom.waiting_in c.loop-n.room) (g.R.WalkRoom.waiting_in c.add_link.new.room) c.loop-n.n values
          c.link_of.result here held c.loop-n.invariant.links c.in_ok-add_link.ensures.links;
      seen = c.add_link.ensures.seen ∙ c.loop-n.invariant.seen;
      cost = omega (arith, c.loop-n.invariant.cost, c.tick.ensures);
      behind = c.value_nth-next.ensures.next;
    }

pub returns-clause-links : goal.returns-clause-links
returns-clause-links g c =
    links_all (g.R.WalkRoom.waiting_in c.args.room.now) (g.R.WalkRoom.waiting_in c.loop-n.room) c.loop-n.n (values_in (row_of c.args.body.now))
    (omega (arith, c.len-count.ensures, c.loop-n-test.false, c.loop-n.auto.n-end)) c.loop-n.invariant.links

pub returns-clause-cost : goal.returns-clause-cost
returns-clause-cost g c =
    omega (arith, c.len-count.ensures, c.loop-n-test.false, c.loop-n.auto.n-end, c.loop-n.invariant.cost)

pub returns-in_err-add_link-clause-lacks : goal.returns-in_err-add_link-clause-lacks
returns-in_err-add_link-clause-lacks g c =
    let values = values_in (row_of c.args.body.now) in
    let n = c.loop-n.n in
    let at : option_copied c.value_nth-next.result.0 ≡ slice_get values n = c.value_nth-next.ensures.value in
    let held = ap length (c.link_of.ensures.held ∙ ap held_in_value at) in
    let before = ap length c.loop-n.invariant.links in
    let part = first_held n values (omega (arith, c.len-count.ensures, c.loop-n-test.true)) in
    on_err c.from_residual.result (omega (arith, c.in_err-add_link.ensures.lacks, before, length-append (g.R.WalkRoom.waiting_in c.args.room.now) (held_first n values), held, part))
