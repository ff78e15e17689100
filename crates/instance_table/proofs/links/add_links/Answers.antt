use Rattle.std.proofs.Common.{◌∙◌, ap, sym, arith, append-nil, Some, None}
use Rattle.std.specs.Option.{option_to_list}
use Rattle.state_model.specs.Rows.{values_in}
use Rattle.instance_table.specs.Bodies.{row_of}
use Rattle.instance_table.proofs.PlaceSteps.{behind_start}
use Rattle.instance_table.proofs.LinkLaws.{links_all, links_next}
use Rattle.command_laws.specs.Accounts.{held_in_value}
use Rattle.instance_table.proofs.links.add_links.Goals as goal
use Rattle.instance_table.proofs.links.add_links.Goals.{in-Some+in_ok-push, in_default}

pub loop-n-init : goal.loop-n-init
loop-n-init c = record { links = sym (append-nil c.args.links.now.items); behind = behind_start (row_of c.args.body.now) }

pub returns : goal.returns
returns c =
    links_all c.args.links.now.items c.loop-n.links.items c.loop-n.n (values_in (row_of c.args.body.now))
    (omega (arith, c.len-count.ensures, c.loop-n-test.false, c.loop-n.auto.n-end)) c.loop-n.invariant.links

pub loop-n-preserved : goal.loop-n-preserved
loop-n-preserved c =
    let values = values_in (row_of c.args.body.now) in
    elim c.match-link_of.branch [
      | in-Some+in_ok-push w ↦
          let held = sym (ap option_to_list w.in-Some.is) ∙ (c.link_of.ensures.held ∙ ap held_in_value c.value_nth-next.ensures.value) in
          rw w.links-is (record {
            links = links_next c.args.links.now.items c.loop-n.links.items w.push.new.self.items c.loop-n.n values (Some w.in-Some.who) (omega (arith, c.len-count.ensures, c.loop-n-test.true)) held c.loop-n.invariant.links w.in_ok-push.ensures.items;
            behind = c.value_nth-next.ensures.next;
          })
      | in_default w ↦
          let held = sym (ap option_to_list w.in_default.is) ∙ (c.link_of.ensures.held ∙ ap held_in_value c.value_nth-next.ensures.value) in
          rw w.links-is (record {
            links = links_next c.args.links.now.items c.loop-n.links.items c.loop-n.links.items c.loop-n.n values None (omega (arith, c.len-count.ensures, c.loop-n-test.true)) held c.loop-n.invariant.links (sym (append-nil c.loop-n.links.items));
            behind = c.value_nth-next.ensures.next;
          })
    ]
