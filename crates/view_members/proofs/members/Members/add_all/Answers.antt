use Rattle.std.proofs.Common.{◌∙◌, ap, arith}
use Rattle.std.proofs.lemmas.Result.{err_from_is_err_and}
use Rattle.view_members.specs.Standings.{add_all}
use Rattle.view_members.proofs.AddLaws.{added_members, none_left, not_full, add_all_length, refused}
use Rattle.view_members.proofs.SpareLaws.{spares_rise}
use Rattle.view_members.proofs.members.Members.add_all.Goals as goal

pub returns-in_err-take_room : goal.returns-in_err-take_room
returns-in_err-take_room c =
    let gone = refused c.args.pairs.now c.self.inside.sets c.take_room.new.sets c.in_err-take_room.field-0.0 c.take_room.ensures.fit c.take_room.ensures.kept.0 c.self.invariant.spare c.in_err-take_room.ensures.value in
    let p = err_from_is_err_and c.from_residual.result c.from_residual.ensures.1 in
    rw (← c.self.view_is, p.1, p.2) gone

pub invariant_of-self-2 : goal.invariant_of-self-2
invariant_of-self-2 c =
    let ps = c.args.pairs.now in
    let old = c.self.inside.sets in
    let es = c.take_room.new.sets in
    let rises = c.take_room.ensures.kept.0 in
    let taken = c.in_ok-take_room.ensures.value in
    let up = rw (← taken.0) at (spares_rise ps old rises) in
    rw c.add_each.ensures
    record {
      spare = none_left ps old es up c.self.invariant.spare taken.2;
      few = omega (arith, add_all_length ps es up, taken.1);
    }

pub returns : goal.returns
returns c =
    let ps = c.args.pairs.now in
    let old = c.self.inside.sets in
    let rises = c.take_room.ensures.kept.0 in
    let fit = c.take_room.ensures.fit in
    let taken = c.in_ok-take_room.ensures.value in
    let new = c.add_each.ensures ∙ ap (add_all ps) taken.0 in
    rw (← c.self.view_is, new)
    (not_full ps old fit rises c.self.invariant.spare (rw taken.0 at taken.1), added_members ps old fit rises)
