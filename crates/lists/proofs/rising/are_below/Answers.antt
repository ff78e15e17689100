use Rattle.std.proofs.Common.{◌≡◌, ◌-◌, length, Some, sym, arith}
use Rattle.std.specs.List.{slice_get}
use Rattle.std.proofs.lemmas.Bool.Decides.{nat_tests}
use Rattle.lists.proofs.Places.{above_last, last_place}
use Rattle.lists.proofs.rising.are_below.Goals as goal

pub returns-in-Some : goal.returns-in-Some
returns-in-Some g c = λ less.
    let items = c.args.items.now in
    let last : slice_get items (length items - 1) ≡ Some c.in-Some.item.now = sym c.in-Some.ensures.value in
    above_last g.T.Keyed.key 0 c.args.key items (length items - 1) c.in-Some.item.now c.requires (last_place items c.in-Some.item.now last) last (grind (arith, nat_tests, less, c.key.ensures))
