use Rattle.std.proofs.Common.{◌≡◌, ◌-◌, ◌∙◌, drop, length, take, ap, sym}
use Rattle.std.proofs.Math.Seq.{take-length}
use Rattle.std.proofs.lemmas.List.{length-drop}
use Rattle.std.specs.List.{slice_get}
use Rattle.trees.specs.Slots.{item_of, items_in}
use Rattle.trees.proofs.SlotLaws.{item_agrees, items-after, items_rise}
use Rattle.trees.proofs.numbered.item_after.Goals as goal

pub returns-clause-value : goal.returns-clause-value
returns-clause-value g c =
    let slots = c.args.slots.now in
    let at = c.place_after-at.result in
    let all : take (length slots - at) (drop at slots) ≡ drop at slots = ap (λ n. take n (drop at slots)) (sym (length-drop at slots)) ∙ take-length (drop at slots) in
    c.first_item.ensures
    ∙ (ap (λ ss. slice_get (items_in ss) 0) (all ∙ c.place_after-at.ensures.after)
    ∙ ap (λ xs. slice_get xs 0) (items-after item_of item_agrees g.T.Keyed.key c.args.number slots c.requires.own))

pub returns-clause-rises : goal.returns-clause-rises
returns-clause-rises g c = items_rise item_of item_agrees g.T.Keyed.key 0 c.args.slots.now c.requires.rises c.requires.own
