use Rattle.std.proofs.Common.{◌≡◌, ◌∙◌, ◌++◌, Some, None, option_copied, append-nil, sym, ap, subst}
use Rattle.std.specs.List.{slice_get}
use Rattle.lists.specs.Rising.{RisesFrom, after_key}
use Rattle.lists.proofs.Places.{above_passed, after_none, fewer_after, passed_next}
use Rattle.collection_ops.specs.Bodies.{MapState, map_number}
use Rattle.collection_ops.proofs.map_body.MapBody.copy_items.Goals as goal

pub push-requires : goal.push-requires
push-requires c =
    let rises : RisesFrom map_number 0 c.args.self.now.items = subst (λ (s : MapState). RisesFrom map_number 0 s.items) c.self.view_is c.in-Some.ensures.rises in
    let next : slice_get (after_key map_number c.loop-item.last c.args.self.now.items) 0 ≡ Some c.in-Some.item.now =
    sym (c.in-Some.ensures.value ∙ ap (λ (s : MapState). slice_get (after_key map_number c.loop-item.last s.items) 0) c.self.view_is) in
    rw c.in_ok-copy.ensures (above_passed map_number c.args.self.now.items c.loop-item.out c.loop-item.last c.in-Some.item.now rises next c.loop-item.invariant)

pub loop-item-smaller : goal.loop-item-smaller
loop-item-smaller c =
    let rises : RisesFrom map_number 0 c.args.self.now.items = subst (λ (s : MapState). RisesFrom map_number 0 s.items) c.self.view_is c.in-Some.ensures.rises in
    let next : slice_get (after_key map_number c.loop-item.last c.args.self.now.items) 0 ≡ Some c.in-Some.item.now =
    sym (c.in-Some.ensures.value ∙ ap (λ (s : MapState). slice_get (after_key map_number c.loop-item.last s.items) 0) c.self.view_is) in
    fewer_after map_number c.args.self.now.items c.loop-item.out c.loop-item.last c.in-Some.item.now rises next

pub loop-item-preserved : goal.loop-item-preserved
loop-item-preserved c =
    let rises : RisesFrom map_number 0 c.args.self.now.items = subst (λ (s : MapState). RisesFrom map_number 0 s.items) c.self.view_is c.in-Some.ensures.rises in
    let next : slice_get (after_key map_number c.loop-item.last c.args.self.now.items) 0 ≡ Some c.in-Some.item.now =
    sym (c.in-Some.ensures.value ∙ ap (λ (s : MapState). slice_get (after_key map_number c.loop-item.last s.items) 0) c.self.view_is) in
    rw (c.in_ok-push.ensures, c.in_ok-copy.ensures) (passed_next map_number c.args.self.now.items c.loop-item.out c.loop-item.last c.in-Some.item.now rises next c.loop-item.invariant)

pub returns : goal.returns
returns c =
    let left = after_key map_number c.loop-item.last c.args.self.now.items in
    let none : slice_get left 0 ≡ None =
    sym (c.after.ensures.value ∙ ap (λ (s : MapState). slice_get (after_key map_number c.loop-item.last s.items) 0) c.self.view_is) ∙ ap option_copied c.in_default.is in
    sym (append-nil c.loop-item.out) ∙ (ap (λ l. c.loop-item.out ++ l) (sym (after_none left none)) ∙ c.loop-item.invariant)
