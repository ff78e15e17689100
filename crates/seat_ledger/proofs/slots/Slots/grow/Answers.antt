use Rattle.std.proofs.Common.{◌∙◌, ap, arith, length, cond, is_ok, ◌++◌, ◌∷◌, [], ◌≡◌}
use Rattle.std.proofs.lemmas.List.{length-append}
use Rattle.seat_ledger.proofs.KeyedLaws.{below_more}
use Rattle.seat_ledger.proofs.slots.Slots.grow.Goals as goal

pub invariant_of-self : goal.invariant_of-self
invariant_of-self c =
    let keys = c.self.inside.keys.items in
    let items : c.push.new.self.items ≡ keys ++ 0 ∷ [] = c.push.ensures.items ∙ ap (λ r. cond (is_ok r) (keys ++ 0 ∷ []) keys) c.unwrap.ensures in
    below_more (length keys) (length c.push.new.self.items) c.self.inside.places.items (omega (arith, ap length items, length-append keys (0 ∷ []))) c.self.invariant
