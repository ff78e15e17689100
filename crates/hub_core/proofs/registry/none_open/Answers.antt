use Rattle.std.proofs.Common.{◌≡◌, ◌∙◌, ◌+◌, ◌≤◌, ℕ, length, sym, ap, subst, arith}
use Rattle.std.proofs.lemmas.List.{length_push}
use Rattle.hub_core.specs.OpenRooms.{AreEmpty}
use Rattle.hub_core.proofs.ListLaws.{more_empty, none_empty}
use Rattle.hub_core.proofs.registry.none_open.Goals as goal

pub loop-init : goal.loop-init
loop-init c = (ap length c.new-open_rooms.ensures.items, subst AreEmpty (sym c.new-open_rooms.ensures.items) none_empty)

pub loop-preserved : goal.loop-preserved
loop-preserved c =
    let is = c.in_ok-push.ensures.items in
    (ap length is ∙ (length_push c.loop.open_rooms.items c.new.result ∙ ap (λ k. k + 1) c.loop.invariant.0), subst AreEmpty (sym is) (more_empty c.loop.open_rooms.items c.new.result c.loop.invariant.1 c.new.ensures))

pub returns-clause-count : goal.returns-clause-count
returns-clause-count c = same c.args.count c.loop.counter (length c.loop.open_rooms.items) c.loop.invariant.0 c.loop-test.false c.loop.auto.counter-end
  where
    same : (a b n : ℕ) → n ≡ b → a ≤ b → b ≤ a → n ≡ a
    same a b n is low high = omega (arith, is, low, high)
