use Rattle.std.proofs.Common.{◌≡◌, filter, is_some, rules}
use Rattle.std.proofs.lemmas.Fn.{filter_same}
use Rattle.lists.proofs.RisingLaws.{RisesFrom-filter}
use Rattle.trees.specs.Slots.{entry_of, item_of, slot_number}
use Rattle.trees.proofs.SlotLaws.{entry_agrees, item_agrees, items-filter, own-filter}
use Rattle.trees.proofs.holes.close_holes.Given.{Over}
use Rattle.trees.proofs.holes.close_holes.Goals as goal

left : (g : Over) (c : goal.After-retain g) → c.retain.new.self.items ≡ filter (λ s. is_some s.item) c.args.slots.now.items
left g c = filter_same _ (λ s. is_some s.item) _ (λ x b f' told. search rules) c.args.slots.now.items c.retain.new.self.items c.retain.ensures.filtered

pub returns-clause-items : goal.returns-clause-items
returns-clause-items g c = rw (left g c) (items-filter item_of item_agrees c.args.slots.now.items)

pub returns-clause-entries : goal.returns-clause-entries
returns-clause-entries g c = rw (left g c) (items-filter entry_of entry_agrees c.args.slots.now.items)

pub returns-clause-rises : goal.returns-clause-rises
returns-clause-rises g c = rw (left g c) (RisesFrom-filter slot_number 0 (λ s. is_some s.item) c.args.slots.now.items c.requires)

pub returns-clause-own : goal.returns-clause-own
returns-clause-own g c = λ key o. rw (left g c) (own-filter item_of item_agrees key (λ s. is_some s.item) c.args.slots.now.items o)
