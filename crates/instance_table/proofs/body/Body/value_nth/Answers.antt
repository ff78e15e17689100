use Rattle.std.proofs.Common.{sym}
use Rattle.instance_table.proofs.PlaceSteps.{map_next, map_none, set_next, set_none}
use Rattle.instance_table.proofs.body.Body.value_nth.Goals as goal

pub returns-in-Some-clause-value : goal.returns-in-Some-clause-value
returns-in-Some-clause-value c = (map_next c.args.self.now c.in-Map.field-0 c.in-Map.items c.args.n c.args.behind c.in-Some.item.now c.in-Map.is c.requires c.in-Some.ensures.rises (sym c.in-Some.ensures.value)).0

pub returns-in-Some-clause-next : goal.returns-in-Some-clause-next
returns-in-Some-clause-next c = (map_next c.args.self.now c.in-Map.field-0 c.in-Map.items c.args.n c.args.behind c.in-Some.item.now c.in-Map.is c.requires c.in-Some.ensures.rises (sym c.in-Some.ensures.value)).1

pub returns-in-None-clause-value : goal.returns-in-None-clause-value
returns-in-None-clause-value c = (map_none c.args.self.now c.in-Map.field-0 c.in-Map.items c.args.n c.args.behind c.in-Map.is c.requires (sym c.in-None.ensures.value)).0

pub returns-in-None-clause-next : goal.returns-in-None-clause-next
returns-in-None-clause-next c = (map_none c.args.self.now c.in-Map.field-0 c.in-Map.items c.args.n c.args.behind c.in-Map.is c.requires (sym c.in-None.ensures.value)).1

pub returns-in-Some-after-clause-value : goal.returns-in-Some-after-clause-value
returns-in-Some-after-clause-value c = (set_next c.args.self.now c.in-Set.field-0 c.in-Set.items c.args.n c.args.behind c.in-Some-after.item.now c.in-Set.is c.requires c.in-Some-after.ensures.rises (sym c.in-Some-after.ensures.value)).0

pub returns-in-Some-after-clause-next : goal.returns-in-Some-after-clause-next
returns-in-Some-after-clause-next c = (set_next c.args.self.now c.in-Set.field-0 c.in-Set.items c.args.n c.args.behind c.in-Some-after.item.now c.in-Set.is c.requires c.in-Some-after.ensures.rises (sym c.in-Some-after.ensures.value)).1

pub returns-in-None-after-clause-value : goal.returns-in-None-after-clause-value
returns-in-None-after-clause-value c = (set_none c.args.self.now c.in-Set.field-0 c.in-Set.items c.args.n c.args.behind c.in-Set.is c.requires (sym c.in-None-after.ensures.value)).0

pub returns-in-None-after-clause-next : goal.returns-in-None-after-clause-next
returns-in-None-after-clause-next c = (set_none c.args.self.now c.in-Set.field-0 c.in-Set.items c.args.n c.args.behind c.in-Set.is c.requires (sym c.in-None-after.ensures.value)).1
