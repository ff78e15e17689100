use Rattle.std.proofs.Common.{◌≡◌, ◌+◌, ◌++◌, take}
use Rattle.std.specs.List.{flat_map}
use Rattle.instance_table.specs.Behind.{held_through}
use Rattle.instance_table.proofs.behind.add_field_links.Given as goal

abbrev pub invariant-loop-field : goal.invariant-loop-field
invariant-loop-field g l = record {
  links : g.R.WalkRoom.waiting_in l.room ≡ g.R.WalkRoom.waiting_in l.initial.room
      ++ flat_map (held_through l.schema l.tag l.class) (take l.field-index l.fields);
  seen : g.R.WalkRoom.seen_in l.room ≡ g.R.WalkRoom.seen_in l.initial.room;
  cost : l.steps ≡ l.initial.steps + l.field-index;
}
