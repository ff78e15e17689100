-- Which schedules can be replayed. Ours.
use Rattle.std.specs.Prelude.{◌≡◌, true}
use Rattle.std.specs.List.{list_all}
use Rattle.hub_core.specs.Held.{are_hub_defs, may_take}
use Rattle.schema_model.specs.Ids.{is_id}
use Rattle.text_model.specs.declared.schedule.Schedule.{Schedule}

-- a hub may be made of its definitions, and takes its events
pub record CanReplay (s : Schedule) : Type 0 where
  pub process : is_id s.process ≡ true
  pub defs : are_hub_defs s.defs ≡ true
  pub events : list_all may_take s.events ≡ true
