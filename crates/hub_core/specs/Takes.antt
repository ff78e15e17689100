-- A hub behind an event. Ours.
use Rattle.std.specs.Prelude.{◌≡◌, ◌++◌, List}
use Rattle.room_model.specs.Room.{RoomValue}
use Rattle.hub_model.specs.declared.event.HubEvent.{HubEvent}
use Rattle.hub_model.specs.declared.event.HubOut.{HubOut}
use Rattle.hub_model.specs.Dealt.{RoomStep}
use Rattle.hub_model.specs.HubStep.{Rules, hub_step}
use Rattle.hub_model.specs.Requests.{read_request}
use Rattle.matchmaker.specs.Bodies.{said_by}
use Rattle.hub_core.specs.declared.parts.Parts.{Parts}
use Rattle.hub_core.specs.Hubs.{Stands, hub_of}

-- the rules of a hub: its rooms' step, and what a target and a body ask for
abbrev pub rules_of : RoomStep → Rules
rules_of step = record { step = step; read = λ defs target body. read_request defs target (said_by body) }

-- its value, what it gives, and that it is in order
pub record Takes {R : Type 0} (room : R → RoomValue) (Holds : RoomValue → Type 0) (step : RoomStep) (e : HubEvent) (old new : Parts R) (before after : List HubOut) : Type 0 where
  pub hub : hub_of room new ≡ (hub_step (rules_of step) (hub_of room old) e).0
  pub outs : after ≡ before ++ (hub_step (rules_of step) (hub_of room old) e).1
  pub stands : Stands room Holds new
