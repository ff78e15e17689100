-- What is promised of a schedule's events, and of those whose outputs were taken whole.
use Rattle.std.specs.Prelude.{ℕ, List, ◌++◌, take, Option}
use Rattle.hub_model.specs.declared.event.HubEvent.{HubEvent}
use Rattle.life_model.specs.HubLives.{hub_run}
use Rattle.life_model.specs.HubPromises.{HubKeeps, HubFollows}
use Rattle.outside.specs.Streams.{Takes}
use Rattle.text_model.specs.declared.schedule.Schedule.{Schedule}
use Rattle.text_model.specs.SchemaLines.{schema_text}
use Rattle.room_server.specs.Turns.{rules, start, outs_text}

-- the promises hold of these events of a schedule's hub, after every first so many of them, and a client follows each life
abbrev pub Keeps : Schedule → List HubEvent → Type 0
Keeps s events = (n : ℕ) → HubKeeps s.schema (hub_run rules (start s) (take n events)) × HubFollows s.schema (hub_run rules (start s) (take n events))

-- they hold of a schedule's events
abbrev pub KeepsPromises : Schedule → Type 0
KeepsPromises s = Keeps s s.events

-- of the first so many
abbrev pub KeepsFirst : ℕ → Schedule → Type 0
KeepsFirst count s = Keeps s (take count s.events)

-- what is printed of the first so many events: the schema lines and their outputs
abbrev pub printed_of : ℕ → Schedule → List ℕ
printed_of count s = schema_text s.schema ++ outs_text (start s) (take count s.events)

-- these bytes were taken whole, perhaps with more behind them
abbrev pub TakesWhole : Option (List ℕ) → Option (List ℕ) → List ℕ → Type 0
TakesWhole before after bytes = (more : List ℕ) × Takes before after (bytes ++ more)

-- the promises hold of the events whose outputs were taken whole
abbrev pub KeepsTaken : Option (List ℕ) → Option (List ℕ) → Schedule → Type 0
KeepsTaken before after s = (count : ℕ) → TakesWhole before after (printed_of count s) → KeepsFirst count s
