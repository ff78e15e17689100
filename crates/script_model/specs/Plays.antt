-- What a handler does, statement by statement, and what it says. Ours.
use Rattle.std.specs.Prelude.{◌≡◌, ℕ, suc, ◌+◌, List, [], ◌∷◌, Option, Some, None, if◌then◌else◌, Result, Ok, Err, map}
use Rattle.schema_model.specs.declared.value.Value.{Value}
use Rattle.frame_model.specs.PackData.{text}
use Rattle.room_model.specs.declared.event.Act.{Act}
use Rattle.room_model.specs.declared.event.Act.TheVariants as act
use Rattle.script_model.specs.declared.facts.Said.{Said}
use Rattle.script_model.specs.declared.facts.Said.TheVariants as said
use Rattle.script_model.specs.declared.fault.PresenceFault.{PresenceFault}
use Rattle.script_model.specs.declared.statement.Opener.{Opener}
use Rattle.script_model.specs.declared.statement.Opener.TheVariants.{If, Each, EachMember}
use Rattle.script_model.specs.Actions.{Effect, idle, acts, publishes, stores, Outcome, gives, makes, effect, evaluated}
use Rattle.script_model.specs.Datum.{Datum, row, plain, nothing, is_true, text_of}
use Rattle.script_model.specs.Presence.{PresenceData, smembers}
use Rattle.script_model.specs.Scenes.{FactsData, Scene, Variables, World, items_of, no_variables, operand_of, with_variable}
use Rattle.script_model.specs.Steps.{Step, Steps, does, more, no_steps, opens, sets}

-- what goes on from here: the end, a statement that says nothing, or what is said, behind which the handler goes on in the
-- world that this leads to; with the presence as it was left
pub data Play : Type 0 where
  ended : PresenceData → Play
  goes : Play → Play
  told : Said → PresenceData → (World → Play) → Play

-- how it goes on with what the variables hold, in a world
abbrev pub Going : Type 0
Going = Variables → World → Play

abbrev pub with_presence : PresenceData → World → World
with_presence p w = record { schema = w.schema; rows = w.rows; presence = p; made = w.made }

abbrev pub scene : FactsData → Variables → World → Scene
scene facts vars w = record { world = w; facts = facts; vars = vars }

-- the row that the last act made
abbrev pub made_datum : Option ℕ → Datum
made_datum None = nothing
made_datum (Some n) = row n

-- a variable is set
abbrev pub outcome_play : List ℕ → Going → Variables → World → Outcome → Play
outcome_play v k vars w (gives d p) = goes (k (with_variable v d vars) (with_presence p w))
outcome_play v k vars w (makes c) = told (said.Act (act.State c)) w.presence (λ after. k (with_variable v (made_datum after.made) vars) after)

-- one thing is done
abbrev pub effect_play : Going → Variables → World → Effect → Play
effect_play k vars w idle = goes (k vars w)
effect_play k vars w (acts a) = told (said.Act a) w.presence (k vars)
effect_play k vars w (publishes channel v) = told (said.Publish channel v) w.presence (k vars)
effect_play k vars w (stores p) = goes (k vars (with_presence p w))

-- a block is run once for each of these values
abbrev pub each_play : List ℕ → (Going → Going) → List Datum → Going → Going
each_play v body [] k = k
each_play v body (d ∷ ds) k = λ vars w. goes (body (each_play v body ds k) (with_variable v d vars) w)

-- the texts of a stored set; none where something else is stored
abbrev pub member_data : Result (List (List ℕ)) PresenceFault → List Datum
member_data (Ok ts) = map (λ t. plain (text t)) ts
member_data (Err e) = []

abbrev pub members_of : Option (List ℕ) → PresenceData → List Datum
members_of None p = []
members_of (Some key) p = member_data (smembers key p)

-- a block is run as its opener says
abbrev pub open_play : FactsData → Opener → (Going → Going) → Going → Going
open_play facts (If a) body k = λ vars w. goes (if is_true (operand_of a (scene facts vars w)) then body k vars w else k vars w)
open_play facts (Each v a) body k = λ vars w. goes (each_play v body (items_of (operand_of a (scene facts vars w)) w) k vars w)
open_play facts (EachMember v a) body k = λ vars w. goes (each_play v body (members_of (text_of (operand_of a (scene facts vars w))) w.presence) k vars w)

abbrev mutual
  pub step_play : FactsData → Step → Going → Going
  step_play facts (sets v e) k = λ vars w. outcome_play v k vars w (evaluated e (scene facts vars w))
  step_play facts (does a) k = λ vars w. effect_play k vars w (effect a (scene facts vars w))
  step_play facts (opens o body) k = open_play facts o (steps_play facts body) k

  pub steps_play : FactsData → Steps → Going → Going
  steps_play facts no_steps k = k
  steps_play facts (more s ss) k = step_play facts s (steps_play facts ss k)

-- the end
abbrev pub at_end : Going
at_end vars w = ended w.presence

-- what a handler does from its start, in a world
abbrev pub handler_play : FactsData → Steps → World → Play
handler_play facts steps = steps_play facts steps at_end no_variables

-- ---- what is said

-- the next act or publication; None at the end
abbrev pub next_said : Play → Option Said
next_said (ended p) = None
next_said (goes q) = next_said q
next_said (told s p f) = Some s

-- the presence behind it
abbrev pub next_presence : Play → PresenceData
next_presence (ended p) = p
next_presence (goes q) = next_presence q
next_presence (told s p f) = p

-- how it goes on in the world that follows; an end stays one
abbrev pub next_play : Play → World → Play
next_play (ended p) w = ended w.presence
next_play (goes q) w = next_play q w
next_play (told s p f) w = f w

-- how many statements say nothing before that
abbrev pub silent : Play → ℕ
silent (ended p) = 0
silent (goes q) = suc (silent q)
silent (told s p f) = 0

-- all that is said, where this is what each act and publication leads to
abbrev pub saids : (World → Said → World) → Play → World → List Said
saids after (ended p) w = []
saids after (goes q) w = saids after q w
saids after (told s p f) w = s ∷ saids after (f (after (with_presence p w) s)) (after (with_presence p w) s)

-- the acts and publications of a handler
abbrev pub acts_of : (World → Said → World) → FactsData → Steps → World → List Said
acts_of after facts steps w = saids after (handler_play facts steps w) w

-- ---- one turn after another

-- the world behind what a handler says
abbrev pub world_after : (World → Said → World) → Play → World → Said → World
world_after after p w s = after (with_presence (next_presence p) w) s

abbrev pub said_then : (World → Said → World) → Play → World → Option Said → List Said
said_then after p w None = []
said_then after p w (Some s) = s ∷ saids after (next_play p (world_after after p w s)) (world_after after p w s)

-- all that is said is what is said next, and then all that is said in the world that this leads to
abbrev pub SaidInTurn : Type 0
SaidInTurn = (after : World → Said → World) (p : Play) (w : World) → saids after p w ≡ said_then after p w (next_said p)
