-- Statements as a tree of steps.
use Rattle.std.specs.Prelude.{ℕ, List, [], ◌∷◌, map}
use Rattle.script_model.specs.declared.action.Action.{Action}
use Rattle.script_model.specs.declared.expression.Expression.{Expression}
use Rattle.script_model.specs.declared.statement.Opener.{Opener}
use Rattle.script_model.specs.declared.statement.Statement.{Statement, fold-Statement}
use Rattle.script_model.specs.declared.statement.Block.{Block, fold-Block}
use Rattle.script_model.specs.declared.statement.Statement.TheOpen.{Statement-F, Block-F}

mutual
  -- a variable is set, one thing is done, or a block is run
  pub data Step : Type 0 where
    sets : List ℕ → Expression → Step
    does : Action → Step
    opens : Opener → Steps → Step

  -- one behind another
  pub data Steps : Type 0 where
    no_steps : Steps
    more : Step → Steps → Steps

abbrev pub steps_of : List Step → Steps
steps_of [] = no_steps
steps_of (s ∷ ss) = more s (steps_of ss)

-- with one more at the end
abbrev pub steps_then : Steps → Step → Steps
steps_then no_steps s = more s no_steps
steps_then (more first rest) s = more first (steps_then rest s)

-- one level, with the blocks in it already seen as steps
abbrev pub statement_step : Statement-F Step Steps → Step
statement_step (Statement-F.Let v e) = sets v e
statement_step (Statement-F.Do a) = does a
statement_step (Statement-F.Open o b) = opens o b

abbrev pub block_step : Block-F Step Steps → Steps
block_step b = steps_of b.statements.items

-- the step that a statement is, and the steps of a block
abbrev pub step_of : Statement → Step
step_of = fold-Statement Step Steps statement_step block_step

abbrev pub steps_in : Block → Steps
steps_in = fold-Block Step Steps statement_step block_step

-- of a list of statements
abbrev pub steps_view : List Statement → Steps
steps_view ss = steps_of (map step_of ss)
