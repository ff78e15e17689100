-- Which commands words can be.
use Rattle.std.proofs.Common.{ℕ, Bool, true, false, List, [], ◌∷◌, Option, Some, None, cond, codes}
use Rattle.std.specs.Option.{option_map}
use Rattle.std.specs.Str.{bytes_eq}
use Rattle.text_model.specs.Events.{number_of_word}
use Rattle.text_model.specs.Lines.{both}
use Rattle.room_server.specs.declared.task.Task.TheVariants.{Replay, View, Make}
use Rattle.room_server.specs.Words.{rounds_of, task_of}
use Rattle.room_server.proofs.EndingLaws.{Built}

viewed : (o : Option ℕ) → Built (option_map View o)
viewed (Some n) = tt
viewed None = tt

made : (a b : Option ℕ) → Built (both Make a b)
made (Some a) (Some b) = tt
made (Some a) None = tt
made None b = tt

pub task_built : (ws : List (List ℕ)) → Built (task_of ws)
task_built [] = tt
task_built (w ∷ []) = go (bytes_eq w (codes "replay"))
  where
    go : (b : Bool) → Built (cond b (Some Replay) None)
    go true = tt
    go false = tt
task_built (w ∷ a ∷ []) = go (bytes_eq w (codes "view"))
  where
    go : (b : Bool) → Built (cond b (option_map View (number_of_word a)) None)
    go true = viewed (number_of_word a)
    go false = tt
task_built (w ∷ a ∷ b ∷ []) = go (bytes_eq w (codes "make"))
  where
    go : (t : Bool) → Built (cond t (both Make (number_of_word a) (rounds_of b)) None)
    go true = made (number_of_word a) (rounds_of b)
    go false = tt
task_built (w ∷ a ∷ b ∷ c ∷ ws) = tt
