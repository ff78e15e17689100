use Rattle.std.proofs.Common.{◌∷◌, [], ◌++◌, ◌∙◌, ap₂}
use Rattle.load_maker.specs.Generated.{game_def, game_made, game_schema, process_id, rounds_from}
use Rattle.load_maker.proofs.Schedules.{from_none, same_parts}
use Rattle.load_maker.proofs.load.made.Goals as goal

pub returns : goal.returns
returns c =
    same_parts process_id c.in_ok-game_schema.field-0 game_schema c.push.new.self (game_def ∷ []) c.push_rounds.new.events (game_made ++ rounds_from c.args.seed c.args.rounds)
    c.in_ok-game_schema.ensures
    (c.in_ok-push.ensures ∙ ap₂ (λ ds d. ds ++ d ∷ []) c.new-defs.ensures c.in_ok-game_def.ensures)
    (from_none c.new-events.result c.push_game.new.events c.push_rounds.new.events game_made (rounds_from c.args.seed c.args.rounds) c.new-events.ensures c.in_ok-push_game.ensures c.in_ok-push_rounds.ensures)
