-- What a handler says, one turn after another.
use Rattle.std.specs.Prelude.{◌≡◌, refl}
use Rattle.script_model.specs.declared.facts.Said.{Said}
use Rattle.script_model.specs.Plays.{Play, SaidInTurn, ended, goes, next_said, said_then, saids, told}
use Rattle.script_model.specs.Scenes.{World}

pub said_in_turn : SaidInTurn
said_in_turn after (ended p) w = refl
said_in_turn after (goes q) w = said_in_turn after q w
said_in_turn after (told s p f) w = refl
