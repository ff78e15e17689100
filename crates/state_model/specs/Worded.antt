-- Commands whose texts are UTF-8.
use Rattle.std.specs.Prelude.{ℕ, Bool, true, ◌&&◌, List, Option, Some, None}
use Rattle.std.specs.Option.{option_map_or}
use Rattle.std.specs.Str.{is_utf8}
use Rattle.schema_model.specs.Fits.{is_worded}
use Rattle.state_model.specs.declared.command.Command.{Command}
use Rattle.state_model.specs.declared.command.Command.TheVariants.{PutKey}
use Rattle.state_model.specs.Commands.{value_put}

-- the key under which it puts a value
abbrev pub key_put : Command → Option (List ℕ)
key_put (PutKey r k v) = Some k
key_put c = None

-- the value that it puts somewhere, and the key, are UTF-8 where they are texts
abbrev pub is_worded_command : Command → Bool
is_worded_command c = option_map_or is_worded (value_put c) true && option_map_or is_utf8 (key_put c) true
