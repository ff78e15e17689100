-- A body is its row and what it has given.
use Rattle.std.proofs.Common.{◌≡◌, ◌+◌, IfSome, refl, sym, ap₂, ◌∙◌}
use Rattle.std.specs.Option.{option_map}
use Rattle.state_model.specs.declared.command.Command.{Command}
use Rattle.state_model.specs.Commands.{edited}
use Rattle.instance_table.specs.declared.body.Body.{Body}
use Rattle.instance_table.specs.declared.body.Body.TheVariants.{Struct, Map, Array, Set}
use Rattle.instance_table.specs.Bodies.{row_of, given_of, body_from, next_in, given_by, edited_body}

pub body_again : (b : Body) → body_from (row_of b) (given_of b) ≡ b
body_again (Struct class fields) = refl
body_again (Map home items) = refl
body_again (Array home values) = refl
body_again (Set home items) = refl

-- a body whose row and count a command made
pub edited_is : (c : Command) (old new : Body) → row_of new ≡ edited c (next_in old) (row_of old) → given_of new ≡ option_map (λ n. n + given_by c old) (given_of old) → new ≡ edited_body c old
edited_is c old new r g = sym (body_again new) ∙ ap₂ body_from r g

-- the next item number is what was given, where one counts
pub next_given : (b : Body) → IfSome (given_of b) (λ g. g ≡ next_in b)
next_given (Struct class fields) = tt
next_given (Map home items) = refl
next_given (Array home values) = tt
next_given (Set home items) = refl
