-- Which bytes are JSON.
use Rattle.std.specs.Prelude.{ℕ, List, Bool, ◌&&◌, is_some, option_and_then}
use Rattle.std.specs.Str.{is_utf8}
use Rattle.json.specs.Lex.{tokens}
use Rattle.json.specs.Json.{if_last, value}

-- how deep arrays and objects may nest
abbrev pub max_depth : ℕ
max_depth = 127

-- UTF-8 that is a JSON text, nested no deeper than that
abbrev pub is_json : List ℕ → Bool
is_json bytes = is_utf8 bytes && is_some (option_and_then (λ p. if_last p.0 p.1) (value max_depth (tokens bytes)))
