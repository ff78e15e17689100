-- A state: its rows, how many numbers were given, and its limits. Ours; numbers are never used again.
use Rattle.std.specs.Prelude.{ℕ, List, [], filter}
use Rattle.std.specs.Option.{option_map_or}
use Rattle.lists.specs.Rising as rising
use Rattle.schema_model.specs.Classes.{Schema}
use Rattle.state_model.specs.declared.row.RowEntry.{RowEntry}
use Rattle.state_model.specs.Rows.{root_alone, is_live}
use Rattle.state_model.specs.Reached.{freed}

-- how many item numbers were given in a map or a set
pub record ItemCount : Type 0 where
  pub who : ℕ
  pub count : ℕ

-- the rows, how many reference numbers were given besides the root's, and the counts of item numbers, rising
pub record State : Type 0 where
  pub rows : List RowEntry
  pub given : ℕ
  pub counts : List ItemCount

-- the root alone
abbrev pub new_state : Schema → State
new_state schema = record { rows = root_alone schema; given = 0; counts = [] }

-- the number that the next new item of a collection gets
abbrev pub next_item : State → ℕ → ℕ
next_item s who = option_map_or (λ (c : ItemCount). c.count) (rising.find (λ (c : ItemCount). c.who) who s.counts) 0

-- without the rows that nothing holds
abbrev pub swept : State → State
swept s = record { rows = freed s.rows; given = s.given; counts = filter (λ (c : ItemCount). is_live (freed s.rows) c.who) s.counts }

-- ---- limits

-- rows of a room
abbrev pub rows_limit : ℕ
rows_limit = 16384

-- places of a room
abbrev pub places_limit : ℕ
places_limit = 65536

-- bytes of all text values and map keys of a room
abbrev pub text_limit : ℕ
text_limit = 4194304

-- bytes of one text value or key
abbrev pub one_text_limit : ℕ
one_text_limit = 4096

-- the greatest reference number or item number
abbrev pub last_number : ℕ
last_number = 2147483647
