-- What is found of a key and of a value, by the number of its item.
use Rattle.std.proofs.Common.{◌≡◌, ℕ, Bool, true, false, not, List, Option, Some, None, is_none, is_some, refl, ap, ◌∙◌}
use Rattle.std.specs.Option.{option_map}
use Rattle.std.specs.Str.{bytes_eq}
use Rattle.schema_model.specs.declared.value.Value.{Value}
use Rattle.state_model.specs.declared.row.MapItem.{MapItem}
use Rattle.state_model.specs.declared.row.SetItem.{SetItem}
use Rattle.state_model.specs.Values.{same_value}
use Rattle.state_model.specs.Commands.{has_key, has_value}
use Rattle.collection_ops.specs.Bodies.{key_item, map_number, set_number, value_item}
use Rattle.instance_table.proofs.EditLaws.{told_any}

-- either test is what the other isn't
pub not_swapped : (a b : Bool) → a ≡ not b → b ≡ not a
not_swapped true true h = cc
not_swapped true false h = refl
not_swapped false true h = refl
not_swapped false false h = cc

-- a part of nothing is nothing
pub none_of : {X Y : Type 0} (f : X → Y) (o : Option X) → is_none (option_map f o) ≡ is_none o
none_of f None = refl
none_of f (Some x) = refl

-- a key is there where its item has a number
pub key_there : (items : List MapItem) (key : List ℕ) (o : Option ℕ) → o ≡ option_map map_number (key_item items key) → is_some o ≡ has_key items key
key_there items key o e = ap is_some e ∙ told_any map_number (λ (i : MapItem). bytes_eq i.key key) items

-- so is a value
pub value_there : (items : List SetItem) (v : Value) (o : Option ℕ) → o ≡ option_map set_number (value_item items v) → is_some o ≡ has_value items v
value_there items v o e = ap is_some e ∙ told_any set_number (λ (i : SetItem). same_value i.value v) items
