-- Which number each key of a map and each value of a set leads to.
use Rattle.std.specs.Prelude.{◌≡◌, ℕ, true, false, List, Option, Some, None}
use Rattle.std.specs.Map.{update}
use Rattle.std.specs.Ordering.{nat_cmp, int_cmp}
use Rattle.std.specs.BTreeMap.{get}
use Rattle.schema_model.specs.declared.value.Value.{Value}
use Rattle.schema_model.specs.declared.value.Value.TheVariants.{Whole, Str, Truth, Link}
use Rattle.schema_model.specs.Values.{same_value}
use Rattle.state_model.specs.declared.row.MapItem.{MapItem}
use Rattle.state_model.specs.declared.row.SetItem.{SetItem}
use Rattle.trees.specs.declared.text_index.TextIndex.{TextIndex}
use Rattle.trees.specs.Texts.{text_of, leads, IsSame, IsWith, IsWithout, IsLean}
use Rattle.collection_ops.specs.declared.value_index.ValueIndex.{ValueIndex}
use Rattle.collection_ops.specs.Bodies.{map_number, set_number, LeadsKeys, LeadsValues}

-- ---- keys

-- the key of an item
abbrev pub key_text : MapItem → Option (List ℕ)
key_text i = Some i.key

-- the key of the item of a number
abbrev pub key_texts : List MapItem → ℕ → Option (List ℕ)
key_texts items = text_of map_number key_text items

-- each key leads to the number of its item, and nothing is left over of others
pub record IsKeyIndex (items : List MapItem) (index : TextIndex) : Type 0 where
  pub keys : LeadsKeys items (leads (key_texts items) index)
  pub lean : IsLean (key_texts items) index

-- ---- values

-- the text that a value is
abbrev pub text_in : Value → Option (List ℕ)
text_in (Str text) = Some text
text_in v = None

-- the text of an item
abbrev pub value_text : SetItem → Option (List ℕ)
value_text i = text_in i.value

-- the text of the item of a number
abbrev pub value_texts : List SetItem → ℕ → Option (List ℕ)
value_texts items = text_of set_number value_text items

-- the number that a value leads to, if it is no text
abbrev pub plain_number : ValueIndex → Value → Option ℕ
plain_number index (Whole z) = get int_cmp index.wholes z
plain_number index (Str text) = None
plain_number index (Truth true) = index.yes
plain_number index (Truth false) = index.no
plain_number index (Link n) = get nat_cmp index.links n

-- the number that each value leads to
abbrev pub value_number : List SetItem → ValueIndex → Value → Option ℕ
value_number items index (Str text) = leads (value_texts items) index.texts text
value_number items index v = plain_number index v

-- all leads where it led
pub record IsSameIndex (old new : ValueIndex) : Type 0 where
  pub plain : (q : Value) → plain_number new q ≡ plain_number old q
  pub texts : IsSame old.texts new.texts

-- besides, a value leads to a number
abbrev pub IsWithValue : ValueIndex → ValueIndex → Value → ℕ → Type 0
IsWithValue old new (Str text) n = ((q : Value) → plain_number new q ≡ plain_number old q) × IsWith old.texts new.texts text n
IsWithValue old new v n = ((q : Value) → plain_number new q ≡ update same_value (plain_number old) v (Some n) q) × IsSame old.texts new.texts

-- a value leads to a number no more
abbrev pub IsWithoutValue : ValueIndex → ValueIndex → Value → ℕ → Type 0
IsWithoutValue old new (Str text) n = ((q : Value) → plain_number new q ≡ plain_number old q) × IsWithout old.texts new.texts text n
IsWithoutValue old new v n = ((q : Value) → plain_number new q ≡ update same_value (plain_number old) v None q) × IsSame old.texts new.texts

-- each value leads to the number of its item, and nothing is left over of others
pub record IsValueIndex (items : List SetItem) (index : ValueIndex) : Type 0 where
  pub values : LeadsValues items (value_number items index)
  pub lean : IsLean (value_texts items) index.texts
