-- The keys of the items of a map, and what an index of them is without some.
use Rattle.std.specs.Prelude.{◌≡◌, ℕ, List, Option, Some, None, IfSome}
use Rattle.lists.specs.Rising as rising
use Rattle.state_model.specs.declared.row.MapItem.{MapItem}
use Rattle.trees.specs.declared.text_index.TextIndex.{TextIndex}
use Rattle.trees.specs.Texts.{text_of, IsWithout}

-- the key of the item of a number
abbrev pub key_texts : List MapItem → ℕ → Option (List ℕ)
key_texts items = text_of (λ (i : MapItem). i.number) (λ i. Some i.key) items

-- the items without that of a number, where there is one
abbrev pub without_item : Option ℕ → List MapItem → List MapItem
without_item None items = items
without_item (Some n) items = rising.remove (λ (i : MapItem). i.number) n items

-- a key leads no more to a number, where there is one
abbrev pub IsWithoutAny : TextIndex → TextIndex → List ℕ → Option ℕ → Type 0
IsWithoutAny old new key None = new ≡ old
IsWithoutAny old new key (Some n) = IsWithout old new key n

-- the key of an item leads no more to its number, where there is an item
abbrev pub IsWithoutItem : TextIndex → TextIndex → Option MapItem → Type 0
IsWithoutItem old new None = new ≡ old
IsWithoutItem old new (Some i) = IsWithout old new i.key i.number

-- the same of an index that may not be there
abbrev pub IsIndexWithout : Option TextIndex → Option TextIndex → Option MapItem → Type 0
IsIndexWithout None new item = new ≡ None
IsIndexWithout (Some old) new item = IfSome new (λ i. IsWithoutItem old i item)
