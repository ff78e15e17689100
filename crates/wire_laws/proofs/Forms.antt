-- What it takes of two rows that operations lead from one to the other.
use Rattle.std.proofs.Common.{◌≡◌, true, map}
use Rattle.std.specs.List.{list_all}
use Rattle.lists.specs.Rising.{RisesFrom}
use Rattle.schema_model.specs.Classes.{Schema}
use Rattle.state_model.specs.declared.row.Row.{Row}
use Rattle.state_model.specs.declared.row.Row.TheVariants.{Struct, Map, Array, Set}
use Rattle.state_model.specs.declared.row.FieldValue.{FieldValue}
use Rattle.state_model.specs.declared.row.MapItem.{MapItem}
use Rattle.state_model.specs.declared.row.SetItem.{SetItem}
use Rattle.state_model.specs.Values.{is_link}
use Rattle.state_model.specs.Sound.{differ, keys_differ}
use Rattle.state_model.specs.Places.{is_filtered}
pub use Rattle.wire_laws.specs.PatchLaw.{SameKeys}

-- fields and item numbers rise, the keys of a map differ, and the items of a filtered array are links that differ
abbrev pub IsFormed : Schema → Row → Type 0
IsFormed schema (Struct class fields) = RisesFrom (λ (f : FieldValue). f.field) 0 fields
IsFormed schema (Map home items) = RisesFrom (λ (i : MapItem). i.number) 0 items × (keys_differ (map (λ (i : MapItem). i.key) items) ≡ true)
IsFormed schema (Array home values) = is_filtered schema home ≡ true → (differ values ≡ true) × (list_all is_link values ≡ true)
IsFormed schema (Set home items) = RisesFrom (λ (i : SetItem). i.number) 0 items
