-- Rows whose places are each as in one row or as in another.
use Rattle.std.proofs.Common.{◌≡◌, ℕ, Bool, true, false, ◌||◌, ◌&&◌, ◌==◌, List, Option, Some, None, bytes_eq}
use Rattle.std.specs.List.{list_any}
use Rattle.lists.specs.Rising.{RisesFrom}
use Rattle.schema_model.specs.Classes.{Schema}
use Rattle.schema_model.specs.declared.value.Value.{Value}
use Rattle.state_model.specs.declared.row.Row.{Row}
use Rattle.state_model.specs.declared.row.Row.TheVariants.{Struct, Map}
use Rattle.state_model.specs.declared.row.RowEntry.{RowEntry}
use Rattle.state_model.specs.declared.row.FieldValue.{FieldValue}
use Rattle.state_model.specs.declared.row.MapItem.{MapItem}
use Rattle.state_model.specs.Values.{same_value}
use Rattle.state_model.specs.Rows.{number_of, row_at, is_live, held_in, values_in, emptied}
use Rattle.state_model.specs.Reached.{is_among}
use Rattle.wire_laws.proofs.Forms.{IsFormed}
use Rattle.wire_laws.proofs.EditedPlaces.{all_places}

-- an instance has this value in this field
abbrev pub has_field : ℕ → Value → Row → Bool
has_field i v (Struct class fields) = list_any (λ (f : FieldValue). (f.field == i) && same_value f.value v) fields
has_field i v r = false

-- a collection has an item of this value
abbrev pub has_value : Value → Row → Bool
has_value v (Struct class fields) = false
has_value v r = list_any (λ u. same_value u v) (values_in r)

-- a map has an item of this number and key
abbrev pub has_key : ℕ → List ℕ → Row → Bool
has_key n key (Map home items) = list_any (λ (i : MapItem). (i.number == n) && bytes_eq i.key key) items
has_key n key r = false

-- a row passes, where there is one
abbrev pub some_row : (Row → Bool) → Option Row → Bool
some_row test None = false
some_row test (Some r) = test r

-- each place of the row is one of the first row or of the second
abbrev pub IsFrom : Option Row → Option Row → Row → Type 0
IsFrom a b r =
    all_places (λ i v. some_row (has_field i v) a || some_row (has_field i v) b) (λ v. some_row (has_value v) a || some_row (has_value v) b)
    (λ n key. some_row (has_key n key) a || some_row (has_key n key) b) r
    ≡ true

-- what is left of a client's rows by operations that lead to shared rows: well formed rows, of the kinds that these have, each with
-- places of these alone, and with links that lead to rows that are there
pub record Kept (schema : Schema) (client goal now : List RowEntry) : Type 0 where
  pub rises : RisesFrom number_of 0 now
  pub formed : (n : ℕ) (r : Row) → row_at now n ≡ Some r → IsFormed schema r
  pub client_kind : (n : ℕ) (r a : Row) → row_at now n ≡ Some r → row_at client n ≡ Some a → emptied r ≡ emptied a
  pub goal_kind : (n : ℕ) (r b : Row) → row_at now n ≡ Some r → row_at goal n ≡ Some b → emptied r ≡ emptied b
  pub there : (n : ℕ) → is_live now n ≡ true → (is_live client n || is_live goal n) ≡ true
  pub stays : (n : ℕ) → is_live client n ≡ true → is_live now n ≡ true
  pub origin : (n : ℕ) (r : Row) → row_at now n ≡ Some r → IsFrom (row_at client n) (row_at goal n) r
  pub links : (n m : ℕ) (r : Row) → row_at now n ≡ Some r → is_among m (held_in r) ≡ true → is_live now m ≡ true
