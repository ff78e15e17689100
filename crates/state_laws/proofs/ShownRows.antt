-- What a row with its shown places alone has of the row, and where such rows stand.
use Rattle.std.proofs.Common.{◌≡◌, ℕ, suc, Bool, true, ◌==◌, List, [], ◌∷◌, Option, Some, None, map, filter, refl, sym, ap, ◌∙◌, arith}
use Rattle.std.specs.Option.{option_map}
use Rattle.std.specs.List.{flat_map}
use Rattle.std.proofs.lemmas.Bool.Decides.{nat_tests}
use Rattle.lists.specs.Rising.{RisesFrom}
use Rattle.lists.proofs.Passing.{list_any_filtered, list_any-flat_map, list_any-made}
use Rattle.schema_model.specs.declared.value.Value.{Value}
use Rattle.schema_model.specs.declared.place.Pair.{Pair}
use Rattle.schema_model.specs.Classes.{Schema}
use Rattle.state_model.specs.declared.row.Row.{Row}
use Rattle.state_model.specs.declared.row.Row.TheVariants.{Struct, Map, Array, Set}
use Rattle.state_model.specs.declared.row.RowEntry.{RowEntry}
use Rattle.state_model.specs.declared.row.FieldValue.{FieldValue}
use Rattle.state_model.specs.declared.row.MapItem.{MapItem}
use Rattle.state_model.specs.declared.row.SetItem.{SetItem}
use Rattle.state_model.specs.Values.{held_by}
use Rattle.state_model.specs.Rows.{number_of, row_at, held_in, emptied}
use Rattle.state_model.specs.Reached.{is_among}
use Rattle.state_model.specs.Shown.{shows_field, shows_item, shown_row, shown}

-- a row with its shown places alone is of the row's kind
pub shown_kind : (schema : Schema) (M : List Pair) (who : ℕ) (r : Row) → emptied (shown_row schema M who r) ≡ emptied r
shown_kind schema M who (Struct class fields) = refl
shown_kind schema M who (Map home items) = refl
shown_kind schema M who (Array home values) = refl
shown_kind schema M who (Set home items) = refl

-- a value of a place holds a number
abbrev pub holds : ℕ → Value → Bool
holds m v = is_among m (held_by v)

-- what filtered places hold is held
held_filtered : {X : Type 0} (f : X → Value) (q : X → Bool) (m : ℕ) (xs : List X) → is_among m (flat_map held_by (map f (filter q xs))) ≡ true → is_among m (flat_map held_by (map f xs)) ≡ true
held_filtered f q m xs h =
    list_any-made (λ k. k == m) held_by f xs ∙ list_any_filtered (λ x. holds m (f x)) q xs (sym (list_any-made (λ k. k == m) held_by f (filter q xs)) ∙ h)

-- what a row with its shown places alone holds is held in the row
pub shown_held : (schema : Schema) (M : List Pair) (who m : ℕ) (r : Row) → is_among m (held_in (shown_row schema M who r)) ≡ true → is_among m (held_in r) ≡ true
shown_held schema M who m (Struct class fields) h = held_filtered (λ (f : FieldValue). f.value) (shows_field schema M who class) m fields h
shown_held schema M who m (Map home items) h = held_filtered (λ (i : MapItem). i.value) (λ (i : MapItem). shows_item schema M who home i.value) m items h
shown_held schema M who m (Array home values) h =
    list_any-flat_map (λ k. k == m) held_by values ∙ list_any_filtered (holds m) (shows_item schema M who home) values (sym (list_any-flat_map (λ k. k == m) held_by (filter (shows_item schema M who home) values)) ∙ h)
shown_held schema M who m (Set home items) h = held_filtered (λ (i : SetItem). i.value) (λ (i : SetItem). shows_item schema M who home i.value) m items h

-- rows rise with their shown places alone
pub shown_rises : (schema : Schema) (M : List Pair) (low : ℕ) (rows : List RowEntry) → RisesFrom number_of low rows → RisesFrom number_of low (shown schema M rows)
shown_rises schema M low [] r = tt
shown_rises schema M low (e ∷ rows) r = (r.0, shown_rises schema M (suc e.who) rows r.1)

-- rows of one number show alike
shown_same : (schema : Schema) (M : List Pair) (a b : ℕ) (r : Row) → a ≡ b → shown_row schema M a r ≡ shown_row schema M b r
shown_same schema M a b r h = ap (λ n. shown_row schema M n r) h

-- at a number stands the row of the number with its shown places alone
pub shown_at : (schema : Schema) (M : List Pair) (rows : List RowEntry) (n : ℕ) → row_at (shown schema M rows) n ≡ option_map (shown_row schema M n) (row_at rows n)
shown_at schema M [] n = refl
shown_at schema M (e ∷ rows) n = grind (arith, nat_tests, shown_at schema M rows n, shown_same schema M e.who n e.row)

-- what is made of an option is made of what is in it
made_by : {A B : Type 0} (f : A → B) (o : Option A) (b : B) → option_map f o ≡ Some b → (a : A) × (o ≡ Some a) × (b ≡ f a)
made_by f None b h = cc
made_by f (Some a) b h = (a, refl, cc)

-- what stands among rows with their shown places alone is what a row of its number shows
pub shown_from : (schema : Schema) (M : List Pair) (rows : List RowEntry) (n : ℕ) (a : Row) → row_at (shown schema M rows) n ≡ Some a → (r : Row) × (row_at rows n ≡ Some r) × (a ≡ shown_row schema M n r)
shown_from schema M rows n a h = made_by (shown_row schema M n) (row_at rows n) a (sym (shown_at schema M rows n) ∙ h)
