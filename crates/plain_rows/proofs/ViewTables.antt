-- The table of fields says of each place what the schema says.
use Rattle.std.proofs.Common.{◌≡◌, ℕ, ◌≤◌, true, false, ◌||◌, ◌==◌, cond, List, [], ◌∷◌, ◌++◌, length, map, drop, Option, Some, None, ℤ, slice_get, unwrap_or, option_and_then, refl, sym, ap, ◌∙◌}
use Rattle.std.specs.Option.{option_map}
use Rattle.std.proofs.lemmas.Option.{slice_get-map}
use Rattle.std.proofs.lemmas.List.{length-map, map-append, drop_all}
use Rattle.std.proofs.lemmas.List.Elements.{filter_agree}
use Rattle.schema_model.specs.declared.value.Value.{Value}
use Rattle.schema_model.specs.declared.value.Value.TheVariants as value
use Rattle.schema_model.specs.declared.place.Home.{Home}
use Rattle.schema_model.specs.declared.place.Pair.{Pair}
use Rattle.schema_model.specs.declared.class.Class.{Class}
use Rattle.schema_model.specs.declared.class.FieldDecl.{FieldDecl}
use Rattle.schema_model.specs.declared.class.Item.{Item}
use Rattle.schema_model.specs.declared.class.Item.TheVariants as item
use Rattle.schema_model.specs.declared.class.Shape.{Shape}
use Rattle.schema_model.specs.declared.class.Shape.TheVariants as shape
use Rattle.schema_model.specs.Classes.{Schema, Declared, inherited, fields_from, fields_of, own_field, item_of}
use Rattle.state_model.specs.declared.row.Row.{Row}
use Rattle.state_model.specs.declared.row.Row.TheVariants.{Struct, Map, Array, Set}
use Rattle.state_model.specs.declared.row.RowEntry.{RowEntry}
use Rattle.state_model.specs.declared.row.FieldValue.{FieldValue}
use Rattle.state_model.specs.declared.row.MapItem.{MapItem}
use Rattle.state_model.specs.declared.row.SetItem.{SetItem}
use Rattle.state_model.specs.Shown.{is_member, links_member, tagged_field_shown, field_shown, item_shown, declared_field_shown, declared_item_shown, shows_field, shows_item, shown_row, shown}
use Rattle.plain_rows.specs.declared.view_fields.ViewField.{ViewField}
use Rattle.plain_rows.specs.Members.{SameMembers}
use Rattle.plain_rows.specs.Views.{own_view_field, view_field, view_fields, view_inherited, view_fields_next, view_fields_from, view_field_at, declared_by, home_view_field, view_shows_field, view_shows_item, view_shows, view_row, view_rows}

-- the table

-- of the fields of one class
abbrev seen_of : List Declared → List ViewField
seen_of ds = map view_field ds

found_or_none : (o : Option (List Declared)) → unwrap_or (option_map seen_of o) [] ≡ seen_of (unwrap_or o [])
found_or_none None = refl
found_or_none (Some ds) = refl

seen_inherited : (earlier : List (List Declared)) (parent : Option ℕ) → view_inherited (map seen_of earlier) parent ≡ seen_of (inherited earlier parent)
seen_inherited earlier None = refl
seen_inherited earlier (Some parent) = ap (λ o. unwrap_or o []) (slice_get-map seen_of earlier parent) ∙ found_or_none (slice_get earlier parent)

-- a field with the class that declares it
abbrev declared : ℕ → FieldDecl → Declared
declared class f = record { class = class; field = f }

seen_own : (class : ℕ) (fs : List FieldDecl) → map (own_view_field class) fs ≡ seen_of (map (declared class) fs)
seen_own class [] = refl
seen_own class (f ∷ fs) = ap (λ vs. own_view_field class f ∷ vs) (seen_own class fs)

seen_next : (earlier : List (List Declared)) (c : Class) → view_fields_next (map seen_of earlier) c ≡ seen_of (inherited earlier c.parent ++ map (declared (length earlier)) c.own)
seen_next earlier c =
    ap (λ vs. vs ++ map (own_view_field (length (map seen_of earlier))) c.own) (seen_inherited earlier c.parent)
    ∙ ap (λ n. seen_of (inherited earlier c.parent) ++ map (own_view_field n) c.own) (length-map earlier seen_of)
    ∙ ap (λ vs. seen_of (inherited earlier c.parent) ++ vs) (seen_own (length earlier) c.own)
    ∙ sym (map-append view_field (inherited earlier c.parent) (map (declared (length earlier)) c.own))

seen_from : (earlier : List (List Declared)) (cs : List Class) → view_fields_from (map seen_of earlier) cs ≡ map seen_of (fields_from earlier cs)
seen_from earlier [] = refl
seen_from earlier (c ∷ cs) =
    let next : List Declared = inherited earlier c.parent ++ map (declared (length earlier)) c.own in
    ap (λ vs. view_fields_from (map seen_of earlier ++ vs ∷ []) cs) (seen_next earlier c)
    ∙ ap (λ vs. view_fields_from vs cs) (sym (map-append seen_of earlier (next ∷ [])))
    ∙ seen_from (earlier ++ next ∷ []) cs

-- class by class, the table is that of all fields
pub table_is : (s : Schema) → view_fields_from [] s.classes ≡ view_fields s
table_is s = seen_from [] s.classes

-- behind the last class it is whole
pub table_whole : (s : Schema) (table : List (List ViewField)) (cs : List Class) (i : ℕ) → length cs ≤ i → view_fields_from table (drop i cs) ≡ view_fields_from [] cs → cs ≡ s.classes → table ≡ view_fields s
table_whole s table cs i l h e =
    let done : view_fields_from table (drop i cs) ≡ table = ap (view_fields_from table) (drop_all i cs l) in
    sym done ∙ h ∙ ap (view_fields_from []) e ∙ table_is s

-- what stands in it at a class and an index
seen_at : (s : Schema) (class index : ℕ) → view_field_at (view_fields s) class index ≡ option_map view_field (slice_get (fields_of s class) index)
seen_at s class index =
    ap (λ o. slice_get (unwrap_or o []) index) (slice_get-map seen_of (fields_from [] s.classes) class)
    ∙ ap (λ vs. slice_get vs index) (found_or_none (slice_get (fields_from [] s.classes) class))
    ∙ slice_get-map view_field (fields_of s class) index

-- what is shown

same_links : (xs ys : List Pair) → SameMembers xs ys → (tag : ℤ) (v : Value) → links_member xs tag v ≡ links_member ys tag v
same_links xs ys h tag (value.Whole z) = refl
same_links xs ys h tag (value.Str t) = refl
same_links xs ys h tag (value.Truth b) = refl
same_links xs ys h tag (value.Link n) = h n tag

same_either : (xs ys : List Pair) → SameMembers xs ys → (who : ℕ) (tag : ℤ) (v : Value) → (is_member xs who tag || links_member xs tag v) ≡ (is_member ys who tag || links_member ys tag v)
same_either xs ys h who tag v = ap (λ b. b || links_member xs tag v) (h who tag) ∙ ap (λ b. is_member ys who tag || b) (same_links xs ys h tag v)

same_tagged : (xs ys : List Pair) → SameMembers xs ys → (who : ℕ) (tag : ℤ) (s : Shape) (v : Value) → tagged_field_shown xs who tag s v ≡ tagged_field_shown ys who tag s v
same_tagged xs ys h who tag (shape.One (item.Scalar k)) v = h who tag
same_tagged xs ys h who tag (shape.One (item.Class c)) v = same_either xs ys h who tag v
same_tagged xs ys h who tag (shape.Map (item.Scalar k)) v = same_either xs ys h who tag v
same_tagged xs ys h who tag (shape.Map (item.Class c)) v = refl
same_tagged xs ys h who tag (shape.Array (item.Scalar k)) v = same_either xs ys h who tag v
same_tagged xs ys h who tag (shape.Array (item.Class c)) v = refl
same_tagged xs ys h who tag (shape.Set (item.Scalar k)) v = same_either xs ys h who tag v
same_tagged xs ys h who tag (shape.Set (item.Class c)) v = refl

same_field : (xs ys : List Pair) → SameMembers xs ys → (who : ℕ) (s : Shape) (v : Value) (tag : Option ℤ) → field_shown xs who s v tag ≡ field_shown ys who s v tag
same_field xs ys h who s v None = refl
same_field xs ys h who s v (Some tag) = same_tagged xs ys h who tag s v

same_item : (xs ys : List Pair) → SameMembers xs ys → (who : ℕ) (i : Item) (v : Value) (tag : Option ℤ) → item_shown xs who i v tag ≡ item_shown ys who i v tag
same_item xs ys h who i v None = refl
same_item xs ys h who (item.Scalar k) v (Some tag) = refl
same_item xs ys h who (item.Class c) v (Some tag) = same_either xs ys h who tag v

field_seen : (xs ys : List Pair) → SameMembers xs ys → (who : ℕ) (v : Value) (o : Option Declared) → view_shows_field xs who v (option_map view_field o) ≡ declared_field_shown ys who v (option_map (λ (d : Declared). d.field) o)
field_seen xs ys h who v None = refl
field_seen xs ys h who v (Some d) = same_field xs ys h who d.field.shape v d.field.tag

shows_same : (s : Schema) (xs ys : List Pair) → SameMembers xs ys → (who class : ℕ) (f : FieldValue) → view_shows (view_fields s) xs who class f ≡ shows_field s ys who class f
shows_same s xs ys h who class f = ap (view_shows_field xs who f.value) (seen_at s class f.field) ∙ field_seen xs ys h who f.value (slice_get (fields_of s class) f.field)

item_at_home : (xs ys : List Pair) → SameMembers xs ys → (who class : ℕ) (v : Value) (o : Option Declared)
    → view_shows_item xs who (option_and_then (declared_by class) (option_map view_field o)) v ≡ declared_item_shown ys who v (option_and_then (own_field class) o)
item_at_home xs ys h who class v None = refl
item_at_home xs ys h who class v (Some d) =
    elim (d.class == class) as (λ b. view_shows_item xs who (cond b (Some (view_field d)) None) v ≡ declared_item_shown ys who v (cond b (Some d.field) None)) [ true ↦ same_item xs ys h who (item_of d.field.shape) v d.field.tag | false ↦ refl ]

item_same : (s : Schema) (xs ys : List Pair) → SameMembers xs ys → (who : ℕ) (home : Home) (v : Value) → view_shows_item xs who (home_view_field (view_fields s) home) v ≡ shows_item s ys who home v
item_same s xs ys h who home v =
    ap (λ o. view_shows_item xs who (option_and_then (declared_by home.class) o) v) (seen_at s home.class home.field) ∙ item_at_home xs ys h who home.class v (slice_get (fields_of s home.class) home.field)

row_same : (s : Schema) (xs ys : List Pair) → SameMembers xs ys → (who : ℕ) (r : Row) → view_row (view_fields s) xs who r ≡ shown_row s ys who r
row_same s xs ys h who (Struct class fields) = ap (Struct class) (filter_agree (view_shows (view_fields s) xs who class) (shows_field s ys who class) (shows_same s xs ys h who class) fields)
row_same s xs ys h who (Map home items) = ap (Map home) (filter_agree (λ (i : MapItem). view_shows_item xs who (home_view_field (view_fields s) home) i.value)
    (λ (i : MapItem). shows_item s ys who home i.value) (λ i. item_same s xs ys h who home i.value) items)
row_same s xs ys h who (Array home values) = ap (Array home) (filter_agree (view_shows_item xs who (home_view_field (view_fields s) home)) (shows_item s ys who home) (item_same s xs ys h who home) values)
row_same s xs ys h who (Set home items) = ap (Set home) (filter_agree (λ (i : SetItem). view_shows_item xs who (home_view_field (view_fields s) home) i.value)
    (λ (i : SetItem). shows_item s ys who home i.value) (λ i. item_same s xs ys h who home i.value) items)

-- a row with its number
abbrev entry : ℕ → Row → RowEntry
entry n r = record { who = n; row = r }

-- by the table and the same members, the rows show what they show by the schema
pub rows_same : (s : Schema) (xs ys : List Pair) → SameMembers xs ys → (rows : List RowEntry) → view_rows (view_fields s) xs rows ≡ shown s ys rows
rows_same s xs ys h [] = refl
rows_same s xs ys h (e ∷ rows) =
    let first : view_row (view_fields s) xs e.who e.row ≡ shown_row s ys e.who e.row = row_same s xs ys h e.who e.row in
    ap (λ r. entry e.who r ∷ view_rows (view_fields s) xs rows) first ∙ ap (λ es. entry e.who (shown_row s ys e.who e.row) ∷ es) (rows_same s xs ys h rows)
