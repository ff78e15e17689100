-- The shared view is within every permitted view: each of its rows is permitted to any members, and each of its places with the same value.
use Rattle.std.proofs.Common.{◌≡◌, ℕ, Bool, true, false, List, [], ◌∷◌, ℤ, Option, Some, None, filter, refl, sym, ap, subst, ◌∙◌, arith}
use Rattle.std.proofs.lemmas.Bool.Decides.{nat_tests}
use Rattle.lists.specs.Rising.{RisesFrom, find}
use Rattle.lists.proofs.RisingLaws.{find_key}
use Rattle.schema_model.specs.declared.value.Value.{Value}
use Rattle.schema_model.specs.declared.value.Value.TheVariants as value
use Rattle.schema_model.specs.declared.place.Home.{Home}
use Rattle.schema_model.specs.declared.place.Pair.{Pair}
use Rattle.schema_model.specs.declared.class.FieldDecl.{FieldDecl}
use Rattle.schema_model.specs.declared.class.Item.{Item}
use Rattle.schema_model.specs.declared.class.Item.TheVariants as item
use Rattle.schema_model.specs.declared.class.Shape.{Shape}
use Rattle.schema_model.specs.declared.class.Shape.TheVariants as shape
use Rattle.schema_model.specs.Classes.{Schema, field_of, home_field, item_of}
use Rattle.state_model.specs.declared.row.Row.{Row}
use Rattle.state_model.specs.declared.row.Row.TheVariants.{Struct, Map, Array, Set}
use Rattle.state_model.specs.declared.row.RowEntry.{RowEntry}
use Rattle.state_model.specs.declared.row.FieldValue.{FieldValue}
use Rattle.state_model.specs.declared.row.MapItem.{MapItem}
use Rattle.state_model.specs.declared.row.SetItem.{SetItem}
use Rattle.state_model.specs.Rows.{number_of, row_at, held_in, emptied}
use Rattle.state_model.specs.Reached.{is_among, reached}
use Rattle.state_model.specs.Shown.{links_member, tagged_field_shown, field_shown, item_shown, declared_field_shown, declared_item_shown, shows_field, shows_item, shown_row, shown, permitted, shared}
use Rattle.state_laws.proofs.ShownRows.{shown_kind, shown_held, shown_rises, shown_from}
use Rattle.state_laws.proofs.PermittedLaws.{permitted_from, permitted_at, reached_within, shown_there}

-- each place of the first row is one of the second with the same value: a field by its number, an item of a map or a set by
-- its number, with its key; the values of an array are those of the other that pass a test, in their order
abbrev pub Within : Row → Row → Type 0
Within (Struct c fields) (Struct d others) = (k : ℕ) (f : FieldValue) → find (λ (g : FieldValue). g.field) k fields ≡ Some f → find (λ (g : FieldValue). g.field) k others ≡ Some f
Within (Map h items) (Map g others) = (k : ℕ) (i : MapItem) → find (λ (j : MapItem). j.number) k items ≡ Some i → find (λ (j : MapItem). j.number) k others ≡ Some i
Within (Array h values) (Array g others) = (keep : Value → Bool) × (values ≡ filter keep others)
Within (Set h items) (Set g others) = (k : ℕ) (i : SetItem) → find (λ (j : SetItem). j.number) k items ≡ Some i → find (λ (j : SetItem). j.number) k others ≡ Some i
Within a b = ⊥

-- what is shown to no members is shown to any, whatever the value

-- no value holds a row that is a member where there are none
no_member_linked : (tag : ℤ) (v : Value) → links_member [] tag v ≡ false
no_member_linked tag (value.Whole z) = refl
no_member_linked tag (value.Str t) = refl
no_member_linked tag (value.Truth b) = refl
no_member_linked tag (value.Link n) = refl

-- a tagged field that is shown to no members is shown to any
tagged_always : (M : List Pair) (who : ℕ) (tag : ℤ) (s : Shape) (v w : Value) → tagged_field_shown [] who tag s v ≡ true → tagged_field_shown M who tag s w ≡ true
tagged_always M who tag (shape.One (item.Scalar k)) v w h = cc
tagged_always M who tag (shape.One (item.Class c)) v w h = let no = no_member_linked tag v in cc
tagged_always M who tag (shape.Map (item.Scalar k)) v w h = let no = no_member_linked tag v in cc
tagged_always M who tag (shape.Map (item.Class c)) v w h = refl
tagged_always M who tag (shape.Array (item.Scalar k)) v w h = let no = no_member_linked tag v in cc
tagged_always M who tag (shape.Array (item.Class c)) v w h = refl
tagged_always M who tag (shape.Set (item.Scalar k)) v w h = let no = no_member_linked tag v in cc
tagged_always M who tag (shape.Set (item.Class c)) v w h = refl

-- a field of a shape that is shown to no members is shown to any
field_always : (M : List Pair) (who : ℕ) (s : Shape) (v w : Value) (tag : Option ℤ) → field_shown [] who s v tag ≡ true → field_shown M who s w tag ≡ true
field_always M who s v w None h = refl
field_always M who s v w (Some tag) h = tagged_always M who tag s v w h

-- an item that is shown to no members is shown to any
item_always : (M : List Pair) (who : ℕ) (i : Item) (v w : Value) (tag : Option ℤ) → item_shown [] who i v tag ≡ true → item_shown M who i w tag ≡ true
item_always M who i v w None h = refl
item_always M who (item.Scalar k) v w (Some tag) h = refl
item_always M who (item.Class c) v w (Some tag) h = let no = no_member_linked tag v in cc

-- a field of a declaration that is shown to no members is shown to any
declared_field_always : (M : List Pair) (who : ℕ) (v w : Value) (d : Option FieldDecl) → declared_field_shown [] who v d ≡ true → declared_field_shown M who w d ≡ true
declared_field_always M who v w None h = refl
declared_field_always M who v w (Some d) h = field_always M who d.shape v w d.tag h

-- an item under a declaration that is shown to no members is shown to any
declared_item_always : (M : List Pair) (who : ℕ) (v w : Value) (d : Option FieldDecl) → declared_item_shown [] who v d ≡ true → declared_item_shown M who w d ≡ true
declared_item_always M who v w None h = refl
declared_item_always M who v w (Some d) h = item_always M who (item_of d.shape) v w d.tag h

-- a field that is shown to no members is shown to any, with any value
pub shows_field_always : (schema : Schema) (M : List Pair) (who class : ℕ) (f g : FieldValue) → f.field ≡ g.field → shows_field schema [] who class f ≡ true → shows_field schema M who class g ≡ true
shows_field_always schema M who class f g same h =
    declared_field_always M who f.value g.value (field_of schema class g.field) (ap (λ k. declared_field_shown [] who f.value (field_of schema class k)) (sym same) ∙ h)

-- an item that is shown to no members is shown to any, with any value
pub shows_item_always : (schema : Schema) (M : List Pair) (who : ℕ) (home : Home) (v w : Value) → shows_item schema [] who home v ≡ true → shows_item schema M who home w ≡ true
shows_item_always schema M who home v w h = declared_item_always M who v w (home_field schema home) h

-- two tests of which one is narrower

-- what passes the narrower test is what does so of what passes the wider one
filter_again : {X : Type 0} (p q : X → Bool) (xs : List X) → ((x : X) → p x ≡ true → q x ≡ true) → filter p xs ≡ filter p (filter q xs)
filter_again p q [] n = refl
filter_again p q (x ∷ xs) n = grind (arith, nat_tests, n x, filter_again p q xs n)

module _ {E : Type 0} (key : E → ℕ) where
  -- what is found among what passes a test passes it
  found_passes : (p : E → Bool) (es : List E) (k : ℕ) (e : E) → find key k (filter p es) ≡ Some e → p e ≡ true
  found_passes p [] k e h = cc
  found_passes p (x ∷ es) k e h = grind (arith, nat_tests, found_passes p es k e)

  -- where a test looks at the key alone, what is found among what passes it is found among what passes a wider one
  found_wider : (p q : E → Bool) (es : List E) (k : ℕ) (e : E) → ((x : E) → p x ≡ true → q x ≡ true) → ((x y : E) → key x ≡ key y → p x ≡ true → p y ≡ true) → find key k (filter p es) ≡ Some e → find key k (filter q es) ≡ Some e
  found_wider p q [] k e n alike h = h
  found_wider p q (x ∷ es) k e n alike h =
      grind (arith, nat_tests, n x, alike e x, found_passes p es k e, find_key key k (filter p es) e, found_wider p q es k e n alike)

-- what a row shows to no members is within what it shows to any
pub shown_within : (schema : Schema) (M : List Pair) (who : ℕ) (r : Row) → Within (shown_row schema [] who r) (shown_row schema M who r)
shown_within schema M who (Struct class fields) = λ k f h.
    found_wider (λ (g : FieldValue). g.field) (shows_field schema [] who class) (shows_field schema M who class) fields k f
    (λ g. shows_field_always schema M who class g g refl) (shows_field_always schema [] who class) h
shown_within schema M who (Map home items) = λ k i h.
    found_wider (λ (j : MapItem). j.number) (λ (j : MapItem). shows_item schema [] who home j.value) (λ (j : MapItem). shows_item schema M who home j.value) items k i
    (λ j. shows_item_always schema M who home j.value j.value) (λ a b same. shows_item_always schema [] who home a.value b.value) h
shown_within schema M who (Array home values) =
    (shows_item schema [] who home, filter_again (shows_item schema [] who home) (shows_item schema M who home) values (λ v. shows_item_always schema M who home v v))
shown_within schema M who (Set home items) = λ k i h.
    found_wider (λ (j : SetItem). j.number) (λ (j : SetItem). shows_item schema [] who home j.value) (λ (j : SetItem). shows_item schema M who home j.value) items k i
    (λ j. shows_item_always schema M who home j.value j.value) (λ a b same. shows_item_always schema [] who home a.value b.value) h

-- what a row shows to no members, it does of what it shows to any
pub shown_again : (schema : Schema) (M : List Pair) (who : ℕ) (r : Row) → shown_row schema [] who r ≡ shown_row schema [] who (shown_row schema M who r)
shown_again schema M who (Struct class fields) =
    ap (Struct class) (filter_again (shows_field schema [] who class) (shows_field schema M who class) fields (λ f. shows_field_always schema M who class f f refl))
shown_again schema M who (Map home items) =
    ap (Map home) (filter_again (λ (i : MapItem). shows_item schema [] who home i.value) (λ (i : MapItem). shows_item schema M who home i.value) items (λ i. shows_item_always schema M who home i.value i.value))
shown_again schema M who (Array home values) =
    ap (Array home) (filter_again (shows_item schema [] who home) (shows_item schema M who home) values (λ v. shows_item_always schema M who home v v))
shown_again schema M who (Set home items) =
    ap (Set home) (filter_again (λ (i : SetItem). shows_item schema [] who home i.value) (λ (i : SetItem). shows_item schema M who home i.value) items (λ i. shows_item_always schema M who home i.value i.value))

-- what a row holds in places shown to no members it holds in places shown to any
shared_held : (schema : Schema) (M : List Pair) (who m : ℕ) (r : Row) → is_among m (held_in (shown_row schema [] who r)) ≡ true → is_among m (held_in (shown_row schema M who r)) ≡ true
shared_held schema M who m r h = shown_held schema [] who m (shown_row schema M who r) (ap (λ q. is_among m (held_in q)) (sym (shown_again schema M who r)) ∙ h)

-- what is reached through places shown to no members is reached through places shown to any
pub shared_reached : (schema : Schema) (rows : List RowEntry) (M : List Pair) → RisesFrom number_of 0 rows → (n : ℕ) → is_among n (reached (shown schema [] rows) 0) ≡ true → is_among n (reached (shown schema M rows) 0) ≡ true
shared_reached schema rows M rise n h =
    reached_within (shown schema [] rows) (shown schema M rows) (shown_rises schema [] 0 rows rise) (shown_rises schema M 0 rows rise)
    (λ k m a s t.
    let from = shown_from schema [] rows k a s in
    (shown_row schema M k from.0, shown_there schema rows M k from.0 from.1, shared_held schema M k m from.0 (ap (λ q. is_among m (held_in q)) (sym from.2) ∙ t)))
    0 n h

-- a row of the shared view is permitted to any members, as a row of its kind that has each of its places
pub shared_within : (schema : Schema) (rows : List RowEntry) (M : List Pair) (n : ℕ) (a : Row) → RisesFrom number_of 0 rows → row_at (shared schema rows) n ≡ Some a
    → (b : Row) × (row_at (permitted schema rows M) n ≡ Some b) × (emptied a ≡ emptied b) × Within a b
shared_within schema rows M n a rise h =
    let from = permitted_from schema rows [] n a rise h in
    let b = shown_row schema M n from.0 in (
      b,
      permitted_at schema rows M n from.0 rise from.1 (shared_reached schema rows M rise n from.3),
      ap emptied from.2 ∙ shown_kind schema [] n from.0 ∙ sym (shown_kind schema M n from.0),
      subst (λ (q : Row). Within q b) (sym from.2) (shown_within schema M n from.0),
    )
