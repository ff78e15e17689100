-- What the fields of a kept schema are declared to hold is of the schema: a class of it, or a collection of a home of it.
use Rattle.std.proofs.Common.{◌≡◌, ℕ, zero, suc, ◌-◌, ◌<◌, Bool, true, false, cond, ◌&&◌, ◌==◌, List, [], ◌∷◌, length, map, Option, Some, None, slice_get, option_and_then, refl, sym, ap, subst, ◌∙◌, arith}
use Rattle.std.specs.List.{list_all}
use Rattle.std.specs.Option.{option_map}
use Rattle.std.specs.Prelude.{nat_lt, nat_le}
use Rattle.std.proofs.lemmas.Bool.{and_parts}
use Rattle.std.proofs.lemmas.Bool.Decides.{nat_tests}
use Rattle.lists.proofs.ListFacts.{all-slice_get}
use Rattle.schema_model.specs.declared.class.Class.{Class}
use Rattle.schema_model.specs.declared.class.FieldDecl.{FieldDecl}
use Rattle.schema_model.specs.declared.class.Item.{Item}
use Rattle.schema_model.specs.declared.class.Item.TheVariants as item
use Rattle.schema_model.specs.declared.class.Shape.{Shape}
use Rattle.schema_model.specs.declared.class.Shape.TheVariants as shape
use Rattle.schema_model.specs.declared.place.Home.{Home}
use Rattle.schema_model.specs.Classes.{Schema, Declared, inherited, fields_from, fields_of, home_field, own_field, item_of, item_in_range, parents_earlier, is_kept}
use Rattle.schema_model.proofs.FieldTables.{declared_by, no_fields, own_part, inherited_part, height_falls, height}
use Rattle.state_model.specs.declared.row.Row.{Row}
use Rattle.state_model.specs.declared.row.Row.TheVariants.{Map, Array, Set}
use Rattle.state_model.specs.declared.place.Expected.{Expected}
use Rattle.state_model.specs.declared.place.Expected.TheVariants.{Item as AnItem, Collection as ACollection}
use Rattle.state_model.specs.Places.{expected_by, field_expects, item_expects, collection_of, empty_collection}
use Rattle.state_model.specs.Sound.{has_kind}
use Rattle.state_model.specs.Rows.{root_alone}
use Rattle.patch_decoder.specs.Decoders.{AreKnown}
use Rattle.wire_laws.proofs.KindLaws.{same_kind_self}
use Rattle.wire_model.specs.Grammar.{new_collection}

-- ---- what a kept schema says

-- the items of its fields are in range
abbrev are_ranged : Schema → Bool
are_ranged s = list_all (λ (c : Class). list_all (λ (f : FieldDecl). item_in_range (length s.classes) (item_of f.shape)) c.own) s.classes

-- the root is a class, parents stand earlier, and items are in range
kept_parts : (s : Schema) → is_kept s ≡ true → (nat_lt s.root (length s.classes) ≡ true) × (parents_earlier 0 s.classes ≡ true) × (are_ranged s ≡ true)
kept_parts s h =
    let few = nat_le (length s.classes) 256 in
    let root = nat_lt s.root (length s.classes) in
    let early = parents_earlier 0 s.classes in
    let wide = list_all (λ (fs : List Declared). nat_le (length fs) 63) (fields_from [] s.classes) in
    let most = and_parts (few && root && early && are_ranged s) wide h in
    let prefix = and_parts (few && root && early) (are_ranged s) most.0 in
    let first = and_parts (few && root) early prefix.0 in
    ((and_parts few root first.0).1, first.1, prefix.1)

-- the root alone is known
pub root_known : (s : Schema) → is_kept s ≡ true → AreKnown s (root_alone s)
root_known s h = record { root = refl; kinds = ap (λ b. b && true) (kept_parts s h).0 }

-- one of a class's own fields
own_is : (n : ℕ) (fs : List FieldDecl) (i : ℕ) (d : Declared) → slice_get (map (declared_by n) fs) i ≡ Some d → (f : FieldDecl) × (slice_get fs i ≡ Some f) × (d ≡ declared_by n f)
own_is n [] i d e = absurd (cc)
own_is n (f ∷ fs) zero d e = (f, refl, cc)
own_is n (f ∷ fs) (suc i) d e = own_is n fs i d e

-- what is at a place is within the list
within : {A : Type 0} (xs : List A) (i : ℕ) (x : A) → slice_get xs i ≡ Some x → i < length xs
within [] i x e = absurd (cc)
within (y ∷ ys) zero x e = omega arith
within (y ∷ ys) (suc i) x e = let h = within ys i x e in omega arith

-- ---- fields

-- a field stands with its class and its item
record IsDeclared (s : Schema) (index : ℕ) (d : Declared) : Type 0 where
  home : home_field s (record { class = d.class; field = index }) ≡ Some d.field
  ranged : item_in_range (length s.classes) (item_of d.field.shape) ≡ true

-- a field of a class is found as its own
own_found : (n : ℕ) (f : FieldDecl) (o : Option Declared) → o ≡ Some (declared_by n f) → option_and_then (own_field n) o ≡ Some f
own_found n f o is = let self : (n == n) ≡ true = grind (arith, nat_tests) in ap (option_and_then (own_field n)) is ∙ ap (λ b. cond b (Some f) None) self

-- a class's own field stands with its class and its item
own_declared : (s : Schema) (n index i : ℕ) (c : Class) (d : Declared) → are_ranged s ≡ true → slice_get s.classes n ≡ Some c → slice_get (fields_of s n) index ≡ Some d →
    slice_get (map (declared_by n) c.own) i ≡ Some d → IsDeclared s index d
own_declared s n index i c d ranged at there own =
    let f = own_is n c.own i d own in
    let fields : list_all (λ (f : FieldDecl). item_in_range (length s.classes) (item_of f.shape)) c.own ≡ true = all-slice_get _ s.classes n c ranged at in
    let fits : item_in_range (length s.classes) (item_of f.0.shape) ≡ true = all-slice_get (λ (f : FieldDecl). item_in_range (length s.classes) (item_of f.shape)) c.own i f.0 fields f.1 in
    subst (λ (d : Declared). IsDeclared s index d) (sym f.2) (record { home = own_found n f.0 (slice_get (fields_of s n) index) (there ∙ ap Some f.2); ranged = fits })

-- each field of a class is one that a class declares
declared_at : (fuel : ℕ) (s : Schema) (line : Option ℕ) (index : ℕ) (d : Declared) → parents_earlier 0 s.classes ≡ true → are_ranged s ≡ true → height line < fuel →
    slice_get (inherited (fields_from [] s.classes) line) index ≡ Some d → IsDeclared s index d
declared_at zero s line index d early ranged h there = absurd (omega arith)
declared_at (suc fuel) s None index d early ranged h there = absurd (cc)
declared_at (suc fuel) s (Some n) index d early ranged h there =
    let go : (o : Option Class) → slice_get s.classes n ≡ o → IsDeclared s index d = elim [
      | None ↦ λ at. let none = sym (ap (λ fs. slice_get fs index) (no_fields s.classes n at)) ∙ there in absurd (cc)
      | Some c ↦ λ at.
          let above = inherited (fields_from [] s.classes) c.parent in
          let falls : height c.parent < height (Some n) = height_falls s.classes (Some n) c early at in
          let by : (b : Bool) → nat_lt index (length above) ≡ b → IsDeclared s index d = elim [
            | true ↦ λ e. declared_at fuel s c.parent index d early ranged (omega arith) (sym (inherited_part s.classes n c index early at (grind (arith, nat_tests))) ∙ there)
            | false ↦ λ e. own_declared s n index (index - length above) c d ranged at there (sym (own_part s.classes n c index early at (grind (arith, nat_tests))) ∙ there)
          ] in by (nat_lt index (length above)) refl
    ] in go (slice_get s.classes n) refl

-- ---- what places hold

-- what is expected is of the schema
abbrev pub IsOf : Schema → Expected → Type 0
IsOf s (AnItem (item.Scalar k)) = Unit {0}
IsOf s (AnItem (item.Class c)) = nat_lt c (length s.classes) ≡ true
IsOf s (ACollection home) = has_kind s (new_collection s (Some (ACollection home))) ≡ true

-- an item that is in range is of the schema
item_is_of : (s : Schema) (i : Item) → item_in_range (length s.classes) i ≡ true → IsOf s (AnItem i)
item_is_of s (item.Scalar k) h = tt
item_is_of s (item.Class c) h = h

-- the empty collection of a home where one is declared
home_is_of : (s : Schema) (home : Home) (r : Row) → empty_collection s home ≡ Some r → (sh : Shape) → collection_of home sh ≡ Some r → IsOf s (ACollection home)
home_is_of s home r is (shape.One i) h = absurd (cc)
home_is_of s home r is (shape.Map i) h = let same : Map home [] ≡ r = cc in rw (is, ← same, is, ← same) (same_kind_self (Map home []))
home_is_of s home r is (shape.Array i) h = let same : Array home [] ≡ r = cc in rw (is, ← same, is, ← same) (same_kind_self (Array home []))
home_is_of s home r is (shape.Set i) h = let same : Set home [] ≡ r = cc in rw (is, ← same, is, ← same) (same_kind_self (Set home []))

-- what a field of a shape holds is of the schema
shape_is_of : (s : Schema) (home : Home) (f : FieldDecl) (sh : Shape) → f.shape ≡ sh → home_field s home ≡ Some f → item_in_range (length s.classes) (item_of sh) ≡ true → IsOf s (expected_by sh home)
shape_is_of s home f (shape.One i) is at h = item_is_of s i h
shape_is_of s home f (shape.Map i) is at h = home_is_of s home (Map home []) (ap (option_and_then (λ (f : FieldDecl). collection_of home f.shape)) at ∙ ap (collection_of home) is) (shape.Map i) refl
shape_is_of s home f (shape.Array i) is at h = home_is_of s home (Array home []) (ap (option_and_then (λ (f : FieldDecl). collection_of home f.shape)) at ∙ ap (collection_of home) is) (shape.Array i) refl
shape_is_of s home f (shape.Set i) is at h = home_is_of s home (Set home []) (ap (option_and_then (λ (f : FieldDecl). collection_of home f.shape)) at ∙ ap (collection_of home) is) (shape.Set i) refl

-- what a field expects is of the schema
pub field_is_of : (s : Schema) (class index : ℕ) (w : Expected) → is_kept s ≡ true → field_expects s class index ≡ Some w → IsOf s w
field_is_of s class index w kept h =
    let parts = kept_parts s kept in
    let go : (o : Option Declared) → slice_get (fields_of s class) index ≡ o → option_map (λ (d : Declared). expected_by d.field.shape (record { class = d.class; field = index })) o ≡ Some w → IsOf s w = elim [
      | None ↦ λ at e. absurd (cc)
      | Some d ↦ λ at e.
          let is = declared_at (suc (suc class)) s (Some class) index d parts.1 parts.2 (omega arith) at in
          let same : expected_by d.field.shape (record { class = d.class; field = index }) ≡ w = cc in
          subst (λ w. IsOf s w) same (shape_is_of s (record { class = d.class; field = index }) d.field d.field.shape refl is.home is.ranged)
    ] in go (slice_get (fields_of s class) index) refl h

-- so is what the items of a collection are
pub items_are_of : (s : Schema) (home : Home) (w : Expected) → is_kept s ≡ true → item_expects s home ≡ Some w → IsOf s w
items_are_of s home w kept h =
    let parts = kept_parts s kept in
    let go : (o : Option Declared) → slice_get (fields_of s home.class) home.field ≡ o → option_map (λ (f : FieldDecl). AnItem (item_of f.shape)) (option_and_then (own_field home.class) o) ≡ Some w → IsOf s w = elim [
      | None ↦ λ at e. absurd (cc)
      | Some d ↦ λ at e.
          let is = declared_at (suc (suc home.class)) s (Some home.class) home.field d parts.1 parts.2 (omega arith) at in
          let by : (b : Bool) → option_map (λ (f : FieldDecl). AnItem (item_of f.shape)) (cond b (Some d.field) None) ≡ Some w → IsOf s w = elim [
            | true ↦ λ e. let same : AnItem (item_of d.field.shape) ≡ w = cc in subst (λ w. IsOf s w) same (item_is_of s (item_of d.field.shape) is.ranged)
            | false ↦ λ e. absurd (cc)
          ] in by (d.class == home.class) e
    ] in go (slice_get (fields_of s home.class) home.field) refl h
