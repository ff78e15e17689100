-- A field by its name, looked for one index after the other.
use Rattle.std.proofs.Common.{◌≡◌, ℕ, zero, suc, ◌+◌, ◌≤◌, Bool, true, false, List, [], ◌∷◌, length, drop, Option, Some, None, slice_get, cond, refl, sym, ap, ◌∙◌, arith}
use Rattle.std.specs.List.{position, position_from}
use Rattle.std.specs.Option.{option_map}
use Rattle.std.specs.Str.{bytes_eq}
use Rattle.std.proofs.lemmas.Bool.{and_parts}
use Rattle.std.proofs.lemmas.List.{at_drop_all}
use Rattle.std.proofs.lemmas.Iterator.Adapters.{position_from-zero}
use Rattle.schema_model.proofs.FieldTables.{count_small}
use Rattle.schema_model.specs.Classes.{Declared, Schema, field_of, fields_from, fields_of, is_kept}
use Rattle.schema_model.specs.declared.class.FieldDecl.{FieldDecl}
use Rattle.script_model.specs.Scenes.{field_named}

-- an item that doesn't pass, one that does, and none
next_item : {X : Type 0} (p : X → Bool) (n k : ℕ) (xs : List X) → option_map p (slice_get xs k) ≡ Some false → position_from p n (drop k xs) ≡ position_from p (n + 1) (drop (k + 1) xs)
next_item p n k [] = grind arith
next_item p n zero (x ∷ xs) = grind arith
next_item p n (suc k) (x ∷ xs) = grind (arith, next_item p n k xs)

this_item : {X : Type 0} (p : X → Bool) (n k : ℕ) (xs : List X) → option_map p (slice_get xs k) ≡ Some true → position_from p n (drop k xs) ≡ Some n
this_item p n k [] = grind arith
this_item p n zero (x ∷ xs) = grind arith
this_item p n (suc k) (x ∷ xs) = grind (arith, this_item p n k xs)

no_item : {X : Type 0} (p : X → Bool) (n k : ℕ) (xs : List X) → option_map p (slice_get xs k) ≡ None → position_from p n (drop k xs) ≡ None
no_item p n zero [] = λ h. refl
no_item p n (suc k) [] = λ h. refl
no_item p n zero (x ∷ xs) = grind arith
no_item p n (suc k) (x ∷ xs) = grind (arith, no_item p n k xs)

abbrev pub is_named : List ℕ → Declared → Bool
is_named name d = bytes_eq d.field.name name

-- the search from an index on
abbrev pub named_from : Schema → ℕ → List ℕ → ℕ → Option ℕ
named_from schema class name i = position_from (is_named name) i (drop i (fields_of schema class))

pub from_start : (schema : Schema) (class : ℕ) (name : List ℕ) → named_from schema class name 0 ≡ field_named schema class name
from_start schema class name = sym (position_from-zero (is_named name) (fields_of schema class))

-- the field at an index, by what its class declares
declared : {X : Type 0} (p : X → Bool) (f : Declared → X) (ds : List Declared) (i : ℕ) → option_map p (option_map f (slice_get ds i)) ≡ option_map (λ d. p (f d)) (slice_get ds i)
declared p f ds i = from (slice_get ds i)
  where
    from : (o : Option Declared) → option_map p (option_map f o) ≡ option_map (λ d. p (f d)) o
    from None = refl
    from (Some d) = refl

field_is : (schema : Schema) (class i : ℕ) (name : List ℕ) → option_map (λ (f : FieldDecl). bytes_eq f.name name) (field_of schema class i) ≡ option_map (is_named name) (slice_get (fields_of schema class) i)
field_is schema class i name = declared (λ (f : FieldDecl). bytes_eq f.name name) (λ (d : Declared). d.field) (fields_of schema class) i

pub named_next : (schema : Schema) (class i : ℕ) (name : List ℕ) → option_map (λ (f : FieldDecl). bytes_eq f.name name) (field_of schema class i) ≡ Some false → named_from schema class name i ≡ named_from schema class name (i + 1)
named_next schema class i name h = next_item (is_named name) i i (fields_of schema class) (sym (field_is schema class i name) ∙ h)

pub named_here : (schema : Schema) (class i : ℕ) (name : List ℕ) → option_map (λ (f : FieldDecl). bytes_eq f.name name) (field_of schema class i) ≡ Some true → named_from schema class name i ≡ Some i
named_here schema class i name h = this_item (is_named name) i i (fields_of schema class) (sym (field_is schema class i name) ∙ h)

pub named_nowhere : (schema : Schema) (class i : ℕ) (name : List ℕ) → option_map (λ (f : FieldDecl). bytes_eq f.name name) (field_of schema class i) ≡ None → named_from schema class name i ≡ None
named_nowhere schema class i name h = no_item (is_named name) i i (fields_of schema class) (sym (field_is schema class i name) ∙ h)

-- no class has a field at 63 or behind
few : (schema : Schema) (class : ℕ) → is_kept schema ≡ true → length (fields_of schema class) ≤ 63
few schema class kept = count_small schema.classes (Some class) (and_parts _ _ kept).1

pub named_end : (schema : Schema) (class i : ℕ) (name : List ℕ) → is_kept schema ≡ true → 63 ≤ i → named_from schema class name i ≡ None
named_end schema class i name kept h = at_drop_all (position_from (is_named name) i) (fields_of schema class) i (omega (arith, few schema class kept, h))
