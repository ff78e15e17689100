-- Faults that are passed on, and lists of lines that name what is declared nowhere.
use Rattle.std.proofs.Common.{◌≡◌, ℕ, ◌+◌, ◌<◌, List, [], ◌∷◌, ◌++◌, length, map, get_or, take, drop, Option, Some, None, Result, Ok, Err, refl, sym, ap, ◌∙◌}
use Rattle.std.specs.List.{flat_map}
use Rattle.std.specs.Prelude.{if◌then◌else◌, is_some, unwrap_or}
use Rattle.std.specs.Option.{option_map_or}
use Rattle.std.proofs.lemmas.List.{append-nil, map-append, take-append-drop, take_more}
use Rattle.std.proofs.lemmas.List.Concat.{flat_map-append}
use Rattle.schema_model.specs.Classes.{Schema}
use Rattle.schema_model.specs.Reading.{◌>>=◌}
use Rattle.schema_model.specs.declared.class.Class.{Class}
use Rattle.text_model.specs.SchemaReading.{Draft, class_of, class_place, resolved, unknown_field, unknown_lines, unknown_root}
use Rattle.text_model.specs.declared.draft.DraftClass.{DraftClass}
use Rattle.text_model.specs.declared.draft.DraftRoot.{DraftRoot}
use Rattle.text_model.specs.declared.fault.SchemaFault.{SchemaFault}
use Rattle.text_model.specs.declared.fault.SchemaFault.TheVariants as fault
use Rattle.schema_reader.specs.Gives.{Gives, first_unknown, root_place}

-- a fault that is passed on
pub gives_err : {A B : Type 0} (f : SchemaFault) (s : Result A SchemaFault) (t : Result B SchemaFault) → ((f : SchemaFault) → s ≡ Err f → t ≡ Err f)
    → Gives (Err f) s → Gives (Err f) t
gives_err (fault.UnknownWord n) s t k g = k (fault.UnknownWord n) g
gives_err (fault.UnknownClass n) s t k g = k (fault.UnknownClass n) g
gives_err (fault.TwiceClass n) s t k g = k (fault.TwiceClass n) g
gives_err (fault.TwiceField n) s t k g = k (fault.TwiceField n) g
gives_err (fault.TooManyFields n) s t k g = k (fault.TooManyFields n) g
gives_err (fault.TooManyClasses n) s t k g = k (fault.TooManyClasses n) g
gives_err (fault.BadTag n) s t k g = k (fault.BadTag n) g
gives_err (fault.NoRoot n) s t k g = k (fault.NoRoot n) g
gives_err (fault.FractionalKind n) s t k g = k (fault.FractionalKind n) g
gives_err (fault.ParentLater n) s t k g = k (fault.ParentLater n) g
gives_err fault.Memory s t k g = tt

-- a fault of the first step is one of both
pub gives_then : {A B : Type 0} (f : SchemaFault) (s : Result A SchemaFault) (k : A → Result B SchemaFault) → Gives (Err f) s → Gives (Err f) (s >>= k)
gives_then f s k g = gives_err f s (s >>= k) (λ f e. ap (λ r. r >>= k) e) g

-- ---- lines that name what is declared nowhere

pub first_known : {A : Type 0} (ls : List ℕ) (x y : A) → first_unknown ls x ≡ Ok y → (ls ≡ []) × (x ≡ y)
first_known [] x y e = (refl, cc)
first_known (l ∷ ls) x y e = absurd (cc)

-- such lines, before others
unknown_before : {A B : Type 0} (ls more : List ℕ) (x : A) (y : B) (f : SchemaFault) → first_unknown ls x ≡ Err f → first_unknown (ls ++ more) y ≡ Err f
unknown_before [] more x y f e = absurd (cc)
unknown_before (l ∷ ls) more x y f e = cc

pub gives_before : {A B : Type 0} (f : SchemaFault) (ls all more : List ℕ) (x : A) (y : B) → all ≡ ls ++ more → Gives (Err f) (first_unknown ls x) → Gives (Err f) (first_unknown all y)
gives_before f ls all more x y e g =
    gives_err f (first_unknown ls x) (first_unknown all y) (λ f h. ap (λ t. first_unknown t y) e ∙ unknown_before ls more x y f h) g

flat_map-take_more : {X : Type 0} (u : X → List ℕ) (xs : List X) (i : ℕ) (d : X) → i < length xs → flat_map u (take i xs) ≡ [] → flat_map u (take (i + 1) xs) ≡ u (get_or xs i d)
flat_map-take_more u xs i d h none =
    ap (flat_map u) (take_more xs i d h)
    ∙ (flat_map-append u (take i xs) (get_or xs i d ∷ []) ∙ (ap (λ t. t ++ (u (get_or xs i d) ++ [])) none ∙ append-nil (u (get_or xs i d))))

-- where none is behind the first items, those of the next one come first
pub unknown_at : {X : Type 0} (u : X → List ℕ) (xs : List X) (i : ℕ) (d : X) → i < length xs → flat_map u (take i xs) ≡ [] → flat_map u xs ≡ u (get_or xs i d) ++ flat_map u (drop (i + 1) xs)
unknown_at u xs i d h none =
    ap (flat_map u) (sym (take-append-drop (i + 1) xs))
    ∙ (flat_map-append u (take (i + 1) xs) (drop (i + 1) xs) ∙ ap (λ t. t ++ flat_map u (drop (i + 1) xs)) (flat_map-take_more u xs i d h none))

pub unknown_more : {X : Type 0} (u : X → List ℕ) (xs : List X) (i : ℕ) (d : X) → i < length xs → flat_map u (take i xs) ≡ [] → u (get_or xs i d) ≡ [] → flat_map u (take (i + 1) xs) ≡ []
unknown_more u xs i d h none here = flat_map-take_more u xs i d h none ∙ here

pub map_more : {X Y : Type 0} (f : X → Y) (xs : List X) (i : ℕ) (d : X) → i < length xs → map f (take (i + 1) xs) ≡ map f (take i xs) ++ f (get_or xs i d) ∷ []
map_more f xs i d h = ap (map f) (take_more xs i d h) ∙ map-append f (take i xs) (get_or xs i d ∷ [])

-- ---- the root

-- the schema of these classes
abbrev pub with_root : Draft → ℕ → Schema
with_root d n = record { classes = map (class_of d.classes) d.classes; root = n }

root_of : (count : ℕ) (classes : List DraftClass) (r : DraftRoot) (o : Option ℕ) → class_place classes r.name ≡ o
    → resolved count (record { classes = classes; root = Some r }) (unknown_root classes (Some r)) ≡ (root_place count classes (Some r) >>= (λ n. Ok (with_root (record { classes = classes; root = Some r }) n)))
root_of count classes r (Some n) e =
    let d : Draft = record { classes = classes; root = Some r } in
    ap (λ o. resolved count d (if is_some o then [] else r.line ∷ [])) e
    ∙ (ap (λ o. Ok (with_root d (unwrap_or o 0))) e ∙ sym (ap (λ o. option_map_or Ok o (Err (fault.UnknownClass r.line)) >>= (λ n. Ok (with_root d n))) e))
root_of count classes r None e =
    let d : Draft = record { classes = classes; root = Some r } in
    ap (λ o. resolved count d (if is_some o then [] else r.line ∷ [])) e ∙ sym (ap (λ o. option_map_or Ok o (Err (fault.UnknownClass r.line)) >>= (λ n. Ok (with_root d n))) e)

root_cases : (count : ℕ) (classes : List DraftClass) (root : Option DraftRoot)
    → resolved count (record { classes = classes; root = root }) (unknown_root classes root) ≡ (root_place count classes root >>= (λ n. Ok (with_root (record { classes = classes; root = root }) n)))
root_cases count classes None = refl
root_cases count classes (Some r) = root_of count classes r (class_place classes r.name) refl

-- where each field's class is known, the root is left
pub resolved_root : (count : ℕ) (d : Draft) → flat_map (λ (c : DraftClass). flat_map (unknown_field d.classes) c.own) d.classes ≡ []
    → resolved count d (unknown_lines d) ≡ (root_place count d.classes d.root >>= (λ n. Ok (with_root d n)))
resolved_root count d known = ap (λ t. resolved count d (t ++ unknown_root d.classes d.root)) known ∙ root_cases count d.classes d.root

-- where a field's class isn't known, its line is given
pub resolved_unknown : (count : ℕ) (d : Draft) (f : SchemaFault) (classes : List Class)
    → first_unknown (flat_map (λ (c : DraftClass). flat_map (unknown_field d.classes) c.own) d.classes) classes ≡ Err f → resolved count d (unknown_lines d) ≡ Err f
resolved_unknown count d f classes =
    let go : (ls : List ℕ) → first_unknown ls classes ≡ Err f → resolved count d (ls ++ unknown_root d.classes d.root) ≡ Err f
    = elim [ [] ↦ λ e. absurd (cc) | l ∷ ls ↦ λ e. cc ] in
    go (flat_map (λ (c : DraftClass). flat_map (unknown_field d.classes) c.own) d.classes)
