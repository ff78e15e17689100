-- A draft with a class or a field more: its classes' places, and the names of their fields.
use Rattle.std.proofs.Common.{◌≡◌, ℕ, zero, suc, ◌+◌, ◌-◌, ◌<◌, Bool, true, false, cond, List, [], ◌∷◌, ◌++◌, length, map, get_or, set, Option, Some, None, refl, sym, ap, ◌∙◌, subst, arith, ◌||◌}
use Rattle.std.specs.List.{list_any}
use Rattle.std.specs.Map.{update}
use Rattle.std.specs.Str.{bytes_eq}
use Rattle.std.specs.Borrow.{Bor}
use Rattle.std.specs.Global.{Global}
use Rattle.std.specs.Prelude.{Vec, slice_get}
use Rattle.std.proofs.Math.Seq.{get_or-append_seam}
use Rattle.std.proofs.lemmas.List.{append-nil, append_assoc, get_or-map, length-append, length-map, map-append, map-set}
use Rattle.std.proofs.lemmas.Option.{get_or_from_slice_get, slice_get_within}
use Rattle.lists.proofs.SameBytes.{same_bytes}
use Rattle.text_model.specs.SchemaReading.{class_place, last_names, names_from, names_inherited, place_from, with_field}
use Rattle.text_model.specs.declared.draft.DraftClass.{DraftClass}
use Rattle.text_model.specs.declared.draft.DraftField.{DraftField}
use Rattle.text_model.proofs.DraftTable.{length-names_from}
use Rattle.text_words.specs.Words.{bytes_of}
use Rattle.schema_reader.specs.Indexes.{IsIndexed, Places, all_names, place_in}

-- ---- a class more

place_kept : (n m : ℕ) (cs : List DraftClass) (c : DraftClass) (q : List ℕ) → place_from n cs q ≡ Some m → place_from n (cs ++ c ∷ []) q ≡ Some m
place_kept n m [] c q h = absurd (cc)
place_kept n m (d ∷ cs) c q h =
    let go : (b : Bool) → cond b (Some n) (place_from (suc n) cs q) ≡ Some m → cond b (Some n) (place_from (suc n) (cs ++ c ∷ []) q) ≡ Some m
    = elim [ true ↦ λ g. g | false ↦ λ g. place_kept (suc n) m cs c q g ] in
    go (bytes_eq d.name q) h

place_added : (n : ℕ) (cs : List DraftClass) (c : DraftClass) (q : List ℕ) → place_from n cs q ≡ None → place_from n (cs ++ c ∷ []) q ≡ cond (bytes_eq c.name q) (Some (n + length cs)) None
place_added n [] c q h = ap (λ k. cond (bytes_eq c.name q) (Some k) None) (omega arith)
place_added n (d ∷ cs) c q h =
    let go : (b : Bool) → cond b (Some n) (place_from (suc n) cs q) ≡ None → cond b (Some n) (place_from (suc n) (cs ++ c ∷ []) q) ≡ cond (bytes_eq c.name q) (Some (n + suc (length cs))) None
    = elim [
      | true ↦ λ g. absurd (cc)
      | false ↦ λ g. place_added (suc n) cs c q g ∙ ap (λ k. cond (bytes_eq c.name q) (Some k) None) (omega arith)
    ] in
    go (bytes_eq d.name q) h

-- the places with a class more, whose name is a new one
pub class_place-added : (cs : List DraftClass) (c : DraftClass) (q : List ℕ) → class_place cs c.name ≡ None
    → update bytes_eq (class_place cs) c.name (Some (length cs)) q ≡ class_place (cs ++ c ∷ []) q
class_place-added cs c q fresh =
    let go : (o : Option ℕ) → class_place cs q ≡ o → (b : Bool) → bytes_eq c.name q ≡ b → cond b (Some (length cs)) o ≡ class_place (cs ++ c ∷ []) q
    = elim [
      | Some m ↦ λ e. elim [
        | true ↦ λ g. let same : class_place cs q ≡ None = subst (λ (x : List ℕ). class_place cs x ≡ None) (same_bytes c.name q g) fresh in absurd (cc)
        | false ↦ λ g. sym (place_kept 0 m cs c q e)
      ]
      | None ↦ λ e. λ b g.
          let same : 0 + length cs ≡ length cs = omega arith in
          sym (place_added 0 cs c q e ∙ (ap (λ k. cond (bytes_eq c.name q) (Some k) None) same ∙ ap (λ x. cond x (Some (length cs)) None) g))
    ] in
    go (class_place cs q) refl (bytes_eq c.name q) refl

-- the names of the fields of a class more
pub names_from-added : (earlier : List (List (List ℕ))) (cs : List DraftClass) (c : DraftClass)
    → names_from earlier (cs ++ c ∷ []) ≡ names_from earlier cs ++ (names_inherited (names_from earlier cs) c.parent ++ map (λ (f : DraftField). f.name) c.own) ∷ []
names_from-added earlier [] c = refl
names_from-added earlier (d ∷ cs) c =
    names_from-added (earlier ++ (names_inherited earlier d.parent ++ map (λ (f : DraftField). f.name) d.own) ∷ []) cs c

-- ---- a field more

place-with_field : (n : ℕ) (cs : List DraftClass) (f : DraftField) (q : List ℕ) → place_from n (with_field cs f) q ≡ place_from n cs q
place-with_field n [] f q = refl
place-with_field n (c ∷ []) f q = refl
place-with_field n (c ∷ d ∷ cs) f q = ap (λ o. cond (bytes_eq c.name q) (Some n) o) (place-with_field (suc n) (d ∷ cs) f q)

pub length-with_field : (cs : List DraftClass) (f : DraftField) → length (with_field cs f) ≡ length cs
length-with_field [] f = refl
length-with_field (c ∷ []) f = refl
length-with_field (c ∷ d ∷ cs) f = ap suc (length-with_field (d ∷ cs) f)

-- the last class at its place, with a field more
pub with_field-set : (cs : List DraftClass) (f : DraftField) (c : DraftClass) (i : ℕ) → i + 1 ≡ length cs → c ≡ get_or cs i c
    → with_field cs f ≡ set cs i (record { name = c.name; parent = c.parent; own = c.own ++ f ∷ [] })
with_field-set [] f c i h e = absurd (omega arith)
with_field-set (x ∷ []) f c i h e =
    let first : 0 ≡ i = omega arith in
    let here : c ≡ x = e ∙ ap (λ k. get_or (x ∷ []) k c) (sym first) in
    ap (λ (y : DraftClass). record { name = y.name; parent = y.parent; own = y.own ++ f ∷ [] } ∷ []) (sym here)
    ∙ ap (λ k. set (x ∷ []) k (record { name = c.name; parent = c.parent; own = c.own ++ f ∷ [] })) first
with_field-set (x ∷ y ∷ cs) f c zero h e = absurd (omega arith)
with_field-set (x ∷ y ∷ cs) f c (suc i) h e = ap (λ t. x ∷ t) (with_field-set (y ∷ cs) f c i (omega arith) e)

set_last : {X : Type 0} (xs : List X) (y z : X) (i : ℕ) → i ≡ length xs → set (xs ++ y ∷ []) i z ≡ xs ++ z ∷ []
set_last [] y z zero h = refl
set_last [] y z (suc i) h = absurd (omega arith)
set_last (x ∷ xs) y z zero h = absurd (omega arith)
set_last (x ∷ xs) y z (suc i) h = ap (λ t. x ∷ t) (set_last xs y z i (omega arith))

get_last : {X : Type 0} (xs : List X) (y d : X) (i : ℕ) → i ≡ length xs → get_or (xs ++ y ∷ []) i d ≡ y
get_last xs y d i h = ap (λ k. get_or (xs ++ y ∷ []) k d) h ∙ get_or-append_seam xs y [] d

pub names_from-with_field : (earlier : List (List (List ℕ))) (cs : List DraftClass) (f : DraftField) (i : ℕ) → 0 < length cs → i + 1 ≡ length earlier + length cs
    → names_from earlier (with_field cs f) ≡ set (names_from earlier cs) i (get_or (names_from earlier cs) i [] ++ f.name ∷ [])
names_from-with_field e [] f i some h = absurd (omega arith)
names_from-with_field e (c ∷ []) f i some h =
    let inner = names_inherited e c.parent in
    let own = map (λ (f : DraftField). f.name) c.own in
    let here : i ≡ length e = omega arith in
    let whole : inner ++ map (λ (f : DraftField). f.name) (c.own ++ f ∷ []) ≡ (inner ++ own) ++ f.name ∷ [] =
    ap (λ t. inner ++ t) (map-append (λ (f : DraftField). f.name) c.own (f ∷ [])) ∙ sym (append_assoc inner own (f.name ∷ [])) in
    ap (λ t. e ++ t ∷ []) whole
    ∙ sym (ap (λ t. set (e ++ (inner ++ own) ∷ []) i (t ++ f.name ∷ [])) (get_last e (inner ++ own) [] i here) ∙ set_last e (inner ++ own) ((inner ++ own) ++ f.name ∷ []) i here)
names_from-with_field e (c ∷ d ∷ cs) f i some h =
    let more = (names_inherited e c.parent ++ map (λ (f : DraftField). f.name) c.own) ∷ [] in
    names_from-with_field (e ++ more) (d ∷ cs) f i (omega arith) (omega (arith, h, length-append e more))

-- ---- what stands beside a draft

names_len : (cs : List DraftClass) (ps : Places) (ns : List (Vec (Bor (List ℕ)) Global)) → IsIndexed cs ps ns → length ns ≡ length cs
names_len cs ps ns h = omega (arith, length-map ns (λ (v : Vec (Bor (List ℕ)) Global). bytes_of v.items), ap length h.named, length-names_from [] cs)

-- there are names for the last class
pub last_inside : (cs : List DraftClass) (ps : Places) (ns : List (Vec (Bor (List ℕ)) Global)) (i : ℕ) → IsIndexed cs ps ns → 0 < length cs → i ≡ length cs - 1 → i < length ns
last_inside cs ps ns i h some e = omega (arith, names_len cs ps ns h)

-- the names of the last class
pub last_names-found : (cs : List DraftClass) (ps : Places) (ns : List (Vec (Bor (List ℕ)) Global)) (v : Vec (Bor (List ℕ)) Global) → IsIndexed cs ps ns
    → Some v ≡ slice_get ns (length ns - 1) → bytes_of v.items ≡ last_names cs
last_names-found cs ps ns v h e =
    let g = λ (v : Vec (Bor (List ℕ)) Global). bytes_of v.items in
    let at : get_or ns (length ns - 1) v ≡ v = get_or_from_slice_get ns (length ns - 1) v v (sym e) in
    let inside : length ns - 1 < length ns = slice_get_within ns (length ns - 1) v (sym e) in
    ap g (sym at)
    ∙ (sym (get_or-map g ns (length ns - 1) v [] inside)
    ∙ (ap (λ t. get_or t (length ns - 1) []) h.named ∙ ap (λ k. get_or (names_from [] cs) (k - 1) []) (names_len cs ps ns h)))

-- the same names
pub indexed_kept : (cs ds : List DraftClass) (ps : Places) (ns ms : List (Vec (Bor (List ℕ)) Global)) → IsIndexed cs ps ns → ds ≡ cs → all_names ms ≡ all_names ns → IsIndexed ds ps ms
indexed_kept cs ds ps ns ms h e g = rw e (record { found = h.found; named = g ∙ h.named; few = h.few })

-- a class more
pub indexed_class : (cs ds : List DraftClass) (c : DraftClass) (ps qs : Places) (ns ms : List (Vec (Bor (List ℕ)) Global)) (v : Vec (Bor (List ℕ)) Global) → IsIndexed cs ps ns
    → length cs < 256 → class_place cs c.name ≡ None → ds ≡ cs ++ c ∷ [] → ms ≡ ns ++ v ∷ [] → c.own ≡ []
    → bytes_of v.items ≡ names_inherited (names_from [] cs) c.parent
    → ((q : List ℕ) → place_in qs q ≡ update bytes_eq (place_in ps) c.name (Some (length cs)) q)
    → IsIndexed ds qs ms
indexed_class cs ds c ps qs ns ms v h room fresh e g none names places =
    let f = λ (v : Vec (Bor (List ℕ)) Global). bytes_of v.items in
    let inner = names_inherited (names_from [] cs) c.parent in
    let own = ap (λ t. inner ++ map (λ (f : DraftField). f.name) t) none in
    rw (e, g) (record {
      found = λ q. places q ∙ (ap (λ o. cond (bytes_eq c.name q) (Some (length cs)) o) (h.found q) ∙ class_place-added cs c q fresh);
      named =
          map-append f ns (v ∷ [])
          ∙ (ap (λ t. t ++ f v ∷ []) h.named
          ∙ (ap (λ t. names_from [] cs ++ t ∷ []) (names ∙ (sym (append-nil inner) ∙ sym own)) ∙ sym (names_from-added [] cs c)));
      few = omega (arith, length-append cs (c ∷ []));
    })

-- a field more
pub indexed_field : (cs ds : List DraftClass) (f : DraftField) (ps : Places) (ns ms : List (Vec (Bor (List ℕ)) Global)) (i : ℕ) (v w : Vec (Bor (List ℕ)) Global) → IsIndexed cs ps ns
    → i + 1 ≡ length cs → ds ≡ with_field cs f → ms ≡ set ns i w → v ≡ get_or ns i v → bytes_of w.items ≡ bytes_of v.items ++ f.name ∷ []
    → IsIndexed ds ps ms
indexed_field cs ds f ps ns ms i v w h last e g at names =
    let k = λ (v : Vec (Bor (List ℕ)) Global). bytes_of v.items in
    let inside : i < length ns = omega (arith, names_len cs ps ns h) in
    let old : bytes_of v.items ≡ get_or (names_from [] cs) i [] = ap k at ∙ (sym (get_or-map k ns i v [] inside) ∙ ap (λ t. get_or t i []) h.named) in
    rw (e, g) (record {
      found = λ q. h.found q ∙ sym (place-with_field 0 cs f q);
      named =
          map-set k ns i w
          ∙ (ap (λ t. set t i (k w)) h.named
          ∙ (ap (λ t. set (names_from [] cs) i t) (names ∙ ap (λ t. t ++ f.name ∷ []) old) ∙ sym (names_from-with_field [] cs f i (omega arith) (omega arith))));
      few = omega (arith, h.few, length-with_field cs f);
    })

-- a test of the words is one of their bytes
pub any_bytes : (name : List ℕ) (ws : List (Bor (List ℕ))) → list_any (λ w. bytes_eq name w.now) ws ≡ list_any (bytes_eq name) (bytes_of ws)
any_bytes name [] = refl
any_bytes name (w ∷ ws) = ap (λ b. bytes_eq name w.now || b) (any_bytes name ws)
