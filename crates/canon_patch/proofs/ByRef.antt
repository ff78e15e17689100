-- The operations on a filtered array as they are told.
use Rattle.std.proofs.Common.{◌≡◌, Bool, true, false, cond, not, ◌&&◌, List, [], ◌∷◌, ◌++◌, map, Option, Some, None, refl, sym, ap, ◌∙◌}
use Rattle.std.specs.Prelude.{option_and_then}
use Rattle.std.specs.List.{flat_map}
use Rattle.std.proofs.lemmas.List.{append_assoc, map-append}
use Rattle.schema_model.specs.Classes.{Schema}
use Rattle.schema_model.specs.declared.class.Item.TheVariants.{Scalar}
use Rattle.schema_model.specs.declared.place.Home.{Home}
use Rattle.schema_model.specs.declared.scalar.ScalarKind.{ScalarKind}
use Rattle.schema_model.specs.declared.value.Value.{Value}
use Rattle.state_model.specs.declared.row.RowEntry.{RowEntry}
use Rattle.state_model.specs.declared.place.Expected.{Expected}
use Rattle.state_model.specs.declared.place.Expected.TheVariants.{Item as AnItem}
use Rattle.state_model.specs.Places.{item_expects}
use Rattle.state_model.specs.Values.{same_value}
use Rattle.wire_model.specs.declared.op.Op.{Op}
use Rattle.wire_model.specs.Edits.{Clear, encoded}
use Rattle.wire_model.specs.Patch.{drop_edit, gone_of, kept_of, kind_expected, push_edit, ref_edits, same_values, stands_in}
use Rattle.canon_patch.specs.ByRef.{after_all, after_first, come_encoded, gone_encoded, is_ended, push_encoded}
use Rattle.canon_patch.proofs.Encoded.{carried_by_kind, kind_alone}

-- values begin with two lists, one behind the other
after_append : (us vs ws : List Value) → after_all us (vs ++ ws) ≡ option_and_then (λ rest. after_all rest ws) (after_all us vs)
after_append us [] ws = refl
after_append us (v ∷ vs) ws = first (λ rest. after_append rest vs ws) (after_first us v)
  where
    first : ((rest : List Value) → after_all rest (vs ++ ws) ≡ option_and_then (λ left. after_all left ws) (after_all rest vs)) →
        (o : Option (List Value)) →
        option_and_then (λ rest. after_all rest (vs ++ ws)) o
        ≡ option_and_then (λ rest. after_all rest ws) (option_and_then (λ rest. after_all rest vs) o)
    first later None = refl
    first later (Some rest) = later rest

-- values are equal where nothing is left of the one behind the other
ended_same : (us vs : List Value) → is_ended (after_all us vs) ≡ same_values us vs
ended_same [] [] = refl
ended_same (u ∷ us) [] = refl
ended_same [] (v ∷ vs) = refl
ended_same (u ∷ us) (v ∷ vs) = by_test (ended_same us vs) (same_value u v)
  where
    by_test : is_ended (after_all us vs) ≡ same_values us vs → (b : Bool) →
        is_ended (option_and_then (λ rest. after_all rest vs) (cond b (Some us) None)) ≡ (b && same_values us vs)
    by_test later true = later
    by_test later false = refl

-- values are two lists, one behind the other, where nothing is left of the second one behind the first
appended : (us vs ws : List Value) → is_ended (option_and_then (λ rest. after_all rest ws) (after_all us vs)) ≡ same_values us (vs ++ ws)
appended us vs ws = ap is_ended (sym (after_append us vs ws)) ∙ ended_same us (vs ++ ws)

-- the values that went, one by one
gone_all : (new vs : List Value) → map encoded (flat_map drop_edit (gone_of new vs)) ≡ flat_map (gone_encoded new) vs
gone_all new [] = refl
gone_all new (v ∷ vs) = by_test (gone_all new vs) (stands_in new v)
  where
    by_test : map encoded (flat_map drop_edit (gone_of new vs)) ≡ flat_map (gone_encoded new) vs → (b : Bool) →
        map encoded (flat_map drop_edit (cond (not b) (v ∷ gone_of new vs) (gone_of new vs)))
        ≡ cond b [] (map encoded (drop_edit v)) ++ flat_map (gone_encoded new) vs
    by_test later true = later
    by_test later false = map-append encoded (drop_edit v) (flat_map drop_edit (gone_of new vs)) ∙ ap (λ os. map encoded (drop_edit v) ++ os) later

-- the values, one by one
all_encoded : (schema : Schema) (rows : List RowEntry) (home : Home) (vs : List Value) →
    map encoded (map (push_edit schema rows home) vs) ≡ map (push_encoded rows (kind_alone (item_expects schema home))) vs
all_encoded schema rows home [] = refl
all_encoded schema rows home (v ∷ vs) = rw (carried_by_kind rows (item_expects schema home) v, all_encoded schema rows home vs) refl

-- the values that came, one by one
come_all : (rows : List RowEntry) (expected : Option Expected) (old vs : List Value) → map (push_encoded rows expected) (gone_of old vs) ≡ flat_map (come_encoded rows expected old) vs
come_all rows expected old [] = refl
come_all rows expected old (v ∷ vs) = by_test (come_all rows expected old vs) (stands_in old v)
  where
    by_test : map (push_encoded rows expected) (gone_of old vs) ≡ flat_map (come_encoded rows expected old) vs → (b : Bool) →
        map (push_encoded rows expected) (cond (not b) (v ∷ gone_of old vs) (gone_of old vs))
        ≡ cond b [] (push_encoded rows expected v ∷ []) ++ flat_map (come_encoded rows expected old) vs
    by_test later true = later
    by_test later false = ap (λ os. push_encoded rows expected v ∷ os) later

-- where the new values are the old ones that stay and those that came: those that went, and then those that came
appended_encoded : (schema : Schema) (rows : List RowEntry) (home : Home) (old new : List Value) → same_values new (kept_of new old ++ gone_of old new) ≡ true →
    map encoded (ref_edits schema rows home old new)
    ≡ flat_map (gone_encoded new) old ++ flat_map (come_encoded rows (kind_alone (item_expects schema home)) old) new
appended_encoded schema rows home old new h =
    let push = push_edit schema rows home in
    let come = gone_of old new in
    let gone = flat_map drop_edit (gone_of new old) in
    ap (λ b. map encoded (cond b (gone ++ map push come) (Clear ∷ map push new))) h
    ∙ (map-append encoded gone (map push come)
    ∙ (ap (λ os. os ++ map encoded (map push come)) (gone_all new old)
    ∙ ap (λ os. flat_map (gone_encoded new) old ++ os) (all_encoded schema rows home come ∙ come_all rows (kind_alone (item_expects schema home)) old new)))

-- else CLEAR, and then all of the new values
anew_encoded : (schema : Schema) (rows : List RowEntry) (home : Home) (old new : List Value) → same_values new (kept_of new old ++ gone_of old new) ≡ false →
    map encoded (ref_edits schema rows home old new) ≡ encoded Clear ∷ map (push_encoded rows (kind_alone (item_expects schema home))) new
anew_encoded schema rows home old new h =
    let push = push_edit schema rows home in
    ap (λ b. map encoded (cond b (flat_map drop_edit (gone_of new old) ++ map push (gone_of old new)) (Clear ∷ map push new))) h
    ∙ ap (λ os. encoded Clear ∷ os) (all_encoded schema rows home new)

-- the test by what is left: nothing fits, or the rest is tried on
pub appended_none : (us vs ws : List Value) → None ≡ after_all us vs → false ≡ same_values us (vs ++ ws)
appended_none us vs ws h = ap (λ o. is_ended (option_and_then (λ rest. after_all rest ws) o)) h ∙ appended us vs ws

pub appended_some : (us vs ws rest : List Value) → Some rest ≡ after_all us vs → is_ended (after_all rest ws) ≡ same_values us (vs ++ ws)
appended_some us vs ws rest h = ap (λ o. is_ended (option_and_then (λ left. after_all left ws) o)) h ∙ appended us vs ws

-- what was pushed, where the test holds and where it fails
pub appended_ops : (schema : Schema) (rows : List RowEntry) (home : Home) (old new : List Value) (kind : ScalarKind) (ops0 ops now : List Op) (b : Bool) →
    kind ≡ kind_expected (item_expects schema home) → b ≡ same_values new (kept_of new old ++ gone_of old new) → b ≡ true →
    ops ≡ ops0 ++ flat_map (gone_encoded new) old → now ≡ ops ++ flat_map (come_encoded rows (Some (AnItem (Scalar kind))) old) new →
    now ≡ ops0 ++ map encoded (ref_edits schema rows home old new)
appended_ops schema rows home old new kind ops0 ops now b is_kind test passed gone come =
    let expected = kind_alone (item_expects schema home) in
    come ∙ (ap (λ k. ops ++ flat_map (come_encoded rows (Some (AnItem (Scalar k))) old) new) is_kind
    ∙ (ap (λ os. os ++ flat_map (come_encoded rows expected old) new) gone
    ∙ (append_assoc ops0 (flat_map (gone_encoded new) old) (flat_map (come_encoded rows expected old) new)
    ∙ ap (λ os. ops0 ++ os) (sym (appended_encoded schema rows home old new (sym test ∙ passed))))))

pub anew_ops : (schema : Schema) (rows : List RowEntry) (home : Home) (old new : List Value) (kind : ScalarKind) (ops0 ops now : List Op) (b : Bool) →
    kind ≡ kind_expected (item_expects schema home) → b ≡ same_values new (kept_of new old ++ gone_of old new) → b ≡ false →
    ops ≡ ops0 ++ encoded Clear ∷ [] → now ≡ ops ++ map (push_encoded rows (Some (AnItem (Scalar kind)))) new →
    now ≡ ops0 ++ map encoded (ref_edits schema rows home old new)
anew_ops schema rows home old new kind ops0 ops now b is_kind test failed cleared come =
    let expected = kind_alone (item_expects schema home) in
    come ∙ (ap (λ k. ops ++ map (push_encoded rows (Some (AnItem (Scalar k)))) new) is_kind
    ∙ (ap (λ os. os ++ map (push_encoded rows expected) new) cleared
    ∙ (append_assoc ops0 (encoded Clear ∷ []) (map (push_encoded rows expected) new)
    ∙ ap (λ os. ops0 ++ os) (sym (anew_encoded schema rows home old new (sym test ∙ failed))))))
