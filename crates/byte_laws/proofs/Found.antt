-- Operations on a holder that all find what they ask for, one after another.
use Rattle.std.proofs.Common.{◌≡◌, Bool, true, false, ◌&&◌, List, [], ◌∷◌, ◌++◌, refl}
use Rattle.std.specs.List.{list_all, fold}
use Rattle.std.proofs.lemmas.Bool.{and_parts, and_from}
use Rattle.wire_model.specs.declared.op.OpKey.TheVariants.{Field, Item, Named}
use Rattle.wire_model.specs.Edits.{Edit, Add, Replace, DeleteAdd, Delete, Clear, AddByRef, DeleteByRef}
use Rattle.wire_model.specs.Effect.{Body, effect, finds}

-- each operation finds its item, once those before it are done
abbrev pub all_found : List Edit → Body → Bool
all_found [] body = true
all_found (e ∷ es) body = finds e body && all_found es (effect e body)

-- operations that do so behind others that do
pub all_found-append : (es fs : List Edit) (body : Body) → all_found es body ≡ true → all_found fs (fold (λ b e. effect e b) body es) ≡ true → all_found (es ++ fs) body ≡ true
all_found-append [] fs body h k = k
all_found-append (e ∷ es) fs body h k =
    let two = and_parts (finds e body) (all_found es (effect e body)) h in
    and_from _ _ two.0 (all_found-append es fs (effect e body) two.1 k)

-- an operation that asks for nothing, whatever the holder
abbrev pub is_free : Edit → Bool
is_free (Add (Item n) v) = false
is_free (Replace (Item n) v) = false
is_free (DeleteAdd (Item n) v) = false
is_free e = true

-- such an operation finds its item in any holder
free_found : (e : Edit) (body : Body) → is_free e ≡ true → finds e body ≡ true
free_found (Add (Field i) v) body h = refl
free_found (Add (Named n key) v) body h = refl
free_found (Add (Item n) v) body h = cc
free_found (Replace (Field i) v) body h = refl
free_found (Replace (Named n key) v) body h = refl
free_found (Replace (Item n) v) body h = cc
free_found (DeleteAdd (Field i) v) body h = refl
free_found (DeleteAdd (Named n key) v) body h = refl
free_found (DeleteAdd (Item n) v) body h = cc
free_found (Delete key) body h = refl
free_found Clear body h = refl
free_found (AddByRef v) body h = refl
free_found (DeleteByRef n) body h = refl

-- and so do all of many
pub all_free_found : (es : List Edit) (body : Body) → list_all is_free es ≡ true → all_found es body ≡ true
all_free_found [] body h = refl
all_free_found (e ∷ es) body h = let two = and_parts (is_free e) (list_all is_free es) h in and_from _ _ (free_found e body two.0) (all_free_found es (effect e body) two.1)
