-- The places of a row one after another, of a collection by the number before.
use Rattle.std.proofs.Common.{◌≡◌, ◌∙◌, ℕ, ◌+◌, List, drop, map, Option, Some, None, IfSome, refl, sym, ap, subst}
use Rattle.std.specs.List.{slice_get}
use Rattle.std.specs.Option.{option_map}
use Rattle.std.proofs.lemmas.Option.{slice_get-map}
use Rattle.lists.specs.Rising.{RisesFrom, after_key}
use Rattle.lists.proofs.Places.{nth_next, nth_none}
use Rattle.schema_model.specs.declared.place.Home.{Home}
use Rattle.state_model.specs.Rows.{values_in}
use Rattle.state_model.specs.declared.row.MapItem.{MapItem}
use Rattle.state_model.specs.declared.row.SetItem.{SetItem}
use Rattle.collection_ops.specs.Bodies.{MapState, SetState, map_number, set_number}
use Rattle.state_model.specs.declared.row.Row.{Row}
use Rattle.state_model.specs.declared.row.Row.TheVariants.{Struct, Map, Array, Set}
use Rattle.instance_table.specs.declared.body.Body.{Body}
use Rattle.instance_table.specs.declared.body.Body.TheVariants as body
use Rattle.instance_table.specs.declared.node.Node.{Node}
use Rattle.instance_table.specs.Bodies.{IsBehind, row_of}
use Rattle.instance_table.specs.Changes.{IsBehindAt}
use Rattle.instance_table.specs.Nodes.{node_at}
use Rattle.instance_table.proofs.LetGoLaws.{body_at}

-- the first place
pub behind_start : (r : Row) → IsBehind r 0 None
behind_start (Struct class fields) = tt
behind_start (Map home items) = refl
behind_start (Array home values) = tt
behind_start (Set home items) = refl

pub behind_start_at : (es : List (ℕ × Node)) (who : ℕ) → IsBehindAt es who 0 None
behind_start_at es who = of_node (node_at es who)
  where
    of_node : (o : Option Node) → IfSome o (λ (m : Node). IsBehind (row_of m.body) 0 None)
    of_node None = tt
    of_node (Some m) = behind_start (row_of m.body)

-- where the body is the same
pub behind_same : (es fs : List (ℕ × Node)) (who n : ℕ) (behind : Option ℕ) → body_at es who ≡ body_at fs who → IsBehindAt es who n behind → IsBehindAt fs who n behind
behind_same es fs who n behind same at = to_node (node_at fs who) (subst (λ o. IfSome o (λ b. IsBehind (row_of b) n behind)) same (of_node (node_at es who) at))
  where
    of_node : (o : Option Node) → IfSome o (λ (m : Node). IsBehind (row_of m.body) n behind) → IfSome (option_map (λ (m : Node). m.body) o) (λ b. IsBehind (row_of b) n behind)
    of_node None h = tt
    of_node (Some m) h = h

    to_node : (o : Option Node) → IfSome (option_map (λ (m : Node). m.body) o) (λ b. IsBehind (row_of b) n behind) → IfSome o (λ (m : Node). IsBehind (row_of m.body) n behind)
    to_node None h = tt
    to_node (Some m) h = h

-- ---- the next item of a collection

pub map_next : (b : Body) (home : Home) (s : MapState) (n : ℕ) (behind : Option ℕ) (x : MapItem) → b ≡ body.Map home s → IsBehind (row_of b) n behind → RisesFrom map_number 0 s.items
    → slice_get (after_key map_number behind s.items) 0 ≡ Some x → (Some x.value ≡ slice_get (values_in (row_of b)) n) × IsBehind (row_of b) (n + 1) (Some x.number)
map_next b home s n behind x is at rises next =
    let stands : after_key map_number behind s.items ≡ drop n s.items = rw is at at in
    let parts = nth_next map_number s.items n behind stands x rises next in
    let value : Some x.value ≡ slice_get (map (λ (i : MapItem). i.value) s.items) n = sym (slice_get-map (λ (i : MapItem). i.value) s.items n ∙ ap (option_map (λ (i : MapItem). i.value)) parts.0) in
    (rw is value, rw is parts.1)

pub map_none : (b : Body) (home : Home) (s : MapState) (n : ℕ) (behind : Option ℕ) → b ≡ body.Map home s → IsBehind (row_of b) n behind
    → slice_get (after_key map_number behind s.items) 0 ≡ None → (None ≡ slice_get (values_in (row_of b)) n) × IsBehind (row_of b) (n + 1) behind
map_none b home s n behind is at none =
    let stands : after_key map_number behind s.items ≡ drop n s.items = rw is at at in
    let parts = nth_none map_number s.items n behind stands none in
    let value : None ≡ slice_get (map (λ (i : MapItem). i.value) s.items) n = sym (slice_get-map (λ (i : MapItem). i.value) s.items n ∙ ap (option_map (λ (i : MapItem). i.value)) parts.0) in
    (rw is value, rw is parts.1)

pub set_next : (b : Body) (home : Home) (s : SetState) (n : ℕ) (behind : Option ℕ) (x : SetItem) → b ≡ body.Set home s → IsBehind (row_of b) n behind → RisesFrom set_number 0 s.items
    → slice_get (after_key set_number behind s.items) 0 ≡ Some x → (Some x.value ≡ slice_get (values_in (row_of b)) n) × IsBehind (row_of b) (n + 1) (Some x.number)
set_next b home s n behind x is at rises next =
    let stands : after_key set_number behind s.items ≡ drop n s.items = rw is at at in
    let parts = nth_next set_number s.items n behind stands x rises next in
    let value : Some x.value ≡ slice_get (map (λ (i : SetItem). i.value) s.items) n = sym (slice_get-map (λ (i : SetItem). i.value) s.items n ∙ ap (option_map (λ (i : SetItem). i.value)) parts.0) in
    (rw is value, rw is parts.1)

pub set_none : (b : Body) (home : Home) (s : SetState) (n : ℕ) (behind : Option ℕ) → b ≡ body.Set home s → IsBehind (row_of b) n behind
    → slice_get (after_key set_number behind s.items) 0 ≡ None → (None ≡ slice_get (values_in (row_of b)) n) × IsBehind (row_of b) (n + 1) behind
set_none b home s n behind is at none =
    let stands : after_key set_number behind s.items ≡ drop n s.items = rw is at at in
    let parts = nth_none set_number s.items n behind stands none in
    let value : None ≡ slice_get (map (λ (i : SetItem). i.value) s.items) n = sym (slice_get-map (λ (i : SetItem). i.value) s.items n ∙ ap (option_map (λ (i : SetItem). i.value)) parts.0) in
    (rw is value, rw is parts.1)
