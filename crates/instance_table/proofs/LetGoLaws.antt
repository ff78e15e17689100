-- A row that lets go of what it holds, place by place.
use Rattle.std.proofs.Common.{◌≡◌, ℕ, ◌+◌, ◌<◌, Bool, true, false, cond, ◌==◌, List, [], ◌∷◌, ◌++◌, length, Option, Some, None, refl, sym, ap, ◌∙◌}
use Rattle.std.specs.List.{flat_map, slice_get}
use Rattle.std.specs.Option.{option_map, option_map_or}
use Rattle.lists.specs.Rising.{RisesFrom}
use Rattle.schema_model.specs.declared.value.Value.{Value}
use Rattle.schema_model.specs.declared.value.Value.TheVariants as value
use Rattle.state_model.specs.Values.{held_by}
use Rattle.state_model.specs.Rows.{held_in, values_in}
use Rattle.plain_rows.specs.Links.{held_at}
use Rattle.command_laws.specs.Accounts.{held_in_value}
use Rattle.instance_table.specs.declared.node.Node.{Node}
use Rattle.instance_table.specs.declared.body.Body.{Body}
use Rattle.instance_table.specs.Bodies.{row_of}
use Rattle.instance_table.specs.Nodes.{number_of, node_at, at_node, rows_in, counts_in, held_not}
use Rattle.instance_table.specs.Changes.{values_at, link_in, let_go_each}
use Rattle.instance_table.proofs.LinkLaws.{held_first, held_next, links_all}
use Rattle.instance_table.proofs.WaitingLaws.{node_at_edited}
use Rattle.instance_table.proofs.NodeLaws.{rises_at, length_at}
use Rattle.instance_table.proofs.StateLaws.{rows_same, counts_same, held_found}

-- ---- bodies stay

-- the body of a number
abbrev pub body_at : List (ℕ × Node) → ℕ → Option Body
body_at es who = option_map (λ (n : Node). n.body) (node_at es who)

-- an edit that leaves each body leaves the body of a number
pub body_same : (k : ℕ) (f : Node → Node) (es : List (ℕ × Node)) → ((n : Node) → (f n).body ≡ n.body) → (who : ℕ) → body_at (at_node k f es) who ≡ body_at es who
body_same k f es same who = ap (option_map (λ (n : Node). n.body)) (node_at_edited k who f es) ∙ from (node_at es who) (who == k)
  where
    from : (o : Option Node) (b : Bool) → option_map (λ (n : Node). n.body) (option_map (λ n. cond b (f n) n) o) ≡ option_map (λ (n : Node). n.body) o
    from None b = refl
    from (Some n) true = ap Some (same n)
    from (Some n) false = refl

pub body_let_go : (ns : List ℕ) (h : ℕ) (es : List (ℕ × Node)) (who : ℕ) → body_at (let_go_each ns h es) who ≡ body_at es who
body_let_go [] h es who = refl
body_let_go (n ∷ ns) h es who = body_let_go ns h (at_node n (held_not h) es) who ∙ body_same n (held_not h) es (λ m. refl) who

pub rows_let_go : (ns : List ℕ) (h : ℕ) (es : List (ℕ × Node)) → rows_in (let_go_each ns h es) ≡ rows_in es
rows_let_go [] h es = refl
rows_let_go (n ∷ ns) h es = rows_let_go ns h (at_node n (held_not h) es) ∙ rows_same n (held_not h) es (λ m. refl)

pub counts_let_go : (ns : List ℕ) (h : ℕ) (es : List (ℕ × Node)) → counts_in (let_go_each ns h es) ≡ counts_in es
counts_let_go [] h es = refl
counts_let_go (n ∷ ns) h es = counts_let_go ns h (at_node n (held_not h) es) ∙ counts_same n (held_not h) es (λ m. refl)

-- the values of a row are those of its body
values_by : (es fs : List (ℕ × Node)) (who : ℕ) → body_at es who ≡ body_at fs who → values_at es who ≡ values_at fs who
values_by es fs who h = of_body (node_at es who) ∙ (ap (λ o. option_map_or (λ b. values_in (row_of b)) o []) h ∙ sym (of_body (node_at fs who)))
  where
    of_body : (o : Option Node) → option_map_or (λ (n : Node). values_in (row_of n.body)) o [] ≡ option_map_or (λ b. values_in (row_of b)) (option_map (λ (n : Node). n.body) o) []
    of_body None = refl
    of_body (Some n) = refl

pub values_let_go : (ns : List ℕ) (h : ℕ) (es : List (ℕ × Node)) (who : ℕ) → values_at (let_go_each ns h es) who ≡ values_at es who
values_let_go ns h es who = values_by (let_go_each ns h es) es who (body_let_go ns h es who)

-- ---- place by place

let_go_both : (xs ys : List ℕ) (h : ℕ) (es : List (ℕ × Node)) → let_go_each (xs ++ ys) h es ≡ let_go_each ys h (let_go_each xs h es)
let_go_both [] ys h es = refl
let_go_both (x ∷ xs) ys h es = let_go_both xs ys h (at_node x (held_not h) es)

-- the link of a value is the number that it holds
pub held_link : (o : Option Value) → held_in_value o ≡ option_map_or (λ k. k ∷ []) (link_in o) []
held_link None = refl
held_link (Some (value.Link k)) = refl
held_link (Some (value.Whole z)) = refl
held_link (Some (value.Str t)) = refl
held_link (Some (value.Truth b)) = refl

pub let_go_start : (h : ℕ) (es : List (ℕ × Node)) (values : List Value) → es ≡ let_go_each (held_first 0 values) h es
let_go_start h es values = refl

pub let_go_next : (h n : ℕ) (start es new : List (ℕ × Node)) (values : List Value) (link : Option ℕ) → n < length values → es ≡ let_go_each (held_first n values) h start → link ≡ link_in (slice_get values n)
    → new ≡ option_map_or (λ k. at_node k (held_not h) es) link es → new ≡ let_go_each (held_first (n + 1) values) h start
let_go_next h n start es new values link within so is e =
    let more = held_next n values within ∙ ap (λ l. held_first n values ++ l) (held_link (slice_get values n) ∙ ap (λ o. option_map_or (λ k. k ∷ []) o []) (sym is)) in
    e ∙ (one link es ∙ (ap (let_go_each (option_map_or (λ k. k ∷ []) link []) h) so ∙ (sym (let_go_both (held_first n values) (option_map_or (λ k. k ∷ []) link []) h start) ∙ ap (λ l. let_go_each l h start) (sym more))))
  where
    one : (link : Option ℕ) (es : List (ℕ × Node)) → option_map_or (λ k. at_node k (held_not h) es) link es ≡ let_go_each (option_map_or (λ k. k ∷ []) link []) h es
    one None es = refl
    one (Some k) es = refl

-- all places
pub let_go_end : (h n : ℕ) (start es : List (ℕ × Node)) → n ≡ length (values_at start h) → es ≡ let_go_each (held_first n (values_at start h)) h start → es ≡ let_go_each (held_at (rows_in start) h) h start
let_go_end h n start es whole so =
    so ∙ ap (λ l. let_go_each l h start) (links_all [] (held_first n (values_at start h)) n (values_at start h) whole refl ∙ sym (held_found start h (node_at start h) refl ∙ of_node (node_at start h)))
  where
    of_node : (o : Option Node) → option_map_or (λ (x : Node). held_in (row_of x.body)) o [] ≡ flat_map held_by (option_map_or (λ (n : Node). values_in (row_of n.body)) o [])
    of_node None = refl
    of_node (Some n) = refl

-- letting go leaves how many nodes there are, and that they rise
pub length_let_go : (ns : List ℕ) (h : ℕ) (es : List (ℕ × Node)) → length (let_go_each ns h es) ≡ length es
length_let_go [] h es = refl
length_let_go (n ∷ ns) h es = length_let_go ns h (at_node n (held_not h) es) ∙ length_at n (held_not h) es

pub rises_let_go : (ns : List ℕ) (h : ℕ) (es : List (ℕ × Node)) → RisesFrom number_of 0 es → RisesFrom number_of 0 (let_go_each ns h es)
rises_let_go [] h es r = r
rises_let_go (n ∷ ns) h es r = rises_let_go ns h (at_node n (held_not h) es) (rises_at n 0 (held_not h) es r)
