-- The rows and the counts of item numbers of nodes, by the bodies that they have.
use Rattle.std.proofs.Common.{◌≡◌, ℕ, suc, ◌<◌, Bool, true, false, cond, ◌==◌, List, [], ◌∷◌, ◌++◌, Option, Some, None, refl, sym, ap, ◌∙◌, arith}
use Rattle.std.specs.Option.{option_map, option_map_or, option_and_then}
use Rattle.std.proofs.lemmas.Bool.Decides.{nat_tests}
use Rattle.lists.specs.Rising.{RisesFrom, find}
use Rattle.lists.proofs.RisingLaws.{find_below, RisesFrom-lower, same_rising}
use Rattle.state_model.specs.declared.row.Row.{Row}
use Rattle.state_model.specs.declared.row.Row.TheVariants as row
use Rattle.state_model.specs.Rows as state
use Rattle.state_model.specs.State.{ItemCount, next_item}
use Rattle.command_laws.proofs.ItemCounts.{who_of}
use Rattle.command_laws.proofs.Sweeping.{same_rows}
use Rattle.instance_table.specs.declared.node.Node.{Node}
use Rattle.instance_table.specs.declared.body.Body.{Body}
use Rattle.instance_table.specs.Bodies.{row_of, given_of, body_from, next_in}
use Rattle.instance_table.specs.Nodes.{number_of, node_at, rows_in, counts_in}
use Rattle.instance_table.specs.Table.{state_in}
use Rattle.instance_table.proofs.LetGoLaws.{body_at}
use Rattle.instance_table.proofs.StateLaws.{row_found, rows_rise}

-- ---- rows

pub row_by_body : (es : List (ℕ × Node)) (n : ℕ) → state.row_at (rows_in es) n ≡ option_map row_of (body_at es n)
row_by_body es n = row_found es n ∙ from (node_at es n)
  where
    from : (o : Option Node) → option_map (λ (x : Node). row_of x.body) o ≡ option_map row_of (option_map (λ (x : Node). x.body) o)
    from None = refl
    from (Some x) = refl

-- nodes rise as their rows do
pub nodes_rise : (low : ℕ) (es : List (ℕ × Node)) → RisesFrom state.number_of low (rows_in es) → RisesFrom number_of low es
nodes_rise low [] r = tt
nodes_rise low (e ∷ es) r = (r.0, nodes_rise (suc (e.0)) es r.1)

-- ---- counts of item numbers

-- the count of a body
abbrev pub body_count : ℕ → Option Body → Option ItemCount
body_count n o = option_and_then (λ b. option_map (λ (k : ℕ). let c : ItemCount = record { who = n; count = k } in c) (given_of b)) o

pub count_found : (low : ℕ) (es : List (ℕ × Node)) (n : ℕ) → RisesFrom number_of low es → find who_of n (counts_in es) ≡ body_count n (body_at es n)
count_found low [] n r = refl
count_found low (e ∷ es) n r =
    let rest = count_found (suc (e.0)) es n r.1 in
    let below : n < suc (e.0) → find number_of n es ≡ None = λ h. find_below number_of (suc (e.0)) es n r.1 h in
    first (e.0 == n) refl (given_of e.1.body) refl rest below
  where
    one : ℕ → ItemCount
    one k = record { who = e.0; count = k }

    first : (b : Bool) → (e.0 == n) ≡ b → (o : Option ℕ) → given_of e.1.body ≡ o → find who_of n (counts_in es) ≡ body_count n (body_at es n) → (n < suc (e.0) → find number_of n es ≡ None)
        → find who_of n (option_map_or (λ k. one k ∷ []) o [] ++ counts_in es) ≡ body_count n (option_map (λ (x : Node). x.body) (option_map (λ (x : ℕ × Node). x.1) (cond b (Some e) (find number_of n es))))
    first false t None g rest below = rest
    first false t (Some k) g rest below = ap (λ c. cond c (Some (one k)) (find who_of n (counts_in es))) t ∙ rest
    first true t None g rest below =
        let same : e.0 ≡ n = grind (arith, nat_tests) in
        let gone = below (omega (arith, same)) in
        let none : body_count n (body_at es n) ≡ None = ap (λ o. body_count n (option_map (λ (x : Node). x.body) (option_map (λ (x : ℕ × Node). x.1) o))) gone in
        rest ∙ (none ∙ sym (ap (option_map (λ (k : ℕ). let c : ItemCount = record { who = n; count = k } in c)) g))
    first true t (Some k) g rest below =
        let same : e.0 ≡ n = grind (arith, nat_tests) in
        ap (λ c. cond c (Some (one k)) (find who_of n (counts_in es))) t
        ∙ (ap (λ w. let c : ItemCount = record { who = w; count = k } in Some c) same ∙ sym (ap (option_map (λ (k : ℕ). let c : ItemCount = record { who = n; count = k } in c)) g))

pub counts_rise : (low : ℕ) (es : List (ℕ × Node)) → RisesFrom number_of low es → RisesFrom who_of low (counts_in es)
counts_rise low [] r = tt
counts_rise low (e ∷ es) r = from (given_of e.1.body) (counts_rise (suc (e.0)) es r.1)
  where
    from : (o : Option ℕ) → RisesFrom who_of (suc (e.0)) (counts_in es) → RisesFrom who_of low (option_map_or (λ (k : ℕ). let c : ItemCount = record { who = e.0; count = k } in c ∷ []) o [] ++ counts_in es)
    from None rest = RisesFrom-lower who_of low (suc (e.0)) (counts_in es) rest (omega (arith, r.0))
    from (Some k) rest = (r.0, rest)

-- a body from a row has that row
pub row_again : (r : Row) (given : Option ℕ) → row_of (body_from r given) ≡ r
row_again (row.Struct class fields) given = refl
row_again (row.Map home items) given = refl
row_again (row.Array home values) given = refl
row_again (row.Set home items) given = refl

-- the number that the next new item of a row gets
pub next_found : (es : List (ℕ × Node)) (given n : ℕ) (b : Body) → RisesFrom number_of 0 es → body_at es n ≡ Some b → next_item (state_in es given) n ≡ next_in b
next_found es given n b r at = ap (λ o. option_map_or (λ (c : ItemCount). c.count) o 0) (count_found 0 es n r ∙ ap (body_count n) at) ∙ from (given_of b)
  where
    from : (o : Option ℕ) → option_map_or (λ (c : ItemCount). c.count) (option_map (λ (k : ℕ). let c : ItemCount = record { who = n; count = k } in c) o) 0 ≡ option_map_or (λ k. k) o 0
    from None = refl
    from (Some k) = refl

-- ---- states

-- nodes of these bodies have these rows and these counts
pub state_by_bodies : (es fs : List (ℕ × Node)) → RisesFrom number_of 0 es → RisesFrom number_of 0 fs → ((n : ℕ) → body_at es n ≡ body_at fs n) → (rows_in es ≡ rows_in fs) × (counts_in es ≡ counts_in fs)
state_by_bodies es fs r s h = (
  same_rows (rows_in es) (rows_in fs) (rows_rise 0 es r) (rows_rise 0 fs s) (λ n. row_by_body es n ∙ (ap (option_map row_of) (h n) ∙ sym (row_by_body fs n))),
  same_rising who_of 0 0 (counts_in es) (counts_in fs) (counts_rise 0 es r) (counts_rise 0 fs s) (λ n. count_found 0 es n r ∙ (ap (body_count n) (h n) ∙ sym (count_found 0 fs n s))),
)
