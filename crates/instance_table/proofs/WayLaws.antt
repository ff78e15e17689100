-- Walks back along holders: what they get to is what reaches their start.
use Rattle.std.proofs.Common.{◌≡◌, ◌∙◌, ℕ, suc, true, false, not, ◌==◌, List, [], ◌∷◌, ◌++◌, ◌||◌, map, Option, Some, None, is_some, refl, sym, ap, subst, arith}
use Rattle.std.specs.List.{flat_map}
use Rattle.std.specs.Option.{option_map, option_map_or}
use Rattle.std.proofs.lemmas.Bool.Decides.{nat_tests}
use Rattle.lists.specs.Rising.{RisesFrom}
use Rattle.lists.proofs.Tests.{both_ways}
use Rattle.schema_model.specs.Classes.{Schema}
use Rattle.schema_model.specs.declared.value.Value.TheVariants as value
use Rattle.state_model.specs.declared.row.Row.{Row}
use Rattle.state_model.specs.declared.row.RowEntry.{RowEntry}
use Rattle.state_model.specs.Reached.{is_among, reached}
use Rattle.state_model.specs.Rows.{held_in, is_live, number_of, row_at}
use Rattle.state_model.specs.Sound.{are_sound}
use Rattle.state_model.specs.Values.{held_by}
use Rattle.state_laws.proofs.Counts.{count_among}
use Rattle.state_laws.proofs.ReachedLaws.{reached_closed, reached_further, reached_least, reached_start}
use Rattle.command_laws.proofs.SoundRows.{sound_links}
use Rattle.plain_rows.specs.Links.{held_at}
use Rattle.instance_table.specs.declared.node.Node.{Node}
use Rattle.instance_table.specs.declared.way.Way.{Way}
use Rattle.instance_table.specs.declared.way.Way.TheVariants.{Links, Holders}
use Rattle.instance_table.specs.Bodies.{row_of}
use Rattle.instance_table.specs.Nodes as nodes
use Rattle.instance_table.specs.Nodes.{node_at, rows_in}
use Rattle.instance_table.specs.Table.{IsExact}
use Rattle.instance_table.specs.Ways.{back_row, rows_along}
use Rattle.instance_table.proofs.RefusalLaws.{dead_where}
use Rattle.instance_table.proofs.StateLaws.{held_found, rows_rise}
use Rattle.plain_rows.proofs.Walks.{Walked, row_held, walk_end, walk_on, walk_start, held_row}
use Rattle.state_laws.proofs.Numbers.{among_with_number}
use Rattle.state_model.specs.Reached.{with_number}

-- the rows back rise
pub back_rise : (low : ℕ) (es : List (ℕ × Node)) → RisesFrom nodes.number_of low es → RisesFrom number_of low (map back_row es)
back_rise low [] r = tt
back_rise low (e ∷ es) r = (r.0, back_rise (suc e.0) es r.1)

-- links to numbers hold these
links_hold : (ns : List ℕ) → flat_map held_by (map value.Link ns) ≡ ns
links_hold [] = refl
links_hold (n ∷ ns) = ap (λ l. n ∷ l) (links_hold ns)

-- the row back of a number
back_at : (es : List (ℕ × Node)) (n : ℕ) → row_at (map back_row es) n ≡ option_map (λ (x : Node). (back_row (n, x)).row) (node_at es n)
back_at [] n = refl
back_at (e ∷ es) n = grind (arith, nat_tests, back_at es n)

pub back_held : (es : List (ℕ × Node)) (n : ℕ) → held_at (map back_row es) n ≡ option_map_or (λ (x : Node). x.holders) (node_at es n) []
back_held es n = ap (λ o. option_map_or held_in o []) (back_at es n) ∙ of_node (node_at es n)
  where
    of_node : (o : Option Node) → option_map_or held_in (option_map (λ (x : Node). (back_row (n, x)).row) o) [] ≡ option_map_or (λ (x : Node). x.holders) o []
    of_node None = refl
    of_node (Some x) = links_hold x.holders

-- what a way leads to from the row of a number
abbrev pub held_along : Way → Node → List ℕ
held_along Links x = held_in (row_of x.body)
held_along Holders x = x.holders

pub along_held : (way : Way) (es : List (ℕ × Node)) (n : ℕ) (o : Option Node) → o ≡ node_at es n → held_at (rows_along way es) n ≡ option_map_or (held_along way) o []
along_held Links es n o is = held_found es n o is
along_held Holders es n o is = back_held es n ∙ ap (λ a. option_map_or (λ (x : Node). x.holders) a []) (sym is)

pub along_rise : (way : Way) (es : List (ℕ × Node)) → RisesFrom nodes.number_of 0 es → RisesFrom number_of 0 (rows_along way es)
along_rise Links es r = rows_rise 0 es r
along_rise Holders es r = back_rise 0 es r

-- ---- a turn

-- another number more leaves one unseen
pub still_unseen : (to who : ℕ) (seen : List ℕ) → is_among to seen ≡ false → (who == to) ≡ false → is_among to (with_number seen who) ≡ false
still_unseen to who seen h d = grind (arith, nat_tests, among_with_number seen who to)

-- a number that waits is reached
pub last_reached : (rows : List RowEntry) (from to who : ℕ) (seen waiting rest : List ℕ) → Walked rows from seen waiting → waiting ≡ rest ++ who ∷ [] → (who == to) ≡ true → true ≡ is_among to (reached rows from)
last_reached rows from to who seen waiting rest w e s =
    let last : is_among who waiting ≡ true = ap (is_among who) e ∙ among_last who rest in
    let there : (is_among who seen || is_among who waiting) ≡ true = grind (arith, nat_tests, last) in
    let same : who ≡ to = grind (arith, nat_tests) in
    sym (ap (λ n. is_among n (reached rows from)) (sym same) ∙ w.within who there)
  where
    among_last : (n : ℕ) (ns : List ℕ) → is_among n (ns ++ n ∷ []) ≡ true
    among_last n [] = grind (arith, nat_tests)
    among_last n (m ∷ ns) = grind (arith, nat_tests, among_last n ns)

-- ---- both ends

-- who holds a number is told by its row and by its node
pub holder_among : (es : List (ℕ × Node)) (who h : ℕ) (n : Node) → IsExact es → node_at es who ≡ Some n → is_among h n.holders ≡ is_among who (held_at (rows_in es) h)
holder_among es who h n exact at =
    count_among h n.holders ∙ (ap (λ c. not (c == 0)) (exact.counts who h n at) ∙ sym (count_among who (held_at (rows_in es) h)))

-- what holds is held back
back_step : (es : List (ℕ × Node)) (to a b : ℕ) (r : Row) → RisesFrom nodes.number_of 0 es → IsExact es → is_among to (reached (rows_in es) a) ≡ true
    → row_at (map back_row es) a ≡ Some r → is_among b (held_in r) ≡ true → is_among to (reached (rows_in es) b) ≡ true
back_step es to a b r rise exact keep at held =
    let rows_rising = rows_rise 0 es rise in
    let among : is_among b (option_map_or (λ (x : Node). x.holders) (node_at es a) []) ≡ true = ap (is_among b) (sym (back_held es a) ∙ row_held (map back_row es) a r at) ∙ held in
    let there = of_node (node_at es a) refl among in
    let holds = held_row (rows_in es) b a there in
    reached_further (rows_in es) b a to rows_rising (reached_closed (rows_in es) b b a holds.0 rows_rising (reached_start (rows_in es) b) holds.1 holds.2) keep
  where
    of_node : (o : Option Node) → node_at es a ≡ o → is_among b (option_map_or (λ (x : Node). x.holders) o []) ≡ true → is_among a (held_at (rows_in es) b) ≡ true
    of_node None is h = cc
    of_node (Some x) is h = sym (holder_among es a b x exact is) ∙ h

-- what is held holds back
on_step : (schema : Schema) (es : List (ℕ × Node)) (from a b : ℕ) (r : Row) → RisesFrom nodes.number_of 0 es → are_sound schema (rows_in es) ≡ true → IsExact es
    → is_among from (reached (map back_row es) a) ≡ true → row_at (rows_in es) a ≡ Some r → is_among b (held_in r) ≡ true → is_among from (reached (map back_row es) b) ≡ true
on_step schema es from a b r rise sound exact keep at held =
    let back = map back_row es in
    let rising = back_rise 0 es rise in
    let holds : is_among b (held_at (rows_in es) a) ≡ true = ap (is_among b) (row_held (rows_in es) a r at) ∙ held in
    let node = live_node es b (sound_links schema (rows_in es) sound a b r at held) in
    let among : is_among a (held_at back b) ≡ true = ap (is_among a) (back_held es b ∙ ap (λ o. option_map_or (λ (x : Node). x.holders) o []) node.1) ∙ (holder_among es b a node.0 exact node.1 ∙ holds) in
    let row = held_row back b a among in
    reached_further back b a from rising (reached_closed back b b a row.0 rising (reached_start back b) row.1 row.2) keep
  where
    live_node : (fs : List (ℕ × Node)) (k : ℕ) → is_live (rows_in fs) k ≡ true → (x : Node) × (node_at fs k ≡ Some x)
    live_node fs k live = go (node_at fs k) refl
      where
        go : (o : Option Node) → node_at fs k ≡ o → (x : Node) × (node_at fs k ≡ Some x)
        go (Some x) is = (x, is)
        go None is = let none = dead_where fs k true (ap is_some is) in cc

-- the walk back finds the start where the walk on finds the end
pub reached_back : (schema : Schema) (es : List (ℕ × Node)) (from to : ℕ) → RisesFrom nodes.number_of 0 es → are_sound schema (rows_in es) ≡ true → IsExact es
    → is_among from (reached (map back_row es) to) ≡ is_among to (reached (rows_in es) from)
reached_back schema es from to rise sound exact = both_ways (is_among from (reached (map back_row es) to)) (is_among to (reached (rows_in es) from))
    (λ h. reached_least (map back_row es) to (λ n. is_among to (reached (rows_in es) n)) (back_rise 0 es rise) (reached_start (rows_in es) to) (λ a b r k s t. back_step es to a b r rise exact k s t) from h)
    (λ h. reached_least (rows_in es) from (λ n. is_among from (reached (map back_row es) n)) (rows_rise 0 es rise) (reached_start (map back_row es) from) (λ a b r k s t. on_step schema es from a b r rise sound exact k s t) to h)

-- from a row that leads nowhere no other is reached
pub reached_alone : (rows : List RowEntry) (start end : ℕ) → RisesFrom number_of 0 rows → held_at rows start ≡ [] → (start == end) ≡ false → false ≡ is_among end (reached rows start)
reached_alone rows start end rise none apart =
    let walked : Walked rows start (with_number [] start) [] = subst (Walked rows start (with_number [] start)) none (walk_on rows start [] (start ∷ []) [] start rise (walk_start rows start) refl) in
    let all : with_number [] start ≡ reached rows start = walk_end rows start (with_number [] start) [] rise walked refl in
    sym (ap (is_among end) (sym all) ∙ still_unseen end start [] refl apart)

-- the nodes rise as their rows do
pub nodes_rise : (low : ℕ) (es : List (ℕ × Node)) → RisesFrom number_of low (rows_in es) → RisesFrom nodes.number_of low es
nodes_rise low [] r = tt
nodes_rise low (e ∷ es) r = (r.0, nodes_rise (suc e.0) es r.1)
