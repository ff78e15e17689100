-- A walk through the places that lead on: what it finds, and how many places it looks at.
use Rattle.std.proofs.Common.{◌≡◌, ℕ, suc, ◌+◌, ◌≤◌, Bool, true, false, cond, ◌||◌, ◌==◌, List, [], ◌∷◌, ◌++◌, length, filter, map, take, Option, Some, None, sum_by, ℤ, refl, sym, ap, ◌∙◌, arith}
use Rattle.std.specs.List.{flat_map}
use Rattle.std.specs.Option.{option_map, option_map_or}
use Rattle.std.proofs.lemmas.Bool.Decides.{nat_tests}
use Rattle.std.proofs.lemmas.List.Sums.{sum_by-cons}
use Rattle.std.proofs.Math.Seq.{take-length}
use Rattle.lists.specs.Rising.{RisesFrom, find}
use Rattle.lists.proofs.RisingLaws.{find_below}
use Rattle.schema_model.specs.Classes.{Schema}
use Rattle.state_model.specs.declared.row.Row.{Row}
use Rattle.state_model.specs.declared.row.Row.TheVariants.{Struct}
use Rattle.state_model.specs.declared.row.RowEntry.{RowEntry}
use Rattle.state_model.specs.declared.row.FieldValue.{FieldValue}
use Rattle.state_model.specs.Members.{leads_on, row_through, rows_through}
use Rattle.state_model.specs.Places.{tag_of}
use Rattle.state_model.specs.Reached.{is_among, reached, with_number}
use Rattle.state_model.specs.Rows.{number_of, row_at, is_live, held_in, values_in, rows_of, place_count}
use Rattle.state_model.specs.Values.{held_by}
use Rattle.state_laws.proofs.Numbers.{among_with_number}
use Rattle.plain_rows.specs.Links.{held_at}
use Rattle.plain_rows.proofs.Walks.{Walked}
use Rattle.instance_table.specs.declared.node.Node.{Node}
use Rattle.instance_table.specs.Behind.{numbers_behind, places_behind, held_through, places_at}
use Rattle.instance_table.specs.Bodies.{row_of}
use Rattle.instance_table.specs.Nodes.{node_at, rows_in}
use Rattle.instance_table.proofs.StateLaws.{row_there}

-- ---- the rows

-- they rise
pub through_rise : (schema : Schema) (tag : ℤ) (low : ℕ) (rows : List RowEntry) → RisesFrom number_of low rows
    → RisesFrom number_of low (rows_through schema tag rows)
through_rise schema tag low [] r = tt
through_rise schema tag low (e ∷ rows) r = (r.0, through_rise schema tag (suc e.who) rows r.1)

-- the row of a number
pub row_at_through : (schema : Schema) (tag : ℤ) (rows : List RowEntry) (n : ℕ)
    → row_at (rows_through schema tag rows) n ≡ option_map (row_through schema tag) (row_at rows n)
row_at_through schema tag [] n = refl
row_at_through schema tag (e ∷ rows) n =
    let row = λ (x : RowEntry). x.row in
    let thru : RowEntry = record { who = e.who; row = row_through schema tag e.row } in
    let go : (b : Bool) → option_map row (cond b (Some thru) (find number_of n (rows_through schema tag rows)))
    ≡ option_map (row_through schema tag) (option_map row (cond b (Some e) (find number_of n rows)))
    = elim [ true ↦ refl | false ↦ row_at_through schema tag rows n ] in
    go (e.who == n)

-- the row of a node, and what it holds in the places that lead on
abbrev node_row : Node → Row
node_row n = row_of n.body

abbrev pub held_by_node : Schema → ℤ → Node → List ℕ
held_by_node schema tag n = held_in (row_through schema tag (row_of n.body))

-- what a row holds in the places that lead on, by the node that was found
pub held_behind : (schema : Schema) (tag : ℤ) (es : List (ℕ × Node)) (n : ℕ) (o : Option Node) → o ≡ node_at es n
    → held_at (rows_through schema tag (rows_in es)) n ≡ option_map_or (held_by_node schema tag) o []
held_behind schema tag es n o h =
    let at = row_at_through schema tag (rows_in es) n ∙ ap (option_map (row_through schema tag)) (row_there es n o h) in
    ap (λ r. option_map_or held_in r []) at ∙ from o
  where
    from : (o : Option Node) → option_map_or held_in (option_map (row_through schema tag) (option_map node_row o)) []
        ≡ option_map_or (held_by_node schema tag) o []
    from None = refl
    from (Some x) = refl

-- how many places it has
pub places_found : (es : List (ℕ × Node)) (n : ℕ) (o : Option Node) → o ≡ node_at es n
    → places_at (rows_in es) n ≡ option_map_or (λ (x : Node). length (values_in (row_of x.body))) o 0
places_found es n o h = ap (λ r. option_map_or row_places r 0) (row_there es n o h) ∙ from o
  where
    row_places : Row → ℕ
    row_places r = length (values_in r)

    from : (o : Option Node) → option_map_or row_places (option_map node_row o) 0
        ≡ option_map_or (λ (x : Node). row_places (node_row x)) o 0
    from None = refl
    from (Some x) = refl

-- ---- the fields of an instance

-- what the fields hold that lead on
pub fields_through : (schema : Schema) (tag : ℤ) (class : ℕ) (fields : List FieldValue)
    → flat_map (held_through schema tag class) fields ≡ held_in (row_through schema tag (Struct class fields))
fields_through schema tag class [] = refl
fields_through schema tag class (f ∷ fields) =
    let leads = λ (x : FieldValue). leads_on tag (tag_of schema class x.field) in
    let held = λ (fs : List FieldValue). flat_map held_by (map (λ (x : FieldValue). x.value) fs) in
    let go : (b : Bool) → cond b (held_by f.value) [] ++ flat_map (held_through schema tag class) fields
    ≡ held (cond b (f ∷ filter leads fields) (filter leads fields))
    = elim [
      | true ↦ ap (λ l. held_by f.value ++ l) (fields_through schema tag class fields)
      | false ↦ fields_through schema tag class fields
    ] in
    go (leads f)

-- the links behind the last field are those of all that lead on
pub fields_all : (schema : Schema) (tag : ℤ) (class : ℕ) (old now : List ℕ) (k : ℕ) (fields : List FieldValue)
    → k ≡ length fields → now ≡ old ++ flat_map (held_through schema tag class) (take k fields)
    → now ≡ old ++ held_in (row_through schema tag (Struct class fields))
fields_all schema tag class old now k fields h p =
    let all : take k fields ≡ fields = ap (λ m. take m fields) h ∙ take-length fields in
    let held = ap (flat_map (held_through schema tag class)) all ∙ fields_through schema tag class fields in
    p ∙ ap (λ l. old ++ l) held

-- ---- the places that are looked at

-- how many places a row has
abbrev size : RowEntry → ℕ
size e = length (values_in e.row)

-- rows that pass a test of their numbers
abbrev passing : (ℕ → Bool) → List RowEntry → List RowEntry
passing p rows = filter (λ (e : RowEntry). p e.who) rows

-- with one number more that passes, the places of its row are more
sizes_more : (p q : ℕ → Bool) (n low : ℕ) (rows : List RowEntry) → ((k : ℕ) → q k ≡ (n == k || p k)) → p n ≡ false
    → RisesFrom number_of low rows
    → sum_by size (passing q rows) ≡ sum_by size (passing p rows) + option_map_or size (find number_of n rows) 0
sizes_more p q n low [] more new r = omega arith
sizes_more p q n low (e ∷ rows) more new r =
    let rest = sizes_more p q n (suc e.who) rows more new r.1 in
    let none = find_below number_of (suc e.who) rows n r.1 in
    let old = sum_by-cons size e (passing p rows) in
    let now = sum_by-cons size e (passing q rows) in
    grind (arith, nat_tests, more e.who, new, rest, none, old, now)

found_size : (o : Option RowEntry)
    → option_map_or (λ (r : Row). length (values_in r)) (option_map (λ (e : RowEntry). e.row) o) 0
    ≡ option_map_or size o 0
found_size None = refl
found_size (Some e) = refl

-- the places of the rows that were seen, with a new one
pub places_more : (rows : List RowEntry) (seen : List ℕ) (n : ℕ) → RisesFrom number_of 0 rows
    → is_among n seen ≡ false
    → place_count (rows_of (with_number seen n) rows) ≡ place_count (rows_of seen rows) + places_at rows n
places_more rows seen n r new =
    let old = λ (k : ℕ). is_among k seen in
    let now = λ (k : ℕ). is_among k (with_number seen n) in
    sizes_more old now n 0 rows (λ k. among_with_number seen n k) new r
    ∙ ap (λ m. place_count (rows_of seen rows) + m) (sym (found_size (find number_of n rows)))

-- of fewer numbers there are no more places
sizes_within : (p q : ℕ → Bool) (rows : List RowEntry) → ((k : ℕ) → p k ≡ true → q k ≡ true) → sum_by size (passing p rows) ≤ sum_by size (passing q rows)
sizes_within p q [] within = omega arith
sizes_within p q (e ∷ rows) within =
    let rest = sizes_within p q rows within in
    let fewer = sum_by-cons size e (passing p rows) in
    let more = sum_by-cons size e (passing q rows) in
    grind (arith, within e.who, rest, fewer, more)

pub places_within : (rows : List RowEntry) (ns ms : List ℕ) → ((k : ℕ) → is_among k ns ≡ true → is_among k ms ≡ true) → place_count (rows_of ns rows) ≤ place_count (rows_of ms rows)
places_within rows ns ms within = sizes_within (λ k. is_among k ns) (λ k. is_among k ms) rows within

-- the rows that a walk came to have no more places than those that it gets to
pub places_walked : (thru rows : List RowEntry) (from : ℕ) (seen waiting : List ℕ) → Walked thru from seen waiting → place_count (rows_of seen rows) ≤ place_count (rows_of (reached thru from) rows)
places_walked thru rows from seen waiting w = places_within rows seen (reached thru from) (λ k h. w.within k (ap (λ b. b || is_among k waiting) h))

-- none were seen
pub places_none : (rows : List RowEntry) → place_count (rows_of [] rows) ≡ 0
places_none [] = refl
places_none (e ∷ rows) = places_none rows

-- ---- what is told

-- of a row that isn't live
pub dead_behind : (schema : Schema) (rows : List RowEntry) (who : ℕ) (tag : ℤ) → is_live rows who ≡ false
    → (None ≡ numbers_behind schema rows who tag) × (places_behind schema rows who tag ≡ 0)
dead_behind schema rows who tag h =
    let thru = reached (rows_through schema tag rows) who in
    (sym (ap (λ b. cond b (Some thru) None) h), ap (λ b. cond b (place_count (rows_of thru rows)) 0) h)

-- of a live one
pub live_behind : (schema : Schema) (rows : List RowEntry) (who : ℕ) (tag : ℤ) → is_live rows who ≡ true
    → (Some (reached (rows_through schema tag rows) who) ≡ numbers_behind schema rows who tag)
    × (places_behind schema rows who tag ≡ place_count (rows_of (reached (rows_through schema tag rows) who) rows))
live_behind schema rows who tag h =
    let thru = reached (rows_through schema tag rows) who in
    (sym (ap (λ b. cond b (Some thru) None) h), ap (λ b. cond b (place_count (rows_of thru rows)) 0) h)
