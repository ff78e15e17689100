-- The permitted rows: where they stand, what they hold, that all are reached, and that they have no new cycle.
use Rattle.std.proofs.Common.{◌≡◌, ℕ, Bool, true, false, cond, ◌&&◌, List, Option, Some, None, refl, sym, ap, ◌∙◌, arith}
use Rattle.std.specs.Option.{option_map}
use Rattle.std.proofs.lemmas.Bool.Decides.{nat_tests}
use Rattle.lists.specs.Rising.{RisesFrom}
use Rattle.lists.proofs.RisingLaws.{RisesFrom-filter}
use Rattle.schema_model.specs.declared.place.Pair.{Pair}
use Rattle.schema_model.specs.Classes.{Schema}
use Rattle.state_model.specs.declared.row.Row.{Row}
use Rattle.state_model.specs.declared.row.RowEntry.{RowEntry}
use Rattle.state_model.specs.Rows.{number_of, row_at, is_live, held_in}
use Rattle.state_model.specs.Reached.{is_among, reached, HasNoCycle}
use Rattle.state_model.specs.Shown.{shown_row, shown, permitted}
use Rattle.std.proofs.lemmas.Bool.{and_parts, and_from}
use Rattle.state_laws.proofs.Numbers.{live_at, at_live, row_chosen}
use Rattle.state_laws.proofs.ReachedLaws.{reached_start, reached_least, reached_closed, no_way_back, no_cycle_from}
use Rattle.state_laws.proofs.ShownRows.{shown_held, shown_rises, shown_at}

-- the rows that are permitted rise
pub permitted_rises : (schema : Schema) (rows : List RowEntry) (M : List Pair) → RisesFrom number_of 0 rows → RisesFrom number_of 0 (permitted schema rows M)
permitted_rises schema rows M rise = RisesFrom-filter number_of 0 (λ (e : RowEntry). is_among e.who (reached (shown schema M rows) 0)) (shown schema M rows) (shown_rises schema M 0 rows rise)

-- at a number stands what its row shows, where the number is reached through what rows show
pub permitted_row : (schema : Schema) (rows : List RowEntry) (M : List Pair) (n : ℕ) → RisesFrom number_of 0 rows
    → row_at (permitted schema rows M) n ≡ cond (is_among n (reached (shown schema M rows) 0)) (option_map (shown_row schema M n) (row_at rows n)) None
permitted_row schema rows M n rise =
    row_chosen (λ k. is_among k (reached (shown schema M rows) 0)) (shown schema M rows) n ∙ ap (λ o. cond (is_among n (reached (shown schema M rows) 0)) o None) (shown_at schema M rows n)

-- what is made of an option under a test is made of what is in it, and the test holds
made_from : {A B : Type 0} (f : A → B) (b : Bool) (o : Option A) (p : B) → cond b (option_map f o) None ≡ Some p → (a : A) × (o ≡ Some a) × (p ≡ f a) × (b ≡ true)
made_from f false o p h = cc
made_from f true None p h = cc
made_from f true (Some a) p h = (a, refl, cc, refl)

-- a permitted row is what a row of its number shows, and the number is reached through what rows show
pub permitted_from : (schema : Schema) (rows : List RowEntry) (M : List Pair) (n : ℕ) (p : Row) → RisesFrom number_of 0 rows → row_at (permitted schema rows M) n ≡ Some p
    → (r : Row) × (row_at rows n ≡ Some r) × (p ≡ shown_row schema M n r) × (is_among n (reached (shown schema M rows) 0) ≡ true)
permitted_from schema rows M n p rise h =
    made_from (shown_row schema M n) (is_among n (reached (shown schema M rows) 0)) (row_at rows n) p (sym (permitted_row schema rows M n rise) ∙ h)

-- what a row shows is permitted where its number is reached through what rows show
pub permitted_at : (schema : Schema) (rows : List RowEntry) (M : List Pair) (n : ℕ) (r : Row) → RisesFrom number_of 0 rows → row_at rows n ≡ Some r → is_among n (reached (shown schema M rows) 0) ≡ true
    → row_at (permitted schema rows M) n ≡ Some (shown_row schema M n r)
permitted_at schema rows M n r rise s t =
    permitted_row schema rows M n rise ∙ ap (λ b. cond b (option_map (shown_row schema M n) (row_at rows n)) None) t ∙ ap (option_map (shown_row schema M n)) s

-- row 0 is permitted where it is there
pub permitted_root : (schema : Schema) (rows : List RowEntry) (M : List Pair) → RisesFrom number_of 0 rows → is_live rows 0 ≡ true → is_live (permitted schema rows M) 0 ≡ true
permitted_root schema rows M rise h =
    let root = at_live rows 0 h in
    live_at (permitted schema rows M) 0 (shown_row schema M 0 root.0) (permitted_at schema rows M 0 root.0 rise root.1 (reached_start (shown schema M rows) 0))

-- among rows with their shown places alone stands what a row of its number shows
pub shown_there : (schema : Schema) (rows : List RowEntry) (M : List Pair) (n : ℕ) (r : Row) → row_at rows n ≡ Some r → row_at (shown schema M rows) n ≡ Some (shown_row schema M n r)
shown_there schema rows M n r h = shown_at schema M rows n ∙ ap (option_map (shown_row schema M n)) h

-- what a row that is reached shows a link to is reached
reached_on : (schema : Schema) (rows : List RowEntry) (M : List Pair) (n m : ℕ) (r : Row) → RisesFrom number_of 0 rows → is_among n (reached (shown schema M rows) 0) ≡ true
    → row_at rows n ≡ Some r → is_among m (held_in (shown_row schema M n r)) ≡ true → is_among m (reached (shown schema M rows) 0) ≡ true
reached_on schema rows M n m r rise h s t = reached_closed (shown schema M rows) 0 n m (shown_row schema M n r) (shown_rises schema M 0 rows rise) h (shown_there schema rows M n r s) t

-- a permitted row's links lead to permitted rows
pub permitted_links : (schema : Schema) (rows : List RowEntry) (M : List Pair) → RisesFrom number_of 0 rows → ((n m : ℕ) (r : Row) → row_at rows n ≡ Some r → is_among m (held_in r) ≡ true → is_live rows m ≡ true)
    → (n m : ℕ) (p : Row) → row_at (permitted schema rows M) n ≡ Some p → is_among m (held_in p) ≡ true → is_live (permitted schema rows M) m ≡ true
permitted_links schema rows M rise links n m p s t =
    let from = permitted_from schema rows M n p rise s in
    let held : is_among m (held_in (shown_row schema M n from.0)) ≡ true = ap (λ r. is_among m (held_in r)) (sym from.2) ∙ t in
    let there = at_live rows m (links n m from.0 from.1 (shown_held schema M n m from.0 held)) in
    live_at (permitted schema rows M) m (shown_row schema M m there.0) (permitted_at schema rows M m there.0 rise there.1 (reached_on schema rows M n m from.0 rise from.3 from.1 held))

-- a number is reached through what rows show, and over the permitted rows
abbrev in_both : Schema → List RowEntry → List Pair → ℕ → Bool
in_both schema rows M n = is_among n (reached (shown schema M rows) 0) && is_among n (reached (permitted schema rows M) 0)

-- what a row that is there in both ways shows is reached in both ways
in_both_on : (schema : Schema) (rows : List RowEntry) (M : List Pair) → RisesFrom number_of 0 rows → (a b : ℕ) (r : Row) → in_both schema rows M a ≡ true → row_at (shown schema M rows) a ≡ Some r
    → is_among b (held_in r) ≡ true → in_both schema rows M b ≡ true
in_both_on schema rows M rise a b r h s t =
    let sides = and_parts (is_among a (reached (shown schema M rows) 0)) (is_among a (reached (permitted schema rows M) 0)) h in
    let stands : row_at (permitted schema rows M) a ≡ Some r = row_chosen (λ k. is_among k (reached (shown schema M rows) 0)) (shown schema M rows) a ∙ ap (λ x. cond x (row_at (shown schema M rows) a) None) sides.0 ∙ s in
    and_from (is_among b (reached (shown schema M rows) 0)) (is_among b (reached (permitted schema rows M) 0))
    (reached_closed (shown schema M rows) 0 a b r (shown_rises schema M 0 rows rise) sides.0 s t)
    (reached_closed (permitted schema rows M) 0 a b r (permitted_rises schema rows M rise) sides.1 stands t)

-- every permitted row is reached over the permitted rows
pub permitted_reached : (schema : Schema) (rows : List RowEntry) (M : List Pair) → RisesFrom number_of 0 rows → ((n m : ℕ) (r : Row) → row_at rows n ≡ Some r → is_among m (held_in r) ≡ true → is_live rows m ≡ true)
    → is_live rows 0 ≡ true → (n : ℕ) → is_live (permitted schema rows M) n ≡ true → is_among n (reached (permitted schema rows M) 0) ≡ true
permitted_reached schema rows M rise links root n h =
    let row = at_live (permitted schema rows M) n h in
    let from = permitted_from schema rows M n row.0 rise row.1 in
    let start = and_from (is_among 0 (reached (shown schema M rows) 0)) (is_among 0 (reached (permitted schema rows M) 0)) (reached_start (shown schema M rows) 0) (reached_start (permitted schema rows M) 0) in
    let sides = reached_least (shown schema M rows) 0 (in_both schema rows M) (shown_rises schema M 0 rows rise) start (in_both_on schema rows M rise) n from.3 in
    (and_parts (is_among n (reached (shown schema M rows) 0)) (is_among n (reached (permitted schema rows M) 0)) sides).1

-- what is reached in rows that hold no more than others is reached in those
pub reached_within : (some rows : List RowEntry) → RisesFrom number_of 0 some → RisesFrom number_of 0 rows
    → ((n m : ℕ) (a : Row) → row_at some n ≡ Some a → is_among m (held_in a) ≡ true → (b : Row) × (row_at rows n ≡ Some b) × (is_among m (held_in b) ≡ true)) → (from m : ℕ)
    → is_among m (reached some from) ≡ true → is_among m (reached rows from) ≡ true
reached_within some rows rise_some rise within from m h =
    reached_least some from (λ n. is_among n (reached rows from)) rise_some (reached_start rows from) (λ a b r k s t. let more = within a b r s t in reached_closed rows from a b more.0 rise k more.1 more.2) m h

-- rows that hold no more than rows without a cycle have none
pub no_cycle_within : (some rows : List RowEntry) → RisesFrom number_of 0 some → RisesFrom number_of 0 rows
    → ((n m : ℕ) (a : Row) → row_at some n ≡ Some a → is_among m (held_in a) ≡ true → (b : Row) × (row_at rows n ≡ Some b) × (is_among m (held_in b) ≡ true)) → HasNoCycle rows → HasNoCycle some
no_cycle_within some rows rise_some rise within none =
    no_cycle_from some rise_some (λ a b r s t. let more = within a b r s t in grind (arith, nat_tests, reached_within some rows rise_some rise within b a, no_way_back rows a b more.0 none more.1 more.2))

-- the permitted rows have no cycle where the rows have none
pub permitted_no_cycle : (schema : Schema) (rows : List RowEntry) (M : List Pair) → RisesFrom number_of 0 rows → HasNoCycle rows → HasNoCycle (permitted schema rows M)
permitted_no_cycle schema rows M rise none =
    no_cycle_within (permitted schema rows M) rows (permitted_rises schema rows M rise) rise
    (λ n m p s t. let from = permitted_from schema rows M n p rise s in (from.0, from.1, shown_held schema M n m from.0 (ap (λ r. is_among m (held_in r)) (sym from.2) ∙ t)))
    none
