-- The holders of a row in a table: as many as the places that hold it.
use Rattle.std.proofs.Common.{◌≡◌, ℕ, ◌≤◌, Bool, true, false, ◌==◌, List, [], ◌∷◌, length, filter, Option, Some, None, refl, sym, ap, ◌∙◌, arith}
use Rattle.std.specs.List.{flat_map}
use Rattle.std.specs.Option.{is_some, option_and_then, option_map, option_map_or}
use Rattle.std.proofs.lemmas.Bool.{true≢false}
use Rattle.std.proofs.lemmas.Bool.Decides.{nat_tests}
use Rattle.schema_model.specs.Classes.{Schema}
use Rattle.std.proofs.lemmas.List.{length-append, length-map}
use Rattle.std.proofs.lemmas.List.Sums.{sum_by-cons}
use Rattle.schema_model.specs.declared.place.Key.{Key}
use Rattle.schema_model.specs.declared.value.Value.{Value}
use Rattle.schema_model.specs.declared.value.Value.TheVariants as value
use Rattle.state_model.specs.declared.row.Row.{Row}
use Rattle.state_model.specs.declared.row.RowEntry.{RowEntry}
use Rattle.state_model.specs.Reached.{is_among}
use Rattle.state_model.specs.Rows.{held_in, place_count, row_at, values_in}
use Rattle.state_model.specs.State.{places_limit}
use Rattle.state_model.specs.Sound.{are_sound}
use Rattle.state_model.specs.Values.{held_by}
use Rattle.state_laws.proofs.Numbers.{live_row}
use Rattle.command_laws.specs.Accounts.{count_of}
use Rattle.command_laws.proofs.SoundRows.{sound_links, sound_rises}
use Rattle.plain_rows.specs.Links.{held_at}
use Rattle.instance_table.specs.declared.node.Node.{Node}
use Rattle.instance_table.specs.Bodies.{row_of, value_in}
use Rattle.instance_table.specs.Holders.{holders_in, holders_of}
use Rattle.instance_table.specs.Nodes.{node_at, rows_in}
use Rattle.instance_table.specs.Table.{IsTable, value_of}
use Rattle.instance_table.proofs.HolderCounts.{ascends_holders, count_holders, same_counts}
use Rattle.instance_table.proofs.ExactLaws.{none_counted}
use Rattle.instance_table.proofs.StateLaws.{row_found}

-- the holders of a node are the places that hold it
pub holders_are : (schema : Schema) (es : List (ℕ × Node)) (given places text : ℕ) → IsTable schema es given places text → (who : ℕ) (n : Node) → node_at es who ≡ Some n → n.holders ≡ holders_of (rows_in es) who
holders_are schema es given places text t who n at =
    let rise = sound_rises schema (rows_in es) t.kept.sound in
    same_counts 0 0 n.holders (holders_of (rows_in es) who) (t.exact.ascend who n at) (ascends_holders who 0 (rows_in es) rise) (λ h. t.exact.counts who h n at ∙ sym (count_holders who h 0 (rows_in es) rise))

-- nothing holds a number that isn't live
pub none_holds : (schema : Schema) (rows : List RowEntry) → are_sound schema rows ≡ true → (who : ℕ) → row_at rows who ≡ None → (h : ℕ) → count_of who (held_at rows h) ≡ 0
none_holds schema rows sound who gone h = by_row (row_at rows h) refl
  where
    by_test : (r : Row) → row_at rows h ≡ Some r → (b : Bool) → is_among who (held_in r) ≡ b → count_of who (held_in r) ≡ 0
    by_test r e false a = none_counted who (held_in r) a
    by_test r e true a = absurd (true≢false (sym (sound_links schema rows sound h who r e a) ∙ (live_row rows who ∙ ap is_some gone)))

    by_row : (o : Option Row) → row_at rows h ≡ o → count_of who (option_map_or held_in o []) ≡ 0
    by_row None e = refl
    by_row (Some r) e = by_test r e (is_among who (held_in r)) refl

pub none_held : (schema : Schema) (es : List (ℕ × Node)) (given places text : ℕ) → IsTable schema es given places text → (who : ℕ) → node_at es who ≡ None → [] ≡ holders_of (rows_in es) who
none_held schema es given places text t who at =
    let rise = sound_rises schema (rows_in es) t.kept.sound in
    let gone : row_at (rows_in es) who ≡ None = row_found es who ∙ ap (option_map (λ (x : Node). row_of x.body)) at in
    same_counts 0 0 [] (holders_of (rows_in es) who) tt (ascends_holders who 0 (rows_in es) rise) (λ h. sym (count_holders who h 0 (rows_in es) rise ∙ none_holds schema (rows_in es) t.kept.sound who gone h))

-- values hold no more numbers than they are
pub held_few : (vs : List Value) → length (flat_map held_by vs) ≤ length vs
held_few [] = omega arith
held_few (value.Whole z ∷ vs) = omega (arith, held_few vs)
held_few (value.Str t ∷ vs) = omega (arith, held_few vs)
held_few (value.Truth b ∷ vs) = omega (arith, held_few vs)
held_few (value.Link n ∷ vs) = omega (arith, held_few vs)

kept_few : (p : ℕ → Bool) (ns : List ℕ) → length (filter p ns) ≤ length ns
kept_few p [] = omega arith
kept_few p (n ∷ ns) = grind (arith, nat_tests, kept_few p ns)

-- no more places of a row hold another than it has
holders_few : (who : ℕ) (e : RowEntry) → length (holders_in who e) ≤ length (values_in e.row)
holders_few who e = omega (arith, length-map (filter (λ m. m == who) (held_in e.row)) (λ m. e.who), kept_few (λ m. m == who) (held_in e.row), held_few (values_in e.row))

-- no more places hold a row than there are
holders_within : (who : ℕ) (rows : List RowEntry) → length (holders_of rows who) ≤ place_count rows
holders_within who [] = omega arith
holders_within who (e ∷ rows) =
    omega (arith, length-append (holders_in who e) (holders_of rows who), holders_few who e, holders_within who rows, sum_by-cons (λ (x : RowEntry). length (values_in x.row)) e rows)

pub holders_limited : (schema : Schema) (es : List (ℕ × Node)) (given places text : ℕ) → IsTable schema es given places text → (who : ℕ) → length (holders_of (rows_in es) who) ≤ places_limit
holders_limited schema es given places text t who = omega (arith, holders_within who (rows_in es), t.placed, t.places_few)

-- ---- the value in a place

pub value_found : (es : List (ℕ × Node)) (holder : ℕ) (key : Key) (o : Option Node) → o ≡ node_at es holder → option_and_then (λ (n : Node). value_in (row_of n.body) key) o ≡ value_of (rows_in es) holder key
value_found es holder key o is = from o ∙ ap (option_and_then (λ r. value_in r key)) (ap (option_map (λ (n : Node). row_of n.body)) is ∙ sym (row_found es holder))
  where
    from : (o : Option Node) → option_and_then (λ (n : Node). value_in (row_of n.body) key) o ≡ option_and_then (λ r. value_in r key) (option_map (λ (n : Node). row_of n.body) o)
    from None = refl
    from (Some n) = refl
