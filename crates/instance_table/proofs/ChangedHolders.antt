-- Who holds the nodes after a command that changes a row.
use Rattle.std.proofs.Common.{◌≡◌, ℕ, ◌+◌, ◌-◌, Bool, true, false, cond, ◌&&◌, ◌==◌, List, [], ◌∷◌, Option, Some, None, refl, sym, ap, ◌∙◌, arith}
use Rattle.std.specs.Option.{option_map_or}
use Rattle.std.proofs.lemmas.Bool.Decides.{nat_tests}
use Rattle.schema_model.specs.declared.value.Value.{Value}
use Rattle.state_model.specs.declared.row.Row.{Row}
use Rattle.state_model.specs.declared.row.RowEntry.{RowEntry}
use Rattle.state_model.specs.declared.command.Command.{Command}
use Rattle.state_model.specs.Reached.{is_among}
use Rattle.state_model.specs.Rows.{held_in, put_row, row_at}
use Rattle.state_model.specs.Commands.{value_put}
use Rattle.command_laws.specs.Accounts.{count_of, held_in_value, one_if, replaced}
use Rattle.command_laws.proofs.LinkedRows.{row_put}
use Rattle.plain_rows.specs.Links.{held_at}
use Rattle.instance_table.specs.declared.node.Node.{Node}
use Rattle.instance_table.specs.declared.body.Body.{Body}
use Rattle.instance_table.specs.Bodies.{row_of}
use Rattle.instance_table.specs.Nodes.{at_node, rows_in}
use Rattle.instance_table.specs.Changes.{edited_node, link_in, row_cleared, place_changed}
use Rattle.instance_table.specs.Table.{IsExact}
use Rattle.instance_table.proofs.HolderCounts.{count_first}
use Rattle.instance_table.proofs.ExactLaws.{Held, HoldersAre, same_held, link_held, link_let_go, links_let_go, body_edited, none_counted}
use Rattle.instance_table.proofs.LetGoLaws.{held_link}
use Rattle.instance_table.proofs.ChangedStates.{all_let_go, put_held}

-- how often rows hold each number, by row
abbrev pub row_counts : List RowEntry → Held
row_counts rows who h = count_of who (held_at rows h)

pub exact_held : (es : List (ℕ × Node)) → IsExact es → HoldersAre (row_counts (rows_in es)) es
exact_held es x = record { counts = x.counts; ascend = x.ascend; wait = x.wait }

pub held_exact : (es : List (ℕ × Node)) → HoldersAre (row_counts (rows_in es)) es → IsExact es
held_exact es x = record { counts = x.counts; ascend = x.ascend; wait = x.wait }

-- how often a value holds a number, by its link
count_link : (who : ℕ) (o : Option Value) → count_of who (held_in_value o) ≡ one_if (option_map_or (λ k. who == k) (link_in o) false)
count_link who o = ap (count_of who) (held_link o) ∙ from (link_in o)
  where
    from : (l : Option ℕ) → count_of who (option_map_or (λ k. k ∷ []) l []) ≡ one_if (option_map_or (λ k. who == k) l false)
    from None = refl
    from (Some k) = let one = count_first who k [] in let none : count_of who [] ≡ 0 = refl in grind (arith, nat_tests)

test_link : (who : ℕ) (t : Bool) (l : Option ℕ) → one_if (option_map_or (λ k. who == k && t) l false) ≡ cond t (one_if (option_map_or (λ k. who == k) l false)) 0
test_link who true None = refl
test_link who false None = refl
test_link who true (Some k) = grind (arith, nat_tests)
test_link who false (Some k) = grind (arith, nat_tests)

-- what the row of a number holds where one row was put
pub held_put : (rows : List RowEntry) (h : ℕ) (new : Row) (j : ℕ) → held_at (put_row h new rows) j ≡ cond (h == j) (held_in new) (held_at rows j)
held_put rows h new j = ap (λ o. option_map_or held_in o []) (row_put rows h new j) ∙ by_test (h == j)
  where
    by_test : (t : Bool) → option_map_or held_in (cond t (Some new) (row_at rows j)) [] ≡ cond t (held_in new) (held_at rows j)
    by_test true = refl
    by_test false = refl

-- the holders are those of the rows after a command that changes one place
pub place_exact : (c : Command) (h : ℕ) (b : Body) (es : List (ℕ × Node)) (new : Row) → HoldersAre (row_counts (rows_in es)) es → row_at (rows_in es) h ≡ Some (row_of b)
    → ((n : ℕ) → count_of n (held_in new) + count_of n (held_in_value (replaced c (row_of b))) ≡ count_of n (held_in (row_of b)) + count_of n (held_in_value (value_put c)))
    → HoldersAre (row_counts (put_row h new (rows_in es))) (place_changed c h b es)
place_exact c h b es new x at sums =
    let rows = rows_in es in
    let put = link_in (value_put c) in
    let old = link_in (replaced c (row_of b)) in
    let held = link_held (row_counts rows) put h es x in
    let edited = body_edited _ h c (put_held c h es) held in
    let after = link_let_go _ old h (at_node h (edited_node c) (put_held c h es)) edited in
    same_held _ (row_counts (put_row h new rows)) (place_changed c h b es) (λ who j. by_test who j (h == j) refl) after
  where
    here : (j : ℕ) → (h == j) ≡ true → held_at (rows_in es) j ≡ held_in (row_of b)
    here j t =
        let same : h ≡ j = grind (arith, nat_tests) in
        ap (held_at (rows_in es)) (sym same) ∙ ap (λ o. option_map_or held_in o []) at

    at_test : (who j : ℕ) (t : Bool) → (h == j) ≡ t → count_of who (held_at (put_row h new (rows_in es)) j) ≡ count_of who (cond (h == j) (held_in new) (held_at (rows_in es) j))
        → one_if (option_map_or (λ k. who == k && h == j) (link_in (value_put c)) false) ≡ cond (h == j) (one_if (option_map_or (λ k. who == k) (link_in (value_put c)) false)) 0
        → one_if (option_map_or (λ k. who == k && h == j) (link_in (replaced c (row_of b))) false) ≡ cond (h == j) (one_if (option_map_or (λ k. who == k) (link_in (replaced c (row_of b))) false)) 0
        → count_of who (held_at (put_row h new (rows_in es)) j)
        ≡ count_of who (held_at (rows_in es) j) + one_if (option_map_or (λ k. who == k && h == j) (link_in (value_put c)) false) - one_if (option_map_or (λ k. who == k && h == j) (link_in (replaced c (row_of b))) false)
    at_test who j true e found put old =
        let found : count_of who (held_at (put_row h new (rows_in es)) j) ≡ count_of who (held_in new) = found ∙ ap (λ t. count_of who (cond t (held_in new) (held_at (rows_in es) j))) e in
        let put = put ∙ ap (λ t. cond t (one_if (option_map_or (λ k. who == k) (link_in (value_put c)) false)) 0) e in
        let old = old ∙ ap (λ t. cond t (one_if (option_map_or (λ k. who == k) (link_in (replaced c (row_of b))) false)) 0) e in
        omega (arith, found, put, old, sums who, count_link who (value_put c), count_link who (replaced c (row_of b)), ap (count_of who) (here j e))
    at_test who j false e found put old =
        let found : count_of who (held_at (put_row h new (rows_in es)) j) ≡ count_of who (held_at (rows_in es) j) = found ∙ ap (λ t. count_of who (cond t (held_in new) (held_at (rows_in es) j))) e in
        let put = put ∙ ap (λ t. cond t (one_if (option_map_or (λ k. who == k) (link_in (value_put c)) false)) 0) e in
        let old = old ∙ ap (λ t. cond t (one_if (option_map_or (λ k. who == k) (link_in (replaced c (row_of b))) false)) 0) e in
        omega (arith, found, put, old)

    by_test : (who j : ℕ) (t : Bool) → (h == j) ≡ t → count_of who (held_at (put_row h new (rows_in es)) j)
        ≡ count_of who (held_at (rows_in es) j) + one_if (option_map_or (λ k. who == k && h == j) (link_in (value_put c)) false) - one_if (option_map_or (λ k. who == k && h == j) (link_in (replaced c (row_of b))) false)
    by_test who j t e =
        let found = ap (count_of who) (held_put (rows_in es) h new j) in
        let put = test_link who (h == j) (link_in (value_put c)) in
        let old = test_link who (h == j) (link_in (replaced c (row_of b))) in
        at_test who j t e found put old

-- the holders are those of the rows after a command that clears a row
pub clear_exact : (c : Command) (h : ℕ) (b : Body) (es : List (ℕ × Node)) (new : Row) → HoldersAre (row_counts (rows_in es)) es → row_at (rows_in es) h ≡ Some (row_of b) → held_in new ≡ []
    → HoldersAre (row_counts (put_row h new (rows_in es))) (row_cleared c h b es)
clear_exact c h b es new x at empty =
    let rows = rows_in es in
    let gone = links_let_go (row_counts rows) (held_in (row_of b)) h es x in
    same_held _ (row_counts (put_row h new rows)) (row_cleared c h b es) (λ who j. ap (count_of who) (held_put rows h new j) ∙ by_test who j (h == j) refl) (body_edited _ h c (all_let_go h b es) gone)
  where
    none : (who j : ℕ) → (h == j) ≡ true → (a : Bool) → is_among who (held_in (row_of b)) ≡ a → count_of who (held_in new) ≡ cond (a && true) 0 (count_of who (held_at (rows_in es) j))
    none who j e true a = ap (count_of who) empty
    none who j e false a =
        let same : h ≡ j = grind (arith, nat_tests) in
        let here : held_at (rows_in es) j ≡ held_in (row_of b) = ap (held_at (rows_in es)) (sym same) ∙ ap (λ o. option_map_or held_in o []) at in
        ap (count_of who) empty ∙ sym (ap (count_of who) here ∙ none_counted who (held_in (row_of b)) a)

    stays : (who j : ℕ) (a : Bool) → count_of who (held_at (rows_in es) j) ≡ cond (a && false) 0 (count_of who (held_at (rows_in es) j))
    stays who j true = refl
    stays who j false = refl

    by_test : (who j : ℕ) (t : Bool) → (h == j) ≡ t → count_of who (cond t (held_in new) (held_at (rows_in es) j)) ≡ cond (is_among who (held_in (row_of b)) && t) 0 (count_of who (held_at (rows_in es) j))
    by_test who j true e = none who j e (is_among who (held_in (row_of b))) refl
    by_test who j false e = stays who j (is_among who (held_in (row_of b)))
