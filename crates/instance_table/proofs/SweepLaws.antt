-- A sweep, round by round: what it keeps, and what is left at the end.
use Rattle.std.proofs.Common.{◌≡◌, ℕ, zero, suc, ◌+◌, ◌-◌, ◌≤◌, ◌<◌, Bool, true, false, cond, not, ◌&&◌, ◌||◌, ◌==◌, List, [], ◌∷◌, ◌++◌, length, filter, Option, Some, None, is_some, IfSome, refl, sym, ap, ap₂, ◌∙◌, subst, arith}
use Rattle.std.specs.Option.{option_map, option_map_or}
use Rattle.std.proofs.lemmas.Bool.Decides.{nat_tests}
use Rattle.std.proofs.lemmas.List.{length_push}
use Rattle.std.proofs.lemmas.List.Elements.{filter-append}
use Rattle.lists.specs.Rising.{RisesFrom, find, remove}
use Rattle.lists.proofs.RisingLaws.{RisesFrom-remove, length-remove}
use Rattle.state_model.specs.declared.row.Row.{Row}
use Rattle.state_model.specs.declared.row.RowEntry.{RowEntry}
use Rattle.state_model.specs.Rows as state
use Rattle.state_model.specs.Reached.{is_among, all_held, freed}
use Rattle.state_model.specs.State.{ItemCount}
use Rattle.state_laws.proofs.Numbers.{live_at, live_chosen, live_found, held_by_row}
use Rattle.plain_rows.specs.Links.{held_at}
use Rattle.command_laws.specs.Accounts.{count_of, one_if, row_text}
use Rattle.command_laws.proofs.Sweeping.{freed_without, freed_settled}
use Rattle.state_laws.proofs.Counts.{count_among}
use Rattle.command_laws.proofs.RowSums.{removed_row_places, removed_row_text}
use Rattle.instance_table.specs.declared.node.Node.{Node}
use Rattle.instance_table.specs.Bodies.{row_of, given_of}
use Rattle.instance_table.specs.Changes.{let_go_each}
use Rattle.instance_table.specs.Graph.{waits_at}
use Rattle.instance_table.specs.Holders.{AscendsFrom}
use Rattle.instance_table.specs.Nodes.{number_of, node_at, at_node, rows_in, counts_in, entry_counts, entry_row, rested}
use Rattle.instance_table.specs.Table.{IsExact}
use Rattle.instance_table.proofs.HolderCounts.{count_first}
use Rattle.state_laws.proofs.Counts.{count_both}
use Rattle.instance_table.proofs.NodeLaws.{rises_at, length_at}
use Rattle.instance_table.proofs.StateLaws.{row_found, rows_rise, rows_same, counts_same}
use Rattle.instance_table.proofs.WaitingLaws.{node_at_edited}
use Rattle.std.proofs.lemmas.List.{length-map}
use Rattle.instance_table.proofs.ChangeLaws.{tell_of, told_of}
use Rattle.instance_table.proofs.LetGoLaws.{counts_let_go, rises_let_go}
use Rattle.instance_table.proofs.StateLaws.{node_row}
use Rattle.instance_table.proofs.FreedNodes.{IsLoose, at_rested, counts_removed, exact_without, loose_at, loose_node, rests_on, rows_without, unheld, unheld_anywhere, without, without_rested}

-- ---- what a sweep keeps

-- of the nodes at its start, and those that are left with the counts of their places and text: the others are gone, and freeing goes on as from the start
pub record IsSwept (old es : List (ℕ × Node)) (places text : ℕ) (gone : List ℕ) : Type 0 where
  pub rises : RisesFrom number_of 0 es
  pub exact : IsExact es
  pub frees : freed (rows_in es) ≡ freed (rows_in old)
  pub counted : counts_in es ≡ filter (λ c. state.is_live (rows_in es) c.who) (counts_in old)
  pub placed : places ≡ state.place_count (rows_in es)
  pub less : state.place_count (rows_in es) ≤ state.place_count (rows_in old)
  pub texts : text ≡ state.text_bytes_of (rows_in es)
  pub shorter : state.text_bytes_of (rows_in es) ≤ state.text_bytes_of (rows_in old)
  pub numbers : (k : ℕ) → count_of k gone + one_if (state.is_live (rows_in es) k) ≡ one_if (state.is_live (rows_in old) k)
  pub all : length gone + length es ≡ length old

-- each count is one of a row that is there
entry_count_live : (rows : List RowEntry) (e : ℕ × Node) → state.is_live rows e.0 ≡ true → filter (λ (c : ItemCount). state.is_live rows c.who) (entry_counts e) ≡ entry_counts e
entry_count_live rows e h = from (given_of e.1.body)
  where
    one : ℕ → ItemCount
    one n = record { who = e.0; count = n }

    from : (o : Option ℕ) → filter (λ (c : ItemCount). state.is_live rows c.who) (option_map_or (λ n. one n ∷ []) o []) ≡ option_map_or (λ n. one n ∷ []) o []
    from None = refl
    from (Some n) = ap (λ b. cond b (one n ∷ []) []) h

-- the first node's row is there
live_first : (e : ℕ × Node) (es : List (ℕ × Node)) → state.is_live (rows_in (e ∷ es)) e.0 ≡ true
live_first e es = grind (arith, nat_tests)

-- what is there without the first node is there with it
live_later : (e : ℕ × Node) (es : List (ℕ × Node)) (k : ℕ) → state.is_live (rows_in es) k ≡ true → state.is_live (rows_in (e ∷ es)) k ≡ true
live_later e es k h = grind (arith, nat_tests)

-- so a choice of those of rows that are there leaves all
counts_live : (rows : List RowEntry) (es : List (ℕ × Node)) → ((k : ℕ) → state.is_live (rows_in es) k ≡ true → state.is_live rows k ≡ true)
    → filter (λ (c : ItemCount). state.is_live rows c.who) (counts_in es) ≡ counts_in es
counts_live rows [] h = refl
counts_live rows (e ∷ es) h =
    filter-append (λ (c : ItemCount). state.is_live rows c.who) (entry_counts e) (counts_in es)
    ∙ ap₂ (λ a b. a ++ b) (entry_count_live rows e (h e.0 (live_first e es))) (counts_live rows es (λ k t. h k (live_later e es k t)))

-- at the start nothing is gone
pub swept_start : (es : List (ℕ × Node)) (places text : ℕ) (gone : List ℕ) → RisesFrom number_of 0 es → IsExact es → places ≡ state.place_count (rows_in es) → text ≡ state.text_bytes_of (rows_in es)
    → gone ≡ [] → IsSwept es es places text gone
swept_start es places text gone rise exact p t none = record {
  rises = rise;
  exact = exact;
  frees = refl;
  counted = sym (counts_live (rows_in es) es (λ k h. h));
  placed = p;
  less = omega arith;
  texts = t;
  shorter = omega arith;
  numbers = λ k. omega (arith, ap (count_of k) none);
  all = omega (arith, ap (λ (ns : List ℕ). length ns) none);
}

-- ---- a node that rests

-- the node before it rested
before_rest : (who : ℕ) (es : List (ℕ × Node)) (k : ℕ) (n : Node) → node_at (at_node who rested es) k ≡ Some n
    → (m : Node) × (node_at es k ≡ Some m) × (m.holders ≡ n.holders) × ((k == who) ≡ false → m.waits ≡ n.waits)
before_rest who es k n at = from (node_at es k) refl (k == who) refl (sym (node_at_edited who k rested es) ∙ at)
  where
    from : (o : Option Node) → node_at es k ≡ o → (b : Bool) → (k == who) ≡ b → option_map (λ n. cond b (rested n) n) (node_at es k) ≡ Some n
        → (m : Node) × (node_at es k ≡ Some m) × (m.holders ≡ n.holders) × ((k == who) ≡ false → m.waits ≡ n.waits)
    from None e b t h = let clash : None ≡ Some n = sym (ap (option_map (λ n. cond b (rested n) n)) e) ∙ h in cc
    from (Some m) e true t h =
        let same : Some (rested m) ≡ Some n = sym (ap (option_map rested) e) ∙ h in
        let is : rested m ≡ n = cc in
        (m, e, ap (λ (x : Node). x.holders) is, λ f. cc)
    from (Some m) e false t h =
        let same : Some m ≡ Some n = sym (ap (option_map (λ (x : Node). x)) e) ∙ h in
        let is : m ≡ n = cc in
        (m, e, ap (λ (x : Node). x.holders) is, λ f. ap (λ (x : Node). x.waits) is)

-- where it isn't loose the nodes are exact as before
exact_rested : (who : ℕ) (es : List (ℕ × Node)) → IsExact es → loose_at who (at_node who rested es) ≡ false → IsExact (at_node who rested es)
exact_rested who es x tight = record {
  counts = λ k h n at. let m = before_rest who es k n at in ap (count_of h) (sym m.2) ∙ (x.counts k h m.0 m.1 ∙ sym (ap (λ rows. count_of k (held_at rows h)) (rows_same who rested es (λ n. refl))));
  ascend = λ k n at. let m = before_rest who es k n at in subst (AscendsFrom 0) m.2 (x.ascend k m.0 m.1);
  wait = λ k n at other none. waits k n at other none (k == who) refl;
}
  where
    waits : (k : ℕ) (n : Node) → node_at (at_node who rested es) k ≡ Some n → (k == 0) ≡ false → (length n.holders == 0) ≡ true → (b : Bool) → (k == who) ≡ b → n.waits ≡ true
    waits k n at other none false t =
        let m = before_rest who es k n at in
        sym (m.3 t) ∙ x.wait k m.0 m.1 other (ap (λ (ns : List ℕ). length ns == 0) m.2 ∙ none)
    waits k n at other none true t =
        let same : k ≡ who = grind (arith, nat_tests) in
        let here : node_at (at_node who rested es) who ≡ Some n = ap (node_at (at_node who rested es)) (sym same) ∙ at in
        let test : (not (who == 0) && (length n.holders == 0)) ≡ false = sym (ap (λ o. option_map_or (λ (n : Node). not (who == 0) && (length n.holders == 0)) o false) here) ∙ tight in
        let also : (who == 0) ≡ false = ap (λ j. j == 0) (sym same) ∙ other in
        absurd (grind (arith, nat_tests))

-- a node that isn't loose rests
pub swept_rested : (who : ℕ) (old es new : List (ℕ × Node)) (places text : ℕ) (gone : List ℕ) → IsSwept old es places text gone → new ≡ at_node who rested es → loose_at who new ≡ false
    → IsSwept old new places text gone
swept_rested who old es new places text gone s e tight = subst (λ l. IsSwept old l places text gone) (sym e) (record {
  rises = rises_at who 0 rested es s.rises;
  exact = exact_rested who es s.exact (sym (ap (loose_at who) e) ∙ tight);
  frees = ap freed same ∙ s.frees;
  counted = counts_same who rested es (λ n. refl) ∙ (s.counted ∙ sym (ap (λ rows. filter (λ (c : ItemCount). state.is_live rows c.who) (counts_in old)) same));
  placed = s.placed ∙ sym (ap state.place_count same);
  less = omega (arith, s.less, ap state.place_count same);
  texts = s.texts ∙ sym (ap state.text_bytes_of same);
  shorter = omega (arith, s.shorter, ap state.text_bytes_of same);
  numbers = λ k. ap (λ rows. count_of k gone + one_if (state.is_live rows k)) same ∙ s.numbers k;
  all = omega (arith, s.all, length_at who rested es);
})
  where
    same : rows_in (at_node who rested es) ≡ rows_in es
    same = rows_same who rested es (λ n. refl)

-- ---- a node that goes

-- the node as it rests
rests_at : (who : ℕ) (es mid : List (ℕ × Node)) (n : Node) → mid ≡ at_node who rested es → node_at es who ≡ Some n → node_at mid who ≡ Some (rested n)
rests_at who es mid n e at = ap (λ l. node_at l who) e ∙ (at_rested who es ∙ ap (option_map rested) at)

-- what a test takes off where it holds
one_taken : (b : Bool) (n m : ℕ) → b ≡ true → n + cond b 1 0 ≡ m → n + 1 ≡ m
one_taken true n m t h = h
one_taken false n m t h = cc

-- there is a node less
length_without : (k : ℕ) (es : List (ℕ × Node)) (n : Node) → RisesFrom number_of 0 es → node_at es k ≡ Some n → length (without k es) + 1 ≡ length es
length_without k es n rise at =
    let rows = rows_in es in
    let there : is_some (find state.number_of k rows) ≡ true = sym (live_found rows k) ∙ live_at rows k (row_of n.body) (node_row es k n at) in
    let less = one_taken (is_some (find state.number_of k rows)) (length (remove state.number_of k rows)) (length rows) there (length-remove state.number_of 0 k rows (rows_rise 0 es rise)) in
    omega (arith, length-map es entry_row, length-map (without k es) entry_row, ap (λ (rs : List RowEntry). length rs) (rows_without k es), less)

-- as many nodes as before one rested
length_mid : (who : ℕ) (es mid : List (ℕ × Node)) → mid ≡ at_node who rested es → length mid ≡ length es
length_mid who es mid e = ap (λ (l : List (ℕ × Node)). length l) e ∙ length_at who rested es

-- the node that goes next: it rests, no row holds it, and it isn't the root
pub record IsNext (who : ℕ) (es mid : List (ℕ × Node)) (n : Node) : Type 0 where
  pub at : node_at mid who ≡ Some (rested n)
  pub row : state.row_at (rows_in es) who ≡ Some (row_of n.body)
  pub loose : IsLoose who es n
  pub alone : (h : ℕ) → is_among who (held_at (rows_in es) h) ≡ false

-- where the test holds, such a node is next
pub next_is : (who : ℕ) (old es mid : List (ℕ × Node)) (places text : ℕ) (gone : List ℕ) → IsSwept old es places text gone → mid ≡ at_node who rested es → loose_at who mid ≡ true → (n : Node) × IsNext who es mid n
next_is who old es mid places text gone s e loose =
    let found = loose_node who es (sym (ap (loose_at who) e) ∙ loose) in
    let n = found.0 in
    let l = found.1 in (
      n,
      record {
        at = rests_at who es mid n e l.at;
        row = node_row es who n l.at;
        loose = l;
        alone = λ h. unheld who h es n s.exact l;
      },
    )

-- it rests while it lets go of others
pub next_rests : (who : ℕ) (old es mid : List (ℕ × Node)) (places text : ℕ) (gone : List ℕ) → IsSwept old es places text gone → mid ≡ at_node who rested es → loose_at who mid ≡ true
    → waits_at (let_go_each (held_at (rows_in mid) who) who mid) who ≡ false
next_rests who old es mid places text gone s e loose =
    let next = next_is who old es mid places text gone s e loose in
    ap (λ l. waits_at (let_go_each (held_at (rows_in l) who) who l) who) e ∙ rests_on who es (next.1.alone who)

-- it has no more places and text than all rows
pub next_places : (who : ℕ) (old es mid : List (ℕ × Node)) (places text : ℕ) (gone : List ℕ) → IsSwept old es places text gone → mid ≡ at_node who rested es → loose_at who mid ≡ true
    → IfSome (node_at mid who) (λ n. length (state.values_in (row_of n.body)) ≤ places)
next_places who old es mid places text gone s e loose =
    let next = next_is who old es mid places text gone s e loose in
    let n = next.0 in
    tell_of (λ n. length (state.values_in (row_of n.body)) ≤ places) (node_at mid who) (rested n) next.1.at
    (omega (arith, s.placed, removed_row_places (rows_in es) who (row_of n.body) (rows_rise 0 es s.rises) next.1.row))

-- nor more text
pub next_text : (who : ℕ) (old es mid : List (ℕ × Node)) (places text : ℕ) (gone : List ℕ) → IsSwept old es places text gone → mid ≡ at_node who rested es → loose_at who mid ≡ true
    → IfSome (node_at mid who) (λ n. row_text (row_of n.body) ≤ text)
next_text who old es mid places text gone s e loose =
    let next = next_is who old es mid places text gone s e loose in
    let n = next.0 in
    tell_of (λ n. row_text (row_of n.body) ≤ text) (node_at mid who) (rested n) next.1.at
    (omega (arith, s.texts, removed_row_text (rows_in es) who (row_of n.body) (rows_rise 0 es s.rises) next.1.row))

-- there is room for its number
pub next_room : (who : ℕ) (old es mid : List (ℕ × Node)) (places text : ℕ) (gone : List ℕ) (room : ℕ) → IsSwept old es places text gone → mid ≡ at_node who rested es → loose_at who mid ≡ true → length old ≤ room
    → length gone < room
next_room who old es mid places text gone room s e loose h =
    let next = next_is who old es mid places text gone s e loose in
    omega (arith, s.all, length_without who es next.0 s.rises next.1.loose.at)

-- the rows that are there without one
live_without : (k j : ℕ) (es : List (ℕ × Node)) → state.is_live (rows_in (without k es)) j ≡ (not (j == k) && state.is_live (rows_in es) j)
live_without k j es = ap (λ rows. state.is_live rows j) (rows_without k es) ∙ live_chosen (λ n. not (n == k)) (rows_in es) j

-- two choices, one after the other, are one
filters_join : (p q r : ℕ → Bool) → ((k : ℕ) → r k ≡ (p k && q k)) → (cs : List ItemCount) → filter (λ (c : ItemCount). p c.who) (filter (λ (c : ItemCount). q c.who) cs) ≡ filter (λ (c : ItemCount). r c.who) cs
filters_join p q r h [] = refl
filters_join p q r h (c ∷ cs) = grind (arith, nat_tests, filters_join p q r h cs, h c.who)

-- what a sweep keeps, after a node that nothing holds has gone
swept_without : (who : ℕ) (old es : List (ℕ × Node)) (places text : ℕ) (gone : List ℕ) (n : Node) → IsSwept old es places text gone → IsLoose who es n
    → IsSwept old (without who es) (places - length (state.values_in (row_of n.body))) (text - row_text (row_of n.body)) (gone ++ who ∷ [])
swept_without who old es places text gone n s l = record {
  rises = RisesFrom-remove number_of 0 who left (rises_let_go ns who es s.rises);
  exact = exact_without who es s.exact;
  frees = ap freed rows ∙ (freed_without (rows_in es) who rise l.other (unheld_anywhere who (rows_in es) rise (λ h. unheld who h es n s.exact l)) ∙ s.frees);
  counted =
      counts_removed who left
      ∙ (ap (filter (λ (c : ItemCount). not (c.who == who))) (counts_let_go ns who es ∙ s.counted)
      ∙ filters_join (λ k. not (k == who)) (λ k. state.is_live (rows_in es) k) (λ k. state.is_live (rows_in (without who es)) k) (λ k. live_without who k es) (counts_in old));
  placed = omega (arith, s.placed, ap state.place_count rows, place);
  less = omega (arith, s.less, ap state.place_count rows, place);
  texts = omega (arith, s.texts, ap state.text_bytes_of rows, letters);
  shorter = omega (arith, s.shorter, ap state.text_bytes_of rows, letters);
  numbers = λ k. number k (k == who) refl;
  all = omega (arith, s.all, length_push gone who, length_without who es n s.rises l.at);
}
  where
    ns : List ℕ
    ns = held_at (rows_in es) who

    left : List (ℕ × Node)
    left = let_go_each ns who es

    rise : RisesFrom state.number_of 0 (rows_in es)
    rise = rows_rise 0 es s.rises

    rows : rows_in (without who es) ≡ remove state.number_of who (rows_in es)
    rows = rows_without who es

    row : state.row_at (rows_in es) who ≡ Some (row_of n.body)
    row = node_row es who n l.at

    place : state.place_count (remove state.number_of who (rows_in es)) + length (state.values_in (row_of n.body)) ≡ state.place_count (rows_in es)
    place = removed_row_places (rows_in es) who (row_of n.body) rise row

    letters : state.text_bytes_of (remove state.number_of who (rows_in es)) + row_text (row_of n.body) ≡ state.text_bytes_of (rows_in es)
    letters = removed_row_text (rows_in es) who (row_of n.body) rise row

    more : (k : ℕ) → count_of k (gone ++ who ∷ []) ≡ count_of k gone + one_if (who == k)
    more k = omega (arith, count_both k gone (who ∷ []), count_first k who [])

    number : (k : ℕ) (b : Bool) → (k == who) ≡ b → count_of k (gone ++ who ∷ []) + one_if (state.is_live (rows_in (without who es)) k) ≡ one_if (state.is_live (rows_in old) k)
    number k true t =
        let same : k ≡ who = grind (arith, nat_tests) in
        let was : state.is_live (rows_in es) k ≡ true = ap (state.is_live (rows_in es)) same ∙ live_at (rows_in es) who (row_of n.body) row in
        let now : state.is_live (rows_in (without who es)) k ≡ false = live_without who k es ∙ ap (λ b. not b && state.is_live (rows_in es) k) t in
        let one : (who == k) ≡ true = grind (arith, nat_tests) in
        omega (arith, more k, s.numbers k, ap one_if was, ap one_if now, ap one_if one)
    number k false t =
        let now : state.is_live (rows_in (without who es)) k ≡ state.is_live (rows_in es) k = live_without who k es ∙ ap (λ b. not b && state.is_live (rows_in es) k) t in
        let none : (who == k) ≡ false = grind (arith, nat_tests) in
        omega (arith, more k, s.numbers k, ap one_if now, ap one_if none)

-- after it has gone
pub swept_freed : (who : ℕ) (old es mid new : List (ℕ × Node)) (places text : ℕ) (gone : List ℕ) (new_places new_text : ℕ) (new_gone : List ℕ) → IsSwept old es places text gone
    → mid ≡ at_node who rested es → loose_at who mid ≡ true
    → IfSome (node_at mid who) (λ n. new ≡ without who mid)
    → IfSome (node_at mid who) (λ n. new_places ≡ places - length (state.values_in (row_of n.body)))
    → IfSome (node_at mid who) (λ n. new_text ≡ text - row_text (row_of n.body))
    → IfSome (node_at mid who) (λ n. new_gone ≡ gone ++ who ∷ [])
    → IsSwept old new new_places new_text new_gone
swept_freed who old es mid new places text gone new_places new_text new_gone s e loose nodes p t g =
    let next = next_is who old es mid places text gone s e loose in
    let n = next.0 in
    let is : new ≡ without who es = told_of (λ n. new ≡ without who mid) (node_at mid who) (rested n) next.1.at nodes ∙ (ap (without who) e ∙ without_rested who es (next.1.alone who)) in
    let p_is = told_of (λ n. new_places ≡ places - length (state.values_in (row_of n.body))) (node_at mid who) (rested n) next.1.at p in
    let t_is = told_of (λ n. new_text ≡ text - row_text (row_of n.body)) (node_at mid who) (rested n) next.1.at t in
    let g_is = told_of (λ n. new_gone ≡ gone ++ who ∷ []) (node_at mid who) (rested n) next.1.at g in
    rw (is, p_is, t_is, g_is) (swept_without who old es places text gone n s next.1.loose)

-- ---- how many rounds are left

-- so many nodes may wait again for each that goes
abbrev pub rounds : ℕ → ℕ
rounds zero = 0
rounds (suc n) = suc n + rounds n

-- with a node more
rounds_more : (n m : ℕ) → m + 1 ≡ n → rounds n ≡ n + rounds m
rounds_more n m h = let same : n ≡ suc m = omega (arith, h) in ap rounds same ∙ ap (λ k. k + rounds m) (sym same)

-- fewer are left after a node that goes
pub fewer_freed : (who : ℕ) (old es mid new : List (ℕ × Node)) (places text : ℕ) (gone loose left : List ℕ) → IsSwept old es places text gone
    → mid ≡ at_node who rested es → loose_at who mid ≡ true
    → IfSome (node_at mid who) (λ n. new ≡ without who mid) → length left ≤ length new
    → rounds (length new) + length left < rounds (length es) + length loose
fewer_freed who old es mid new places text gone loose left s e t nodes few =
    let next = next_is who old es mid places text gone s e t in
    let n = next.0 in
    let is : new ≡ without who es = told_of (λ n. new ≡ without who mid) (node_at mid who) (rested n) next.1.at nodes ∙ (ap (without who) e ∙ without_rested who es (next.1.alone who)) in
    let less : length new + 1 ≡ length es = omega (arith, ap (λ (l : List (ℕ × Node)). length l) is, length_without who es n s.rises next.1.loose.at) in
    omega (arith, few, less, rounds_more (length es) (length new) less)

-- and after one that stays
pub fewer_rested : (who : ℕ) (es mid : List (ℕ × Node)) (loose left : List ℕ) → mid ≡ at_node who rested es → loose ≡ left ++ who ∷ []
    → rounds (length mid) + length left < rounds (length es) + length loose
fewer_rested who es mid loose left e h =
    omega (arith, ap rounds (length_mid who es mid e), ap (λ (ns : List ℕ). length ns) h, length_push left who)

-- ---- the end

-- where no node waits each but the root is held
settled : (es : List (ℕ × Node)) → IsExact es → ((who : ℕ) → waits_at es who ≡ false) → (n : ℕ) (r : Row) → state.row_at (rows_in es) n ≡ Some r → (n == 0 || is_among n (all_held (rows_in es))) ≡ true
settled es x rest n r at = from (node_at es n) refl (n == 0) refl
  where
    held : (h : ℕ) (hs : List ℕ) (m : Node) → node_at es n ≡ Some m → m.holders ≡ h ∷ hs → is_among n (all_held (rows_in es)) ≡ true
    held h hs m e f =
        let once : count_of h (h ∷ hs) ≡ count_of n (held_at (rows_in es) h) = sym (ap (count_of h) f) ∙ x.counts n h m e in
        let law = count_among n (held_at (rows_in es) h) in
        let first = count_first h h hs in
        let there : is_among n (held_at (rows_in es) h) ≡ true = grind (arith, nat_tests) in
        by_row h (state.row_at (rows_in es) h) refl there
      where
        by_row : (h : ℕ) (o : Option Row) → state.row_at (rows_in es) h ≡ o → is_among n (held_at (rows_in es) h) ≡ true → is_among n (all_held (rows_in es)) ≡ true
        by_row h None g t = let none : is_among n (held_at (rows_in es) h) ≡ false = ap (λ o. is_among n (option_map_or state.held_in o [])) g in cc
        by_row h (Some q) g t = held_by_row (rows_in es) h n q g (sym (ap (λ o. is_among n (option_map_or state.held_in o [])) g) ∙ t)

    has : (m : Node) → node_at es n ≡ Some m → (n == 0) ≡ false → (ns : List ℕ) → m.holders ≡ ns → is_among n (all_held (rows_in es)) ≡ true
    has m e f [] g =
        let waits : m.waits ≡ true = x.wait n m e f (ap (λ (ns : List ℕ). length ns == 0) g) in
        let rests : m.waits ≡ false = sym (ap (λ o. option_map_or (λ (n : Node). n.waits) o false) e) ∙ rest n in
        cc
    has m e f (h ∷ hs) g = held h hs m e g

    from : (o : Option Node) → node_at es n ≡ o → (b : Bool) → (n == 0) ≡ b → (n == 0 || is_among n (all_held (rows_in es))) ≡ true
    from o e true t = ap (λ b. b || is_among n (all_held (rows_in es))) t
    from None e false t = let none : None ≡ Some r = sym (row_found es n ∙ ap (option_map (λ (x : Node). row_of x.body)) e) ∙ at in cc
    from (Some m) e false t = ap (λ b. b || is_among n (all_held (rows_in es))) t ∙ has m e t m.holders refl

-- so the rows are those that freeing leaves
pub swept_rows : (old es : List (ℕ × Node)) (places text : ℕ) (gone : List ℕ) → IsSwept old es places text gone → ((who : ℕ) → waits_at es who ≡ false) → rows_in es ≡ freed (rows_in old)
swept_rows old es places text gone s rest = sym (freed_settled (rows_in es) (settled es s.exact rest) (rows_rise 0 es s.rises)) ∙ s.frees

-- and the counts are theirs
pub swept_counts : (old es : List (ℕ × Node)) (places text : ℕ) (gone : List ℕ) → IsSwept old es places text gone → ((who : ℕ) → waits_at es who ≡ false)
    → counts_in es ≡ filter (λ c. state.is_live (freed (rows_in old)) c.who) (counts_in old)
swept_counts old es places text gone s rest = s.counted ∙ ap (λ rows. filter (λ (c : ItemCount). state.is_live rows c.who) (counts_in old)) (swept_rows old es places text gone s rest)

-- the last look finds nothing and changes nothing
pub swept_end : (old es new : List (ℕ × Node)) (places text : ℕ) (gone : List ℕ) → IsSwept old es places text gone → new ≡ es → IsSwept old new places text gone
swept_end old es new places text gone s e = subst (λ l. IsSwept old l places text gone) (sym e) s
