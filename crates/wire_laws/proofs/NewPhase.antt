-- The blocks of new rows, each whole, in the order in which operations name them.
use Rattle.std.proofs.Common.{◌≡◌, ◌≤◌, ◌+◌, ℕ, zero, suc, Bool, true, false, not, cond, ◌||◌, List, [], ◌∷◌, ◌++◌, length, filter, Option, Some, None, refl, sym, ap, subst, ◌∙◌, ◌==◌, arith, append-nil}
use Rattle.std.specs.Option.{option_map_or}
use Rattle.std.proofs.lemmas.Bool.{eqb-true, or_right, or_parts}
use Rattle.std.proofs.lemmas.Bool.Decides.{nat_tests}
use Rattle.schema_model.specs.Classes.{Schema}
use Rattle.state_model.specs.declared.row.Row.{Row}
use Rattle.state_model.specs.declared.row.Row.TheVariants.{Struct}
use Rattle.state_model.specs.declared.row.RowEntry.{RowEntry}
use Rattle.state_model.specs.Rows.{row_at, is_live, held_in, emptied}
use Rattle.state_model.specs.Reached.{is_among, reached}
use Rattle.state_laws.proofs.Numbers.{live_row, among_both}
use Rattle.state_laws.proofs.ReachedLaws.{reached_least}
use Rattle.wire_model.specs.Edits.{Edit}
use Rattle.wire_model.specs.Effect.{apply_edits, edited_row}
use Rattle.wire_model.specs.Patch.{named_in, kind_in, block_of, next_named, new_edits, new_blocks, whole_edits}
use Rattle.wire_laws.proofs.LinkedRows.{CarriesKinds, whole_carries}
use Rattle.wire_laws.proofs.NamedNumbers.{whole_held, held_whole}
use Rattle.wire_laws.proofs.RowLaw.{whole_law}
use Rattle.wire_laws.proofs.Looks.{Looks, looked, one_more, block_looks, some_of}
use Rattle.wire_laws.proofs.CommonPhase.{Ready, fold-append_blocks, looks_same, already}
use Rattle.std.proofs.lemmas.Option.{same_Some}
use Rattle.lists.proofs.Tests.{both_ways}
use Rattle.wire_laws.proofs.Bools.{or_moved, in_either}
use Rattle.wire_laws.proofs.EditSteps.{closed_opened}

-- ---- the next number

-- the first of the named numbers that isn't done, and those behind it
pub record IsNext (done named : List ℕ) (n : ℕ) (rest : List ℕ) : Type 0 where
  pub fresh : is_among n done ≡ false
  pub is_named : is_among n named ≡ true
  pub behind : (k : ℕ) → is_among k rest ≡ true → is_among k named ≡ true
  pub all : (k : ℕ) → is_among k named ≡ true → (is_among k done || ((n == k) || is_among k rest)) ≡ true

next_first : (done ms : List ℕ) (m : ℕ) → is_among m done ≡ false → IsNext done (m ∷ ms) m ms
next_first done ms m fresh = record {
  fresh = fresh;
  is_named = grind (arith, nat_tests);
  behind = λ k h. grind (arith, nat_tests);
  all = λ k h. grind (arith, nat_tests);
}

later_all : (done ms rest : List ℕ) (m n k : ℕ) → is_among m done ≡ true → IsNext done ms n rest → is_among k (m ∷ ms) ≡ true → (is_among k done || ((n == k) || is_among k rest)) ≡ true
later_all done ms rest m n k d i h =
    let go : (b : Bool) → (m == k) ≡ b → (b || is_among k ms) ≡ true → (is_among k done || ((n == k) || is_among k rest)) ≡ true = elim [
      | true ↦ λ t e. let kd : is_among k done ≡ true = ap (λ x. is_among x done) (sym (eqb-true m k t)) ∙ d in rw kd refl
      | false ↦ λ t e. i.all k e
    ] in go (m == k) refl h

next_later : (done ms rest : List ℕ) (m n : ℕ) → is_among m done ≡ true → IsNext done ms n rest → IsNext done (m ∷ ms) n rest
next_later done ms rest m n d i = record {
  fresh = i.fresh;
  is_named = grind (arith, nat_tests, i.is_named);
  behind = λ k h. grind (arith, nat_tests, i.behind k h);
  all = λ k h. later_all done ms rest m n k d i h;
}

next : ℕ → List ℕ → Option (ℕ × List ℕ)
next m ms = let p : ℕ × List ℕ = (m, ms) in Some p

same_pair : (x y : ℕ × List ℕ) → Some x ≡ Some y → (x.0 ≡ y.0) × (x.1 ≡ y.1)
same_pair x y h = let e : x ≡ y = cc in (ap (λ (p : ℕ × List ℕ). p.0) e, ap (λ (p : ℕ × List ℕ). p.1) e)

same_next : (m n : ℕ) (ms rest : List ℕ) → next m ms ≡ next n rest → (m ≡ n) × (ms ≡ rest)
unfolding next
same_next m n ms rest h = same_pair (m, ms) (n, rest) h

next_of : (done named : List ℕ) (n : ℕ) (rest : List ℕ) → next_named done named ≡ next n rest → IsNext done named n rest
unfolding next
next_of done [] n rest h = cc
next_of done (m ∷ ms) n rest h =
    let go : (b : Bool) → is_among m done ≡ b → cond b (next_named done ms) (next m ms) ≡ next n rest → IsNext done (m ∷ ms) n rest = elim [
      | true ↦ λ d k. next_later done ms rest m n d (next_of done ms n rest k)
      | false ↦ λ d k. let e = same_next m n ms rest k in subst (λ x. IsNext done (m ∷ ms) x rest) e.0 (subst (λ x. IsNext done (m ∷ ms) m x) e.1 (next_first done ms m d))
    ] in go (is_among m done) refl h

-- where there is none, all of them are done
none_next : (done named : List ℕ) (k : ℕ) → next_named done named ≡ None → is_among k named ≡ true → is_among k done ≡ true
unfolding next
none_next done [] k h n = cc
none_next done (m ∷ ms) k h n =
    let go : (b c : Bool) → is_among m done ≡ b → (m == k) ≡ c → cond b (next_named done ms) (next m ms) ≡ None → (c || is_among k ms) ≡ true → is_among k done ≡ true = elim [
      | true ↦ elim [
        | true ↦ λ d t e g. ap (λ x. is_among x done) (sym (eqb-true m k t)) ∙ d
        | false ↦ λ d t e g. none_next done ms k e g
      ]
      | false ↦ λ c d t e g. cc
    ] in go (is_among m done) (m == k) refl refl h n

-- ---- how many new rows are not done

abbrev undone : List ℕ → List RowEntry → List RowEntry
undone done rows = filter (λ (e : RowEntry). not (is_among e.who done)) rows

undone_less : (done : List ℕ) (x : ℕ) (rows : List RowEntry) → length (undone (x ∷ done) rows) ≤ length (undone done rows)
undone_less done x [] = omega arith
undone_less done x (e ∷ es) = grind (arith, nat_tests, undone_less done x es)

undone_falls : (done : List ℕ) (x : ℕ) (rows : List RowEntry) → is_live rows x ≡ true → is_among x done ≡ false → length (undone (x ∷ done) rows) + 1 ≤ length (undone done rows)
undone_falls done x [] live fresh = cc
undone_falls done x (e ∷ es) live fresh = grind (arith, nat_tests, undone_less done x es, undone_falls done x es)

all_done : (done : List ℕ) (rows : List RowEntry) (k : ℕ) → length (undone done rows) ≤ 0 → is_live rows k ≡ true → is_among k done ≡ true
all_done done [] k none live = cc
all_done done (e ∷ es) k none live = grind (arith, nat_tests, all_done done es k)

-- ---- a new row

-- what is done, and what the rows that are worked hold
pub record Tracks (old new : List RowEntry) (worked : ℕ → Bool) (done named : List ℕ) : Type 0 where
  pub done_is : (k : ℕ) → is_among k done ≡ (worked k || is_live old k)
  pub named_new : (k : ℕ) → is_among k named ≡ true → is_live new k ≡ true
  pub both : (k : ℕ) → is_live old k ≡ true → is_live new k ≡ true → worked k ≡ true
  pub holds : (n m : ℕ) (r : Row) → worked n ≡ true → row_at new n ≡ Some r → is_among m (held_in r) ≡ true → (is_among m done || is_among m named) ≡ true

named_same : (w live a b : Bool) (new_row old_row kind : Option Row) → (w ≡ false → live ≡ false → a ≡ b)
    → cond w new_row (cond live old_row (cond a kind None)) ≡ cond w new_row (cond live old_row (cond b kind None))
named_same true live a b new_row old_row kind same = refl
named_same false true a b new_row old_row kind same = refl
named_same false false a b new_row old_row kind same = ap (λ x. cond x kind None) (same refl refl)

-- the named numbers may be others, where that isn't seen
pub looks_named : (old new now : List RowEntry) (worked : ℕ → Bool) (named more : List ℕ) → Looks old new now worked named
    → ((n : ℕ) → worked n ≡ false → is_live old n ≡ false → is_among n named ≡ is_among n more) → Looks old new now worked more
looks_named old new now worked named more l same = record {
  rises = l.rises;
  rows = λ n. l.rows n ∙ named_same (worked n) (is_live old n) (is_among n named) (is_among n more) (row_at new n) (row_at old n) (Some (kind_in new n)) (same n);
  there = l.there;
}

-- a new row that was named looks empty
looks_empty : (old new : List RowEntry) (worked : ℕ → Bool) (named : List ℕ) (n : ℕ) (b : Row)
    → worked n ≡ false → is_live old n ≡ false → is_among n named ≡ true → row_at new n ≡ Some b → looked old new worked named n ≡ Some (emptied b)
looks_empty old new worked named n b fresh gone is_named is_new =
    ap (λ w. cond w (row_at new n) (cond (is_live old n) (row_at old n) (cond (is_among n named) (Some (kind_in new n)) None))) fresh
    ∙ (ap (λ l. cond l (row_at old n) (cond (is_among n named) (Some (kind_in new n)) None)) gone
    ∙ (ap (λ m. cond m (Some (kind_in new n)) None) is_named ∙ ap (λ o. Some (option_map_or emptied o (Struct 0 []))) is_new))

-- the block of a new row brings it from nothing to the whole row
new_block : (schema : Schema) (old new now : List RowEntry) (worked : ℕ → Bool) (named : List ℕ) (n : ℕ) (b : Row) (es : List Edit)
    → Ready schema old new → Looks old new now worked named → worked n ≡ false → is_live old n ≡ false → is_among n named ≡ true → row_at new n ≡ Some b
    → whole_edits schema new b ≡ es → Looks old new (apply_edits (block_of n es) now) (one_more n worked) (named ++ named_in es)
new_block schema old new now worked named n b [] r l fresh gone is_named is_new edits =
    let leads = whole_law schema new b (r.new_formed n b is_new) in
    let same : emptied b ≡ b = sym (ap (λ es. edited_row es (emptied b)) edits ∙ closed_opened (emptied b)) ∙ leads in
    looks_same old new now (one_more n worked) (one_more n worked) named (named ++ [])
    (already old new now worked named n b l (looks_empty old new worked named n b fresh gone is_named is_new ∙ ap Some same) is_new) (λ k. refl) (sym (append-nil named))
new_block schema old new now worked named n b (e ∷ es) r l fresh gone is_named is_new edits =
    let leads = whole_law schema new b (r.new_formed n b is_new) in
    let still_named : is_among n (named ++ named_in (e ∷ es)) ≡ true = among_both named (named_in (e ∷ es)) n ∙ ap (λ x. x || is_among n (named_in (e ∷ es))) is_named in
    block_looks old new now worked named (record { holder = n; edits = e ∷ es }) (emptied b) b l (subst (CarriesKinds new) edits (whole_carries schema new b))
    (looks_empty old new worked (named ++ named_in (e ∷ es)) n b fresh gone still_named is_new) (ap (λ es. edited_row es (emptied b)) (sym edits) ∙ leads) is_new

-- ---- all new rows

-- the rows are the new ones, as far as these have them, and the old ones beside them
pub record Arrives (old new now : List RowEntry) : Type 0 where
  pub worked : ℕ → Bool
  pub named : List ℕ
  pub looks : Looks old new now worked named
  pub all : (k : ℕ) → is_live new k ≡ true → worked k ≡ true
  pub named_new : (k : ℕ) → is_among k named ≡ true → is_live new k ≡ true

worked_of : (w live : Bool) → (w || live) ≡ true → (live ≡ true → w ≡ true) → w ≡ true
worked_of true live h f = refl
worked_of false live h f = f h

-- fuel is spent: all new rows are done
spent : (old new now : List RowEntry) (worked : ℕ → Bool) (done named : List ℕ) → Looks old new now worked named → Tracks old new worked done named
    → length (undone done new) ≤ 0 → Arrives old new now
spent old new now worked done named l t none = record {
  worked = worked;
  named = named;
  looks = l;
  all = λ k live. worked_of (worked k) (is_live old k) (sym (t.done_is k) ∙ all_done done new k none live) (λ o. t.both k o live);
  named_new = t.named_new;
}

-- nothing is left to do: the rows that are worked hold each other, so they are all that is reached
settled : (schema : Schema) (old new now : List RowEntry) (worked : ℕ → Bool) (done named : List ℕ) → Ready schema old new
    → ((k : ℕ) → is_live new k ≡ true → is_among k (reached new 0) ≡ true) → Looks old new now worked named → Tracks old new worked done named
    → next_named done named ≡ None → Arrives old new now
settled schema old new now worked done named r reach l t none = record {
  worked = worked;
  named = named;
  looks = l;
  all = λ k live. reached_least new 0 worked r.new_rise (t.both 0 r.old_root r.new_root) closed k (reach k live);
  named_new = t.named_new;
}
  where
    done_all : (m : ℕ) → (is_among m done || is_among m named) ≡ true → is_among m done ≡ true
    done_all m h = in_either (is_among m done) (is_among m named) (is_among m done) (λ e. e) (λ e. none_next done named m none e) h

    closed : (a b : ℕ) (x : Row) → worked a ≡ true → row_at new a ≡ Some x → is_among b (held_in x) ≡ true → worked b ≡ true
    closed a b x w is held =
        worked_of (worked b) (is_live old b) (sym (t.done_is b) ∙ done_all b (t.holds a b x w is held)) (λ o. t.both b o (r.new_links a b x is held))

-- ---- booleans

or_four : (here done rest more : Bool) → (done || (here || rest)) ≡ true → ((here || done) || (rest || more)) ≡ true
or_four true done rest more h = refl
or_four false true rest more h = refl
or_four false false true more h = refl
or_four false false false more h = cc

or_done : (here done rest more : Bool) → done ≡ true → ((here || done) || (rest || more)) ≡ true
or_done true done rest more h = refl
or_done false true rest more h = refl
or_done false false rest more h = cc

left_out : (done here rest : Bool) → done ≡ false → here ≡ false → (done || (here || rest)) ≡ true → rest ≡ true
left_out true here rest d h t = cc
left_out false true rest d h t = cc
left_out false false rest d h t = t

-- ---- one new row more

-- what is tracked, with one new row more
tracks_more : (schema : Schema) (old new : List RowEntry) (worked : ℕ → Bool) (done named rest : List ℕ) (n : ℕ) (b : Row) → Ready schema old new
    → Tracks old new worked done named → IsNext done named n rest → row_at new n ≡ Some b
    → Tracks old new (one_more n worked) (n ∷ done) (rest ++ named_in (whole_edits schema new b))
tracks_more schema old new worked done named rest n b r t i is_new = record {
  done_is = λ k. ap (λ x. (n == k) || x) (t.done_is k) ∙ sym (or_moved (n == k) (worked k) (is_live old k));
  named_new = λ k h.
      in_either (is_among k rest) (is_among k more) (is_live new k) (λ e. t.named_new k (i.behind k e)) (λ e. r.new_links n k b is_new (whole_held schema new b k e))
      (sym (among_both rest more k) ∙ h);
  both = λ k o live. or_right (n == k) (worked k) (t.both k o live);
  holds = λ a m x w is held. holds_more a m x w is held;
}
  where
    more : List ℕ
    more = named_in (whole_edits schema new b)

    encoded : (m : ℕ) → ((is_among m (n ∷ done)) || (is_among m rest || is_among m more)) ≡ true → (is_among m (n ∷ done) || is_among m (rest ++ more)) ≡ true
    encoded m h = ap (λ x. is_among m (n ∷ done) || x) (among_both rest more m) ∙ h

    holds_old : (m : ℕ) → (is_among m done || is_among m named) ≡ true → ((is_among m (n ∷ done)) || (is_among m rest || is_among m more)) ≡ true
    holds_old m h =
        in_either (is_among m done) (is_among m named) _ (or_done (n == m) (is_among m done) (is_among m rest) (is_among m more))
        (λ e. or_four (n == m) (is_among m done) (is_among m rest) (is_among m more) (i.all m e)) h

    holds_more : (a m : ℕ) (x : Row) → ((n == a) || worked a) ≡ true → row_at new a ≡ Some x → is_among m (held_in x) ≡ true → (is_among m (n ∷ done) || is_among m (rest ++ more)) ≡ true
    holds_more a m x w is held =
        let go : (c : Bool) → (n == a) ≡ c → (c || worked a) ≡ true → (is_among m (n ∷ done) || is_among m (rest ++ more)) ≡ true = elim [
          | true ↦ λ c k.
              let same : x ≡ b = same_Some x b (sym is ∙ (ap (row_at new) (sym (eqb-true n a c)) ∙ is_new)) in
              let held_b : is_among m (held_in b) ≡ true = ap (λ y. is_among m (held_in y)) (sym same) ∙ held in
              encoded m (or_right (is_among m (n ∷ done)) (is_among m rest || is_among m more) (or_right (is_among m rest) (is_among m more) (held_whole schema new b m (r.new_formed n b is_new) held_b)))
          | false ↦ λ c k. encoded m (holds_old m (t.holds a m x k is held))
        ] in go (n == a) refl w

-- the rows with one new row more, and what is named from then on
looks_next : (schema : Schema) (old new now : List RowEntry) (worked : ℕ → Bool) (done named rest : List ℕ) (n : ℕ) (b : Row) → Ready schema old new
    → Looks old new now worked named → Tracks old new worked done named → IsNext done named n rest → row_at new n ≡ Some b
    → Looks old new (apply_edits (block_of n (whole_edits schema new b)) now) (one_more n worked) (rest ++ named_in (whole_edits schema new b))
looks_next schema old new now worked done named rest n b r l t i is_new =
    let fresh = or_parts (worked n) (is_live old n) (sym (t.done_is n) ∙ i.fresh) in
    looks_named old new (apply_edits (block_of n (whole_edits schema new b)) now) (one_more n worked) (named ++ more) (rest ++ more)
    (new_block schema old new now worked named n b (whole_edits schema new b) r l fresh.0 fresh.1 i.is_named is_new refl)
    (λ k w o. among_both named more k ∙ (ap (λ x. x || is_among k more) (seen k w o) ∙ sym (among_both rest more k)))
  where
    more : List ℕ
    more = named_in (whole_edits schema new b)

    seen : (k : ℕ) → ((n == k) || worked k) ≡ false → is_live old k ≡ false → is_among k named ≡ is_among k rest
    seen k w o =
        let parts = or_parts (n == k) (worked k) w in
        let undone_k : is_among k done ≡ false = t.done_is k ∙ (ap (λ x. x || is_live old k) parts.1 ∙ o) in
        both_ways (is_among k named) (is_among k rest) (λ e. left_out (is_among k done) (n == k) (is_among k rest) undone_k parts.0 (i.all k e)) (i.behind k)

-- what the new blocks with so much fuel do
abbrev NewLaw : Schema → List RowEntry → List RowEntry → ℕ → Type 0
NewLaw schema old new fuel =
    (now : List RowEntry) (worked : ℕ → Bool) (done named : List ℕ) → Looks old new now worked named → Tracks old new worked done named
    → length (undone done new) ≤ fuel → Arrives old new (apply_edits (new_blocks fuel schema new done named) now)

new_step : (schema : Schema) (old new : List RowEntry) → Ready schema old new → ((k : ℕ) → is_live new k ≡ true → is_among k (reached new 0) ≡ true)
    → (fuel : ℕ) → NewLaw schema old new fuel → (now : List RowEntry) (worked : ℕ → Bool) (done named : List ℕ) → Looks old new now worked named → Tracks old new worked done named
    → length (undone done new) ≤ fuel + 1 → (o : Option (ℕ × List ℕ)) → next_named done named ≡ o
    → Arrives old new (apply_edits (option_map_or (λ (next : ℕ × List ℕ). block_of next.0 (new_edits schema new next.0)
    ++ new_blocks fuel schema new (next.0 ∷ done) (next.1 ++ named_in (new_edits schema new next.0))) o []) now)
unfolding next
new_step schema old new r reach fuel law now worked done named l t enough None is = settled schema old new now worked done named r reach l t is
new_step schema old new r reach fuel law now worked done named l t enough (Some p) is =
    let i = next_of done named p.0 p.1 is in
    let live = t.named_new p.0 i.is_named in
    let row = some_of (row_at new p.0) (sym (live_row new p.0) ∙ live) in
    let es = whole_edits schema new row.0 in
    let same : es ≡ new_edits schema new p.0 = ap (λ o. option_map_or (whole_edits schema new) o []) (sym row.1) in
    let falls : length (undone (p.0 ∷ done) new) ≤ fuel = omega (arith, undone_falls done p.0 new live i.fresh) in
    let rest = law (apply_edits (block_of p.0 es) now) (one_more p.0 worked) (p.0 ∷ done) (p.1 ++ named_in es) (looks_next schema old new now worked done named p.1 p.0 row.0 r l t i row.1)
    (tracks_more schema old new worked done named p.1 p.0 row.0 r t i row.1) falls in
    let P : List Edit → Type 0 = λ x. Arrives old new (apply_edits (block_of p.0 x ++ new_blocks fuel schema new (p.0 ∷ done) (p.1 ++ named_in x)) now) in
    subst P same (subst (Arrives old new) (sym (fold-append_blocks (block_of p.0 es) (new_blocks fuel schema new (p.0 ∷ done) (p.1 ++ named_in es)) now)) rest)

pub new_looks : (schema : Schema) (old new : List RowEntry) → Ready schema old new → ((k : ℕ) → is_live new k ≡ true → is_among k (reached new 0) ≡ true)
    → (fuel : ℕ) → NewLaw schema old new fuel
new_looks schema old new r reach zero now worked done named l t enough = spent old new now worked done named l t enough
new_looks schema old new r reach (suc fuel) now worked done named l t enough =
    new_step schema old new r reach fuel (new_looks schema old new r reach fuel) now worked done named l t (omega arith) (next_named done named) refl
