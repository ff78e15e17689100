use Rattle.std.proofs.Common.{◌≡◌, ◌+◌, ◌-◌, Ok, Err, sym, ap, ap₂, ◌∙◌, arith}
use Rattle.frame_model.specs.PackData.{data_of, items_data, members_data, members_more}
use Rattle.frame_model.specs.Packs.{items_at, members_at, pack_at, value_of_form}
use Rattle.frame_model.proofs.PackLists.{data_of-List, data_of-Map}
use Rattle.msgpack_lite.proofs.EndLaws.{inside-is, pack_at-form, pack_at-fault}
use Rattle.msgpack_lite.proofs.BuildLaws.{before, behind, gives-fault, gives-is, items-step, items-fault, items-none, members-step, members-key_fault, members-fault, members-none, list-is, list-fault, list-length_fault, dict-is, dict-fault, dict-length_fault}
use Rattle.msgpack_lite.proofs.build.+build.Goals as goal

pub value_at-returns-in_err-first-clause-value : goal.value_at-returns-in_err-first-clause-value
value_at-returns-in_err-first-clause-value t c =
    let e = c.in_err-first.field-0.0 in
    let is : c.from_residual.result ≡ Err e = grind arith in
    rw is (gives-is data_of e (pack_at c.args.levels c.args.bytes.now c.args.at) (pack_at-fault c.args.levels c.args.bytes.now c.args.at e (sym c.in_err-first.ensures.value)))

pub value_at-returns-clause-value : goal.value_at-returns-clause-value
value_at-returns-clause-value t c =
    let bytes = c.args.bytes.now in
    let is = pack_at-form c.args.levels bytes c.args.at c.in_ok-first.first c.in_ok-first.field-0-1 (sym c.in_ok-first.ensures.value) in
    rw (is, ← c.form_of.ensures) c.value_by_form.ensures.value

pub value_by_form-returns-in_err-count-in-List-clause-value : goal.value_by_form-returns-in_err-count-in-List-clause-value
value_by_form-returns-in_err-count-in-List-clause-value t c =
    let bytes = c.args.bytes.now in
    let inner = c.in-Some.inner in
    let e = c.in_err-count-in-List.field-0.0 in
    let opened = ap₂ (λ i f. value_of_form i f bytes c.args.at) (inside-is c.args.levels inner bytes (omega (arith, c.in-Some.ensures))) c.in-List.is in
    let is : c.from_residual.result ≡ Err e = grind arith in
    rw is (gives-is data_of e _ (opened ∙ list-length_fault (pack_at inner bytes) c.in-List.len bytes c.args.at e (sym c.in_err-count-in-List.ensures.value)))

pub value_by_form-returns-in_err-items-in-List-clause-value : goal.value_by_form-returns-in_err-items-in-List-clause-value
value_by_form-returns-in_err-items-in-List-clause-value t c =
    let bytes = c.args.bytes.now in
    let inner = c.in-Some.inner in
    let read = c.in_ok-count-in-List in
    let e = c.in_err-items-in-List.field-0.0 in
    let opened = ap₂ (λ i f. value_of_form i f bytes c.args.at) (inside-is c.args.levels inner bytes (omega (arith, c.in-Some.ensures))) c.in-List.is in
    let is : c.from_residual-in_err-items-in-List.result ≡ Err e = grind arith in
    rw is (gives-fault items_data data_of e _ _ c.in_err-items-in-List.ensures.value (λ h. opened ∙ list-fault (pack_at inner bytes) c.in-List.len bytes c.args.at read.count read.start e (sym read.ensures.value) h))

pub value_by_form-returns-in_ok-items-in-List-clause-value : goal.value_by_form-returns-in_ok-items-in-List-clause-value
value_by_form-returns-in_ok-items-in-List-clause-value t c =
    let bytes = c.args.bytes.now in
    let inner = c.in-Some.inner in
    let read = c.in_ok-count-in-List in
    let found = c.in_ok-items-in-List in
    let opened = ap₂ (λ i f. value_of_form i f bytes c.args.at) (inside-is c.args.levels inner bytes (omega (arith, c.in-Some.ensures))) c.in-List.is in
    opened ∙ (list-is (pack_at inner bytes) c.in-List.len bytes c.args.at read.count read.start found.end (items_data found.items) (sym read.ensures.value) found.ensures.value
    ∙ ap (λ d. Ok (d, found.end)) (sym (data_of-List found.items)))

pub value_by_form-returns-in_err-count-in-Map-clause-value : goal.value_by_form-returns-in_err-count-in-Map-clause-value
value_by_form-returns-in_err-count-in-Map-clause-value t c =
    let bytes = c.args.bytes.now in
    let inner = c.in-Some.inner in
    let e = c.in_err-count-in-Map.field-0.0 in
    let opened = ap₂ (λ i f. value_of_form i f bytes c.args.at) (inside-is c.args.levels inner bytes (omega (arith, c.in-Some.ensures))) c.in-Map.is in
    let is : c.from_residual-in_err-count-in-Map.result ≡ Err e = grind arith in
    rw is (gives-is data_of e _ (opened ∙ dict-length_fault (pack_at inner bytes) c.in-Map.len bytes c.args.at e (sym c.in_err-count-in-Map.ensures.value)))

pub value_by_form-returns-in_err-pairs-in-Map-clause-value : goal.value_by_form-returns-in_err-pairs-in-Map-clause-value
value_by_form-returns-in_err-pairs-in-Map-clause-value t c =
    let bytes = c.args.bytes.now in
    let inner = c.in-Some.inner in
    let read = c.in_ok-count-in-Map in
    let e = c.in_err-pairs-in-Map.field-0.0 in
    let opened = ap₂ (λ i f. value_of_form i f bytes c.args.at) (inside-is c.args.levels inner bytes (omega (arith, c.in-Some.ensures))) c.in-Map.is in
    let is : c.from_residual-in_err-pairs-in-Map.result ≡ Err e = grind arith in
    rw is (gives-fault members_data data_of e _ _ c.in_err-pairs-in-Map.ensures.value (λ h. opened ∙ dict-fault (pack_at inner bytes) c.in-Map.len bytes c.args.at read.count read.start e (sym read.ensures.value) h))

pub value_by_form-returns-in_ok-pairs-in-Map-clause-value : goal.value_by_form-returns-in_ok-pairs-in-Map-clause-value
value_by_form-returns-in_ok-pairs-in-Map-clause-value t c =
    let bytes = c.args.bytes.now in
    let inner = c.in-Some.inner in
    let read = c.in_ok-count-in-Map in
    let found = c.in_ok-pairs-in-Map in
    let opened = ap₂ (λ i f. value_of_form i f bytes c.args.at) (inside-is c.args.levels inner bytes (omega (arith, c.in-Some.ensures))) c.in-Map.is in
    opened ∙ (dict-is (pack_at inner bytes) c.in-Map.len bytes c.args.at read.count read.start found.end (members_data found.pairs) (sym read.ensures.value) found.ensures.value
    ∙ ap (λ d. Ok (d, found.end)) (sym (data_of-Map found.pairs)))

pub items_from-returns-in_err-item-clause-value : goal.items_from-returns-in_err-item-clause-value
items_from-returns-in_err-item-clause-value t c =
    let f = pack_at c.args.levels c.args.bytes.now in
    let l = c.items in
    let e = c.in_err-item.field-0.0 in
    let is : c.from_residual-in_err-item.result ≡ Err e = grind arith in
    rw is (gives-fault data_of items_data e _ _ c.in_err-item.ensures.value (λ h. l.invariant.1 ∙ items-fault f (c.args.count - l.counter) (c.args.count - (l.counter + 1)) l.at e (items_data l.found) (omega (arith, c.items-test.true)) h))

pub items_from-items-preserved : goal.items_from-items-preserved
items_from-items-preserved t c =
    let f = pack_at c.args.levels c.args.bytes.now in
    let l = c.items in
    let left = c.args.count - (l.counter + 1) in
    let d = data_of c.in_ok-item.item in (
      c.in_ok-item.ensures.within,
      l.invariant.1 ∙ (items-step f (c.args.count - l.counter) left l.at c.in_ok-item.next d (items_data l.found) (omega (arith, c.items-test.true)) c.in_ok-item.ensures.value
          ∙ ap (λ ds. before ds (items_at f left c.in_ok-item.next)) (sym c.in_ok-push.ensures)),
    )

pub items_from-returns-clause-value : goal.items_from-returns-clause-value
items_from-returns-clause-value t c =
    let l = c.items in
    l.invariant.1 ∙ items-none (pack_at c.args.levels c.args.bytes.now) (c.args.count - l.counter) l.at (items_data l.found) (omega (arith, c.items-test.false))

pub members_from-returns-in_err-name-clause-value : goal.members_from-returns-in_err-name-clause-value
members_from-returns-in_err-name-clause-value t c =
    let bytes = c.args.bytes.now in
    let l = c.members in
    let e = c.in_err-name.field-0.0 in
    let is : c.from_residual-in_err-name.result ≡ Err e = grind arith in
    rw is (gives-is members_data e _ (l.invariant.1 ∙ members-key_fault (pack_at c.args.levels bytes) bytes (c.args.count - l.counter) (c.args.count - (l.counter + 1)) l.at e
    (members_data l.found) (omega (arith, c.members-test.true)) c.in_err-name.ensures.value))

pub members_from-returns-in_err-value-clause-value : goal.members_from-returns-in_err-value-clause-value
members_from-returns-in_err-value-clause-value t c =
    let bytes = c.args.bytes.now in
    let l = c.members in
    let e = c.in_err-value.field-0.0 in
    let is : c.from_residual-in_err-value.result ≡ Err e = grind arith in
    rw is (gives-fault data_of members_data e _ _ c.in_err-value.ensures.value
    (λ h. l.invariant.1 ∙ members-fault (pack_at c.args.levels bytes) bytes (c.args.count - l.counter) (c.args.count - (l.counter + 1)) l.at c.in_ok-name.behind c.in_ok-name.name.now e
    (members_data l.found) (omega (arith, c.members-test.true)) c.in_ok-name.ensures.value h))

pub members_from-members-preserved : goal.members_from-members-preserved
members_from-members-preserved t c =
    let bytes = c.args.bytes.now in
    let f = pack_at c.args.levels bytes in
    let l = c.members in
    let left = c.args.count - (l.counter + 1) in
    let d = data_of c.in_ok-value.value in
    let named : c.in_ok-key.key ≡ c.in_ok-name.name.now = c.in_ok-key.ensures in (
      c.in_ok-value.ensures.within,
      l.invariant.1 ∙ (members-step f bytes (c.args.count - l.counter) left l.at c.in_ok-name.behind c.in_ok-value.next c.in_ok-name.name.now d (members_data l.found)
          (omega (arith, c.members-test.true)) c.in_ok-name.ensures.value c.in_ok-value.ensures.value
          ∙ (ap (λ q. behind (members_more (members_data l.found) q d) (members_at f bytes left c.in_ok-value.next)) (sym named) ∙ ap (λ ms. behind ms (members_at f bytes left c.in_ok-value.next)) (sym c.in_ok-push.ensures))),
    )

pub members_from-returns-clause-value : goal.members_from-returns-clause-value
members_from-returns-clause-value t c =
    let l = c.members in
    l.invariant.1 ∙ members-none (pack_at c.args.levels c.args.bytes.now) c.args.bytes.now (c.args.count - l.counter) l.at (members_data l.found) (omega (arith, c.members-test.false))
