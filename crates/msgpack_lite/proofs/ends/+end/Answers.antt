use Rattle.std.proofs.Common.{◌+◌, ◌-◌, sym, ap, ap₂, ◌∙◌, arith}
use Rattle.schema_model.specs.Reading.{◌>>=◌}
use Rattle.frame_model.specs.Packs.{pack_at, value_of_form}
use Rattle.msgpack_lite.specs.Ends.{end_of, inside}
use Rattle.msgpack_lite.proofs.EndLaws.{ends_at, members_ends_at, items_end-is, members_end-is, list_end-is, list_end-fault, dict_end-is, dict_end-fault, inside-is, pack_at-form, pack_at-fault, ends-step, members_ends-step, member_end-is}
use Rattle.msgpack_lite.proofs.ends.+end.Goals as goal

pub end_at-returns-in_err-first-clause-value : goal.end_at-returns-in_err-first-clause-value
end_at-returns-in_err-first-clause-value t c =
    let fault = pack_at-fault c.args.levels c.args.bytes.now c.args.at c.in_err-first.field-0.0 (sym c.in_err-first.ensures.value) in
    grind (arith, ap end_of fault)

pub end_at-returns-clause-value : goal.end_at-returns-clause-value
end_at-returns-clause-value t c =
    let bytes = c.args.bytes.now in
    c.end_by_form.ensures.value
    ∙ (ap (λ f. end_of (value_of_form (inside c.args.levels bytes) f bytes c.args.at)) c.form_of.ensures
    ∙ sym (ap end_of (pack_at-form c.args.levels bytes c.args.at c.in_ok-first.first c.in_ok-first.field-0-1 (sym c.in_ok-first.ensures.value))))

pub end_by_form-returns-in_err-count-in-List-clause-value : goal.end_by_form-returns-in_err-count-in-List-clause-value
end_by_form-returns-in_err-count-in-List-clause-value t c =
    let bytes = c.args.bytes.now in
    let inner = c.in-Some.inner in
    let opened = ap₂ (λ i f. end_of (value_of_form i f bytes c.args.at)) (inside-is c.args.levels inner bytes (omega (arith, c.in-Some.ensures))) c.in-List.is in
    let fault = opened ∙ list_end-fault (pack_at inner bytes) c.in-List.len bytes c.args.at c.in_err-count-in-List.field-0.0 (sym c.in_err-count-in-List.ensures.value) in
    grind (arith, fault)

pub end_by_form-returns-in_ok-count-in-List-clause-value : goal.end_by_form-returns-in_ok-count-in-List-clause-value
end_by_form-returns-in_ok-count-in-List-clause-value t c =
    let bytes = c.args.bytes.now in
    let inner = c.in-Some.inner in
    let read = c.in_ok-count-in-List in
    let opened = ap₂ (λ i f. end_of (value_of_form i f bytes c.args.at)) (inside-is c.args.levels inner bytes (omega (arith, c.in-Some.ensures))) c.in-List.is in
    c.items_end.ensures.value ∙ sym (opened ∙ list_end-is (pack_at inner bytes) c.in-List.len bytes c.args.at read.count read.start (sym read.ensures.value))

pub end_by_form-returns-in_err-count-in-Map-clause-value : goal.end_by_form-returns-in_err-count-in-Map-clause-value
end_by_form-returns-in_err-count-in-Map-clause-value t c =
    let bytes = c.args.bytes.now in
    let inner = c.in-Some.inner in
    let opened = ap₂ (λ i f. end_of (value_of_form i f bytes c.args.at)) (inside-is c.args.levels inner bytes (omega (arith, c.in-Some.ensures))) c.in-Map.is in
    let fault = opened ∙ dict_end-fault (pack_at inner bytes) c.in-Map.len bytes c.args.at c.in_err-count-in-Map.field-0.0 (sym c.in_err-count-in-Map.ensures.value) in
    grind (arith, fault)

pub end_by_form-returns-in_ok-count-in-Map-clause-value : goal.end_by_form-returns-in_ok-count-in-Map-clause-value
end_by_form-returns-in_ok-count-in-Map-clause-value t c =
    let bytes = c.args.bytes.now in
    let inner = c.in-Some.inner in
    let read = c.in_ok-count-in-Map in
    let opened = ap₂ (λ i f. end_of (value_of_form i f bytes c.args.at)) (inside-is c.args.levels inner bytes (omega (arith, c.in-Some.ensures))) c.in-Map.is in
    c.members_end.ensures.value ∙ sym (opened ∙ dict_end-is (pack_at inner bytes) c.in-Map.len bytes c.args.at read.count read.start (sym read.ensures.value))

pub items_end-items-init : goal.items_end-items-init
items_end-items-init t c =
    let f = pack_at c.args.levels c.args.bytes.now in
    (c.requires, items_end-is f c.args.count c.args.start ∙ ap (λ n. ends_at f n c.args.start) (omega arith))

pub items_end-items-preserved : goal.items_end-items-preserved
items_end-items-preserved t c =
    let f = pack_at c.args.levels c.args.bytes.now in
    let l = c.items in
    let left = c.args.count - (l.counter + 1) in
    (c.in_ok-at.ensures.within, l.invariant.1 ∙ ends-step f (c.args.count - l.counter) left l.at c.in_ok-at.at (omega (arith, c.items-test.true)) c.in_ok-at.ensures.value)

pub members_end-members-init : goal.members_end-members-init
members_end-members-init t c =
    let f = pack_at c.args.levels c.args.bytes.now in
    (c.requires, members_end-is f c.args.bytes.now c.args.count c.args.start ∙ ap (λ n. members_ends_at f c.args.bytes.now n c.args.start) (omega arith))

pub members_end-members-preserved : goal.members_end-members-preserved
members_end-members-preserved t c =
    let bytes = c.args.bytes.now in
    let f = pack_at c.args.levels bytes in
    let l = c.members in
    let left = c.args.count - (l.counter + 1) in
    let key = member_end-is f bytes l.at c.in_ok-next.next c.in_ok-next.field-0-0.now c.in_ok-next.ensures.value in
    (c.in_ok-at.ensures.within, l.invariant.1 ∙ (members_ends-step f bytes (c.args.count - l.counter) left l.at (omega (arith, c.members-test.true)) ∙ ap (λ r. r >>= members_ends_at f bytes left) (key ∙ sym c.in_ok-at.ensures.value)))
