use Rattle.std.proofs.Common.{◌∙◌, ◌+◌, ◌∷◌, ◌++◌, length, drop, sym, ap, ap₂, arith}
use Rattle.std.specs.Str.{is_utf8}
use Rattle.std.proofs.lemmas.List.{append_assoc, append-nil, drop_more, drop_all}
use Rattle.frame_model.specs.PackData.{data_of, items_data, items_view, members_data, members_view}
use Rattle.frame_model.specs.Packs.{dict_head, items_are_texts, items_bytes, items_depth, items_have_bytes, items_len, list_head, members_are_texts, members_bytes, members_depth, members_have_bytes, members_len, pack_bytes, text_bytes}
use Rattle.lists.proofs.Prefixes.{starts_before}
use Rattle.lists.proofs.Results.{on_err}
use Rattle.msgpack_lite.proofs.WriteLaws.{items_len-view, members_len-view, first_has, rest_has, first_depth, rest_depth, next_bytes, first_key, first_value, rest_have, value_depth, pairs_depth, next_pair_bytes, short_is, texts_too, pair_texts_too}
use Rattle.msgpack_lite.proofs.writing.+put.Goals as goal

-- ---- lists

pub put_list-overflow_cast-items : goal.put_list-overflow_cast-items
put_list-overflow_cast-items t c =
    let xs = c.as_slice-items.result.now in
    omega (arith, short_is (items_len (items_data c.args.items.now)) (length xs) c.requires.few (sym (items_len-view xs) ∙ ap items_len c.as_slice-items.ensures))

pub put_list-loop-item-init : goal.put_list-loop-item-init
put_list-loop-item-init t c =
    let xs = c.as_slice-items.result.now in
    let viewed = c.as_slice-items.ensures in
    let len = sym (items_len-view xs) ∙ ap items_len viewed in (
      list_head (length xs),
      c.in_ok-put_list_head.ensures.ok,
      ap₂ (λ n ds. list_head n ++ items_bytes ds) len viewed,
      ap items_have_bytes viewed ∙ c.requires.each,
      omega (arith, ap items_depth viewed),
      λ h. sym (ap items_are_texts viewed) ∙ h,
    )

pub put_list-put_pack-requires : goal.put_list-put_pack-requires
put_list-put_pack-requires t c =
    let l = c.loop-item in
    let xs = c.as_slice-items.result.now in
    let x = c.item-item.result in
    let here = drop_more xs l.item-index x (omega (arith, c.loop-item-test.true)) ∙ ap (λ y. y ∷ drop (l.item-index + 1) xs) (sym c.item-item.is) in
    let left = items_view (drop l.item-index xs) in
    let rest = items_view (drop (l.item-index + 1) xs) in
    let below = first_depth left (data_of x) rest (items_depth (items_data c.args.items.now)) (ap items_view here) l.invariant.4 in
    (omega (arith, c.decreases, below), first_has left (data_of x) rest (ap items_view here) l.invariant.3)

pub put_list-returns-in_err-put_pack-clause-err : goal.put_list-returns-in_err-put_pack-clause-err
put_list-returns-in_err-put_pack-clause-err t c = on_err _ (starts_before _ _ c.args.out.now.items c.loop-item.invariant.0 c.in_err-put_pack.ensures.err c.loop-item.invariant.1)

pub put_list-loop-item-preserved : goal.put_list-loop-item-preserved
put_list-loop-item-preserved t c =
    let l = c.loop-item in
    let xs = c.as_slice-items.result.now in
    let x = c.item-item.result in
    let d = data_of x in
    let old = c.args.out.now.items in
    let done = l.invariant.0 in
    let here = drop_more xs l.item-index x (omega (arith, c.loop-item-test.true)) ∙ ap (λ y. y ∷ drop (l.item-index + 1) xs) (sym c.item-item.is) in
    let left = items_view (drop l.item-index xs) in
    let rest = items_view (drop (l.item-index + 1) xs) in
    let is = ap items_view here in (
      done ++ pack_bytes d,
      c.in_ok-put_pack.ensures.ok ∙ (ap (λ o. o ++ pack_bytes d) l.invariant.1 ∙ append_assoc old done (pack_bytes d)),
      next_bytes left d rest done _ is l.invariant.2,
      rest_has left d rest is l.invariant.3,
      rest_depth left d rest _ is l.invariant.4,
      λ h. l.invariant.5 (texts_too left d rest is c.in_ok-put_pack.ensures.texts h),
    )

pub put_list-returns-clause-ok : goal.put_list-returns-clause-ok
put_list-returns-clause-ok t c =
    let l = c.loop-item in
    let xs = c.as_slice-items.result.now in
    let done = l.invariant.0 in
    let none = drop_all l.item-index xs (omega (arith, c.loop-item-test.false)) in
    l.invariant.1 ∙ ap (λ x. c.args.out.now.items ++ x) (sym (append-nil done) ∙ (sym (ap (λ ds. done ++ items_bytes (items_view ds)) none) ∙ l.invariant.2))

-- ---- maps

pub put_dict-overflow_cast-pairs : goal.put_dict-overflow_cast-pairs
put_dict-overflow_cast-pairs t c =
    let xs = c.as_slice-pairs.result.now in
    omega (arith, short_is (members_len (members_data c.args.pairs.now)) (length xs) c.requires.few (sym (members_len-view xs) ∙ ap members_len c.as_slice-pairs.ensures))

pub put_dict-loop-pair-init : goal.put_dict-loop-pair-init
put_dict-loop-pair-init t c =
    let xs = c.as_slice-pairs.result.now in
    let viewed = c.as_slice-pairs.ensures in
    let len = sym (members_len-view xs) ∙ ap members_len viewed in (
      dict_head (length xs),
      c.in_ok-put_dict_head.ensures.ok,
      ap₂ (λ n ds. dict_head n ++ members_bytes ds) len viewed,
      ap members_have_bytes viewed ∙ c.requires.each,
      omega (arith, ap members_depth viewed),
      λ h. sym (ap members_are_texts viewed) ∙ h,
    )

pub put_dict-put_text-requires : goal.put_dict-put_text-requires
put_dict-put_text-requires t c =
    let l = c.loop-pair in
    let xs = c.as_slice-pairs.result.now in
    let x = c.pair-item.result in
    let here = drop_more xs l.pair-index x (omega (arith, c.loop-pair-test.true)) ∙ ap (λ y. y ∷ drop (l.pair-index + 1) xs) (sym c.pair-item.is) in
    rw c.as_str.ensures (first_key (members_view (drop l.pair-index xs)) x.0 (data_of x.1) (members_view (drop (l.pair-index + 1) xs)) (ap members_view here) l.invariant.3)

pub put_dict-returns-in_err-put_text-clause-err : goal.put_dict-returns-in_err-put_text-clause-err
put_dict-returns-in_err-put_text-clause-err t c = on_err _ (starts_before _ _ c.args.out.now.items c.loop-pair.invariant.0 c.in_err-put_text.ensures.err c.loop-pair.invariant.1)

pub put_dict-put_pack-requires : goal.put_dict-put_pack-requires
put_dict-put_pack-requires t c =
    let l = c.loop-pair in
    let xs = c.as_slice-pairs.result.now in
    let x = c.pair-item.result in
    let here = drop_more xs l.pair-index x (omega (arith, c.loop-pair-test.true)) ∙ ap (λ y. y ∷ drop (l.pair-index + 1) xs) (sym c.pair-item.is) in
    let left = members_view (drop l.pair-index xs) in
    let rest = members_view (drop (l.pair-index + 1) xs) in
    let below = value_depth left x.0 (data_of x.1) rest (members_depth (members_data c.args.pairs.now)) (ap members_view here) l.invariant.4 in
    (omega (arith, c.decreases, below), first_value left x.0 (data_of x.1) rest (ap members_view here) l.invariant.3)

pub put_dict-returns-in_err-put_pack-clause-err : goal.put_dict-returns-in_err-put_pack-clause-err
put_dict-returns-in_err-put_pack-clause-err t c =
    let l = c.loop-pair in
    let old = c.args.out.now.items in
    let words = text_bytes c.as_str.result.now in
    let middle = c.in_ok-put_text.ensures.ok ∙ (ap (λ o. o ++ words) l.invariant.1 ∙ append_assoc old l.invariant.0 words) in
    on_err _ (starts_before _ _ old (l.invariant.0 ++ words) c.in_err-put_pack.ensures.err middle)

pub put_dict-loop-pair-preserved : goal.put_dict-loop-pair-preserved
put_dict-loop-pair-preserved t c =
    let l = c.loop-pair in
    let xs = c.as_slice-pairs.result.now in
    let x = c.pair-item.result in
    let d = data_of x.1 in
    let old = c.args.out.now.items in
    let done = l.invariant.0 in
    let here = drop_more xs l.pair-index x (omega (arith, c.loop-pair-test.true)) ∙ ap (λ y. y ∷ drop (l.pair-index + 1) xs) (sym c.pair-item.is) in
    let left = members_view (drop l.pair-index xs) in
    let rest = members_view (drop (l.pair-index + 1) xs) in
    let is = ap members_view here in
    let words = c.in_ok-put_text.ensures.ok ∙ (ap (λ q. l.out.items ++ text_bytes q) c.as_str.ensures ∙ (ap (λ o. o ++ text_bytes x.0) l.invariant.1 ∙ append_assoc old done (text_bytes x.0))) in (
      (done ++ text_bytes x.0) ++ pack_bytes d,
      c.in_ok-put_pack.ensures.ok ∙ (ap (λ o. o ++ pack_bytes d) words ∙ append_assoc old (done ++ text_bytes x.0) (pack_bytes d)),
      next_pair_bytes left x.0 d rest done _ is l.invariant.2,
      rest_have left x.0 d rest is l.invariant.3,
      pairs_depth left x.0 d rest _ is l.invariant.4,
      λ h. l.invariant.5 (pair_texts_too left x.0 d rest is (sym (ap is_utf8 c.as_str.ensures) ∙ c.in_ok-put_text.ensures.text) c.in_ok-put_pack.ensures.texts h),
    )

pub put_dict-returns-clause-ok : goal.put_dict-returns-clause-ok
put_dict-returns-clause-ok t c =
    let l = c.loop-pair in
    let xs = c.as_slice-pairs.result.now in
    let done = l.invariant.0 in
    let none = drop_all l.pair-index xs (omega (arith, c.loop-pair-test.false)) in
    l.invariant.1 ∙ ap (λ x. c.args.out.now.items ++ x) (sym (append-nil done) ∙ (sym (ap (λ ds. done ++ members_bytes (members_view ds)) none) ∙ l.invariant.2))

pub put_list-returns-clause-texts : goal.put_list-returns-clause-texts
put_list-returns-clause-texts t c =
    let l = c.loop-item in
    let none = drop_all l.item-index c.as_slice-items.result.now (omega (arith, c.loop-item-test.false)) in
    l.invariant.5 (ap (λ ds. items_are_texts (items_view ds)) none)

pub put_dict-returns-clause-texts : goal.put_dict-returns-clause-texts
put_dict-returns-clause-texts t c =
    let l = c.loop-pair in
    let none = drop_all l.pair-index c.as_slice-pairs.result.now (omega (arith, c.loop-pair-test.false)) in
    l.invariant.5 (ap (λ ds. members_are_texts (members_view ds)) none)
