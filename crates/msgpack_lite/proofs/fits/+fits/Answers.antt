use Rattle.std.proofs.Common.{◌∙◌, length, sym, ap, arith}
use Rattle.std.proofs.lemmas.List.{drop_all}
use Rattle.frame_model.specs.PackData.{items_data, items_view, members_data, members_view}
use Rattle.frame_model.specs.Packs.{items_have_bytes, items_len, members_have_bytes, members_len}
use Rattle.msgpack_lite.proofs.WriteLaws.{all_short, items_len-view, members_len-view, too_long}
use Rattle.msgpack_lite.proofs.fits.+fits.Goals as goal

pub list_has_bytes-returns-then-not-is_short : goal.list_has_bytes-returns-then-not-is_short
list_has_bytes-returns-then-not-is_short t c =
    let xs = c.as_slice-items.result.now in
    let items = items_data c.args.items.now in
    too_long (length xs) (items_len items) c.is_short.result (items_have_bytes items) c.if-not-is_short.true c.is_short.ensures (sym (items_len-view xs) ∙ ap items_len c.as_slice-items.ensures)

pub list_has_bytes-returns : goal.list_has_bytes-returns
list_has_bytes-returns t c =
    let l = c.loop-item in
    let xs = c.as_slice-items.result.now in
    let items = items_data c.args.items.now in
    let none = drop_all l.item-index xs (omega (arith, c.loop-item-test.false)) in
    all_short (length xs) (items_len items) c.is_short.result (items_have_bytes items) c.if-not-is_short.false c.is_short.ensures (sym (items_len-view xs) ∙ ap items_len c.as_slice-items.ensures)
    (sym l.invariant.0 ∙ ap (λ ds. items_have_bytes (items_view ds)) none)

pub map_has_bytes-returns-then-not-is_short : goal.map_has_bytes-returns-then-not-is_short
map_has_bytes-returns-then-not-is_short t c =
    let xs = c.as_slice-pairs.result.now in
    let members = members_data c.args.pairs.now in
    too_long (length xs) (members_len members) c.is_short.result (members_have_bytes members) c.if-not-is_short.true c.is_short.ensures (sym (members_len-view xs) ∙ ap members_len c.as_slice-pairs.ensures)

pub map_has_bytes-returns : goal.map_has_bytes-returns
map_has_bytes-returns t c =
    let l = c.loop-pair in
    let xs = c.as_slice-pairs.result.now in
    let members = members_data c.args.pairs.now in
    let none = drop_all l.pair-index xs (omega (arith, c.loop-pair-test.false)) in
    all_short (length xs) (members_len members) c.is_short.result (members_have_bytes members) c.if-not-is_short.false c.is_short.ensures (sym (members_len-view xs) ∙ ap members_len c.as_slice-pairs.ensures)
    (sym l.invariant.0 ∙ ap (λ ds. members_have_bytes (members_view ds)) none)
