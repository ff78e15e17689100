use Rattle.std.proofs.Common.{ℕ, ◌≡◌, [], Some, None, length, option_copied, arith, sym, ap, ◌∙◌}
use Rattle.std.specs.List.{slice_get}
use Rattle.std.proofs.lemmas.List.Sums.{sum_by-cons}
use Rattle.lists.specs.Rising.{after_key}
use Rattle.lists.proofs.Places.{after_next, after_none, fewer_after}
use Rattle.collection_ops.specs.Bodies.{map_number}
use Rattle.state_model.specs.declared.row.MapItem.{MapItem}
use Rattle.instance_table.proofs.amounts.keys_size.Goals as goal

-- how many bytes a key is
abbrev key_size : MapItem → ℕ
key_size i = length i.key

pub overflow_add-size : goal.overflow_add-size
overflow_add-size c =
    let items = c.args.items.now.items in
    let x = c.in-Some.item.now in
    let next : slice_get (after_key map_number c.loop-item.behind items) 0 ≡ Some x = sym c.in-Some.ensures.value in
    let split = after_next map_number 0 c.loop-item.behind items x c.in-Some.ensures.rises next in
    let whole = rw split at c.loop-item.invariant in
    let one = sum_by-cons key_size x (after_key map_number (Some x.number) items) in
    omega (arith, whole, one, c.len-size.ensures, c.requires)

pub loop-item-smaller : goal.loop-item-smaller
loop-item-smaller c =
    let items = c.args.items.now.items in
    fewer_after map_number items [] c.loop-item.behind c.in-Some.item.now c.in-Some.ensures.rises (sym c.in-Some.ensures.value)

pub loop-item-preserved : goal.loop-item-preserved
loop-item-preserved c =
    let items = c.args.items.now.items in
    let x = c.in-Some.item.now in
    let next : slice_get (after_key map_number c.loop-item.behind items) 0 ≡ Some x = sym c.in-Some.ensures.value in
    let split = after_next map_number 0 c.loop-item.behind items x c.in-Some.ensures.rises next in
    let whole = rw split at c.loop-item.invariant in
    let one = sum_by-cons key_size x (after_key map_number (Some x.number) items) in
    omega (arith, whole, one, c.len-size.ensures)

pub returns : goal.returns
returns c =
    let left = after_key map_number c.loop-item.behind c.args.items.now.items in
    let none : slice_get left 0 ≡ None = sym c.after.ensures.value ∙ ap option_copied c.in_default.is in
    let whole = rw (after_none left none) at c.loop-item.invariant in
    omega (arith, whole)
