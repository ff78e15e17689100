use Rattle.lists.proofs.Prefixes.{starts_before}
use Rattle.lists.proofs.Results.{on_err}
use Rattle.schedule_text.proofs.rows.append_map_items.Goals as goal

pub returns-in_err-append_map_item-clause-err : goal.returns-in_err-append_map_item-clause-err
returns-in_err-append_map_item-clause-err c =
    on_err c.from_residual.result (starts_before c.append_map_item.new.out.items c.loop-item.out.items c.args.out.now.items _ c.in_err-append_map_item.ensures.err c.loop-item.invariant)
