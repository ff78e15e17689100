use Rattle.std.proofs.Common.{map, sym, ap, ◌∙◌}
use Rattle.wire_model.specs.declared.op.Block.{Block}
use Rattle.wire_model.specs.Effect.{edited_row}
use Rattle.wire_ops.specs.PlainEdits.{plain_edit}
use Rattle.canon_patch.specs.Applying.{with_links}
use Rattle.canon_patch.proofs.Applying.{block_with, block_without}
use Rattle.canon_patch.proofs.apply.do_block.Goals as goal

pub returns-in_default : goal.returns-in_default
returns-in_default c =
    let rows = c.args.rows.now in
    let kind = c.holder_kind-kind.result in
    let linked = c.in_ok-add_linked.ensures ∙ ap (λ os. with_links c.args.schema.now kind os rows) (ap (λ (b : Block). b.ops) c.block.view_is) in
    block_without c.args.schema.now rows c.add_linked.new.rows c.remove.new.self c.args.block.now kind _ c.requires c.holder_kind-kind.ensures linked
    (ap (λ (b : Block). b.holder) c.block.view_is) (sym c.remove.ensures.found ∙ c.in_default.is) c.remove.ensures.rest

pub returns : goal.returns
returns c =
    let rows = c.args.rows.now in
    let kind = c.holder_kind-kind.result in
    let linked = c.in_ok-add_linked.ensures ∙ ap (λ os. with_links c.args.schema.now kind os rows) (ap (λ (b : Block). b.ops) c.block.view_is) in
    let edited = c.in_ok-row.ensures ∙ ap (λ os. edited_row (map plain_edit os) c.in-Some.entry.row) (ap (λ (b : Block). b.ops) c.block.view_is) in
    block_with c.args.schema.now rows c.add_linked.new.rows c.remove.new.self c.put.new.self c.args.block.now kind _ c.in-Some.entry c.in_ok-row.row c.requires c.holder_kind-kind.ensures
    linked (ap (λ (b : Block). b.holder) c.block.view_is) (sym c.remove.ensures.found ∙ c.in-Some.is) c.remove.ensures.rest edited c.in_ok-put.ensures.ok
