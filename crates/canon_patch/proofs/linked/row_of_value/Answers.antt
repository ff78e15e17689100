use Rattle.std.proofs.Common.{ap, ◌∙◌}
use Rattle.wire_model.specs.Grammar.{expects_at, new_instance, new_collection}
use Rattle.canon_patch.proofs.Applying.{struct_linked, coll_linked}
use Rattle.canon_patch.proofs.linked.row_of_value.Goals as goal

pub returns-in-Struct : goal.returns-in-Struct
returns-in-Struct c =
    λ rows. struct_linked c.args.schema.now rows (expects_at c.args.schema.now c.args.holder.now c.args.key.now) c.args.value.now c.in-Struct.who c.in-Struct.mark c.new_instance-row.result c.in-Struct.is
    (c.new_instance-row.ensures ∙ ap (new_instance c.in-Struct.mark) c.expected_at.ensures)

pub returns-in-Coll : goal.returns-in-Coll
returns-in-Coll c =
    λ rows. coll_linked c.args.schema.now rows (expects_at c.args.schema.now c.args.holder.now c.args.key.now) c.args.value.now c.in-Coll.who c.new_collection-row.result c.in-Coll.is
    (c.new_collection-row.ensures ∙ ap (new_collection c.args.schema.now) c.expected_at-in-Coll.ensures)
