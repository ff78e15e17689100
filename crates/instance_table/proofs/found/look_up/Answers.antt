use Rattle.std.proofs.Common.{is_none, ap, ◌∙◌}
use Rattle.lists.specs.Rising.{find}
use Rattle.state_model.specs.declared.row.FieldValue.{FieldValue}
use Rattle.instance_table.proofs.FoundLaws.{none_of}
use Rattle.instance_table.proofs.found.look_up.Goals as goal

pub returns-in-Put-Struct-clause-absent : goal.returns-in-Put-Struct-clause-absent
returns-in-Put-Struct-clause-absent c =
    let field = none_of (λ (x : FieldValue). x.value) (find (λ (x : FieldValue). x.field) c.in-Put-Struct.field c.in-Put-Struct.fields) in
    rw (c.in-Put-Struct.is-0, c.in-Put-Struct.is-1) (c.by_value.ensures.absent ∙ (ap is_none c.field_value.ensures ∙ field))

pub returns-in-Put-Struct-clause-value : goal.returns-in-Put-Struct-clause-value
returns-in-Put-Struct-clause-value c = rw (c.in-Put-Struct.is-0, c.in-Put-Struct.is-1) (c.by_value.ensures.value ∙ c.field_value.ensures)

pub returns-in-Unset-Struct-clause-absent : goal.returns-in-Unset-Struct-clause-absent
returns-in-Unset-Struct-clause-absent c =
    let field = none_of (λ (x : FieldValue). x.value) (find (λ (x : FieldValue). x.field) c.in-Unset-Struct.field c.in-Unset-Struct.fields) in
    rw (c.in-Unset-Struct.is-0, c.in-Unset-Struct.is-1) (c.by_value-in-Unset-Struct.ensures.absent ∙ (ap is_none c.field_value-in-Unset-Struct.ensures ∙ field))

pub returns-in-Unset-Struct-clause-value : goal.returns-in-Unset-Struct-clause-value
returns-in-Unset-Struct-clause-value c = rw (c.in-Unset-Struct.is-0, c.in-Unset-Struct.is-1) (c.by_value-in-Unset-Struct.ensures.value ∙ c.field_value-in-Unset-Struct.ensures)
