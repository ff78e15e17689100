use Rattle.instance_table.proofs.body.Body.value_at.Goals as goal

pub returns-in-Struct-Field : goal.returns-in-Struct-Field
returns-in-Struct-Field c = rw (c.in-Struct-Field.is-1, c.in-Struct-Field.is-0) c.field_value.ensures

pub returns-in-Map-Item : goal.returns-in-Map-Item
returns-in-Map-Item c = rw (c.in-Map-Item.is-1, c.in-Map-Item.is-0) c.get.ensures

pub returns-in-Set-Item : goal.returns-in-Set-Item
returns-in-Set-Item c = rw (c.in-Set-Item.is-1, c.in-Set-Item.is-0) c.get-in-Set-Item.ensures
