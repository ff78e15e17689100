use Rattle.std.proofs.Common.{rules, sym, ◌∙◌}
use Rattle.state_model.proofs.Declared.{filtered_found}
use Rattle.state_model.proofs.place.is_filtered.Goals as goal

pub returns-in-Some : goal.returns-in-Some
returns-in-Some c = c.is_tagged_list.ensures ∙ sym (filtered_found c.args.schema.now c.args.home c.in-Some.field.now (search rules))
