use Rattle.lists.proofs.Results.{ok_of_cases}
use Rattle.schema_model.proofs.IdLaws.{utf8_from_id}
use Rattle.schema_model.proofs.id.text_of.Goals as goal

pub unwrap-requires : goal.unwrap-requires
unwrap-requires c = ok_of_cases _ _ _ c.from_utf8.result c.from_utf8.ensures.cases (utf8_from_id _ c.requires)
