use Rattle.std.proofs.Common.{rules, tests}
use Rattle.std.proofs.lemmas.Iterator.{YieldsList-from_slice}
use Rattle.std.proofs.lemmas.Iterator.Search.{all_from_yields_List}
use Rattle.schema_model.specs.Ids.{is_id_byte}
use Rattle.schema_model.proofs.id.has_id_bytes.Goals as goal

pub returns : goal.returns
returns c =
    all_from_yields_List is_id_byte _ _ _ c.all.ensures.ran (YieldsList-from_slice c.args.text.now cc) (λ x b q k. search (rules, tests))
