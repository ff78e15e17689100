use Rattle.std.proofs.Common.{◌∙◌, rules, tests}
use Rattle.std.specs.Str.{bytes_eq}
use Rattle.std.proofs.lemmas.Iterator.{YieldsList-from_slice}
use Rattle.std.proofs.lemmas.Iterator.Search.{find_from_yields_List}
use Rattle.text_model.specs.Marks.{all_kinds, scalar_word}
use Rattle.schema_reader.proofs.kinds.kind_of_word.Goals as goal

pub returns : goal.returns
returns c =
    c.copied.ensures ∙ find_from_yields_List (λ k. bytes_eq (scalar_word k) c.args.word.now) _ _ _ c.find.ensures.ran (YieldsList-from_slice all_kinds cc) (λ x b q k. search (rules, tests))
