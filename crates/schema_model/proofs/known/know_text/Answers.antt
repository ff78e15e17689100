use Rattle.std.proofs.Common.{ℕ, List, subst}
use Rattle.std.specs.Str.{IsUtf8}
use Rattle.std.proofs.lemmas.Str.{is_utf8-from_IsUtf8}
use Rattle.schema_model.proofs.known.know_text.Goals as goal

pub returns : goal.returns
returns c = is_utf8-from_IsUtf8 c.args.text.now (subst (λ (bs : List ℕ). IsUtf8 bs) c.as_str.ensures c.as_str.utf8)
