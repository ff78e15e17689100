use Rattle.std.proofs.Common.{◌≡◌, ◌<◌, ◌^◌, length, subst, sym, rules}
use Rattle.hub_model.specs.Dealt.{in_use_text}
use Rattle.hub_core.proofs.Refusals.{short_in_use}
use Rattle.hub_core.proofs.refuse.in_use_text.Goals as goal

pub returns-clause-short : goal.returns-clause-short
returns-clause-short c =
    let is : c.from_string.result ≡ in_use_text c.args.id.now = search rules in
    subst (λ t. length t < 2 ^ 32) (sym is) (short_in_use c.args.id.now c.requires)
