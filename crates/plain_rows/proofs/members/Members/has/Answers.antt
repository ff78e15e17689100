use Rattle.std.proofs.Common.{ℕ, ℤ, ◌∙◌, ap}
use Rattle.state_model.specs.Shown.{is_member}
use Rattle.plain_rows.proofs.MemberKeys.{has_key, keys_members}
use Rattle.plain_rows.proofs.members.Members.has.Goals as goal

pub returns : goal.returns
returns c =
    c.contains.ensures ∙ ap (λ (k : ℕ × ℤ). has_key c.self.inside.pairs.keys k.0 k.1) c.key_of.ensures
    ∙ keys_members c.self.inside.pairs.keys c.args.who c.args.tag
    ∙ ap (λ ms. is_member ms c.args.who c.args.tag) c.self.view_is
