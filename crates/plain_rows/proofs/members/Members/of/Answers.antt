use Rattle.std.proofs.Common.{ℕ, ℤ, ◌∙◌, sym, ap, cond, true, arith}
use Rattle.std.specs.BTreeMap.{is_at}
use Rattle.std.proofs.lemmas.List.{take_all}
use Rattle.state_model.specs.Shown.{is_member}
use Rattle.plain_rows.proofs.MemberKeys.{pair_cmp, has_key, keys_members, one_more_key}
use Rattle.plain_rows.proofs.members.Members.of.Goals as goal

pub loop-pair-preserved : goal.loop-pair-preserved
loop-pair-preserved c =
    λ who tag. one_more_key c.loop-pair.members.keys c.insert.new.self.keys c.args.pairs.now c.loop-pair.pair-index c.pair-item.result who tag (omega arith) c.pair-item.is
    (c.in_ok-insert.ensures.updates.0 (who, tag) ∙ ap (λ (k : ℕ × ℤ). cond (is_at (pair_cmp (k.0, k.1)) (who, tag)) true (has_key c.loop-pair.members.keys who tag)) c.key_of.ensures) (c.loop-pair.invariant who tag)

pub returns : goal.returns
returns c =
    λ who tag. sym (keys_members c.loop-pair.members.keys who tag) ∙ c.loop-pair.invariant who tag ∙ ap (λ ps. is_member ps who tag) (take_all c.loop-pair.pair-index c.args.pairs.now (omega arith))
