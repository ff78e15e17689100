use Rattle.std.proofs.Common.{◌≡◌, ◌-◌, ◌∙◌, ◌++◌, ◌∷◌, [], length, take, drop, ap, rules}
use Rattle.schedule_text.specs.Hex.{pairs_of}
use Rattle.schedule_text.proofs.HexLaws.{behind_bytes, pairs_next}
use Rattle.schedule_text.proofs.hex.read_pairs.Goals as goal

pub loop-rest-preserved : goal.loop-rest-preserved
loop-rest-preserved c =
    let rest = c.loop-rest.rest.now in
    let pushed : c.push.new.self.items ≡ c.loop-rest.bytes.items ++ c.in-Some.byte ∷ [] = search rules in
    ap (λ bytes. behind_bytes bytes (pairs_of (take (length rest - 2) (drop 2 rest)))) pushed
    ∙ pairs_next c.loop-rest.bytes.items rest c.args.digits.now _ _ c.in-Some.byte c.in-len2-up.len_at_least c.in-Some.ensures c.loop-rest.invariant
