use Rattle.std.proofs.Common.{◌∙◌, ◌++◌}
use Rattle.std.specs.Prelude.{codes}
use Rattle.matchmaker.proofs.Replies.{with_three}
use Rattle.matchmaker.proofs.reply.place_text.Goals as goal

pub returns : goal.returns
returns c =
    c.in_ok-format.ensures.ok ∙ with_three
    (λ p r s. codes "\"processId\":" ++ (p ++ (codes ",\"roomId\":" ++ (r ++ (codes "},\"sessionId\":" ++ s)))))
    _ _ _ _ _ _ c.in_ok-process.ensures c.in_ok-room.ensures c.in_ok-session.ensures
