use Rattle.std.proofs.Common.{◌∙◌, ◌++◌, ap}
use Rattle.std.specs.Prelude.{codes}
use Rattle.std.specs.Fmt.{decimal}
use Rattle.hub_model.specs.Replies.{json_text}
use Rattle.matchmaker.proofs.Replies.{joined_members}
use Rattle.matchmaker.proofs.reply.reply_text.Goals as goal

pub returns : goal.returns
returns c =
    let members = joined_members
    (codes "\"clients\":") (decimal c.args.listing.now.in_use) (codes ",\"maxClients\":") (decimal c.args.listing.now.max) (codes ",\"name\":") (json_text c.args.name.now)
    (codes "\"processId\":") (json_text c.args.process) (codes ",\"roomId\":") (json_text c.args.listing.now.id) (codes "},\"sessionId\":") (json_text c.args.session)
    _ _ c.in_ok-seats.ensures c.in_ok-place.ensures in
    c.from_string.ensures ∙ (c.in_ok-text.ensures.ok ∙ ap (λ t. codes "{\"room\":{" ++ t) members)
