use Rattle.std.proofs.Common.{◌≡◌, ◌∙◌, []}
use Rattle.serde_json.specs.View.{view}
use Rattle.hub_model.specs.Requests.{said_of}
use Rattle.matchmaker.specs.Bodies.{members_in}
use Rattle.matchmaker.proofs.BodyLaws.{said_absent, said_there}
use Rattle.matchmaker.proofs.body.said_of.Goals as goal

pub returns-in_ok-to_string-in-Some : goal.returns-in_ok-to_string-in-Some
returns-in_ok-to_string-in-Some c =
    c.from_string.ensures ∙ said_there c.args.key.now (view c.args.said.now) (view c.in-Some.value.now) _ c.in-Some.ensures c.requires c.in_ok-to_string-in-Some.ensures.text

pub returns-in-None : goal.returns-in-None
returns-in-None c =
    let absent : said_of (members_in (view c.args.said.now)) c.args.key.now ≡ [] = said_absent c.args.key.now (view c.args.said.now) c.in-None.ensures in rw absent c.from_text.ensures
