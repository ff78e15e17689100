use Rattle.std.proofs.Common.{◌≡◌, Some, true, false, rules}
use Rattle.percent_encoding.specs.Percent.{percent_decode}
use Rattle.hub_model.specs.Requests.{asked_of}
use Rattle.matchmaker.specs.Bodies.{can_be_read}
use Rattle.matchmaker.proofs.Asking.{given, refused}
use Rattle.matchmaker.proofs.request.read_request.Goals as goal

pub returns-then-not-can_be_read : goal.returns-then-not-can_be_read
returns-then-not-can_be_read c =
    let asked : Some (c.in-Some.method, percent_decode c.in-Some.raw.now) ≡ asked_of c.args.target.now = c.in-Some.ensures.value in
    let reads : can_be_read c.args.body.now ≡ false = search rules in
    refused c.args.defs.now c.args.target.now c.args.body.now (c.in-Some.method, percent_decode c.in-Some.raw.now) asked reads

pub returns : goal.returns
returns c =
    let asked : Some (c.in-Some.method, percent_decode c.in-Some.raw.now) ≡ asked_of c.args.target.now = c.in-Some.ensures.value in
    let reads : can_be_read c.args.body.now ≡ true = search rules in
    given c.args.defs.now c.args.target.now c.in-Some.raw.now c.args.body.now (c.in-Some.method, percent_decode c.in-Some.raw.now) c.asked_for.result asked reads c.in-Some.ensures.escape c.asked_for.ensures
