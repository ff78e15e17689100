use Rattle.std.proofs.Common.{◌∙◌, ◌++◌, ◌∷◌, [], ap, ap₂, sym}
use Rattle.hub_model.specs.declared.event.HubOut.TheVariants as out
use Rattle.hub_model.specs.HubValues.{is_used}
use Rattle.hub_model.specs.Replies.{refusal_reply}
use Rattle.hub_core.specs.Hubs.{hub_of}
use Rattle.hub_core.specs.Lawful.{Lawful}
use Rattle.hub_core.specs.declared.outcome.Outcome.TheVariants as leads
use Rattle.hub_core.proofs.AskLaws as ask
use Rattle.hub_core.proofs.AskLaws.{used_drawn}
use Rattle.hub_core.proofs.RoomLaws.{one_ok}
use Rattle.hub_core.proofs.TurnLaws.{all_others}
use Rattle.hub_core.proofs.parts.Parts.ask.Given.{Over}
use Rattle.hub_core.proofs.parts.Parts.ask.Goals as goal

lawful : (g : Over) → Lawful g.R.RoomLike.Holds g.R.RoomLike.handled
lawful g = record { goes_on = g.met.R.RoomLike.goes_on; tells = g.met.R.RoomLike.tells; seats = g.met.R.RoomLike.seats; names = g.met.R.RoomLike.names; quiet = g.met.R.RoomLike.quiet; keepers = g.met.R.RoomLike.keepers }

pub in_use_text-requires : goal.in_use_text-requires
in_use_text-requires g c = used_drawn (is_used (hub_of g.R.RoomLike.room c.args.self.now)) c.in_ok-outcome.outcome c.args.room c.args.session c.in-Some.id c.requires.room c.requires.session c.in-Some.ensures

pub reserve-requires-clause-needed : goal.reserve-requires-clause-needed
reserve-requires-clause-needed g c = all_others g.R.RoomLike.room c.reference-at.result.serial c.args.self.now.registry.rooms c.requires.stands.needed

pub reserve-requires-clause-there : goal.reserve-requires-clause-there
reserve-requires-clause-there g c =
    ask.join_there g.R.RoomLike.room g.R.RoomLike.Holds g.R.RoomLike.handled (lawful g)
    c.args.self.now c.requires.stands c.know.ensures c.args.conn c.args.target.now c.args.body.now c.args.room c.args.session c.in_ok-outcome.outcome c.in_ok-outcome.ensures c.reference-at.result.serial
    (c.in-Join.is ∙ ap leads.Join (sym c.reference-at.ensures)) c.in_default.ensures

pub reserve-requires-clause-place : goal.reserve-requires-clause-place
reserve-requires-clause-place g c =
    ask.join_place g.R.RoomLike.room g.R.RoomLike.Holds g.R.RoomLike.handled (lawful g)
    c.args.self.now c.requires.stands c.know.ensures c.args.conn c.args.target.now c.args.body.now c.args.room c.args.session c.in_ok-outcome.outcome c.in_ok-outcome.ensures c.reference-at.result.serial
    (c.in-Join.is ∙ ap leads.Join (sym c.reference-at.ensures)) c.in_default.ensures

pub reserve-requires-clause-free : goal.reserve-requires-clause-free
reserve-requires-clause-free g c =
    ask.join_free g.R.RoomLike.room g.R.RoomLike.Holds g.R.RoomLike.handled (lawful g)
    c.args.self.now c.requires.stands c.know.ensures c.args.conn c.args.target.now c.args.body.now c.args.room c.args.session c.in_ok-outcome.outcome c.in_ok-outcome.ensures c.reference-at.result.serial
    (c.in-Join.is ∙ ap leads.Join (sym c.reference-at.ensures)) c.in_default.ensures

pub create-requires-clause-free : goal.create-requires-clause-free
create-requires-clause-free g c =
    ask.make_free g.R.RoomLike.room g.R.RoomLike.Holds g.R.RoomLike.handled (lawful g)
    c.args.self.now c.requires.stands c.know.ensures c.args.conn c.args.target.now c.args.body.now c.args.room c.args.session c.in_ok-outcome.outcome c.in_ok-outcome.ensures c.in-Make.def c.in-Make.criteria c.in-Make.is c.in_default.ensures

pub reserve-requires-in-Make-clause-order : goal.reserve-requires-in-Make-clause-order
reserve-requires-in-Make-clause-order g c =
    ask.made_order g.R.RoomLike.room g.R.RoomLike.Holds g.R.RoomLike.handled (lawful g)
    c.args.self.now c.requires.stands c.know.ensures c.args.conn c.args.target.now c.args.body.now c.args.room c.args.session c.in_ok-outcome.outcome c.in_ok-outcome.ensures c.in-Make.def c.in-Make.criteria c.in-Make.is c.in_default.ensures
    c.in_ok-at-in-Make.at.serial c.create.new.self c.args.outs.now c.create.new.outs c.in_ok-at-in-Make.ensures

pub reserve-requires-in-Make-clause-needed : goal.reserve-requires-in-Make-clause-needed
reserve-requires-in-Make-clause-needed g c =
    ask.made_needed g.R.RoomLike.room g.R.RoomLike.Holds g.R.RoomLike.handled (lawful g)
    c.args.self.now c.requires.stands c.know.ensures c.args.conn c.args.target.now c.args.body.now c.args.room c.args.session c.in_ok-outcome.outcome c.in_ok-outcome.ensures c.in-Make.def c.in-Make.criteria c.in-Make.is c.in_default.ensures
    c.in_ok-at-in-Make.at.serial c.create.new.self c.args.outs.now c.create.new.outs c.in_ok-at-in-Make.ensures

pub reserve-requires-in-Make-clause-there : goal.reserve-requires-in-Make-clause-there
reserve-requires-in-Make-clause-there g c =
    ask.made_there g.R.RoomLike.room g.R.RoomLike.Holds g.R.RoomLike.handled (lawful g)
    c.args.self.now c.requires.stands c.know.ensures c.args.conn c.args.target.now c.args.body.now c.args.room c.args.session c.in_ok-outcome.outcome c.in_ok-outcome.ensures c.in-Make.def c.in-Make.criteria c.in-Make.is c.in_default.ensures
    c.in_ok-at-in-Make.at.serial c.create.new.self c.args.outs.now c.create.new.outs c.in_ok-at-in-Make.ensures

pub reserve-requires-in-Make-clause-place : goal.reserve-requires-in-Make-clause-place
reserve-requires-in-Make-clause-place g c =
    ask.made_place g.R.RoomLike.room g.R.RoomLike.Holds g.R.RoomLike.handled (lawful g)
    c.args.self.now c.requires.stands c.know.ensures c.args.conn c.args.target.now c.args.body.now c.args.room c.args.session c.in_ok-outcome.outcome c.in_ok-outcome.ensures c.in-Make.def c.in-Make.criteria c.in-Make.is c.in_default.ensures
    c.in_ok-at-in-Make.at.serial c.create.new.self c.args.outs.now c.create.new.outs c.in_ok-at-in-Make.ensures

pub reserve-requires-in-Make-clause-free : goal.reserve-requires-in-Make-clause-free
reserve-requires-in-Make-clause-free g c =
    ask.made_unused g.R.RoomLike.room g.R.RoomLike.Holds g.R.RoomLike.handled (lawful g)
    c.args.self.now c.requires.stands c.know.ensures c.args.conn c.args.target.now c.args.body.now c.args.room c.args.session c.in_ok-outcome.outcome c.in_ok-outcome.ensures c.in-Make.def c.in-Make.criteria c.in-Make.is c.in_default.ensures
    c.in_ok-at-in-Make.at.serial c.create.new.self c.args.outs.now c.create.new.outs c.in_ok-at-in-Make.ensures

pub reply-requires-clause-there : goal.reply-requires-clause-there
reply-requires-clause-there g c =
    ask.return_there g.R.RoomLike.room g.R.RoomLike.Holds g.R.RoomLike.handled (lawful g)
    c.args.self.now c.requires.stands c.know.ensures c.args.conn c.args.target.now c.args.body.now c.args.room c.args.session c.in_ok-outcome.outcome c.in_ok-outcome.ensures
    c.reference-at-in-Return.result.serial c.in-Return.kept (c.in-Return.is ∙ ap (λ k. leads.Return k c.in-Return.kept) (sym c.reference-at-in-Return.ensures))

pub reply-requires-clause-session : goal.reply-requires-clause-session
reply-requires-clause-session g c =
    ask.kept_id g.R.RoomLike.room g.R.RoomLike.Holds g.R.RoomLike.handled (lawful g)
    c.args.self.now c.requires.stands c.know.ensures c.args.conn c.args.target.now c.args.body.now c.args.room c.args.session c.in_ok-outcome.outcome c.in_ok-outcome.ensures
    c.reference-at-in-Return.result.serial c.in-Return.kept (c.in-Return.is ∙ ap (λ k. leads.Return k c.in-Return.kept) (sym c.reference-at-in-Return.ensures))

pub returns-in-Some-clause-takes : goal.returns-in-Some-clause-takes
returns-in-Some-clause-takes g c =
    one_ok _ _ c.refuse_request.result (λ outs.
    ask.takes_used g.R.RoomLike.room g.R.RoomLike.Holds g.R.RoomLike.handled (lawful g)
    c.args.self.now c.requires.stands c.know.ensures c.args.conn c.args.target.now c.args.body.now c.args.room c.args.session c.in_ok-outcome.outcome c.in_ok-outcome.ensures c.in-Some.id c.args.outs.now c.refuse_request.new.outs c.in-Some.ensures
    (outs ∙ ap₂ (λ n t. c.args.outs.now ++ out.Reply c.args.conn (refusal_reply n t) ∷ []) c.from.ensures (c.as_str.ensures ∙ c.in_ok-text.ensures.value))) c.refuse_request.ensures

pub returns-in-Refuse-clause-takes : goal.returns-in-Refuse-clause-takes
returns-in-Refuse-clause-takes g c =
    one_ok _ _ c.refuse_request-in-Refuse.result (λ outs.
    ask.takes_refused g.R.RoomLike.room g.R.RoomLike.Holds g.R.RoomLike.handled (lawful g)
    c.args.self.now c.requires.stands c.know.ensures c.args.conn c.args.target.now c.args.body.now c.args.room c.args.session c.in_ok-outcome.outcome c.in_ok-outcome.ensures
    c.in-Refuse.code c.in-Refuse.text c.args.outs.now c.refuse_request-in-Refuse.new.outs c.in-Refuse.is
    (outs ∙ ap (λ t. c.args.outs.now ++ out.Reply c.args.conn (refusal_reply c.in-Refuse.code t) ∷ []) c.as_str-in-Refuse.ensures)) c.refuse_request-in-Refuse.ensures

pub returns-in-Join-clause-takes : goal.returns-in-Join-clause-takes
returns-in-Join-clause-takes g c =
    one_ok _ _ c.reserve.result (λ seated.
    ask.takes_joined g.R.RoomLike.room g.R.RoomLike.Holds g.R.RoomLike.handled (lawful g)
    c.args.self.now c.requires.stands c.know.ensures c.args.conn c.args.target.now c.args.body.now c.args.room c.args.session c.in_ok-outcome.outcome c.in_ok-outcome.ensures c.reference-at.result.serial
    (c.in-Join.is ∙ ap leads.Join (sym c.reference-at.ensures)) c.in_default.ensures c.reserve.new.self c.args.outs.now c.reserve.new.outs seated) c.reserve.ensures.seated

pub returns-in_ok-at-in-Make-clause-takes : goal.returns-in_ok-at-in-Make-clause-takes
returns-in_ok-at-in-Make-clause-takes g c =
    one_ok _ _ c.reserve-in-Make.result (λ seated.
    ask.takes_made g.R.RoomLike.room g.R.RoomLike.Holds g.R.RoomLike.handled (lawful g)
    c.args.self.now c.requires.stands c.know.ensures c.args.conn c.args.target.now c.args.body.now c.args.room c.args.session c.in_ok-outcome.outcome c.in_ok-outcome.ensures c.in-Make.def c.in-Make.criteria c.in-Make.is c.in_default.ensures
    c.in_ok-at-in-Make.at.serial c.create.new.self c.args.outs.now c.create.new.outs c.in_ok-at-in-Make.ensures c.reserve-in-Make.new.self c.reserve-in-Make.new.outs seated) c.reserve-in-Make.ensures.seated

pub returns-in-Return-clause-takes : goal.returns-in-Return-clause-takes
returns-in-Return-clause-takes g c =
    one_ok _ _ c.reply.result (λ outs.
    ask.takes_returned g.R.RoomLike.room g.R.RoomLike.Holds g.R.RoomLike.handled (lawful g)
    c.args.self.now c.requires.stands c.know.ensures c.args.conn c.args.target.now c.args.body.now c.args.room c.args.session c.in_ok-outcome.outcome c.in_ok-outcome.ensures
    c.reference-at-in-Return.result.serial c.in-Return.kept (c.in-Return.is ∙ ap (λ k. leads.Return k c.in-Return.kept) (sym c.reference-at-in-Return.ensures)) c.args.outs.now c.reply.new.outs outs) c.reply.ensures

pub returns-in-Join-clause-cost : goal.returns-in-Join-clause-cost
returns-in-Join-clause-cost g c =
    ask.join_cost g.R.RoomLike.room g.R.RoomLike.Holds g.R.RoomLike.handled (lawful g)
    c.args.self.now c.requires.stands c.know.ensures c.args.conn c.args.target.now c.args.body.now c.args.room c.args.session c.in_ok-outcome.outcome c.in_ok-outcome.ensures c.reference-at.result.serial
    (c.in-Join.is ∙ ap leads.Join (sym c.reference-at.ensures)) c.in_default.ensures g.R.RoomLike.costs _ _ c.reserve.ensures.cost

pub returns-in_ok-at-in-Make-clause-cost : goal.returns-in_ok-at-in-Make-clause-cost
returns-in_ok-at-in-Make-clause-cost g c =
    ask.made_cost g.R.RoomLike.room g.R.RoomLike.Holds g.R.RoomLike.handled (lawful g)
    c.args.self.now c.requires.stands c.know.ensures c.args.conn c.args.target.now c.args.body.now c.args.room c.args.session c.in_ok-outcome.outcome c.in_ok-outcome.ensures c.in-Make.def c.in-Make.criteria c.in-Make.is c.in_default.ensures
    c.in_ok-at-in-Make.at.serial c.create.new.self c.args.outs.now c.create.new.outs c.in_ok-at-in-Make.ensures g.R.RoomLike.costs _ _ c.reserve-in-Make.ensures.cost
