use Rattle.std.proofs.Common.{◌+◌, ◌∙◌, ap, ap₂, negsuc}
use Rattle.schema_model.specs.declared.value.Value.TheVariants.{Link}
use Rattle.state_model.specs.declared.command.Command.TheVariants.{Make, Put, Push}
use Rattle.hub_model.specs.declared.event.HubEvent.TheVariants as event
use Rattle.room_model.specs.declared.event.Act.TheVariants as act
use Rattle.load_maker.specs.Generated.{commanded, player_row, room_id, session_id, whole}
use Rattle.load_maker.proofs.Pushed.{four_pushed}
use Rattle.load_maker.proofs.parts.push_card.Goals as goal

pub returns : goal.returns
returns c =
    let i = c.args.client in
    let row = c.player_row-row.ensures in
    let card = c.behind-card.ensures ∙ ap (λ r. r + 2) row in
    four_pushed c.push-4.result c.args.events.now c.push.new.self c.push-2.new.self c.push-3.new.self c.push-4.new.self
    c.commanded.result c.commanded-2.result c.commanded-3.result c.seen.result
    (commanded (Make 2)) (commanded (Put (player_row i + 2) 0 (whole i))) (commanded (Push (player_row i + 1) (Link (player_row i + 2))))
    (event.Act room_id (act.ViewAdd (session_id i) (record { who = player_row i; tag = negsuc 0 })))
    c.in_ok-push.ensures c.in_ok-push-2.ensures c.in_ok-push-3.ensures c.push-4.ensures
    c.commanded.ensures
    (c.commanded-2.ensures ∙ ap₂ (λ r v. commanded (Put r 0 v)) card c.whole.ensures)
    (c.commanded-3.ensures ∙ ap₂ (λ r k. commanded (Push r (Link k))) (c.behind.ensures ∙ ap (λ r. r + 1) row) card)
    (c.seen.ensures ∙ ap (λ r. event.Act room_id (act.ViewAdd (session_id i) (record { who = r; tag = negsuc 0 }))) row)
