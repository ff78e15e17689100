use Rattle.std.proofs.Common.{◌∙◌, ap₂}
use Rattle.schema_model.specs.declared.value.Value.TheVariants.{Str, Link}
use Rattle.state_model.specs.declared.command.Command.TheVariants.{Make, Put, PutKey}
use Rattle.load_maker.specs.Generated.{commanded, player_row, session_id, whole}
use Rattle.load_maker.proofs.Pushed.{four_pushed}
use Rattle.load_maker.proofs.parts.push_row.Goals as goal

pub returns : goal.returns
returns c =
    let i = c.args.client in
    let row = c.player_row-row.ensures in
    four_pushed c.push-4.result c.args.events.now c.push.new.self c.push-2.new.self c.push-3.new.self c.push-4.new.self
    c.commanded.result c.commanded-2.result c.commanded-3.result c.commanded-4.result
    (commanded (Make 1)) (commanded (Put (player_row i) 0 (Str (session_id i)))) (commanded (Put (player_row i) 1 (whole 0))) (commanded (PutKey 1 (session_id i) (Link (player_row i))))
    c.in_ok-push.ensures c.in_ok-push-2.ensures c.in_ok-push-3.ensures c.push-4.ensures
    c.commanded.ensures
    (c.commanded-2.ensures ∙ ap₂ (λ r t. commanded (Put r 0 (Str t))) row c.in_ok-session_text.ensures)
    (c.commanded-3.ensures ∙ ap₂ (λ r v. commanded (Put r 1 v)) row c.whole.ensures)
    (c.commanded-4.ensures ∙ ap₂ (λ r t. commanded (PutKey 1 t (Link r))) row c.in_ok-key.ensures)
