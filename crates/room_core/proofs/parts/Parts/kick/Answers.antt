use Rattle.std.proofs.Common.{◌≡◌, Bool, cond, [], ◌∷◌, List, ap, sym, ◌∙◌}
use Rattle.room_model.specs.declared.event.RoomOut.{RoomOut}
use Rattle.room_model.specs.declared.event.RoomOut.TheVariants as out
use Rattle.room_model.specs.Sessions.{is_connected}
use Rattle.room_core.proofs.ClientLists.{as_read}
use Rattle.room_core.proofs.Leaves.{kick_step}
use Rattle.room_core.proofs.parts.Parts.kick.Goals as goal
use Rattle.room_core.proofs.parts.Parts.kick.Goals.{then-has_connection+in_ok-outs, else-has_connection+in_ok-outs-2}

pub returns-clause-outs : goal.returns-clause-outs
returns-clause-outs c =
    let p = c.args.self.now in
    let one = c.index.result.now in
    let own = as_read c.args.session p.clients.items c.in-Some.at one c.in-Some.ensures c.index.ensures in
    let step = kick_step p.def p.criteria p.live p.shared p.places p.clients.items c.args.session c.requires.order.placed.distinct c.in-Some.at one own.0 own.1 c.args.code in
    let told : Bool → List RoomOut = λ b. cond b (out.Close c.args.session c.args.code ∷ out.Left c.args.session ∷ []) (out.Left c.args.session ∷ []) in
    let outs : c.if-has_connection.outs ≡ told (is_connected one.stage) = elim c.if-has_connection.branch [
      | then-has_connection+in_ok-outs w ↦ w.outs-is ∙ (w.in_ok-outs.ensures ∙ sym (ap told (sym c.has_connection.ensures ∙ w.if-has_connection.true)))
      | else-has_connection+in_ok-outs-2 w ↦ w.outs-is ∙ (w.in_ok-outs-2.ensures ∙ sym (ap told (sym c.has_connection.ensures ∙ w.if-has_connection.false)))
    ] in
    outs ∙ sym (ap (λ x. x.1) step)

pub returns-clause-room : goal.returns-clause-room
returns-clause-room c =
    let p = c.args.self.now in
    let one = c.index.result.now in
    let own = as_read c.args.session p.clients.items c.in-Some.at one c.in-Some.ensures c.index.ensures in
    let step = kick_step p.def p.criteria p.live p.shared p.places p.clients.items c.args.session c.requires.order.placed.distinct c.in-Some.at one own.0 own.1 c.args.code in
    c.end.ensures.room ∙ sym (ap (λ x. x.0) step)
