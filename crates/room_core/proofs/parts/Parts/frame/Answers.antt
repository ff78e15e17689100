use Rattle.std.proofs.Common.{◌≡◌, set, Ok, Err, ap, subst, sym, ◌∙◌}
use Rattle.frame_model.specs.Reading.{read_client}
use Rattle.frame_model.specs.declared.frame.ClientFrame.TheVariants as client
use Rattle.room_model.specs.Room.{after_frame}
use Rattle.room_model.specs.declared.event.Stage.{Stage}
use Rattle.client_frames.specs.Given.{GivesFrame}
use Rattle.room_core.specs.Steps.{client_at}
use Rattle.room_core.specs.Values.{room_of, room_with}
use Rattle.room_core.proofs.ClientLists.{as_read}
use Rattle.room_core.proofs.Entered.{acknowledge_room}
use Rattle.room_core.proofs.Leaves.{frame_step, read_step, unread_room, unread_told}
use Rattle.room_core.proofs.parts.Parts.frame.Goals as goal

pub returns-in-Some-clause-room : goal.returns-in-Some-clause-room
returns-in-Some-clause-room c =
    let p = c.args.self.now in
    let cs = p.clients.items in
    let one = c.index_mut-client.result.now in
    let own = as_read c.args.session cs c.in-Some.at one c.in-Some.ensures c.index_mut-client.ensures.value in
    let distinct = c.requires.order.placed.distinct in
    let read : read_client c.args.bytes.now ≡ Ok client.Ack = ap read_client (sym c.as_slice.ensures) ∙ (c.in-Ok-Ack.ensures ∙ ap Ok c.in-Ok-Ack.field-0-is) in
    let step = frame_step p.def p.criteria p.live p.shared p.places cs c.args.session distinct c.in-Some.at one own.0 own.1 c.args.bytes.now (Ok client.Ack) read c.requires.connected in
    ap (λ (st : Stage). room_with p.def p.criteria p.live p.shared p.places (set cs c.in-Some.at (client_at st one))) c.acknowledged-client.ensures
    ∙ acknowledge_room p.def p.criteria p.live p.shared cs c.args.session distinct c.in-Some.at one own.0 own.1 p.places
    ∙ sym (ap (λ x. x.0) step)

pub returns-in-Err-clause-outs : goal.returns-in-Err-clause-outs
returns-in-Err-clause-outs c =
    let p = c.args.self.now in
    let bytes = c.args.bytes.now in
    let step = read_step (room_of p) c.args.session bytes c.requires.connected in
    let gives = subst (λ bs. GivesFrame (Err c.in-Err.fault) (read_client bs)) c.as_slice.ensures c.in-Err.ensures in
    unread_told (room_of p) c.args.session (read_client bytes) (after_frame (room_of p) c.args.session bytes) step c.in-Err.fault c.unread.result gives c.unread.ensures

pub returns-in-Err-clause-room : goal.returns-in-Err-clause-room
returns-in-Err-clause-room c =
    let p = c.args.self.now in
    let bytes = c.args.bytes.now in
    let step = read_step (room_of p) c.args.session bytes c.requires.connected in
    let gives = subst (λ bs. GivesFrame (Err c.in-Err.fault) (read_client bs)) c.as_slice.ensures c.in-Err.ensures in
    unread_room (room_of p) c.args.session (read_client bytes) (after_frame (room_of p) c.args.session bytes) step c.in-Err.fault c.unread.result gives c.unread.ensures
