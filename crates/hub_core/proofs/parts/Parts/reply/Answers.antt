use Rattle.std.proofs.Common.{◌≡◌, ◌∙◌, ◌++◌, ◌∷◌, [], IfSome, get_or, sym, ap, subst}
use Rattle.room_model.specs.declared.definition.RoomDef.{RoomDef}
use Rattle.hub_model.specs.declared.event.HubOut.TheVariants as out
use Rattle.hub_model.specs.HubStep.{seat_text}
use Rattle.hub_core.specs.declared.entry.RoomEntry.{RoomEntry}
use Rattle.hub_core.specs.Hubs.{hub_of}
use Rattle.hub_core.specs.RoomEntry.{room_in}
use Rattle.hub_core.proofs.RoomLaws.{one_ok, pushed_ok}
use Rattle.hub_core.proofs.SeatLaws.{def_there, def_within, reply_same}
use Rattle.hub_core.proofs.parts.Parts.reply.Goals as goal

pub returns : goal.returns
returns g c =
    let old = c.args.self.now in
    let s = c.in-Some.entry.now in
    let h = hub_of g.R.RoomLike.room old in
    let at = sym c.in-Some.ensures.value in
    let own = c.index-as_slice-entry.result in
    let is : own ≡ get_or old.defs s.def own = c.index-as_slice-entry.is ∙ ap (λ ds. get_or ds s.def own) c.as_slice.ensures in
    let def_is : own ≡ get_or old.defs s.def (g.R.RoomLike.room s.room).def = def_there old.defs s.def own (g.R.RoomLike.room s.room).def (def_within g.R.RoomLike.room g.R.RoomLike.Holds old c.args.at.serial s c.requires.order at) is in
    let text_is : c.in_ok-text.text ≡ seat_text h c.args.session (room_in g.R.RoomLike.room s) =
    c.in_ok-text.ensures ∙ reply_same h (room_in g.R.RoomLike.room s) c.args.session c.as_str-name.result.now c.listed-listing.result c.listed-listing.ensures (c.as_str-name.ensures ∙ ap (λ (d : RoomDef). d.name) def_is) in
    one_ok _ _ c.push.result (λ outs. subst (λ o. IfSome o (λ (s : RoomEntry g.row.R.Denot). c.push.new.self ≡ c.args.outs.now ++ out.Reply c.args.conn (seat_text h c.args.session (room_in g.R.RoomLike.room s)) ∷ []))
    (sym at) (outs ∙ ap (λ t. c.args.outs.now ++ out.Reply c.args.conn t ∷ []) text_is))
    (pushed_ok c.push.result c.push.new.self c.args.outs.now (out.Reply c.args.conn c.in_ok-text.text ∷ []) c.push.ensures)
