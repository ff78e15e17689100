use Rattle.std.proofs.Common.{rules, refl, ap, ◌∙◌}
use Rattle.room_model.specs.declared.event.Stage.TheVariants.{Reserved}
use Rattle.room_model.specs.Ledger.{reserve}
use Rattle.room_model.specs.Seats.{reserved_seat}
use Rattle.view_counts.specs.Settled.{new_view}
use Rattle.live_state.specs.Live.{schema_of, rows_of}
use Rattle.room_core.specs.Values.{room_of}
use Rattle.room_core.proofs.Seated.{is_done, reserved_ok}
use Rattle.room_core.proofs.StandsLaws.{fresh_stands, stands_more}
use Rattle.room_core.proofs.parts.Parts.reserve.Goals as goal

pub unwrap-requires : goal.unwrap-requires
unwrap-requires c =
    let p = c.args.self.now in
    is_done (reserve p.places c.args.session c.args.lapse) (reserved_seat p.places c.args.session c.args.lapse) p.places c.reserve.new.self c.reserve.result
    (reserved_ok (room_of p) c.args.session c.args.lapse c.requires.order.placed c.requires.place) c.reserve.ensures

pub returns-clause-stands : goal.returns-clause-stands
returns-clause-stands c =
    let p = c.args.self.now in (
      stands_more p.live p.shared p.clients.items c.push_exact.new.items.items
          (record { id = c.args.session; stage = Reserved; members = c.in_ok-new.field-0; view = c.in_ok-new-2.field-0; queue = c.new-3.result; keep = p.def.keep }) (search rules)
          (λ last. fresh_stands (schema_of p.live) last (rows_of p.live) _ refl c.in_ok-new.ensures (c.in_ok-new-2.ensures ∙ ap new_view c.schema.ensures.value)) c.requires.stands.0,
      c.requires.stands.1,
      c.requires.stands.2,
    )
