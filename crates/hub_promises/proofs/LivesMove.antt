-- A life behind an event, where its room is there: it was given what its record is sent, and goes on where its session is in the room.
use Rattle.std.proofs.Common.{◌≡◌, ℕ, Bool, true, false, cond, List, [], ◌++◌, map, Option, Some, None, is_some, Result, refl, sym, ap, subst, ◌∙◌, append-nil}
use Rattle.std.specs.Prelude.{option_and_then}
use Rattle.std.specs.List.{find, flat_map}
use Rattle.std.specs.Option.{option_map, option_map_or}
use Rattle.schema_model.specs.Classes.{Schema}
use Rattle.state_model.specs.declared.row.RowEntry.{RowEntry}
use Rattle.room_model.specs.declared.definition.RoomDef.{RoomDef}
use Rattle.room_model.specs.Sessions.{session_of}
use Rattle.hub_model.specs.declared.event.HubEvent.{HubEvent}
use Rattle.hub_model.specs.declared.event.HubEvent.TheVariants as event
use Rattle.hub_model.specs.declared.event.HubOut.{HubOut}
use Rattle.hub_model.specs.declared.request.AskFault.{AskFault}
use Rattle.hub_model.specs.declared.request.Request.{Request}
use Rattle.hub_model.specs.HubValues.{HubValue, HubRoom, is_named, room_of}
use Rattle.hub_model.specs.Dealt.{Dealt}
use Rattle.hub_model.specs.HubStep.{deals, all_dealt, is_needed, hub_step, answered_in, decided}
use Rattle.life_model.specs.Entries.{Entry, Sending}
use Rattle.life_model.specs.Sent.{Progress, progress_of, sent}
use Rattle.life_model.specs.HubPromises.{rules_of}
use Rattle.life_model.specs.RoomLives.{is_in, given_by}
use Rattle.life_model.specs.HubLives.{HubLife, in_room, session_in, asked_entries, is_seat_of, reply_given, entries_dealt, view_dealt, room_dealt, outputs_of}
use Rattle.room_promises.proofs.GoodLives.{GoesOn, GoodLife}
use Rattle.hub_laws.proofs.Different.{named_kept, find-map}
use Rattle.hub_promises.proofs.Deals.{rooms_for, dealt_to, dealt_found, Ready}
use Rattle.hub_promises.proofs.Conns.{next_differ}
use Rattle.hub_promises.proofs.Outputs.{outputs_given}
use Rattle.hub_promises.proofs.Moves.{AreQuiet, asked_quiet, quiet_between, lived_in}

-- what an event adds of requests to a record leads nowhere
pub asked_of_quiet : (schema : Schema) (read : List RoomDef → List ℕ → List ℕ → Result Request AskFault) (h : HubValue) (e : HubEvent) (outs : List HubOut) (l : HubLife) → AreQuiet schema (asked_entries (rules_of read) h e outs l)
asked_of_quiet schema read h (event.Ask conn target body room session) outs l =
    asked_quiet schema (option_map_or (is_seat_of l) (answered_in h room session (decided (rules_of read) h target body room session)) false) target body (reply_given outs)
asked_of_quiet schema read h e outs l = λ p. refl

module _ (read : List RoomDef → List ℕ → List ℕ → Result Request AskFault) (h : HubValue) (e : HubEvent) (ready : Ready (rules_of read) h e) where
  abbrev rooms : List HubRoom
  rooms = rooms_for (rules_of read) h e

  abbrev behind : HubRoom → Dealt
  behind r = dealt_to (rules_of read) h e r

  abbrev ds : List Dealt
  ds = all_dealt (rules_of read) h e

  abbrev pub next_hub : HubValue
  next_hub = (hub_step (rules_of read) h e).0

  -- a session that a room has behind an event is one of the room behind its events
  pub session_next : (r : HubRoom) (room session : List ℕ) → find (is_named room) rooms ≡ Some r → is_some (session_in next_hub room session) ≡ true → is_in (behind r).room.room session ≡ true
  session_next r room session found is = by_needed (is_needed (behind r).room) (sym (ap (λ o. is_some (option_and_then (λ (r : HubRoom). session_of r.room.sessions session) o)) at) ∙ is)
    where
      at : room_of next_hub room ≡ cond (is_needed (behind r).room) (Some (behind r).room) None
      at =
          named_kept (λ (r : HubRoom). r.id) is_needed room (map (λ (d : Dealt). d.room) ds) (next_differ read h e ready)
          ∙ ap (λ o. option_and_then (λ r. cond (is_needed r) (Some r) None) o)
          (find-map (is_named room) (λ (d : Dealt). d.room) ds ∙ ap (option_map (λ (d : Dealt). d.room)) (dealt_found (rules_of read) h e room ∙ ap (option_map (dealt_to (rules_of read) h e)) found))

      by_needed : (b : Bool) → is_some (option_and_then (λ (r : HubRoom). session_of r.room.sessions session) (cond b (Some (behind r).room) None)) ≡ true → is_in (behind r).room.room session ≡ true
      by_needed true is = is
      by_needed false is = cc

  module _ (l : HubLife) where
    abbrev pub asked : List Entry
    asked = asked_entries (rules_of read) h e (hub_step (rules_of read) h e).1 l

    -- the life behind the event, by its room and what it is given
    abbrev by_room : Option HubRoom → List Sending → HubLife
    by_room o os = record {
      room = l.room;
      session = l.session;
      lasts = is_some (session_in next_hub l.room l.session);
      entries = l.entries ++ (asked ++ entries_dealt (rules_of read) h e l o);
      outputs = l.outputs ++ os;
      view = view_dealt (rules_of read) h e l o;
    }

    abbrev pub lived_on : HubLife
    lived_on = by_room (room_dealt (rules_of read) h e l.room) (outputs_of h e next_hub (hub_step (rules_of read) h e).1 l)

    abbrev given : Option HubRoom → List Sending
    given o = option_map_or (λ (d : Dealt). flat_map (given_by l.session) d.outs) (option_map (dealt_to (rules_of read) h e) o) []

    -- it is what its room makes of it
    lived_there : (o : Option HubRoom) → find (is_named l.room) rooms ≡ o → lived_on ≡ by_room o (given o)
    lived_there o found =
        ap (by_room (room_dealt (rules_of read) h e l.room)) (outputs_given read h l e ready ∙ ap (λ (o : Option Dealt). option_map_or (λ (d : Dealt). flat_map (given_by l.session) d.outs) o []) (dealt_found (rules_of read) h e l.room))
        ∙ ap (λ o. by_room o (given o)) found

    pub equal_there : (schema : Schema) (rows : List RowEntry) (r : HubRoom) → find (is_named l.room) rooms ≡ Some r → GoodLife schema rows (behind r).room.room.sessions (lived_in l asked r (deals (rules_of read) h e r))
        → lived_on.outputs ≡ sent schema lived_on.entries
    equal_there schema rows r found good = subst (λ (k : HubLife). k.outputs ≡ sent schema k.entries) (sym (lived_there (Some r) found)) good.equal

    pub goes_on_there : (schema : Schema) (rows : List RowEntry) (r : HubRoom) → find (is_named l.room) rooms ≡ Some r → GoodLife schema rows (behind r).room.room.sessions (lived_in l asked r (deals (rules_of read) h e r)) → lived_on.lasts ≡ true
        → GoesOn schema rows (behind r).room.room.sessions (in_room lived_on)
    goes_on_there schema rows r found good lasts = subst (λ (k : HubLife). GoesOn schema rows (behind r).room.room.sessions (in_room k)) (sym (lived_there (Some r) found)) (on (good.goes_on (session_next r l.room l.session found lasts)))
      where
        on : GoesOn schema rows (behind r).room.room.sessions (lived_in l asked r (deals (rules_of read) h e r)) → GoesOn schema rows (behind r).room.room.sessions (in_room (by_room (Some r) (given (Some r))))
        on g = record { session = g.session; there = g.there; fits = g.fits }

    -- where its room isn't there nothing comes
    pub equal_gone : (schema : Schema) → find (is_named l.room) rooms ≡ None → l.outputs ≡ sent schema l.entries → lived_on.outputs ≡ sent schema lived_on.entries
    equal_gone schema gone equal = subst (λ (k : HubLife). k.outputs ≡ sent schema k.entries) (sym (lived_there None gone)) (append-nil l.outputs ∙ (equal ∙ same))
      where
        same : sent schema l.entries ≡ sent schema (l.entries ++ (asked ++ []))
        same = ap (λ (p : Progress). p.given) (ap (progress_of schema) (sym (append-nil l.entries)) ∙ quiet_between schema l.entries asked [] (asked_of_quiet schema read h e (hub_step (rules_of read) h e).1 l))
