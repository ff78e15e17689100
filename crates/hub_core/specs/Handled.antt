-- A hub behind one event of the room of an id, and behind an opening of it. Ours.
use Rattle.std.specs.Prelude.{ℕ, ◌++◌, List, Some, map, filter}
use Rattle.std.specs.List.{flat_map}
use Rattle.room_model.specs.declared.event.RoomEvent.{RoomEvent}
use Rattle.room_model.specs.declared.event.RoomEvent.TheVariants as event
use Rattle.room_model.specs.declared.event.RoomOut.{RoomOut}
use Rattle.hub_model.specs.declared.event.HubOut.{HubOut}
use Rattle.hub_model.specs.declared.conn.HubConn.{HubConn}
use Rattle.hub_model.specs.HubValues.{HubValue, HubRoom, is_named}
use Rattle.hub_model.specs.declared.request.Opening.{Opening}
use Rattle.hub_model.specs.Dealt.{RoomStep, Dealt, conns_left, dealt, opened_out, told_out}
use Rattle.hub_model.specs.HubStep.{disposals, entered_conns, event_if, is_needed, unknown_room}

-- what its rooms make of the event, which is the one's alone
abbrev pub dealt_in : RoomStep → List HubRoom → List ℕ → RoomEvent → List Dealt
dealt_in step rooms id e = map (λ (r : HubRoom). dealt step r (event_if (is_named id r) e)) rooms

-- the hub with what its rooms made of an event, with these connections
abbrev pub with_dealt : HubValue → List HubConn → List Dealt → HubValue
with_dealt h conns ds = record {
  now = h.now;
  schema = h.schema;
  process = h.process;
  defs = h.defs;
  rooms = filter is_needed (map (λ (d : Dealt). d.room) ds);
  conns = conns_left ds conns;
}

-- what they give, where the hub gives this for an output of a room
abbrev pub told_by : (List ℕ → RoomOut → List HubOut) → List Dealt → List HubOut
told_by given ds = flat_map (λ (d : Dealt). flat_map (given d.room.id) d.outs) ds ++ disposals (map (λ (d : Dealt). d.room) ds)

-- an event that opens and reserves nothing
abbrev pub handled_in : RoomStep → HubValue → List ℕ → RoomEvent → HubValue × List HubOut
handled_in step h id e = (
  with_dealt h h.conns (dealt_in step h.rooms id e),
  unknown_room h id ++ told_by (told_out h.conns) (dealt_in step h.rooms id e),
)

-- an opening that gets to its room
abbrev pub dealt_to : RoomStep → HubValue → List ℕ → Opening → List Dealt
dealt_to step h fresh o = dealt_in step h.rooms o.room (event.Enter o.session o.token fresh)

abbrev pub entered_in : RoomStep → HubValue → ℕ → List ℕ → Opening → HubValue × List HubOut
entered_in step h conn fresh o = (
  with_dealt h (entered_conns h.conns conn (dealt_to step h fresh o) (Some o)) (dealt_to step h fresh o),
  told_by (opened_out conn fresh (entered_conns h.conns conn (dealt_to step h fresh o) (Some o))) (dealt_to step h fresh o),
)
