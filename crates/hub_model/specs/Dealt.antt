-- What rooms make of the events that a hub gives them, and what they give, as the hub gives it. After Colyseus 0.16.
use Rattle.std.specs.Prelude.{ℕ, Bool, List, [], ◌∷◌, ◌++◌, pos, Option, Some, None, codes, filter, not, ◌&&◌}
use Rattle.std.specs.List.{list_any}
use Rattle.std.specs.Str.{bytes_eq}
use Rattle.frame_model.specs.Frames.{server_bytes}
use Rattle.frame_model.specs.declared.codes.TheConstants.{EXPIRED, UNHANDLED, WITH_ERROR}
use Rattle.frame_model.specs.declared.frame.ServerFrame.TheVariants as server
use Rattle.room_model.specs.declared.event.RoomEvent.{RoomEvent}
use Rattle.room_model.specs.declared.event.RoomOut.{RoomOut}
use Rattle.room_model.specs.declared.event.RoomOut.TheVariants as room_out
use Rattle.room_model.specs.Room.{RoomValue}
use Rattle.room_model.specs.Outs.{is_end}
use Rattle.hub_model.specs.declared.event.HubOut.{HubOut}
use Rattle.hub_model.specs.declared.event.HubOut.TheVariants as out
use Rattle.hub_model.specs.declared.conn.HubConn.{HubConn}
use Rattle.hub_model.specs.HubValues.{HubRoom, conn_for}

-- the step of rooms
abbrev pub RoomStep : Type 0
RoomStep = RoomValue → RoomEvent → RoomValue × List RoomOut

-- the room as it is now
abbrev pub with_room : HubRoom → RoomValue → HubRoom
with_room r room = record { id = r.id; def = r.def; criteria = r.criteria; room = room }

-- a room behind events, with what it gave for them
pub record Dealt : Type 0 where
  pub room : HubRoom
  pub outs : List RoomOut

abbrev pub dealt_from : RoomStep → HubRoom → List RoomOut → List RoomEvent → Dealt
dealt_from step r outs [] = record { room = r; outs = outs }
dealt_from step r outs (e ∷ es) = dealt_from step (with_room r (step r.room e).0) (outs ++ (step r.room e).1) es

abbrev pub dealt : RoomStep → HubRoom → List RoomEvent → Dealt
dealt step r es = dealt_from step r [] es

-- ---- what a room gives, as the hub gives it

-- an output to the connection of a session, where it has one
abbrev pub to_conn : (ℕ → HubOut) → Option HubConn → List HubOut
to_conn give None = []
to_conn give (Some c) = give c.conn ∷ []

abbrev pub told_out : List HubConn → List ℕ → RoomOut → List HubOut
told_out conns room (room_out.Send s bytes) = to_conn (λ conn. out.Send conn bytes) (conn_for conns room s)
told_out conns room (room_out.Close s code) = to_conn (λ conn. out.Close conn code) (conn_for conns room s)
told_out conns room (room_out.Entered s) = out.Joined room s ∷ []
told_out conns room (room_out.Back s) = out.Returned room s ∷ []
told_out conns room (room_out.NoSeat s) = []
told_out conns room (room_out.TokenInUse s) = []
told_out conns room (room_out.Message s kind payload) = out.Message room s kind payload ∷ []
told_out conns room (room_out.RawMessage s kind payload) = out.RawMessage room s kind payload ∷ []
told_out conns room (room_out.Dropped s) = out.Dropped room s ∷ []
told_out conns room (room_out.Left s) = out.Left room s ∷ []
told_out conns room (room_out.Made n) = out.Made room n ∷ []
told_out conns room (room_out.Refused r) = out.Refused r ∷ []

-- an id that is in use
abbrev pub in_use_text : List ℕ → List ℕ
in_use_text id = codes "id " ++ (id ++ codes " is in use")

-- an opening that is refused: what is wrong, and the closing
abbrev pub refused_opening : ℕ → ℕ → List ℕ → List HubOut
refused_opening conn code text = out.Send conn (server_bytes (server.Fault (pos code) text)) ∷ out.Close conn WITH_ERROR ∷ []

-- what a room gives for the opening of a connection with a fresh token
abbrev pub opened_out : ℕ → List ℕ → List HubConn → List ℕ → RoomOut → List HubOut
opened_out conn fresh conns room (room_out.NoSeat s) = refused_opening conn EXPIRED (codes "seat expired")
opened_out conn fresh conns room (room_out.TokenInUse s) = refused_opening conn UNHANDLED (in_use_text fresh)
opened_out conn fresh conns room o = told_out conns room o

-- ---- connections that end

-- a room's outputs end a connection
abbrev pub ends : HubConn → Dealt → Bool
ends c d = bytes_eq d.room.id c.room && list_any (is_end c.session) d.outs

-- the connections that none of these ends
abbrev pub conns_left : List Dealt → List HubConn → List HubConn
conns_left ds cs = filter (λ c. not (list_any (ends c) ds)) cs
