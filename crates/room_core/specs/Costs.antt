-- How many steps the step of a room takes at most. Ours.
use Rattle.std.specs.Prelude.{ℕ, ◌+◌, List, length, map}
use Rattle.std.specs.List.{sum_by}
use Rattle.schema_model.specs.Classes.{Schema}
use Rattle.schema_model.specs.declared.place.Pair.{Pair}
use Rattle.state_model.specs.declared.row.RowEntry.{RowEntry}
use Rattle.state_model.specs.Rows.{place_count}
use Rattle.state_model.specs.Shown.{permitted, shared}
use Rattle.state_model.specs.State.{swept}
use Rattle.instance_table.specs.Behind.{places_behind}
use Rattle.room_model.specs.declared.event.Act.{Act}
use Rattle.room_model.specs.declared.event.Act.TheVariants as act
use Rattle.room_model.specs.declared.event.RoomEvent.{RoomEvent}
use Rattle.room_model.specs.declared.event.RoomEvent.TheVariants as event
use Rattle.room_model.specs.declared.event.Stage.{Stage}
use Rattle.room_model.specs.declared.event.Stage.TheVariants.{Due, Live}
use Rattle.room_model.specs.Sessions.{Session}
use Rattle.room_model.specs.Room.{RoomValue, session_swept}

-- at a stage: a full state looks at the rows and pairs as settling does, a patch at the views before and now
abbrev pub cost_at : Stage → ℕ → ℕ → ℕ
cost_at Due settling encoding = settling + settling
cost_at Live settling encoding = settling + encoding
cost_at stage settling encoding = 0

-- of a session at a tick of the swept rows: settling takes one for each place of the rows and each pair
abbrev pub session_cost : Schema → List RowEntry → Session → ℕ
session_cost schema rows s = cost_at s.stage (place_count rows + length s.members.now) (place_count s.permitted + place_count (permitted schema rows s.members.now))

-- of the shared view and of all sessions, at a tick of the swept rows
abbrev pub swept_cost : Schema → List RowEntry → List RowEntry → List Session → ℕ
swept_cost schema shared0 rows ss = place_count rows + (place_count shared0 + place_count (shared schema rows)) + sum_by (session_cost schema rows) ss

-- of a tick: one for each place of the state, which is swept, and then those
abbrev pub tick_cost : RoomValue → ℕ
tick_cost r = place_count r.state.rows + swept_cost r.schema r.shared (swept r.state).rows (map (session_swept (swept r.state).rows) r.sessions)

-- of an act: a view edit looks at each place behind its row
abbrev pub edit_cost : RoomValue → Pair → ℕ
edit_cost r pair = places_behind r.schema r.state.rows pair.who pair.tag

abbrev pub act_cost : RoomValue → Act → ℕ
act_cost r (act.ViewAdd id pair) = edit_cost r pair
act_cost r (act.ViewDel id pair) = edit_cost r pair
act_cost r other = 0

abbrev pub step_cost : RoomValue → RoomEvent → ℕ
step_cost r event.Tick = tick_cost r
step_cost r (event.Act does) = act_cost r does
step_cost r other = 0
