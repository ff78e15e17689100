-- Rooms between two ticks: what each client's view stems from, so that its next frame leads on from it.
use Rattle.std.specs.Prelude.{◌≡◌, ◌≤◌, true, List, [], All}
use Rattle.schema_model.specs.Classes.{Schema}
use Rattle.state_model.specs.declared.row.RowEntry.{RowEntry}
use Rattle.state_model.specs.Members.{Members, no_members}
use Rattle.state_model.specs.Shown.{permitted}
use Rattle.state_model.specs.Spelled.{are_spelled}
use Rattle.state_model.specs.State.{State}
use Rattle.wire_model.specs.declared.op.Block.{Block}
use Rattle.wire_model.specs.Frame.{patch}
use Rattle.command_laws.specs.Kept.{IsKept}
use Rattle.command_laws.specs.Later.{IsLater}
use Rattle.room_model.specs.Limits.{longest_time}
use Rattle.room_model.specs.declared.event.Stage.{Stage}
use Rattle.room_model.specs.declared.event.Stage.TheVariants.{Reserved, Joining, Due, Live, Kept}
use Rattle.live_state.specs.Live.{Live as State-now, schema_of, rows_of}
use Rattle.view_counts.specs.Settled.{View, LastTick, IsSettled, view_now, view_before}
use Rattle.view_edits.specs.There.{are_there}
use Rattle.room_core.specs.declared.client.Client.{Client}
use Rattle.room_core.specs.declared.parts.Parts.{Parts}

-- a live client's view is the permitted one of the rows of the last tick, with its members of then; another one's was
-- never settled
abbrev pub ViewStands : Stage → Schema → List RowEntry → Members → View → Type 0
ViewStands Live schema last m v = view_now v ≡ permitted schema last m.last
ViewStands Reserved schema last m v = v.is_new ≡ true
ViewStands Joining schema last m v = v.is_new ≡ true
ViewStands Due schema last m v = v.is_new ≡ true
ViewStands Kept schema last m v = v.is_new ≡ true

-- so it is of a client, whose pairs are of rows that are there
pub record ClientStands (schema : Schema) (last rows : List RowEntry) (c : Client) : Type 0 where
  pub view_stands : ViewStands c.stage schema last c.members c.view
  pub pairs : are_there rows c.members.now ≡ true

-- the state of the last tick, from which the state now and all views stem
pub record Stands (live : State-now) (shared : View) (clients : List Client) : Type 0 where
  pub last : State
  pub kept : IsKept (schema_of live) last
  pub spelled : are_spelled last.rows ≡ true
  pub later : IsLater last live.table.state
  pub shared_stands : view_now shared ≡ permitted (schema_of live) last.rows []
  pub each : All (ClientStands (schema_of live) last.rows (rows_of live)) clients

-- so it is of a room, whose seats are kept for an hour at most
abbrev pub RoomStands : Parts → Type 0
RoomStands p = Stands p.live p.shared p.clients.items × (p.none ≡ no_members) × (p.def.keep ≤ longest_time)

-- the shared view is settled at this tick, and the blocks are the shared part of it
pub record HasBegun (live : State-now) (shared : View) (part : List Block) : Type 0 where
  pub tick : LastTick live
  pub settled : IsSettled live no_members tick shared
  pub is_part : part ≡ patch (schema_of live) (view_before shared) (view_now shared)

-- and each client stands as at the last tick
pub record CanTick (live : State-now) (shared : View) (part : List Block) (clients : List Client) : Type 0 where
  pub begun : HasBegun live shared part
  pub each : All (ClientStands (schema_of live) begun.tick.rows (rows_of live)) clients

-- and one of them
pub record CanSee (live : State-now) (shared : View) (part : List Block) (c : Client) : Type 0 where
  pub begun : HasBegun live shared part
  pub stands : ClientStands (schema_of live) begun.tick.rows (rows_of live) c
