-- Views that are settled at a tick: what a view is now, what it was before, and which rows of the last tick it stems from.
use Rattle.std.specs.Prelude.{◌≡◌, ◌⊎◌, ℕ, ◌+◌, Bool, true, false, List, length}
use Rattle.schema_model.specs.Classes.{Schema}
use Rattle.state_model.specs.declared.row.RowEntry.{RowEntry}
use Rattle.state_model.specs.Rows.{root_alone, place_count}
use Rattle.state_model.specs.Members.{Members, no_members}
use Rattle.state_model.specs.Shown.{permitted, shared}
use Rattle.wire_model.specs.declared.op.Block.{Block}
use Rattle.wire_model.specs.Frame.{patch, state_frame, full_state}
use Rattle.wire_laws.specs.FrameLaw.{Follows}
use Rattle.state_model.specs.Spelled.{are_spelled}
use Rattle.live_state.specs.Live.{Live, schema_of, rows_of}

-- a view: whether it was never settled, its rows before it was settled last, and its rows since then
pub record View : Type 0 where
  pub is_new : Bool
  pub before : List RowEntry
  pub after : List RowEntry

-- a view of no tick yet: the root alone
abbrev pub new_view : Schema → View
new_view schema = record { is_new = true; before = root_alone schema; after = root_alone schema }

-- its rows now, and before it was settled last
abbrev pub view_now : View → List RowEntry
view_now v = v.after

abbrev pub view_before : View → List RowEntry
view_before v = v.before

-- what settling makes of a view: it has the permitted view now, and knows the one before
abbrev pub settled : Live → Members → View → View
settled live members v = record { is_new = false; before = v.after; after = permitted (schema_of live) (rows_of live) members.now }

-- rows of the last tick: the rows now may follow them, and they have bytes
pub record LastTick (live : Live) : Type 0 where
  pub rows : List RowEntry
  pub follows : Follows (schema_of live) rows (rows_of live)
  pub spelled : are_spelled rows ≡ true

-- a view was the permitted one at the last tick, with the members of then
pub record WasSettled (live : Live) (members : Members) (v : View) : Type 0 where
  pub tick : LastTick live
  pub stood : view_now v ≡ permitted (schema_of live) tick.rows members.last

-- it can be settled at this tick: it is new, or it was settled at the last one
abbrev pub CanSettle : Live → Members → View → Type 0
CanSettle live members v = (v.is_new ≡ true) ⊎ WasSettled live members v

-- a view is settled at this tick with these members, and was the permitted view of the last one with the members of then
pub record IsSettled (live : Live) (members : Members) (tick : LastTick live) (v : View) : Type 0 where
  pub now : view_now v ≡ permitted (schema_of live) (rows_of live) members.now
  pub before : view_before v ≡ permitted (schema_of live) tick.rows members.last

-- the shared view and a client's are settled at one tick, and the blocks are the shared part of this tick
pub record AreSettled (live : Live) (members : Members) (shared_view view : View) (part : List Block) : Type 0 where
  pub tick : LastTick live
  pub shared_settled : IsSettled live no_members tick shared_view
  pub view_settled : IsSettled live members tick view
  pub is_part : part ≡ patch (schema_of live) (view_before shared_view) (view_now shared_view)

-- the shared part of a tick: the patch between the shared views
abbrev pub shared_part_of : Live → View → List Block
shared_part_of live v = patch (schema_of live) (view_before v) (view_now v)

-- the state bytes of a tick: from the views before to those now
abbrev pub frame_of : Live → View → View → List ℕ
frame_of live shared_view view = state_frame (schema_of live) (view_before shared_view) (view_before view) (view_now shared_view) (view_now view)

-- the state bytes of a full state: from the root alone to the shared view and the permitted one now
abbrev pub full_state_of : Live → Members → List ℕ
full_state_of live members = full_state (schema_of live) (shared (schema_of live) (rows_of live)) (permitted (schema_of live) (rows_of live) members.now)

-- the steps that settling takes: one for each place of the rows, and one for each pair
abbrev pub settling_steps : Live → Members → ℕ
settling_steps live members = place_count (rows_of live) + length members.now

-- the steps that encoding takes: one for each place of the view before and of the view now
abbrev pub encoding_steps : View → ℕ
encoding_steps v = place_count (view_before v) + place_count (view_now v)

-- a view is settled at this tick with these members, and stems from the last one
pub record IsSettledAtTick (live : Live) (members : Members) (v : View) : Type 0 where
  pub tick : LastTick live
  pub is_settled : IsSettled live members tick v
