-- The laws of a state frame and of any list of ticks: a client's rows are its permitted view.
use Rattle.std.specs.Prelude.{◌≡◌, List, [], ◌∷◌}
use Rattle.schema_model.specs.Classes.{Schema}
use Rattle.schema_model.specs.declared.place.Pair.{Pair}
use Rattle.state_model.specs.declared.row.RowEntry.{RowEntry}
use Rattle.state_model.specs.Rows.{root_alone}
use Rattle.state_model.specs.Reached.{freed, HasNoCycle}
use Rattle.state_model.specs.Shown.{permitted, shared}
use Rattle.state_model.specs.Sound.{Sound}
use Rattle.wire_model.specs.Effect.{apply_edits}
use Rattle.wire_model.specs.Frame.{shared_part, view_part}
use Rattle.wire_laws.specs.PatchLaw.{Agree}

-- the rows of a state at a tick, and the members of a client's view
pub record Moment : Type 0 where
  pub rows : List RowEntry
  pub members : List Pair

-- the client's view
abbrev pub view_at : Schema → Moment → List RowEntry
view_at schema m = permitted schema m.rows m.members

-- a client's rows after a state frame: the shared part is done, then the view part, and then what nothing holds is freed
abbrev pub after_parts : Schema → List RowEntry → List RowEntry → List RowEntry → List RowEntry → List RowEntry → List RowEntry
after_parts schema shared0 permitted0 shared1 permitted1 client =
    freed (apply_edits (view_part schema shared0 permitted0 shared1 permitted1) (apply_edits (shared_part schema shared0 shared1) client))

-- the same from one tick to the next
abbrev pub after_moment : Schema → Moment → Moment → List RowEntry → List RowEntry
after_moment schema old new client = after_parts schema (shared schema old.rows) (view_at schema old) (shared schema new.rows) (view_at schema new) client

-- one tick may follow another: both states are sound, the old one has no cycle, and they agree on what numbers and item numbers are
pub record Follows (schema : Schema) (old new : List RowEntry) : Type 0 where
  pub old_sound : Sound schema old
  pub new_sound : Sound schema new
  pub no_cycle : HasNoCycle old
  pub agree : Agree old new

-- a state frame leads a client from its old view to its new one
abbrev pub FrameLeads : Type 0
FrameLeads = (schema : Schema) (old new : Moment) → Follows schema old.rows new.rows → after_moment schema old new (view_at schema old) ≡ view_at schema new

-- a full state leads a client from the root alone to its view
abbrev pub FullLeads : Type 0
FullLeads = (schema : Schema) (new : Moment) → Sound schema new.rows
    → after_parts schema (root_alone schema) (root_alone schema) (shared schema new.rows) (view_at schema new) (root_alone schema) ≡ view_at schema new

-- each tick may follow the one before it
abbrev pub AllFollow : Schema → Moment → List Moment → Type 0
AllFollow schema first [] = Unit {0}
AllFollow schema first (m ∷ ms) = Follows schema first.rows m.rows × AllFollow schema m ms

-- a client's rows after ticks, one after another
abbrev pub after_moments : Schema → Moment → List Moment → List RowEntry → List RowEntry
after_moments schema first [] client = client
after_moments schema first (m ∷ ms) client = after_moments schema m ms (after_moment schema first m client)

-- the last of them
abbrev pub last_moment : Moment → List Moment → Moment
last_moment first [] = first
last_moment first (m ∷ ms) = last_moment m ms

-- after any list of ticks a client has its view at the last one
abbrev pub TicksLead : Type 0
TicksLead = (schema : Schema) (first : Moment) (ms : List Moment) → AllFollow schema first ms
    → after_moments schema first ms (view_at schema first) ≡ view_at schema (last_moment first ms)

-- a client that began with the root alone, got a full state at the first tick and then a frame at each, has its view at the last
abbrev pub JoinedLead : Type 0
JoinedLead = (schema : Schema) (first : Moment) (ms : List Moment) → Sound schema first.rows → AllFollow schema first ms
    → after_moments schema first ms (after_parts schema (root_alone schema) (root_alone schema) (shared schema first.rows) (view_at schema first) (root_alone schema))
    ≡ view_at schema (last_moment first ms)
