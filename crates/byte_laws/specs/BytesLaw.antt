-- The laws over bytes: what the bytes of state frames are decoded to.
use Rattle.std.specs.Prelude.{◌≡◌, ℕ, ◌==◌, true, not, List, [], ◌∷◌, length, Ok}
use Rattle.wire_model.specs.Patch.{are_short}
use Rattle.schema_model.specs.Classes.{Schema, is_kept}
use Rattle.state_model.specs.declared.row.RowEntry.{RowEntry}
use Rattle.state_model.specs.Rows.{root_alone}
use Rattle.state_model.specs.Shown.{shared}
use Rattle.state_model.specs.Sound.{Sound}
use Rattle.block_laws.specs.Writable.{are_writable}
use Rattle.wire_model.specs.Edits.{EditBlock, encoded_blocks}
use Rattle.wire_model.specs.Effect.{apply_edits}
use Rattle.wire_model.specs.Frame.{state_frame, full_state, shared_part, view_part, has_operation}
use Rattle.wire_model.specs.Resolved.{applied}
use Rattle.wire_model.specs.Decoded.{decoded, seen}
use Rattle.wire_laws.specs.FrameLaw.{Moment, view_at, Follows, AllFollow, last_moment}
use Rattle.state_model.specs.Spelled.{are_spelled}

-- the state bytes from one tick to the next
abbrev pub bytes_between : Schema → Moment → Moment → List ℕ
bytes_between schema old new = state_frame schema (shared schema old.rows) (view_at schema old) (shared schema new.rows) (view_at schema new)

-- the state bytes of a full state
abbrev pub bytes_whole : Schema → Moment → List ℕ
bytes_whole schema new = full_state schema (shared schema new.rows) (view_at schema new)

-- the bytes of a patch are decoded, over the old view, to exactly the new one
abbrev pub FrameDecodes : Type 0
FrameDecodes = (schema : Schema) (old new : Moment) → is_kept schema ≡ true → Follows schema old.rows new.rows
    → are_spelled old.rows ≡ true → are_spelled new.rows ≡ true
    → decoded schema (bytes_between schema old new) (view_at schema old) ≡ Ok (view_at schema new)

-- the bytes of a full state are decoded, over the root alone, to exactly the view
abbrev pub FullDecodes : Type 0
FullDecodes = (schema : Schema) (new : Moment) → is_kept schema ≡ true → Sound schema new.rows → are_spelled new.rows ≡ true
    → decoded schema (bytes_whole schema new) (root_alone schema) ≡ Ok (view_at schema new)

-- the patches of ticks, one after another, each with its frame code
abbrev pub patch_frames : Schema → Moment → List Moment → List (List ℕ)
patch_frames schema first [] = []
patch_frames schema first (m ∷ ms) = (15 ∷ bytes_between schema first m) ∷ patch_frames schema m ms

-- the rows of each of these ticks have bytes
abbrev pub AllSpelled : List Moment → Type 0
AllSpelled [] = Unit {0}
AllSpelled (m ∷ ms) = (are_spelled m.rows ≡ true) × AllSpelled ms

-- a full state at the first tick and a patch at each tick behind it are decoded, never refused, to exactly the view at the last one
abbrev pub JoinedDecodes : Type 0
JoinedDecodes = (schema : Schema) (first : Moment) (ms : List Moment) → is_kept schema ≡ true → Sound schema first.rows → AllFollow schema first ms
    → AllSpelled (first ∷ ms)
    → seen schema ((14 ∷ bytes_whole schema first) ∷ patch_frames schema first ms) ≡ Ok (view_at schema (last_moment first ms))

-- the two parts of a frame from one tick to the next
abbrev pub shared_blocks : Schema → Moment → Moment → List EditBlock
shared_blocks schema old new = shared_part schema (shared schema old.rows) (shared schema new.rows)

abbrev pub view_blocks : Schema → Moment → Moment → List EditBlock
view_blocks schema old new = view_part schema (shared schema old.rows) (view_at schema old) (shared schema new.rows) (view_at schema new)

-- both parts have bytes, what they lead from and to has short arrays, and the shared part as it is written makes of a client's old view what its operations make of it
pub record HaveBytes (schema : Schema) (old new : Moment) : Type 0 where
  pub shared_written : are_writable (encoded_blocks (shared_blocks schema old new)) ≡ true
  pub view_written : are_writable (encoded_blocks (view_blocks schema old new)) ≡ true
  pub old_shared_short : are_short schema (shared schema old.rows) ≡ true
  pub new_shared_short : are_short schema (shared schema new.rows) ≡ true
  pub left_short : are_short schema (applied schema (view_at schema old) (encoded_blocks (shared_blocks schema old new))) ≡ true
  pub view_short : are_short schema (view_at schema new) ≡ true
  pub shared_means : applied schema (view_at schema old) (encoded_blocks (shared_blocks schema old new)) ≡ apply_edits (shared_blocks schema old new) (view_at schema old)

-- so it is of any two ticks of which one may follow the other
abbrev pub PartsHaveBytes : Type 0
PartsHaveBytes = (schema : Schema) (old new : Moment) → is_kept schema ≡ true → Follows schema old.rows new.rows → are_spelled old.rows ≡ true
    → are_spelled new.rows ≡ true → HaveBytes schema old new

-- the state bytes of any tick are none exactly where the frame has no operation
abbrev pub BytesTell : Type 0
BytesTell = (schema : Schema) (shared0 permitted0 shared1 permitted1 : List RowEntry)
    → (length (state_frame schema shared0 permitted0 shared1 permitted1) == 0) ≡ not (has_operation schema shared0 permitted0 shared1 permitted1)
