-- Examples: which frames a client decodes, and what they say; worked out by hand.
use Rattle.std.specs.Prelude.{◌≡◌, ℕ, List, [], ◌∷◌, ◌++◌, Ok, pos, refl}
use Rattle.schema_model.specs.declared.value.Value.TheVariants as value
use Rattle.state_model.specs.declared.row.Row.TheVariants.{Struct}
use Rattle.state_model.specs.declared.row.RowEntry.{RowEntry}
use Rattle.state_model.proofs.Examples.{flat}
use Rattle.wire_model.specs.Decoded.{seen}
use Rattle.wire_model.proofs.Opened.{reading}
use Rattle.life_model.specs.Entries.{Sending, Frame, Closing}
use Rattle.life_model.specs.LatestFrames.{latest_frames}

-- a full state, a message and a patch; then the client comes back, and has a full state once more
abbrev first_given : List Sending
first_given = Frame (10 ∷ []) ∷ Frame (14 ∷ 128 ∷ 5 ∷ []) ∷ Frame (13 ∷ 3 ∷ []) ∷ Frame (15 ∷ 255 ∷ 0 ∷ 128 ∷ 6 ∷ []) ∷ []

abbrev then_given : List Sending
then_given = Closing 4001 ∷ Frame (10 ∷ []) ∷ Frame (14 ∷ 128 ∷ 7 ∷ []) ∷ Frame [] ∷ []

abbrev number : ℕ → List RowEntry
number n = record { who = 0; row = Struct 0 (record { field = 0; value = value.Whole (pos n) } ∷ []) } ∷ []

latest : latest_frames first_given ∷ latest_frames (first_given ++ then_given) ∷ []
    ≡ ((14 ∷ 128 ∷ 5 ∷ []) ∷ (15 ∷ 255 ∷ 0 ∷ 128 ∷ 6 ∷ []) ∷ []) ∷ ((14 ∷ 128 ∷ 7 ∷ []) ∷ []) ∷ []
latest = refl

decoded : seen flat (latest_frames first_given) ∷ seen flat (latest_frames (first_given ++ then_given)) ∷ [] ≡ Ok (number 6) ∷ Ok (number 7) ∷ []
unfolding reading
decoded = refl
