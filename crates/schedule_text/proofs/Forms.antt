-- Lines of other numbers of words than a form has, and lines of which the first words are looked at.
use Rattle.std.proofs.Common.{◌≡◌, ℕ, ◌<◌, List, [], ◌∷◌, length, None, refl, ap, take, arith}
use Rattle.std.specs.Prelude.{◌≢◌, ◌&&◌, not, nat_lt}
use Rattle.std.specs.Borrow.{Bor}
use Rattle.room_model.specs.declared.definition.RoomDef.{RoomDef}
use Rattle.text_model.specs.Acts.{act_of}
use Rattle.text_model.specs.DefLines.{def_of, has_name, most_defs, next_def}
use Rattle.text_model.specs.Lines.{passing}
use Rattle.text_model.specs.Events.{event_of, plainly_of}
use Rattle.text_model.specs.OutLines.{plain_out}
use Rattle.text_model.specs.Schedules.{process_of}
use Rattle.text_words.specs.Words.{bytes_of}

pub act_other : (ws : List (Bor (List ℕ))) → length ws ≢ 1 → length ws ≢ 2 → length ws ≢ 3 → length ws ≢ 4 → act_of (bytes_of ws) ≡ None
act_other [] h1 h2 h3 h4 = refl
act_other (a ∷ []) h1 h2 h3 h4 = absurd (h1 refl)
act_other (a ∷ b ∷ []) h1 h2 h3 h4 = absurd (h2 refl)
act_other (a ∷ b ∷ c ∷ []) h1 h2 h3 h4 = absurd (h3 refl)
act_other (a ∷ b ∷ c ∷ d ∷ []) h1 h2 h3 h4 = absurd (h4 refl)
act_other (a ∷ b ∷ c ∷ d ∷ e ∷ ws) h1 h2 h3 h4 = refl

pub plainly_other : (ws : List (Bor (List ℕ))) (w : List ℕ) → length ws ≢ 1 → length ws ≢ 2 → length ws ≢ 3 → length ws ≢ 5 → plainly_of w (bytes_of ws) ≡ None
plainly_other [] w h1 h2 h3 h5 = refl
plainly_other (a ∷ []) w h1 h2 h3 h5 = absurd (h1 refl)
plainly_other (a ∷ b ∷ []) w h1 h2 h3 h5 = absurd (h2 refl)
plainly_other (a ∷ b ∷ c ∷ []) w h1 h2 h3 h5 = absurd (h3 refl)
plainly_other (a ∷ b ∷ c ∷ d ∷ []) w h1 h2 h3 h5 = refl
plainly_other (a ∷ b ∷ c ∷ d ∷ e ∷ []) w h1 h2 h3 h5 = absurd (h5 refl)
plainly_other (a ∷ b ∷ c ∷ d ∷ e ∷ f ∷ ws) w h1 h2 h3 h5 = refl

pub plain_out_other : (ws : List (Bor (List ℕ))) (w : List ℕ) → length ws ≢ 1 → length ws ≢ 2 → length ws ≢ 4 → plain_out w (bytes_of ws) ≡ None
plain_out_other [] w h1 h2 h4 = refl
plain_out_other (a ∷ []) w h1 h2 h4 = absurd (h1 refl)
plain_out_other (a ∷ b ∷ []) w h1 h2 h4 = absurd (h2 refl)
plain_out_other (a ∷ b ∷ c ∷ []) w h1 h2 h4 = refl
plain_out_other (a ∷ b ∷ c ∷ d ∷ []) w h1 h2 h4 = absurd (h4 refl)
plain_out_other (a ∷ b ∷ c ∷ d ∷ e ∷ ws) w h1 h2 h4 = refl

-- too few words for a definition
pub def_short : (ws : List (Bor (List ℕ))) → length ws < 10 → def_of (bytes_of ws) ≡ None
def_short [] few = refl
def_short (a ∷ []) few = refl
def_short (a ∷ b ∷ []) few = refl
def_short (a ∷ b ∷ c ∷ []) few = refl
def_short (a ∷ b ∷ c ∷ d ∷ []) few = refl
def_short (a ∷ b ∷ c ∷ d ∷ e ∷ []) few = refl
def_short (a ∷ b ∷ c ∷ d ∷ e ∷ f ∷ []) few = refl
def_short (a ∷ b ∷ c ∷ d ∷ e ∷ f ∷ g ∷ []) few = refl
def_short (a ∷ b ∷ c ∷ d ∷ e ∷ f ∷ g ∷ h ∷ []) few = refl
def_short (a ∷ b ∷ c ∷ d ∷ e ∷ f ∷ g ∷ h ∷ i ∷ []) few = refl
def_short (a ∷ b ∷ c ∷ d ∷ e ∷ f ∷ g ∷ h ∷ i ∷ j ∷ ws) few = absurd (omega arith)

-- ---- the first words

pub event_taken : (ws : List (List ℕ)) → event_of (take 7 ws) ≡ event_of ws
event_taken [] = refl
event_taken (a ∷ []) = refl
event_taken (a ∷ b ∷ []) = refl
event_taken (a ∷ b ∷ c ∷ []) = refl
event_taken (a ∷ b ∷ c ∷ d ∷ []) = refl
event_taken (a ∷ b ∷ c ∷ d ∷ e ∷ []) = refl
event_taken (a ∷ b ∷ c ∷ d ∷ e ∷ f ∷ []) = refl
event_taken (a ∷ b ∷ c ∷ d ∷ e ∷ f ∷ g ∷ ws) = refl

pub out_taken : (w : List ℕ) (ws : List (List ℕ)) → plain_out w (take 5 ws) ≡ plain_out w ws
out_taken w [] = refl
out_taken w (a ∷ []) = refl
out_taken w (a ∷ b ∷ []) = refl
out_taken w (a ∷ b ∷ c ∷ []) = refl
out_taken w (a ∷ b ∷ c ∷ d ∷ []) = refl
out_taken w (a ∷ b ∷ c ∷ d ∷ e ∷ ws) = refl

pub process_taken : (ws : List (List ℕ)) → process_of (take 3 ws) ≡ process_of ws
process_taken [] = refl
process_taken (a ∷ []) = refl
process_taken (a ∷ b ∷ []) = refl
process_taken (a ∷ b ∷ c ∷ ws) = refl

pub def_taken : (ws : List (List ℕ)) → def_of (take 13 ws) ≡ def_of ws
def_taken [] = refl
def_taken (a ∷ []) = refl
def_taken (a ∷ b ∷ []) = refl
def_taken (a ∷ b ∷ c ∷ []) = refl
def_taken (a ∷ b ∷ c ∷ d ∷ []) = refl
def_taken (a ∷ b ∷ c ∷ d ∷ e ∷ []) = refl
def_taken (a ∷ b ∷ c ∷ d ∷ e ∷ f ∷ []) = refl
def_taken (a ∷ b ∷ c ∷ d ∷ e ∷ f ∷ g ∷ []) = refl
def_taken (a ∷ b ∷ c ∷ d ∷ e ∷ f ∷ g ∷ h ∷ []) = refl
def_taken (a ∷ b ∷ c ∷ d ∷ e ∷ f ∷ g ∷ h ∷ i ∷ []) = refl
def_taken (a ∷ b ∷ c ∷ d ∷ e ∷ f ∷ g ∷ h ∷ i ∷ j ∷ []) = refl
def_taken (a ∷ b ∷ c ∷ d ∷ e ∷ f ∷ g ∷ h ∷ i ∷ j ∷ k ∷ []) = refl
def_taken (a ∷ b ∷ c ∷ d ∷ e ∷ f ∷ g ∷ h ∷ i ∷ j ∷ k ∷ l ∷ []) = refl
def_taken (a ∷ b ∷ c ∷ d ∷ e ∷ f ∷ g ∷ h ∷ i ∷ j ∷ k ∷ l ∷ m ∷ ws) = refl

pub next_taken : (defs : List RoomDef) (ws : List (List ℕ)) → next_def defs (take 13 ws) ≡ next_def defs ws
next_taken defs ws = ap (passing (λ (d : RoomDef). nat_lt (length defs) most_defs && not (has_name defs d.name))) (def_taken ws)
