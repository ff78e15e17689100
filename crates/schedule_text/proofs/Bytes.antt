-- Bytes are below 256.
use Rattle.std.proofs.Common.{◌≡◌, ℕ, ◌<◌, true, List, [], ◌∷◌, length, get_or, refl}
use Rattle.std.specs.List.{All}
use Rattle.std.proofs.lemmas.Bool.{and_from, lt-ltb}
use Rattle.std.proofs.lemmas.List.Elements.{All-from_get_or, All-head, All-tail}
use Rattle.text_model.specs.WordForms.{are_bytes}

all_small : (bs : List ℕ) → All (λ b. b < 256) bs → are_bytes bs ≡ true
all_small [] small = refl
all_small (b ∷ bs) small = and_from _ _ (lt-ltb b 256 (All-head (λ b. b < 256) b bs small)) (all_small bs (All-tail (λ b. b < 256) b bs small))

pub are_bytes_from : (bs : List ℕ) → ((i : ℕ) → i < length bs → get_or bs i 0 < 256) → are_bytes bs ≡ true
are_bytes_from bs small = all_small bs (All-from_get_or (λ b. b < 256) bs 0 small)
