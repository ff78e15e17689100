-- What the lines so far made of a client, where none is left.
use Rattle.std.proofs.Common.{◌≡◌, ◌≤◌, ℕ, zero, suc, List, [], ◌∷◌, length, refl, ap, drop, arith}
use Rattle.std.specs.Prelude.{Ok}
use Rattle.schema_model.specs.Classes.{Schema}
use Rattle.hub_model.specs.declared.event.HubOut.{HubOut}
use Rattle.life_model.specs.Clients.{Client}
use Rattle.room_server.specs.Views.{client_behind}

past : (lines : List (ℕ × HubOut)) (i : ℕ) → length lines ≤ i → drop i lines ≡ []
past [] zero all = refl
past [] (suc i) all = refl
past (l ∷ ls) zero all = absurd (omega (arith, all))
past (l ∷ ls) (suc i) all = past ls i (omega (arith, all))

pub end_outs : (conn : ℕ) (schema : Schema) (c : Client) (lines : List (ℕ × HubOut)) (i : ℕ) → length lines ≤ i → client_behind conn schema c (drop i lines) ≡ Ok c
end_outs conn schema c lines i all = ap (client_behind conn schema c) (past lines i all)
