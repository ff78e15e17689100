-- The sessions of a hub that are live, room by room.
use Rattle.std.proofs.Common.{◌≡◌, ◌+◌, ℕ, zero, suc, false, List, [], ◌∷◌, Option, Some, is_some, refl, sym, ap, ◌∙◌, add-one, arith, drop}
use Rattle.std.specs.Prelude.{option_map, slice_get}
use Rattle.room_model.specs.Room.{RoomValue}
use Rattle.hub_model.specs.HubValues.{HubRoom}
use Rattle.room_core.specs.Values.{live_count}
use Rattle.room_server.specs.Summaries.{live_in}

-- ---- sessions that are live, room by room

live_here : (rs : List HubRoom) (n live count more : ℕ) (r : Option RoomValue) → option_map (λ (r : HubRoom). r.room) (slice_get rs n) ≡ r → (v : RoomValue) → r ≡ Some v → count ≡ live_count v.sessions → more ≡ live + count
    → live + live_in (drop n rs) ≡ more + live_in (drop (suc n) rs)
live_here [] n live count more r is v here counts sum = absurd cc
live_here (x ∷ rs) zero live count more r is v here counts sum =
    let one : x.room ≡ v = cc in
    let same : live_count x.room.sessions ≡ count = ap (λ (w : RoomValue). live_count w.sessions) one ∙ sym counts in
    omega (arith, same, sum)
live_here (x ∷ rs) (suc n) live count more r is v here counts sum = live_here rs n live count more r is v here counts sum

pub live_first : (rs : List HubRoom) (n live count more : ℕ) (v : RoomValue) → option_map (λ (r : HubRoom). r.room) (slice_get rs n) ≡ Some v → count ≡ live_count v.sessions → more ≡ live + count
    → live + live_in (drop n rs) ≡ more + live_in (drop (n + 1) rs)
live_first rs n live count more v there counts sum = live_here rs n live count more (Some v) there v refl counts sum ∙ ap (λ k. more + live_in (drop k rs)) (sym (add-one n))

pub live_none : (rs : List HubRoom) (n live : ℕ) → is_some (slice_get rs n) ≡ false → live + live_in (drop n rs) ≡ live
live_none [] zero live none = omega arith
live_none [] (suc n) live none = omega arith
live_none (x ∷ rs) zero live none = absurd cc
live_none (x ∷ rs) (suc n) live none = live_none rs n live none
