-- Clients that are gone through one after another: what is done, what is given, and the steps of a tick.
use Rattle.std.proofs.Common.{◌≡◌, ℕ, zero, suc, ◌+◌, ◌<◌, List, [], ◌∷◌, ◌++◌, map, take, drop, set, length, get_or, sym, ap, ◌∙◌, arith}
use Rattle.std.specs.Prelude.{◌≤◌}
use Rattle.std.proofs.Math.Seq.{take-append_seam}
use Rattle.std.specs.List.{flat_map, sum_by}
use Rattle.std.proofs.lemmas.List.{take_more, take_more_set, drop_more, drop-set-lt, map-append, flat_map_more}
use Rattle.std.proofs.lemmas.List.Sums.{sum_by-cons, sum_by_more}
use Rattle.live_state.specs.Live.{Live as State-now, schema_of, rows_of}
use Rattle.room_model.specs.declared.event.RoomOut.{RoomOut}
use Rattle.room_model.specs.Room.{tick_outs}
use Rattle.room_model.specs.Sessions.{Session}
use Rattle.view_counts.specs.Settled.{View, view_before}
use Rattle.room_core.specs.declared.client.Client.{Client}
use Rattle.room_core.specs.Costs.{session_cost}
use Rattle.room_core.specs.Ticks.{ticked_client}
use Rattle.room_core.specs.Values.{session_of_client}

-- the prefix of a list is done, the rest is as it was: the next one, and what is behind it
module _ {X : Type 0} (xs first : List X) (n : ℕ) (d : X) (long : length xs ≡ length first) (within : n < length first) (rest : drop n xs ≡ drop n first) where
  seam : get_or xs n d ∷ drop (n + 1) xs ≡ get_or first n d ∷ drop (n + 1) first
  seam = sym (drop_more xs n d (omega arith)) ∙ rest ∙ drop_more first n d within

  pub next_same : get_or xs n d ≡ get_or first n d
  next_same = let h = seam in cc

  pub rest_same : (y : X) → drop (n + 1) (set xs n y) ≡ drop (n + 1) first
  rest_same y = drop-set-lt (n + 1) xs n y (omega arith) ∙ (let h = seam in cc)

-- what a loop leaves that ends early: all of what it has changed
pub written_back : {X : Type 0} (n : ℕ) (ys xs : List X) → n ≡ length ys → take n (ys ++ drop (length ys) xs) ≡ ys
written_back n ys xs all = ap (λ k. take k (ys ++ drop (length ys) xs)) all ∙ take-append_seam ys (drop (length ys) xs)

-- what is given of a client, and what its session is then
module _ (outs_of : Client → List RoomOut) (session_then : Client → Session) where
  -- so many are done, and gave this
  pub record Done (first : List Client) (n : ℕ) (cs : List Client) (so_far : List RoomOut) : Type 0 where
    pub rest : drop n cs ≡ drop n first
    pub sessions : map session_of_client (take n cs) ≡ map session_then (take n first)
    pub outs : so_far ≡ flat_map outs_of (take n first)

  -- one more
  pub done_more : (first cs : List Client) (n : ℕ) (d new : Client) (outs after : List RoomOut) → length cs ≡ length first → n < length first → Done first n cs outs
      → session_of_client new ≡ session_then (get_or cs n d) → after ≡ outs ++ outs_of (get_or cs n d) → Done first (n + 1) (set cs n new) after
  done_more first cs n d new outs after long within done session sent =
      let same = next_same cs first n d long within done.rest in
      let within_now : n < length cs = omega arith in
      record {
        rest = rest_same cs first n d long within done.rest new;
        sessions = ap (map session_of_client) (take_more_set cs n new within_now) ∙ map-append session_of_client (take n cs) (new ∷ [])
            ∙ ap (λ ss. ss ++ session_of_client new ∷ []) done.sessions
            ∙ ap (λ (s : Session). map session_then (take n first) ++ s ∷ []) (session ∙ ap session_then same)
            ∙ sym (map-append session_then (take n first) (get_or first n d ∷ [])) ∙ ap (map session_then) (sym (take_more first n d within));
        outs = sent ∙ ap (λ (c : Client). outs ++ outs_of c) same
            ∙ ap (λ os. os ++ outs_of (get_or first n d)) done.outs ∙ flat_map_more outs_of [] (take n first) (get_or first n d) ∙ ap (flat_map outs_of) (sym (take_more first n d within));
      }

-- at a tick
abbrev pub outs_at : State-now → View → Client → List RoomOut
outs_at live shared c = tick_outs (schema_of live) (view_before shared) (rows_of live) (session_of_client c)

abbrev pub session_at : State-now → Client → Session
session_at live c = ticked_client (schema_of live) (rows_of live) c

-- the steps of so many, and of one more
module _ (live : State-now) where
  abbrev cost_of : Client → ℕ
  cost_of c = session_cost (schema_of live) (rows_of live) (session_of_client c)

  pub cost_more : (first cs : List Client) (n : ℕ) (d : Client) (before steps after : ℕ) → length cs ≡ length first → n < length first → drop n cs ≡ drop n first
      → steps ≤ before + sum_by cost_of (take n first) → after ≤ steps + cost_of (get_or cs n d) → after ≤ before + sum_by cost_of (take (n + 1) first)
  cost_more first cs n d before steps after long within rest so_far step =
      let same = ap cost_of (next_same cs first n d long within rest) in
      let more = sum_by_more cost_of first n d within in
      omega (arith, same, more, so_far, step)

  -- so many take no more than all
  cost_within : (n : ℕ) (cs : List Client) → sum_by cost_of (take n cs) ≤ sum_by cost_of cs
  cost_within zero cs = omega arith
  cost_within (suc n) [] = omega arith
  cost_within (suc n) (c ∷ cs) = let so_many = sum_by-cons cost_of c (take n cs) in let all = sum_by-cons cost_of c cs in omega (arith, so_many, all, cost_within n cs)

  pub cost_after : (first cs : List Client) (n : ℕ) (d : Client) (before steps after : ℕ) → length cs ≡ length first → n < length first → drop n cs ≡ drop n first
      → steps ≤ before + sum_by cost_of (take n first) → after ≤ steps + cost_of (get_or cs n d) → after ≤ before + sum_by cost_of first
  cost_after first cs n d before steps after long within rest so_far step =
      let one = cost_more first cs n d before steps after long within rest so_far step in
      omega (arith, one, cost_within (n + 1) first)
