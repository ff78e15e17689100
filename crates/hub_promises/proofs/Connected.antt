-- Who is connected in a room of a hub behind its events, by what the room gives.
use Rattle.std.proofs.Common.{◌≡◌, ℕ, Bool, true, false, not, ◌&&◌, ◌||◌, List, Some, refl, sym, ap, subst, ◌∙◌, inl, inr}
use Rattle.std.specs.List.{list_any}
use Rattle.room_model.specs.declared.event.RoomEvent.{RoomEvent}
use Rattle.room_model.specs.declared.event.RoomEvent.TheVariants as happened
use Rattle.room_model.specs.Room.{RoomValue, room_step}
use Rattle.room_laws.specs.Placed.{Placed}
use Rattle.room_laws.specs.StepLaws.{is_entry, is_end, goes_to, opens, connected}
use Rattle.room_laws.proofs.RoomObeys.{step_obeys}
use Rattle.room_promises.proofs.EventCases.{enter_cases}
use Rattle.hub_model.specs.declared.event.HubEvent.{HubEvent}
use Rattle.hub_model.specs.HubValues.{HubValue, HubRoom}
use Rattle.hub_model.specs.Dealt.{dealt}
use Rattle.hub_model.specs.HubStep.{Rules, deals}
use Rattle.hub_promises.proofs.Deals.{Few}
use Rattle.hub_promises.proofs.Openings.{OpensIn, opened_here}

-- ---- a room behind its events

-- where an event opens a session nothing ends
pub opening_ends_none : (r : RoomValue) (e : RoomEvent) (session id : List ℕ) → opens e ≡ Some session → list_any (is_end id) (room_step r e).1 ≡ false
opening_ends_none r (happened.Enter s token fresh) session id is =
    enter_cases (λ x. list_any (is_end id) x.1 ≡ false) r s fresh token refl refl (λ lapse at new. refl) (λ t lapse is at new. refl)
opening_ends_none r e session id is = absurd (cc)

-- a session is connected afterwards where it was or enters, and nothing ends that
pub connected_behind : (r : HubRoom) (es : List RoomEvent) (session : List ℕ) → Placed r.room → Few r.room es
    → connected (dealt room_step r es).room.room session ≡ ((connected r.room session || list_any (is_entry session) (dealt room_step r es).outs) && not (list_any (is_end session) (dealt room_step r es).outs))
connected_behind r es session placed (inl empty) = subst Goal (sym empty) (still (connected r.room session))
  where
    Goal : List RoomEvent → Type 0
    Goal es = connected (dealt room_step r es).room.room session ≡ ((connected r.room session || list_any (is_entry session) (dealt room_step r es).outs) && not (list_any (is_end session) (dealt room_step r es).outs))

    still : (b : Bool) → b ≡ ((b || false) && not false)
    still true = refl
    still false = refl
connected_behind r es session placed (inr one) = subst Goal (sym one.is) (by_entry (list_any (is_entry session) (room_step r.room one.event).1) refl)
  where
    Goal : List RoomEvent → Type 0
    Goal es = connected (dealt room_step r es).room.room session ≡ ((connected r.room session || list_any (is_entry session) (dealt room_step r es).outs) && not (list_any (is_end session) (dealt room_step r es).outs))

    by_entry : (b : Bool) → list_any (is_entry session) (room_step r.room one.event).1 ≡ b
        → connected (room_step r.room one.event).0 session ≡ ((connected r.room session || list_any (is_entry session) (room_step r.room one.event).1) && not (list_any (is_end session) (room_step r.room one.event).1))
    by_entry true e =
        let laws = step_obeys r.room one.event placed one.may in
        let enters = laws.entered session e in
        let last = opening_ends_none r.room one.event session session enters.0 in
        enters.2 ∙ sym (ap (λ b. (connected r.room session || b) && not (list_any (is_end session) (room_step r.room one.event).1)) e ∙ (ap (λ b. (connected r.room session || true) && not b) last ∙ either (connected r.room session)))
      where
        either : (b : Bool) → ((b || true) && not false) ≡ true
        either true = refl
        either false = refl
    by_entry false e =
        let laws = step_obeys r.room one.event placed one.may in
        laws.others session e ∙ (same (connected r.room session) (list_any (is_end session) (room_step r.room one.event).1) ∙ sym (ap (λ b. (connected r.room session || b) && not (list_any (is_end session) (room_step r.room one.event).1)) e))
      where
        same : (a b : Bool) → (a && not b) ≡ ((a || false) && not b)
        same true b = refl
        same false b = refl

-- what goes to a session goes to one that was connected, or enters
pub heard : (r : HubRoom) (es : List RoomEvent) (session : List ℕ) → Placed r.room → Few r.room es → list_any (goes_to session) (dealt room_step r es).outs ≡ true
    → (connected r.room session || list_any (is_entry session) (dealt room_step r es).outs) ≡ true
heard r es session placed (inl empty) = subst (λ es. list_any (goes_to session) (dealt room_step r es).outs ≡ true → (connected r.room session || list_any (is_entry session) (dealt room_step r es).outs) ≡ true) (sym empty) (λ h. absurd (cc))
heard r es session placed (inr one) =
    subst (λ es. list_any (goes_to session) (dealt room_step r es).outs ≡ true → (connected r.room session || list_any (is_entry session) (dealt room_step r es).outs) ≡ true) (sym one.is)
    ((step_obeys r.room one.event placed one.may).told session)

-- a session that enters has an opening
pub entry_opened : (rules : Rules) (h : HubValue) (e : HubEvent) (r : HubRoom) (session : List ℕ) → Placed r.room → Few r.room (deals rules h e r)
    → list_any (is_entry session) (dealt room_step r (deals rules h e r)).outs ≡ true → OpensIn h e r session
entry_opened rules h e r session placed (inl empty) enters = absurd (let no = ap (λ es. list_any (is_entry session) (dealt room_step r es).outs) (sym empty) ∙ enters in cc)
entry_opened rules h e r session placed (inr one) enters =
    let there : list_any (is_entry session) (room_step r.room one.event).1 ≡ true = ap (λ es. list_any (is_entry session) (dealt room_step r es).outs) (sym one.is) ∙ enters in
    opened_here rules h e r one.event session one.is ((step_obeys r.room one.event placed one.may).entered session there).0

-- where a session enters nothing ends
pub entry_ends_none : (r : HubRoom) (es : List RoomEvent) (session : List ℕ) → Placed r.room → Few r.room es → list_any (is_entry session) (dealt room_step r es).outs ≡ true → list_any (is_end session) (dealt room_step r es).outs ≡ false
entry_ends_none r es session placed (inl empty) = subst (λ es. list_any (is_entry session) (dealt room_step r es).outs ≡ true → list_any (is_end session) (dealt room_step r es).outs ≡ false) (sym empty) (λ h. refl)
entry_ends_none r es session placed (inr one) =
    subst (λ es. list_any (is_entry session) (dealt room_step r es).outs ≡ true → list_any (is_end session) (dealt room_step r es).outs ≡ false) (sym one.is)
    (λ enters. opening_ends_none r.room one.event session session ((step_obeys r.room one.event placed one.may).entered session enters).0)
