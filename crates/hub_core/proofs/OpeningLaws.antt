-- Openings, as a hub's step has them.
use Rattle.std.proofs.Common.{◌≡◌, ℕ, ◌≤◌, ◌+◌, ◌&&◌, ◌++◌, Bool, true, false, not, List, [], ◌∷◌, Option, Some, None, Result, Ok, Err, OnOk, filter, map, refl, sym, ap, ap₂, subst, ◌∙◌, cond, append-nil}
use Rattle.std.specs.Prelude.{codes, is_some, IsSome}
use Rattle.std.specs.List.{find, flat_map}
use Rattle.std.specs.Option.{option_and_then, option_map}
use Rattle.std.specs.Str.{bytes_eq}
use Rattle.std.proofs.lemmas.Bool.{and_parts}
use Rattle.lists.specs.Rising.{find as find_by}
use Rattle.lists.proofs.Options.{none_there}
use Rattle.room_model.specs.declared.event.RoomEvent.{RoomEvent}
use Rattle.room_model.specs.declared.event.RoomEvent.TheVariants as event
use Rattle.room_model.specs.declared.refusal.Refusal.TheVariants as refusal
use Rattle.room_model.specs.Room.{RoomValue}
use Rattle.hub_model.specs.declared.conn.HubConn.{HubConn}
use Rattle.hub_model.specs.declared.event.HubEvent.{HubEvent}
use Rattle.hub_model.specs.declared.event.HubEvent.TheVariants as happened
use Rattle.hub_model.specs.declared.event.HubOut.{HubOut}
use Rattle.hub_model.specs.declared.event.HubOut.TheVariants as out
use Rattle.hub_model.specs.declared.request.Opening.{Opening}
use Rattle.hub_model.specs.Dealt.{Dealt, RoomStep, conns_left, opened_out, refused_opening}
use Rattle.hub_model.specs.HubStep.{Rules, disposals, entered_conns, event_of_opening, hub_step, is_needed, opened_by, opening_of, opening_refused, opens_in, settled}
use Rattle.hub_model.specs.HubValues.{HubValue, conn_number, conn_of, room_of}
use Rattle.hub_model.specs.Openings.{read_target}
use Rattle.hub_core.specs.declared.parts.Parts.{Parts}
use Rattle.hub_core.specs.declared.entry.RoomEntry.{RoomEntry}
use Rattle.hub_core.specs.Costs.{cost_in, hub_cost}
use Rattle.hub_core.specs.Hubs.{Stands, hub_of}
use Rattle.hub_core.specs.Handled.{dealt_to, entered_in}
use Rattle.hub_core.specs.RoomEntry.{AreOrdered, has_id, room_in, rooms_in}
use Rattle.hub_core.specs.Takes.{Takes, rules_of}
use Rattle.hub_core.proofs.CostLaws.{event_cost}
use Rattle.hub_core.proofs.IdleLaws.{dealt_so, idle, idle_step}
use Rattle.hub_core.proofs.HandleLaws.{room_found}
use Rattle.hub_core.proofs.UnhandledLaws.{all_stay, none_go}

-- ---- which one gets further

used_opens : (h : HubValue) (conn : ℕ) (target : List ℕ) (c : HubConn) → conn_of h conn ≡ Some c → opened_by h conn target ≡ None
used_opens h conn target c is = ap (λ (o : Option HubConn). cond (is_some o) None (opening_of h target)) is

free_opens : (h : HubValue) (conn : ℕ) (target : List ℕ) → conn_of h conn ≡ None → opened_by h conn target ≡ opening_of h target
free_opens h conn target none = ap (λ (o : Option HubConn). cond (is_some o) None (opening_of h target)) none

refusal_of : (h : HubValue) (conn : ℕ) (target : List ℕ) (used there : Bool) → is_some (conn_of h conn) ≡ used → is_some (opening_of h target) ≡ there
    → opening_refused h conn target ≡ cond used (out.Refused refusal.ConnInUse ∷ []) (cond there [] (refused_opening conn 4212 (codes "no such room")))
refusal_of h conn target used there a b = ap₂ (λ x y. cond x (out.Refused refusal.ConnInUse ∷ []) (cond y [] (refused_opening conn 4212 (codes "no such room")))) a b

module _ (rules : Rules) (h : HubValue) (conn : ℕ) (target fresh : List ℕ) where
  abbrev e : HubEvent
  e = happened.Opening conn target fresh

  -- one that gets no further
  idle_opening : opened_by h conn target ≡ None → filter is_needed h.rooms ≡ h.rooms → filter (λ r. not (is_needed r)) h.rooms ≡ [] → hub_step rules h e ≡ (h, opening_refused h conn target)
  idle_opening none stay gone =
      idle_step rules h e (λ r. ap (event_of_opening r fresh) none) refl stay gone (ap (entered_conns h.conns conn (idle rules.step h.rooms)) none) ∙ ap (λ l. (h, l)) (append-nil (opening_refused h conn target))

  pub used_step : (c : HubConn) → conn_of h conn ≡ Some c → filter is_needed h.rooms ≡ h.rooms → filter (λ r. not (is_needed r)) h.rooms ≡ [] → hub_step rules h e ≡ (h, out.Refused refusal.ConnInUse ∷ [])
  used_step c is stay gone = idle_opening (used_opens h conn target c is) stay gone ∙ ap (λ l. (h, l)) (refusal_of h conn target true (is_some (opening_of h target)) (ap is_some is) refl)

  pub nowhere_step : conn_of h conn ≡ None → opening_of h target ≡ None → filter is_needed h.rooms ≡ h.rooms → filter (λ r. not (is_needed r)) h.rooms ≡ [] → hub_step rules h e ≡ (h, refused_opening conn 4212 (codes "no such room"))
  nowhere_step free none stay gone =
      idle_opening (free_opens h conn target free ∙ none) stay gone ∙ ap (λ l. (h, l)) (refusal_of h conn target false false (ap is_some free) (ap is_some none))

  -- and one that gets to its room
  pub entered_step : (o : Opening) → conn_of h conn ≡ None → opening_of h target ≡ Some o → hub_step rules h e ≡ entered_in rules.step h conn fresh o
  entered_step o free is =
      let ds = dealt_to rules.step h fresh o in
      let opens : opened_by h conn target ≡ Some o = free_opens h conn target free ∙ is in
      ap (settled rules h e) (dealt_so rules h e (λ r. event_of_opening r fresh (Some o)) (λ r. ap (event_of_opening r fresh) opens) refl)
      ∙ ap₂ (λ w l. (
        record { now = h.now; schema = h.schema; process = h.process; defs = h.defs; rooms = filter is_needed (map (λ (d : Dealt). d.room) ds); conns = conns_left ds (entered_conns h.conns conn ds w) },
        l ++ (flat_map (λ (d : Dealt). flat_map (opened_out conn fresh (entered_conns h.conns conn ds w) d.room.id) d.outs) ds ++ disposals (map (λ (d : Dealt). d.room) ds)),
      ))
      opens (refusal_of h conn target false true (ap is_some free) (ap is_some is))

-- ---- what the calls come to

pub opens_there : {R : Type 0} (room : R → RoomValue) (p : Parts R) (target : List ℕ) (o : Opening) → Some o ≡ opening_of (hub_of room p) target → IsSome (find (has_id o.room) p.registry.rooms)
opens_there {R = R} room p target o is = by_target (read_target target) is
  where
    known : (r : List ℕ) → is_some (room_of (hub_of room p) r) ≡ is_some (find (has_id r) p.registry.rooms)
    known r = ap is_some (room_found room r p.registry.rooms) ∙ same (find (has_id r) p.registry.rooms)
      where
        same : (q : Option (RoomEntry R)) → is_some (option_map (room_in room) q) ≡ is_some q
        same None = refl
        same (Some s) = refl

    by_test : (x : Opening) (b : Bool) → (bytes_eq x.process p.process && is_some (room_of (hub_of room p) x.room)) ≡ b → Some o ≡ cond b (Some x) None → is_some (find (has_id o.room) p.registry.rooms) ≡ true
    by_test x true test one =
        let same : x ≡ o = cc in
        subst (λ (y : Opening). is_some (find (has_id y.room) p.registry.rooms) ≡ true) same (sym (known x.room) ∙ (and_parts (bytes_eq x.process p.process) (is_some (room_of (hub_of room p) x.room)) test).1)
    by_test x false test none = absurd cc

    by_target : (t : Option Opening) → Some o ≡ option_and_then (opens_in (hub_of room p)) t → is_some (find (has_id o.room) p.registry.rooms) ≡ true
    by_target None none = absurd cc
    by_target (Some x) one = by_test x (bytes_eq x.process p.process && is_some (room_of (hub_of room p) x.room)) refl one

module _ {R : Type 0} (room : R → RoomValue) (Holds : RoomValue → Type 0) (step : RoomStep) (p : Parts R) (entry : Stands room Holds p) (ordered : AreOrdered p.registry.rooms) (conn : ℕ) (target fresh : List ℕ) (before after : List HubOut) where
  stay : filter is_needed (rooms_in room p.registry.rooms) ≡ rooms_in room p.registry.rooms
  stay = all_stay room 0 p.registry.rooms ordered.0 entry.needed

  gone : filter (λ r. not (is_needed r)) (rooms_in room p.registry.rooms) ≡ []
  gone = none_go room 0 p.registry.rooms ordered.0 entry.needed

  refused : (outs : List HubOut) → hub_step (rules_of step) (hub_of room p) (happened.Opening conn target fresh) ≡ (hub_of room p, outs) → after ≡ before ++ outs → Takes room Holds step (happened.Opening conn target fresh) p p before after
  refused outs is gives = record { hub = sym (ap (λ x. x.0) is); outs = gives ∙ sym (ap (λ x. before ++ x.1) is); stands = entry }

  pub opening_used : is_some (find_by conn_number conn p.conns) ≡ true → after ≡ before ++ out.Refused refusal.ConnInUse ∷ [] → Takes room Holds step (happened.Opening conn target fresh) p p before after
  opening_used some outs = by_found (find_by conn_number conn p.conns) refl some
    where
      by_found : (o : Option HubConn) → find_by conn_number conn p.conns ≡ o → is_some o ≡ true → Takes room Holds step (happened.Opening conn target fresh) p p before after
      by_found None is some = absurd cc
      by_found (Some c) is some = refused (out.Refused refusal.ConnInUse ∷ []) (used_step (rules_of step) (hub_of room p) conn target fresh c is stay gone) outs

  pub opening_nowhere : is_some (find_by conn_number conn p.conns) ≡ false → None ≡ opening_of (hub_of room p) target → after ≡ before ++ refused_opening conn 4212 (codes "no such room")
      → Takes room Holds step (happened.Opening conn target fresh) p p before after
  opening_nowhere free none outs =
      refused (refused_opening conn 4212 (codes "no such room")) (nowhere_step (rules_of step) (hub_of room p) conn target fresh (none_there (find_by conn_number conn p.conns) free) (sym none) stay gone) outs

pub takes_entered : {R A E : Type 0} (room : R → RoomValue) (Holds : RoomValue → Type 0) (step : RoomStep) (old new : Parts R) (before after : List HubOut) (conn : ℕ) (target fresh : List ℕ) (o : Opening) (r : Result A E)
    → is_some (find_by conn_number conn old.conns) ≡ false → Some o ≡ opening_of (hub_of room old) target → OnOk r (hub_of room new ≡ (entered_in step (hub_of room old) conn fresh o).0)
    → OnOk r (after ≡ before ++ (entered_in step (hub_of room old) conn fresh o).1)
    → OnOk r (Stands room Holds new) → OnOk r (Takes room Holds step (happened.Opening conn target fresh) old new before after)
takes_entered room Holds step old new before after conn target fresh o (Ok a) free opens hub outs stands =
    let is = entered_step (rules_of step) (hub_of room old) conn target fresh o (none_there (find_by conn_number conn old.conns) free) (sym opens) in
    record { hub = hub ∙ sym (ap (λ x. x.0) is); outs = outs ∙ sym (ap (λ x. before ++ x.1) is); stands = stands }
takes_entered room Holds step old new before after conn target fresh o (Err f) free opens hub outs stands = tt

-- it costs no more than the event
pub opening_cost : {R : Type 0} (room : R → RoomValue) (costs : RoomValue → RoomEvent → ℕ) (step : RoomStep) (p : Parts R) (conn : ℕ) (target fresh : List ℕ) (o : Opening) (new old : ℕ) → is_some (find_by conn_number conn p.conns) ≡ false
    → Some o ≡ opening_of (hub_of room p) target → new ≤ old + cost_in room costs p.registry.rooms o.room (event.Enter o.session o.token fresh) → new ≤ old + hub_cost costs (rules_of step) (hub_of room p) (happened.Opening conn target fresh)
opening_cost room costs step p conn target fresh o new old free opens cost =
    let opened : opened_by (hub_of room p) conn target ≡ Some o = free_opens (hub_of room p) conn target (none_there (find_by conn_number conn p.conns) free) ∙ sym opens in
    event_cost room costs (rules_of step) p (happened.Opening conn target fresh) o.room (event.Enter o.session o.token fresh) new old (λ r. ap (event_of_opening r fresh) opened) cost
