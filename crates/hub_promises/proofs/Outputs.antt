-- What an event gives to the connections of a life is what the life's room gives to its session for it, and nothing beside.
use Rattle.std.proofs.Common.{◌≡◌, ℕ, Bool, true, false, cond, ◌||◌, List, [], ◌∷◌, ◌++◌, map, filter, not, Option, Some, None, is_some, Result, refl, sym, ap, ◌∙◌, append-nil, codes}
use Rattle.std.specs.Prelude.{Contains}
use Rattle.std.specs.List.{find, list_any, flat_map}
use Rattle.std.specs.Option.{option_map, option_map_or}
use Rattle.std.specs.Str.{bytes_eq}
use Rattle.std.proofs.lemmas.Grind.{flat_map-append}
use Rattle.std.proofs.lemmas.List.Elements.{All-map, All-weaker, All-contains_itself}
use Rattle.lists.proofs.SameBytes.{same_bytes}
use Rattle.lists.proofs.Passing.{found_any}
use Rattle.room_model.specs.declared.definition.RoomDef.{RoomDef}
use Rattle.room_model.specs.declared.event.RoomEvent.{RoomEvent}
use Rattle.room_model.specs.declared.event.RoomEvent.TheVariants as happened
use Rattle.room_model.specs.Room.{room_step, after_enter}
use Rattle.room_laws.specs.StepLaws.{is_entry, goes_to, connected}
use Rattle.hub_model.specs.declared.event.HubEvent.{HubEvent}
use Rattle.hub_model.specs.declared.event.HubEvent.TheVariants.{At, Ask, Bad, Opening, Frame, Lost, Act, Tick}
use Rattle.hub_model.specs.declared.event.HubOut.{HubOut}
use Rattle.hub_model.specs.declared.event.HubOut.TheVariants as out
use Rattle.room_model.specs.declared.refusal.Refusal.TheVariants as refusal
use Rattle.hub_model.specs.declared.request.AskFault.{AskFault}
use Rattle.hub_model.specs.declared.request.Opening.{Opening as Opens}
use Rattle.hub_model.specs.declared.request.Request.{Request}
use Rattle.hub_model.specs.declared.conn.HubConn.{HubConn}
use Rattle.hub_model.specs.HubValues.{HubValue, HubRoom, is_named, conn_of, room_of, conn_for, is_conn_for}
use Rattle.hub_model.specs.Dealt.{Dealt, dealt, told_out, opened_out, refused_opening}
use Rattle.hub_model.specs.HubStep.{deals, makes, all_dealt, event_if, event_of_opening, opened_by, opening_of, opening_refused, enters, conns_with, tells, first_outs, last_outs, disposals, created_out, is_needed, hub_step}
use Rattle.life_model.specs.Entries.{Sending}
use Rattle.life_model.specs.HubPromises.{rules_of}
use Rattle.life_model.specs.RoomLives.{given_by}
use Rattle.life_model.specs.HubLives.{HubLife, own_output, outputs_of}
use Rattle.hub_laws.proofs.Different.{named_own, joined_named}
use Rattle.hub_promises.proofs.Deals.{rooms_for, dealt_to, dealt_id, dealt_of, dealt_found, dealt_differ, Ready}
use Rattle.hub_promises.proofs.Connected.{heard}
use Rattle.hub_promises.proofs.Conns.{new_conns, entry_at, any_enters, all_conns}
use Rattle.hub_promises.proofs.Owned.{own, own_is, own_nobody}
use Rattle.hub_promises.proofs.Given.{all_own, joined_each, nothing_given, refusal_given, unowned, opened_given}
use Rattle.hub_promises.proofs.Openings.{opening, number_of, number_free, opened_conns}

module _ (read : List RoomDef → List ℕ → List ℕ → Result Request AskFault) (h : HubValue) (e : HubEvent) (ready : Ready (rules_of read) h e) (l : HubLife) where
  abbrev rooms : List HubRoom
  rooms = rooms_for (rules_of read) h e

  abbrev behind : HubRoom → Dealt
  behind r = dealt_to (rules_of read) h e r

  abbrev ds : List Dealt
  ds = all_dealt (rules_of read) h e

  abbrev all : List HubConn
  all = conns_with h e ds

  abbrev owns : ℕ → Bool
  owns n = own read h e ready l n

  abbrev given : Dealt → List Sending
  given d = flat_map (given_by l.session) d.outs

  found_own : (r : HubRoom) → Contains rooms r → bytes_eq r.id l.room ≡ true → find (is_named l.room) rooms ≡ Some r
  found_own r there named =
      ap (λ n. find (is_named n) rooms) (sym (same_bytes r.id l.room named)) ∙ named_own (λ (r : HubRoom). r.id) rooms r ready.differ there

  -- a session that is given something has a connection
  has_conn_where : (r : HubRoom) → Contains rooms r → list_any (goes_to l.session) (behind r).outs ≡ true → bytes_eq (behind r).room.id l.room ≡ true → is_some (conn_for all l.room l.session) ≡ true
  has_conn_where r there goes named =
      let mine : bytes_eq r.id l.room ≡ true = ap (λ n. bytes_eq n l.room) (sym (dealt_id room_step r (deals (rules_of read) h e r))) ∙ named in
      let at = found_own r there mine in
      found_any (is_conn_for l.room l.session) all
      ∙ (all_conns read h e ready l.room l.session
      ∙ (ap (λ b. b || entry_at read h e ready l.room l.session) (ap (λ o. option_map_or (λ (r : HubRoom). connected r.room l.session) o false) at)
      ∙ (ap (λ b. connected r.room l.session || b)
      (ap (λ o. option_map_or (λ (d : Dealt). list_any (is_entry l.session) d.outs) o false) (dealt_found (rules_of read) h e l.room ∙ ap (option_map (dealt_to (rules_of read) h e)) at))
      ∙ heard r (deals (rules_of read) h e r) l.session (ready.placed r there) (ready.few r there) goes)))

  -- ---- what each room gives

  told_given : (r : HubRoom) → Contains rooms r → flat_map (own_output owns) (flat_map (told_out all (behind r).room.id) (behind r).outs) ≡ cond (bytes_eq (behind r).room.id l.room) (given (behind r)) []
  told_given r there = all_own owns all l.room l.session (own_is read h e ready l) (behind r).room.id (behind r).outs (has_conn_where r there)

  -- an opening that is refused is given to nobody
  refused_free : (o : Opens) (r : HubRoom) → opening h e ≡ Some o → Contains rooms r → is_named o.room r ≡ true → list_any (is_entry o.session) (behind r).outs ≡ false → owns (number_of e) ≡ false
  refused_free o r is there named empty = own_nobody read h e ready l (number_of e) (number_free h e o is) no_conn
    where
      at : find (is_named o.room) rooms ≡ Some r
      at = ap (λ n. find (is_named n) rooms) (sym (same_bytes r.id o.room named)) ∙ named_own (λ (r : HubRoom). r.id) rooms r ready.differ there

      none_enters : list_any (enters o) ds ≡ false
      none_enters = any_enters read h e ready o ∙ (ap (λ x. option_map_or (λ (d : Dealt). list_any (is_entry o.session) d.outs) x false) (dealt_found (rules_of read) h e o.room ∙ ap (option_map (dealt_to (rules_of read) h e)) at) ∙ empty)

      no_conn : new_conns read h e ready ≡ []
      no_conn = ap (opened_conns (number_of e) ds) is ∙ ap (λ b. cond b (let c : HubConn = record { conn = number_of e; room = o.room; session = o.session } in c ∷ []) []) none_enters

module _ (read : List RoomDef → List ℕ → List ℕ → Result Request AskFault) (h : HubValue) (l : HubLife) where
  -- what the hub gives for a room is what the room gives
  tells_told : (e : HubEvent) (ready : Ready (rules_of read) h e) (r : HubRoom) → Contains (rooms_for (rules_of read) h e) r
      → flat_map (own_output (own read h e ready l)) (tells e (conns_with h e (all_dealt (rules_of read) h e)) (dealt_to (rules_of read) h e r))
      ≡ flat_map (own_output (own read h e ready l)) (flat_map (told_out (conns_with h e (all_dealt (rules_of read) h e)) (dealt_to (rules_of read) h e r).room.id) (dealt_to (rules_of read) h e r).outs)
  tells_told (Opening conn target fresh) ready r there = by_opening (opened_by h conn target) refl
    where
      owns : ℕ → Bool
      owns n = own read h (Opening conn target fresh) ready l n

      all : List HubConn
      all = conns_with h (Opening conn target fresh) (all_dealt (rules_of read) h (Opening conn target fresh))

      Goal : List RoomEvent → Type 0
      Goal es =
          flat_map (own_output owns) (flat_map (opened_out conn fresh all (dealt room_step r es).room.id) (dealt room_step r es).outs)
          ≡ flat_map (own_output owns) (flat_map (told_out all (dealt room_step r es).room.id) (dealt room_step r es).outs)

      by_named : (o : Opens) (b : Bool) → (b ≡ true → list_any (is_entry o.session) (after_enter r.room o.session o.token fresh).1 ≡ false → owns conn ≡ false) → Goal (event_if b (happened.Enter o.session o.token fresh))
      by_named o true free = opened_given owns conn fresh all r.id r.room o.session o.token (free refl)
      by_named o false free = refl

      by_opening : (o : Option Opens) → opened_by h conn target ≡ o → Goal (event_of_opening r fresh o)
      by_opening None is = refl
      by_opening (Some o) is = by_named o (is_named o.room r) free
        where
          free : is_named o.room r ≡ true → list_any (is_entry o.session) (after_enter r.room o.session o.token fresh).1 ≡ false → owns conn ≡ false
          free named empty =
              refused_free read h (Opening conn target fresh) ready l o r is there named
              (ap (λ x. list_any (is_entry o.session) (dealt room_step r (event_of_opening r fresh x)).outs) is
              ∙ (ap (λ b. list_any (is_entry o.session) (dealt room_step r (event_if b (happened.Enter o.session o.token fresh))).outs) named ∙ empty))
  tells_told e ready r there = refl

  -- of all rooms
  rooms_given : (e : HubEvent) (ready : Ready (rules_of read) h e)
      → flat_map (own_output (own read h e ready l)) (flat_map (tells e (conns_with h e (all_dealt (rules_of read) h e))) (all_dealt (rules_of read) h e))
      ≡ option_map_or (λ (d : Dealt). flat_map (given_by l.session) d.outs) (dealt_of (all_dealt (rules_of read) h e) l.room) []
  rooms_given e ready =
      joined_each (own_output owns) (tells e all) (λ d. cond (bytes_eq d.room.id l.room) (given d) []) ds
      (All-map Each behind rooms (All-weaker (Contains rooms) (λ r. Each (behind r)) (λ r there. tells_told e ready r there ∙ told_given read h e ready l r there) rooms (All-contains_itself rooms)))
      ∙ joined_named (λ (d : Dealt). d.room.id) given l.room ds (dealt_differ (rules_of read) h e ready.differ)
    where
      rooms : List HubRoom
      rooms = rooms_for (rules_of read) h e

      behind : HubRoom → Dealt
      behind r = dealt_to (rules_of read) h e r

      ds : List Dealt
      ds = all_dealt (rules_of read) h e

      all : List HubConn
      all = conns_with h e ds

      owns : ℕ → Bool
      owns n = own read h e ready l n

      given : Dealt → List Sending
      given d = flat_map (given_by l.session) d.outs

      Each : Dealt → Type 0
      Each d = flat_map (own_output owns) (tells e all d) ≡ cond (bytes_eq d.room.id l.room) (given d) []

  -- ---- what the hub gives beside

  -- why an opening gets no further
  opening_given : (conn : ℕ) (target fresh : List ℕ) (ready : Ready (rules_of read) h (Opening conn target fresh)) → flat_map (own_output (own read h (Opening conn target fresh) ready l)) (opening_refused h conn target) ≡ []
  opening_given conn target fresh ready = by_conn (conn_of h conn) refl
    where
      owns : ℕ → Bool
      owns n = own read h (Opening conn target fresh) ready l n

      by_conn : (c : Option HubConn) → conn_of h conn ≡ c → flat_map (own_output owns) (cond (is_some c) (out.Refused refusal.ConnInUse ∷ []) (cond (is_some (opening_of h target)) [] (refused_opening conn 4212 (codes "no such room")))) ≡ []
      by_conn (Some c) found = refl
      by_conn None found = by_target (opening_of h target) refl
        where
          by_target : (o : Option Opens) → opening_of h target ≡ o → flat_map (own_output owns) (cond (is_some o) [] (refused_opening conn 4212 (codes "no such room"))) ≡ []
          by_target (Some o) is = refl
          by_target None is = unowned (owns conn) _ _ (own_nobody read h (Opening conn target fresh) ready l conn found no_conn)
            where
              no_conn : new_conns read h (Opening conn target fresh) ready ≡ []
              no_conn = ap (λ o. opened_conns conn (all_dealt (rules_of read) h (Opening conn target fresh)) o) (ap (λ c. cond (is_some c) None (opening_of h target)) found ∙ is)

  abbrev is_request : HubEvent → Bool
  is_request (Bad conn) = false
  is_request e = true

  first_given : (e : HubEvent) (ready : Ready (rules_of read) h e) → is_request e ≡ true → flat_map (own_output (own read h e ready l)) (first_outs (rules_of read) h e) ≡ []
  first_given (At now) ready is = refl
  first_given (Ask conn target body room session) ready is = nothing_given (own read h (Ask conn target body room session) ready l) (created_out h) (makes (rules_of read) h (Ask conn target body room session)) (λ r. refl)
  first_given (Bad conn) ready is = absurd (cc)
  first_given (Opening conn target fresh) ready is = opening_given conn target fresh ready
  first_given (Frame conn bytes) ready is = refusal_given (own read h (Frame conn bytes) ready l) (is_some (conn_of h conn)) (out.Refused refusal.NoConn) refl
  first_given (Lost conn) ready is = refusal_given (own read h (Lost conn) ready l) (is_some (conn_of h conn)) (out.Refused refusal.NoConn) refl
  first_given (Act room a) ready is = refusal_given (own read h (Act room a) ready l) (is_some (room_of h room)) (out.Refused refusal.NoRoom) refl
  first_given (Tick room) ready is = refusal_given (own read h (Tick room) ready l) (is_some (room_of h room)) (out.Refused refusal.NoRoom) refl

  last_given : (own : ℕ → Bool) (e : HubEvent) (dealt : List Dealt) → flat_map (own_output own) (last_outs (rules_of read) h e dealt) ≡ []
  last_given own (Ask conn target body room session) dealt = refl
  last_given own e dealt = refl

  -- ---- all of it

  all_given : (e : HubEvent) (ready : Ready (rules_of read) h e) → is_request e ≡ true
      → flat_map (own_output (own read h e ready l)) (hub_step (rules_of read) h e).1 ≡ option_map_or (λ (d : Dealt). flat_map (given_by l.session) d.outs) (dealt_of (all_dealt (rules_of read) h e) l.room) []
  all_given e ready is =
      flat_map-append (own_output owns) first (middle ++ (last ++ disposed))
      ∙ (ap (λ os. os ++ flat_map (own_output owns) (middle ++ (last ++ disposed))) (first_given e ready is)
      ∙ (flat_map-append (own_output owns) middle (last ++ disposed)
      ∙ (ap (λ os. flat_map (own_output owns) middle ++ os) (flat_map-append (own_output owns) last disposed
      ∙ (ap (λ os. os ++ flat_map (own_output owns) disposed) (last_given owns e ds) ∙ nothing_given owns (λ (r : HubRoom). out.Disposed r.id) (filter (λ r. not (is_needed r)) (map (λ (d : Dealt). d.room) ds)) (λ r. refl)))
      ∙ (append-nil (flat_map (own_output owns) middle) ∙ rooms_given e ready))))
    where
      ds : List Dealt
      ds = all_dealt (rules_of read) h e

      owns : ℕ → Bool
      owns n = own read h e ready l n

      first : List HubOut
      first = first_outs (rules_of read) h e

      middle : List HubOut
      middle = flat_map (tells e (conns_with h e ds)) ds

      last : List HubOut
      last = last_outs (rules_of read) h e ds

      disposed : List HubOut
      disposed = disposals (map (λ (d : Dealt). d.room) ds)

  pub outputs_given : (e : HubEvent) (ready : Ready (rules_of read) h e)
      → outputs_of h e (hub_step (rules_of read) h e).0 (hub_step (rules_of read) h e).1 l ≡ option_map_or (λ (d : Dealt). flat_map (given_by l.session) d.outs) (dealt_of (all_dealt (rules_of read) h e) l.room) []
  outputs_given (Bad conn) ready = sym (ap given (dealt_found (rules_of read) h (Bad conn) l.room) ∙ by_room (find (is_named l.room) (rooms_for (rules_of read) h (Bad conn))))
    where
      given : Option Dealt → List Sending
      given o = option_map_or (λ (d : Dealt). flat_map (given_by l.session) d.outs) o []

      by_room : (o : Option HubRoom) → given (option_map (dealt_to (rules_of read) h (Bad conn)) o) ≡ []
      by_room None = refl
      by_room (Some r) = refl
  outputs_given e ready = all_given e ready refl
