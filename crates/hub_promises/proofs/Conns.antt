-- The connections of a hub stay in step with the sessions that are connected in its rooms.
use Rattle.std.proofs.Common.{◌≡◌, ℕ, Bool, true, false, not, cond, ◌&&◌, ◌||◌, List, [], ◌∷◌, map, filter, Option, Some, None, Result, refl, sym, ap, subst, ◌∙◌, inl, inr, arith, ◌≤◌}
use Rattle.std.specs.Prelude.{nat_lt, option_and_then}
use Rattle.std.specs.List.{find, list_any}
use Rattle.std.specs.Option.{option_map, option_map_or}
use Rattle.std.specs.Str.{bytes_eq}
use Rattle.std.proofs.lemmas.Bool.{and_parts}
use Rattle.std.proofs.lemmas.Bool.Decides.{nat_tests}
use Rattle.std.proofs.lemmas.Map.Views.{any-filter_same}
use Rattle.lists.specs.Rising.{RisesFrom}
use Rattle.lists.proofs.RisingLaws.{RisesFrom-filter}
use Rattle.lists.proofs.SameBytes.{same_bytes, bytes_eq_self}
use Rattle.room_model.specs.declared.definition.RoomDef.{RoomDef}
use Rattle.room_model.specs.declared.event.RoomEvent.{RoomEvent}
use Rattle.room_model.specs.Seats.{in_use}
use Rattle.room_model.specs.Room.{room_step}
use Rattle.room_laws.specs.Placed.{Placed}
use Rattle.room_laws.specs.StepLaws.{is_entry, is_end, connected}
use Rattle.room_laws.proofs.RoomObeys.{place_taken}
use Rattle.room_laws.proofs.RoomPlaced.{step_placed}
use Rattle.room_laws.proofs.SessionLists.{named_key}
use Rattle.hub_model.specs.declared.event.HubEvent.{HubEvent}
use Rattle.hub_model.specs.declared.request.AskFault.{AskFault}
use Rattle.hub_model.specs.declared.request.Opening.{Opening as Opens}
use Rattle.hub_model.specs.declared.request.Request.{Request}
use Rattle.hub_model.specs.declared.conn.HubConn.{HubConn}
use Rattle.hub_model.specs.HubValues.{HubValue, HubRoom, conn_number, is_named, is_conn_for}
use Rattle.hub_model.specs.Dealt.{Dealt, dealt, ends, conns_left}
use Rattle.hub_model.specs.HubStep.{deals, all_dealt, enters, conns_with, is_needed}
use Rattle.life_model.specs.HubPromises.{rules_of}
use Rattle.hub_laws.proofs.Different.{found_in, find-map, named_kept, any_of_name, differ_mapped, RoomsDiffer}
use Rattle.hub_promises.proofs.Deals.{Few, rooms_for, dealt_to, dealt_of, dealt_found, dealt_differ, connected_at, Ready}
use Rattle.hub_promises.proofs.Connected.{connected_behind, entry_opened}
use Rattle.hub_promises.proofs.Openings.{opening, number_of, opened_conns, any_all, all_rise}

-- a connection that is left
abbrev pub is_left : List Dealt → HubConn → Bool
is_left ds c = not (list_any (ends c) ds)

-- the places and the sessions of a room tell the same behind its events too
pub placed_behind : (r : HubRoom) (es : List RoomEvent) → Placed r.room → Few r.room es → Placed (dealt room_step r es).room.room
placed_behind r es placed (inl empty) = subst (λ es. Placed (dealt room_step r es).room.room) (sym empty) placed
placed_behind r es placed (inr one) = subst (λ es. Placed (dealt room_step r es).room.room) (sym one.is) (step_placed r.room one.event placed one.may)

module _ (read : List RoomDef → List ℕ → List ℕ → Result Request AskFault) (h : HubValue) (e : HubEvent) (ready : Ready (rules_of read) h e) where
  abbrev rooms : List HubRoom
  rooms = rooms_for (rules_of read) h e

  abbrev behind : HubRoom → Dealt
  behind r = dealt_to (rules_of read) h e r

  abbrev ds : List Dealt
  ds = all_dealt (rules_of read) h e

  abbrev pub new_conns : List HubConn
  new_conns = opened_conns (number_of e) ds (opening h e)

  -- all connections, with the one that opens
  abbrev pub conns_all : List HubConn
  conns_all = conns_with h e ds

  -- a session enters, or its connection ends
  abbrev pub entry_at : List ℕ → List ℕ → Bool
  entry_at room session = option_map_or (λ (d : Dealt). list_any (is_entry session) d.outs) (dealt_of ds room) false

  abbrev pub end_at : List ℕ → List ℕ → Bool
  end_at room session = option_map_or (λ (d : Dealt). list_any (is_end session) d.outs) (dealt_of ds room) false

  pub any_enters : (o : Opens) → list_any (enters o) ds ≡ entry_at o.room o.session
  any_enters o = any_of_name (λ (d : Dealt). d.room.id) (λ (d : Dealt). list_any (is_entry o.session) d.outs) o.room ds (dealt_differ (rules_of read) h e ready.differ)

  pub any_ends : (c : HubConn) → list_any (ends c) ds ≡ end_at c.room c.session
  any_ends c = any_of_name (λ (d : Dealt). d.room.id) (λ (d : Dealt). list_any (is_end c.session) d.outs) c.room ds (dealt_differ (rules_of read) h e ready.differ)

  -- ---- the connection that opens

  record Opened (room session : List ℕ) : Type 0 where
    by : Opens
    is : opening h e ≡ Some by
    room_is : by.room ≡ room
    session_is : by.session ≡ session

  opened_at : (room session : List ℕ) → entry_at room session ≡ true → Opened room session
  opened_at room session entry = by_room (find (is_named room) rooms) refl (sym (ap (λ o. option_map_or (λ (d : Dealt). list_any (is_entry session) d.outs) o false) (dealt_found (rules_of read) h e room)) ∙ entry)
    where
      by_room : (o : Option HubRoom) → find (is_named room) rooms ≡ o → option_map_or (λ (d : Dealt). list_any (is_entry session) d.outs) (option_map behind o) false ≡ true → Opened room session
      by_room None found entry = cc
      by_room (Some r) found entry =
          let there = found_in (is_named room) rooms r found in
          let o = entry_opened (rules_of read) h e r session (ready.placed r there) (ready.few r there) entry in
          record { by = o.by; is = o.is; room_is = sym (same_bytes r.id o.by.room o.room_is) ∙ named_key (λ (r : HubRoom). r.id) room rooms r found; session_is = o.session_is }

  -- the new connections are those of the sessions that enter
  pub entries_new : (room session : List ℕ) → list_any (is_conn_for room session) new_conns ≡ entry_at room session
  entries_new room session = by_entry (entry_at room session) refl
    where
      conn_of_opening : Opens → HubConn
      conn_of_opening o = record { conn = number_of e; room = o.room; session = o.session }

      or_false : (b : Bool) → (b || false) ≡ b
      or_false true = refl
      or_false false = refl

      both : (a b c d : List ℕ) → a ≡ c → b ≡ d → (bytes_eq a c && bytes_eq b d) ≡ true
      both a b c d p q = ap (λ x. x && bytes_eq b d) (subst (λ c. bytes_eq a c ≡ true) p (bytes_eq_self a)) ∙ subst (λ d. bytes_eq b d ≡ true) q (bytes_eq_self b)

      there : Opened room session → entry_at room session ≡ true → list_any (is_conn_for room session) new_conns ≡ true
      there o entry =
          let test : list_any (enters o.by) ds ≡ true = any_enters o.by ∙ (ap (λ n. entry_at n o.by.session) o.room_is ∙ (ap (λ n. entry_at room n) o.session_is ∙ entry)) in
          ap (λ x. list_any (is_conn_for room session) (opened_conns (number_of e) ds x)) o.is
          ∙ (ap (λ b. list_any (is_conn_for room session) (let cs : List HubConn = cond b (conn_of_opening o.by ∷ []) [] in cs)) test
          ∙ (or_false (bytes_eq o.by.room room && bytes_eq o.by.session session) ∙ both o.by.room o.by.session room session o.room_is o.session_is))

      nobody : (o : Option Opens) → entry_at room session ≡ false → list_any (is_conn_for room session) (opened_conns (number_of e) ds o) ≡ false
      nobody None empty = refl
      nobody (Some o) empty = by_test (list_any (enters o) ds) refl
        where
          by_test : (b : Bool) → list_any (enters o) ds ≡ b → list_any (is_conn_for room session) (let cs : List HubConn = cond b (conn_of_opening o ∷ []) [] in cs) ≡ false
          by_test false t = refl
          by_test true t = by_own (bytes_eq o.room room && bytes_eq o.session session) refl
            where
              by_own : (b : Bool) → (bytes_eq o.room room && bytes_eq o.session session) ≡ b → (b || false) ≡ false
              by_own false e = refl
              by_own true e =
                  let p = and_parts (bytes_eq o.room room) (bytes_eq o.session session) e in
                  let entry : entry_at room session ≡ true = sym (ap (λ n. entry_at n o.session) (same_bytes o.room room p.0) ∙ ap (λ n. entry_at room n) (same_bytes o.session session p.1)) ∙ (sym (any_enters o) ∙ t) in
                  absurd (cc)

      by_entry : (b : Bool) → entry_at room session ≡ b → list_any (is_conn_for room session) new_conns ≡ b
      by_entry true entry = there (opened_at room session entry) entry
      by_entry false empty = nobody (opening h e) empty

  -- all connections are those of sessions that are connected, or enter
  pub all_conns : (room session : List ℕ) → list_any (is_conn_for room session) conns_all ≡ (connected_at rooms room session || entry_at room session)
  all_conns room session =
      any_all h e ds (is_conn_for room session)
      ∙ (ap (λ b. b || list_any (is_conn_for room session) new_conns) (ready.steps room session) ∙ ap (λ b. connected_at rooms room session || b) (entries_new room session))

  -- ---- behind the event

  -- of a connection that is left, the session's isn't ended
  left_conns : (room session : List ℕ) (cs : List HubConn) → list_any (is_conn_for room session) (conns_left ds cs) ≡ (not (end_at room session) && list_any (is_conn_for room session) cs)
  left_conns room session cs =
      any-filter_same (is_conn_for room session) (is_left ds) (not (end_at room session)) same cs
    where
      same : (c : HubConn) → is_conn_for room session c ≡ true → is_left ds c ≡ not (end_at room session)
      same c own =
          let p = and_parts (bytes_eq c.room room) (bytes_eq c.session session) own in
          ap not (any_ends c ∙ (ap (λ n. end_at n c.session) (same_bytes c.room room p.0) ∙ ap (λ n. end_at room n) (same_bytes c.session session p.1)))

  abbrev stands_at : List ℕ → Option Dealt → Bool
  stands_at session o = option_map_or (λ (d : Dealt). connected d.room.room session) o false

  next_conns : (room session : List ℕ) → list_any (is_conn_for room session) (conns_left ds conns_all) ≡ stands_at session (dealt_of ds room)
  next_conns room session =
      left_conns room session conns_all
      ∙ (ap (λ b. not (end_at room session) && b) (all_conns room session)
      ∙ (ap (λ o. not (ended o) && (connected_at rooms room session || entered o)) (dealt_found (rules_of read) h e room)
      ∙ (by_room (find (is_named room) rooms) refl ∙ ap (stands_at session) (sym (dealt_found (rules_of read) h e room)))))
    where
      ended : Option Dealt → Bool
      ended o = option_map_or (λ (d : Dealt). list_any (is_end session) d.outs) o false

      entered : Option Dealt → Bool
      entered o = option_map_or (λ (d : Dealt). list_any (is_entry session) d.outs) o false

      was : Option HubRoom → Bool
      was o = option_map_or (λ (r : HubRoom). connected r.room session) o false

      turned : (a b : Bool) → (not a && b) ≡ (b && not a)
      turned true true = refl
      turned true false = refl
      turned false true = refl
      turned false false = refl

      by_room : (o : Option HubRoom) → find (is_named room) rooms ≡ o → (not (ended (option_map behind o)) && (was o || entered (option_map behind o))) ≡ stands_at session (option_map behind o)
      by_room None found = refl
      by_room (Some r) found =
          let there = found_in (is_named room) rooms r found in
          turned (list_any (is_end session) (behind r).outs) (connected r.room session || list_any (is_entry session) (behind r).outs)
          ∙ sym (connected_behind r (deals (rules_of read) h e r) session (ready.placed r there) (ready.few r there))

  -- the rooms behind the event have different ids
  pub next_differ : RoomsDiffer (map (λ (d : Dealt). d.room) ds)
  next_differ = differ_mapped (λ (r : HubRoom). r.id) (λ (d : Dealt). d.room.id) (λ (d : Dealt). d.room) (λ d. refl) ds (dealt_differ (rules_of read) h e ready.differ)

  -- those that go on have all that is connected
  next_rooms : (room session : List ℕ) → connected_at (filter is_needed (map (λ (d : Dealt). d.room) ds)) room session ≡ stands_at session (dealt_of ds room)
  next_rooms room session =
      ap was (named_kept (λ (r : HubRoom). r.id) is_needed room (map (λ (d : Dealt). d.room) ds) next_differ ∙ ap needed (find-map (is_named room) (λ (d : Dealt). d.room) ds))
      ∙ (ap (λ o. was (needed (option_map (λ (d : Dealt). d.room) o))) (dealt_found (rules_of read) h e room)
      ∙ (by_room (find (is_named room) rooms) refl ∙ ap (stands_at session) (sym (dealt_found (rules_of read) h e room))))
    where
      was : Option HubRoom → Bool
      was o = option_map_or (λ (r : HubRoom). connected r.room session) o false

      needed : Option HubRoom → Option HubRoom
      needed o = option_and_then (λ r. cond (is_needed r) (Some r) None) o

      by_needed : (r : HubRoom) → Placed r.room → (b : Bool) → is_needed r ≡ b → was (cond b (Some r) None) ≡ connected r.room session
      by_needed r placed true n = refl
      by_needed r placed false n = by_connected (connected r.room session) refl
        where
          by_connected : (b : Bool) → connected r.room session ≡ b → false ≡ b
          by_connected false c = refl
          by_connected true c = absurd (nothing (in_use r.room.seats) n (place_taken r.room session placed c))
            where
              nothing : (n : ℕ) → nat_lt 0 n ≡ false → 1 ≤ n → ⊥
              nothing n empty some = grind (arith, nat_tests)

      by_room : (o : Option HubRoom) → find (is_named room) rooms ≡ o → was (needed (option_map (λ (d : Dealt). d.room) (option_map behind o))) ≡ stands_at session (option_map behind o)
      by_room None found = refl
      by_room (Some r) found =
          let there = found_in (is_named room) rooms r found in
          by_needed (behind r).room (placed_behind r (deals (rules_of read) h e r) (ready.placed r there) (ready.few r there)) (is_needed (behind r).room) refl

  -- ---- what holds of the next hub

  pub next_steps : (room session : List ℕ) → list_any (is_conn_for room session) (conns_left ds (conns_with h e ds)) ≡ connected_at (filter is_needed (map (λ (d : Dealt). d.room) ds)) room session
  next_steps room session = next_conns room session ∙ sym (next_rooms room session)

  pub next_numbers : RisesFrom conn_number 0 (conns_left ds (conns_with h e ds))
  next_numbers = RisesFrom-filter conn_number 0 (is_left ds) conns_all (all_rise h e ds ready.numbers)
