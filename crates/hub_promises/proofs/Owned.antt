-- Which connections are a life's: exactly those of its room and session, of all that are open before an event or behind it.
use Rattle.std.proofs.Common.{◌≡◌, ℕ, Bool, true, false, not, cond, ◌&&◌, ◌||◌, ◌==◌, List, [], ◌∷◌, Option, Some, None, Result, refl, sym, ap, ◌∙◌}
use Rattle.std.specs.List.{find, list_any}
use Rattle.std.specs.Option.{option_map, option_map_or}
use Rattle.lists.proofs.RisingLaws.{find-Contains}
use Rattle.lists.proofs.Passing.{list_any-filter, list_any_filtered}
use Rattle.room_model.specs.declared.definition.RoomDef.{RoomDef}
use Rattle.room_laws.specs.StepLaws.{is_entry, is_end}
use Rattle.hub_model.specs.declared.event.HubEvent.{HubEvent}
use Rattle.hub_model.specs.declared.request.AskFault.{AskFault}
use Rattle.hub_model.specs.declared.request.Opening.{Opening as Opens}
use Rattle.hub_model.specs.declared.request.Request.{Request}
use Rattle.hub_model.specs.declared.conn.HubConn.{HubConn}
use Rattle.hub_model.specs.HubValues.{HubValue, HubRoom, is_named, conn_number, conn_of, is_conn_for, conn_for}
use Rattle.hub_model.specs.Dealt.{Dealt, ends}
use Rattle.hub_model.specs.HubStep.{deals, all_dealt, enters, conns_with, hub_step}
use Rattle.life_model.specs.HubPromises.{rules_of}
use Rattle.life_model.specs.HubLives.{HubLife, is_own}
use Rattle.hub_laws.proofs.Different.{found_in, any_numbered}
use Rattle.hub_promises.proofs.Deals.{rooms_for, dealt_to, dealt_found, Ready}
use Rattle.hub_promises.proofs.Connected.{entry_ends_none}
use Rattle.hub_promises.proofs.Openings.{opening, number_of, opened_conns, any_all, all_rise}
use Rattle.hub_promises.proofs.Conns.{is_left, new_conns, entry_at, end_at, any_enters, any_ends}

module _ (read : List RoomDef → List ℕ → List ℕ → Result Request AskFault) (h : HubValue) (e : HubEvent) (ready : Ready (rules_of read) h e) where
  abbrev rooms : List HubRoom
  rooms = rooms_for (rules_of read) h e

  abbrev ds : List Dealt
  ds = all_dealt (rules_of read) h e

  abbrev all : List HubConn
  all = conns_with h e ds

  abbrev new : List HubConn
  new = new_conns read h e ready

  -- where a session enters, its connection isn't ended
  entry_lasts : (room session : List ℕ) → entry_at read h e ready room session ≡ true → end_at read h e ready room session ≡ false
  entry_lasts room session enters =
      ap ended (dealt_found (rules_of read) h e room) ∙ by_room (find (is_named room) rooms) refl (sym (ap entered (dealt_found (rules_of read) h e room)) ∙ enters)
    where
      ended : Option Dealt → Bool
      ended o = option_map_or (λ (d : Dealt). list_any (is_end session) d.outs) o false

      entered : Option Dealt → Bool
      entered o = option_map_or (λ (d : Dealt). list_any (is_entry session) d.outs) o false

      by_room : (o : Option HubRoom) → find (is_named room) rooms ≡ o → entered (option_map (dealt_to (rules_of read) h e) o) ≡ true → ended (option_map (dealt_to (rules_of read) h e) o) ≡ false
      by_room None found enters = refl
      by_room (Some r) found enters =
          let there = found_in (is_named room) rooms r found in
          entry_ends_none r (deals (rules_of read) h e r) session (ready.placed r there) (ready.few r there) enters

  -- so a connection that opens is left
  new_left : (p : HubConn → Bool) → list_any (λ c. is_left ds c && p c) new ≡ list_any p new
  new_left p = by_opening (opening h e)
    where
      by_opening : (o : Option Opens) → list_any (λ c. is_left ds c && p c) (opened_conns (number_of e) ds o) ≡ list_any p (opened_conns (number_of e) ds o)
      by_opening None = refl
      by_opening (Some o) = by_entry (list_any (enters o) ds) refl
        where
          mine : HubConn
          mine = record { conn = number_of e; room = o.room; session = o.session }

          by_entry : (b : Bool) → list_any (enters o) ds ≡ b → list_any (λ c. is_left ds c && p c) (cond b (mine ∷ []) []) ≡ list_any p (cond b (mine ∷ []) [])
          by_entry false t = refl
          by_entry true t =
              let stays : list_any (ends mine) ds ≡ false = any_ends read h e ready mine ∙ entry_lasts o.room o.session (sym (any_enters read h e ready o) ∙ t) in
              ap (λ b. (not b && p mine) || false) stays

  module _ (l : HubLife) where
    abbrev pub own : ℕ → Bool
    own n = is_own h (hub_step (rules_of read) h e).0 l n

    -- one of a number, of the life's room and session
    abbrev mine : ℕ → HubConn → Bool
    mine n c = (c.conn == n) && is_conn_for l.room l.session c

    own_all : (n : ℕ) → own n ≡ (list_any (mine n) h.conns || list_any (mine n) new)
    own_all n =
        ap (λ b. list_any (mine n) h.conns || b) (list_any-filter (mine n) (is_left ds) all ∙ (any_all h e ds (λ c. is_left ds c && mine n c) ∙ ap (λ b. list_any (λ c. is_left ds c && mine n c) h.conns || b) (new_left (mine n))))
        ∙ absorbed (list_any (mine n) h.conns) (list_any (λ c. is_left ds c && mine n c) h.conns) (list_any (mine n) new)
        (λ t. list_any_filtered (mine n) (is_left ds) h.conns (list_any-filter (mine n) (is_left ds) h.conns ∙ t))
      where
        absorbed : (a b c : Bool) → (b ≡ true → a ≡ true) → (a || (b || c)) ≡ (a || c)
        absorbed true b c wider = refl
        absorbed false true c wider = absurd (let no = wider refl in cc)
        absorbed false false c wider = refl

    pub own_is : (room s : List ℕ) (c : HubConn) → conn_for all room s ≡ Some c → own c.conn ≡ is_conn_for l.room l.session c
    own_is room s c found =
        own_all c.conn
        ∙ (sym (any_all h e ds (mine c.conn))
        ∙ (any_numbered conn_number (is_conn_for l.room l.session) c.conn 0 all (all_rise h e ds ready.numbers)
        ∙ ap (λ o. option_map_or (is_conn_for l.room l.session) o false) (find-Contains conn_number 0 all c (all_rise h e ds ready.numbers) (found_in (is_conn_for room s) all c found))))

    -- a connection that nobody has, before or behind
    pub own_nobody : (n : ℕ) → conn_of h n ≡ None → new ≡ [] → own n ≡ false
    own_nobody n free empty =
        own_all n
        ∙ (ap (λ b. b || list_any (mine n) new) (any_numbered conn_number (is_conn_for l.room l.session) n 0 h.conns ready.numbers ∙ ap (λ o. option_map_or (is_conn_for l.room l.session) o false) free)
        ∙ ap (list_any (mine n)) empty)
