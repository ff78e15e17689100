-- A hub behind an event of one of its rooms, where the others have none: what it gives, which rooms are left, and which connections.
use Rattle.std.proofs.Common.{◌≡◌, ℕ, suc, ◌==◌, ◌++◌, ◌||◌, ◌&&◌, Bool, true, false, not, List, [], ◌∷◌, Some, filter, map, refl, sym, ap, ap₂, subst, ◌∙◌, cond}
use Rattle.std.specs.Prelude.{if◌then◌else◌}
use Rattle.std.specs.List.{flat_map, list_any}
use Rattle.std.specs.Str.{bytes_eq}
use Rattle.lists.specs.Rising.{RisesFrom, find as find_by, put, remove}
use Rattle.lists.proofs.SameBytes.{bytes_eq_sym}
use Rattle.schema_model.proofs.FieldCounts.{and_no}
use Rattle.room_model.specs.declared.event.RoomEvent.{RoomEvent}
use Rattle.room_model.specs.declared.event.RoomOut.{RoomOut}
use Rattle.room_model.specs.declared.event.RoomOut.TheVariants as room_out
use Rattle.room_model.specs.Outs.{is_end}
use Rattle.room_model.specs.Room.{RoomValue}
use Rattle.hub_model.specs.declared.conn.HubConn.{HubConn}
use Rattle.hub_model.specs.declared.event.HubOut.{HubOut}
use Rattle.hub_model.specs.declared.event.HubOut.TheVariants as out
use Rattle.hub_model.specs.HubValues.{HubRoom}
use Rattle.hub_model.specs.HubStep.{disposals, is_needed}
use Rattle.hub_model.specs.Dealt.{Dealt, RoomStep, conns_left, dealt, ends, with_room}
use Rattle.hub_core.specs.declared.entry.RoomEntry.{RoomEntry}
use Rattle.hub_core.specs.Endings.{ended_by, is_of, without_all}
use Rattle.hub_core.specs.Hubs.{IsNeeded}
use Rattle.hub_core.specs.RoomEntry.{AreOrdered, Each, room_in, rooms_in, serial_of}
use Rattle.hub_core.proofs.DealtLaws.{AreNeeded, AreQuiet, all_of, any_stepped, disposed_put, given_stepped, kept_needed, left_needed, rooms_stepped}
use Rattle.hub_core.proofs.EachLaws.{Each-first, Each-rest, Each-weaker}

-- ---- needed rooms

pub needed_others : {R : Type 0} (room : R → RoomValue) (n low : ℕ) (ss : List (RoomEntry R)) → RisesFrom serial_of low ss → Each (λ s. (s.serial == n) ≡ false → IsNeeded room s) ss → AreNeeded room n ss
needed_others room n low [] rises h = tt
needed_others room n low (x ∷ ss) rises h =
    (Each-first (λ s. (s.serial == n) ≡ false → IsNeeded room s) x ss h, needed_others room n (suc x.serial) ss rises.1 (Each-rest (λ s. (s.serial == n) ≡ false → IsNeeded room s) low x ss rises h))

pub needed_but : {R : Type 0} (room : R → RoomValue) (n low : ℕ) (ss : List (RoomEntry R)) → RisesFrom serial_of low ss → Each (IsNeeded room) ss → AreNeeded room n ss
needed_but room n low ss rises h = needed_others room n low ss rises (Each-weaker (IsNeeded room) (λ s. (s.serial == n) ≡ false → IsNeeded room s) ss (λ s own other. own) h)

abbrev pub disposed : HubRoom → HubOut
disposed r = out.Disposed r.id

-- ---- connections that outputs end

ended_by_one : (id : List ℕ) (o : RoomOut) (rest : List (List ℕ)) (b : Bool) → b ≡ list_any (bytes_eq id) rest → (is_end id o || b) ≡ list_any (bytes_eq id) (ended_by o ++ rest)
ended_by_one id (room_out.Send s bytes) rest b h = h
ended_by_one id (room_out.Close s code) rest b h = ap₂ (λ x y. x || y) (bytes_eq_sym s id) h
ended_by_one id (room_out.Entered s) rest b h = h
ended_by_one id (room_out.Back s) rest b h = h
ended_by_one id (room_out.NoSeat s) rest b h = h
ended_by_one id (room_out.TokenInUse s) rest b h = h
ended_by_one id (room_out.Message s kind payload) rest b h = h
ended_by_one id (room_out.RawMessage s kind payload) rest b h = h
ended_by_one id (room_out.Dropped s) rest b h = ap₂ (λ x y. x || y) (bytes_eq_sym s id) h
ended_by_one id (room_out.Left s) rest b h = ap₂ (λ x y. x || y) (bytes_eq_sym s id) h
ended_by_one id (room_out.Made n) rest b h = h
ended_by_one id (room_out.Refused r) rest b h = h

-- an output ends a session's connection where it is among those that are ended
pub ended_any : (id : List ℕ) (outs : List RoomOut) → list_any (is_end id) outs ≡ list_any (bytes_eq id) (flat_map ended_by outs)
ended_any id [] = refl
ended_any id (o ∷ outs) = ended_by_one id o (flat_map ended_by outs) (list_any (is_end id) outs) (ended_any id outs)

left_same : (p q : HubConn → Bool) → ((c : HubConn) → p c ≡ q c) → (cs : List HubConn) → filter (λ c. not (p c)) cs ≡ filter (λ c. not (q c)) cs
left_same p q same [] = refl
left_same p q same (c ∷ cs) = ap₂ (λ b l. cond (not b) (c ∷ l) l) (same c) (left_same p q same cs)

-- ---- behind the event

module _ {R : Type 0} (room : R → RoomValue) (handled : RoomStep) (es : HubRoom → List RoomEvent) (ev : RoomEvent) (s : RoomEntry R) (ss : List (RoomEntry R)) (ordered : AreOrdered ss) (there : find_by serial_of s.serial ss ≡ Some s)
    (quiet : AreQuiet room handled es s.serial ss) (own : es (room_in room s) ≡ ev ∷ []) where
  abbrev outs : List RoomOut
  outs = (handled (room s.room) ev).1

  pub rooms_behind : (t : RoomEntry R) → t.serial ≡ s.serial → room_in room t ≡ with_room (room_in room s) (handled (room s.room) ev).0 → map (λ (d : Dealt). d.room) (all_of room handled es ss) ≡ rooms_in room (put serial_of t ss)
  rooms_behind t same is = rooms_stepped room handled es s.serial 0 s t ev ss ordered.0 there quiet own same is

  pub given_behind : {X : Type 0} (f : Dealt → List X) → ((r : HubRoom) → f (dealt handled r []) ≡ []) → flat_map f (all_of room handled es ss) ≡ f (dealt handled (room_in room s) (ev ∷ []))
  given_behind f silent = given_stepped room handled es f s.serial 0 s ev ss silent ordered.0 there quiet own

  pub any_behind : (p : Dealt → Bool) → ((r : HubRoom) → p (dealt handled r []) ≡ false) → list_any p (all_of room handled es ss) ≡ p (dealt handled (room_in room s) (ev ∷ []))
  any_behind p silent = any_stepped room handled es p s.serial s ev ss silent ordered.0 there quiet own

  pub told_behind : (given : List ℕ → RoomOut → List HubOut) → flat_map (λ (d : Dealt). flat_map (given d.room.id) d.outs) (all_of room handled es ss) ≡ flat_map (given s.id) outs
  told_behind given = given_behind (λ d. flat_map (given d.room.id) d.outs) (λ r. refl)

  pub disposed_behind : (t : RoomEntry R) → t.serial ≡ s.serial → room_in room t ≡ with_room (room_in room s) (handled (room s.room) ev).0 → AreNeeded room t.serial ss
      → disposals (map (λ (d : Dealt). d.room) (all_of room handled es ss)) ≡ disposals (room_in room t ∷ [])
  disposed_behind t same is needed =
      ap disposals (rooms_behind t same is)
      ∙ ap (map disposed) (disposed_put room 0 s t ss ordered.0 (subst (λ k. find_by serial_of k ss ≡ Some s) (sym same) there) needed)
      ∙ one_disposed (is_needed (room_in room t))
    where
      one_disposed : (b : Bool) → map disposed (cond b [] (room_in room t ∷ [])) ≡ map disposed (cond (not b) (room_in room t ∷ []) [])
      one_disposed true = refl
      one_disposed false = refl

  pub left_behind : (t : RoomEntry R) → t.serial ≡ s.serial → room_in room t ≡ with_room (room_in room s) (handled (room s.room) ev).0 → AreNeeded room t.serial ss
      → filter is_needed (map (λ (d : Dealt). d.room) (all_of room handled es ss)) ≡ rooms_in room (if is_needed (room_in room t) then put serial_of t ss else remove serial_of t.serial ss)
  left_behind t same is needed = ap (filter is_needed) (rooms_behind t same is) ∙ by_need (is_needed (room_in room t)) refl
    where
      by_need : (b : Bool) → is_needed (room_in room t) ≡ b → filter is_needed (rooms_in room (put serial_of t ss)) ≡ rooms_in room (cond b (put serial_of t ss) (remove serial_of t.serial ss))
      by_need true own = kept_needed room 0 t ss ordered.0 needed own
      by_need false own = left_needed room 0 s t ss ordered.0 (subst (λ k. find_by serial_of k ss ≡ Some s) (sym same) there) needed own

  pub conns_behind : (cs : List HubConn) → conns_left (all_of room handled es ss) cs ≡ without_all s.id (flat_map ended_by outs) cs
  conns_behind cs = left_same (λ c. list_any (ends c) (all_of room handled es ss)) (is_of s.id (flat_map ended_by outs)) each cs
    where
      each : (c : HubConn) → list_any (ends c) (all_of room handled es ss) ≡ is_of s.id (flat_map ended_by outs) c
      each c = any_behind (ends c) (λ r. and_no (bytes_eq r.id c.room)) ∙ ap₂ (λ a b. a && b) (bytes_eq_sym s.id c.room) (ended_any c.session outs)
