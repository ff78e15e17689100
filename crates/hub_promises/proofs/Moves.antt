-- A good room of a hub, and each life in it, behind the events that it is dealt.
use Rattle.std.proofs.Common.{◌≡◌, ℕ, Bool, true, false, cond, List, [], ◌∷◌, ◌++◌, refl, sym, ap, subst, ◌∙◌, append-nil, inl, inr}
use Rattle.std.specs.List.{flat_map, fold}
use Rattle.std.proofs.lemmas.List.Sums.{fold-append}
use Rattle.schema_model.specs.Classes.{Schema, is_kept}
use Rattle.state_model.specs.declared.row.RowEntry.{RowEntry}
use Rattle.state_model.specs.State.{State, swept}
use Rattle.room_model.specs.declared.event.RoomEvent.{RoomEvent}
use Rattle.room_model.specs.declared.event.RoomEvent.TheVariants as happened
use Rattle.room_model.specs.Sessions.{Session}
use Rattle.room_model.specs.Room.{room_step}
use Rattle.room_laws.specs.Places.{may_happen}
use Rattle.room_like.specs.Worded.{is_worded_event}
use Rattle.hub_model.specs.HubValues.{HubRoom}
use Rattle.hub_model.specs.Dealt.{dealt}
use Rattle.life_model.specs.Entries.{Entry, Asked, Sending}
use Rattle.life_model.specs.Lives.{entry_if}
use Rattle.life_model.specs.Sent.{Progress, after_entry, life_start, progress_of}
use Rattle.life_model.specs.RoomLives as room_lives
use Rattle.life_model.specs.RoomLives.{RoomLife, is_in, room_entries, given_by, view_after}
use Rattle.life_model.specs.HubLives.{HubLife, in_room, new_life, dealt_entries, dealt_view}
use Rattle.room_promises.proofs.GoodLives.{GoesOn, GoodLife}
use Rattle.room_promises.proofs.RoomSteps.{GoodRoom, is_tick, step_good, tick_good}
use Rattle.room_promises.proofs.RunSteps.{life_stepped, life_ticked, life_begun}
use Rattle.hub_promises.proofs.Deals.{Few}

-- ---- records with requests in them

-- entries that change nothing
abbrev pub AreQuiet : Schema → List Entry → Type 0
AreQuiet schema asked = (p : Progress) → fold (after_entry schema) p asked ≡ p

-- as the answer to a request does
pub asked_quiet : (schema : Schema) (test : Bool) (target body reply : List ℕ) → AreQuiet schema (entry_if test (Asked target body reply))
asked_quiet schema true target body reply p = ap (λ os. let q : Progress = record { standing = p.standing; given = os } in q) (append-nil p.given)
asked_quiet schema false target body reply p = refl

pub quiet_between : (schema : Schema) (before asked after : List Entry) → AreQuiet schema asked → progress_of schema (before ++ after) ≡ progress_of schema (before ++ (asked ++ after))
quiet_between schema before asked after quiet =
    fold-append (after_entry schema) life_start before after
    ∙ sym (fold-append (after_entry schema) life_start before (asked ++ after) ∙ (fold-append (after_entry schema) (progress_of schema before) asked after ∙ ap (λ p. fold (after_entry schema) p after) (quiet (progress_of schema before))))

abbrev with_record : RoomLife → List Entry → RoomLife
with_record l es = record { session = l.session; lasts = l.lasts; entries = es; outputs = l.outputs; view = l.view }

-- a life with another record that leads as far
same_record : (schema : Schema) (rows : List RowEntry) (ss : List Session) (l : RoomLife) (es : List Entry) → progress_of schema l.entries ≡ progress_of schema es → GoodLife schema rows ss l → GoodLife schema rows ss (with_record l es)
same_record schema rows ss l es same g = record {
  equal = g.equal ∙ ap (λ (p : Progress). p.given) same;
  goes_on = λ h. leads (g.goes_on h);
}
  where
    leads : GoesOn schema rows ss l → GoesOn schema rows ss (with_record l es)
    leads on = record { session = on.session; there = on.there; fits = record { progress = sym same ∙ on.fits.progress; queue = on.fits.queue; sees = on.fits.sees } }

-- ---- a life behind the events of its room

abbrev pub lived_in : HubLife → List Entry → HubRoom → List RoomEvent → RoomLife
lived_in l asked r es = record {
  session = l.session;
  lasts = is_in (dealt room_step r es).room.room l.session;
  entries = l.entries ++ (asked ++ dealt_entries room_step r.room es l.session);
  outputs = l.outputs ++ flat_map (given_by l.session) (dealt room_step r es).outs;
  view = dealt_view room_step r.room es (in_room l);
}

-- behind none
lived_none : (schema : Schema) (rows : List RowEntry) (r : HubRoom) (l : HubLife) (asked : List Entry) → l.lasts ≡ true → AreQuiet schema asked → GoodLife schema rows r.room.sessions (in_room l)
    → GoodLife schema rows r.room.sessions (lived_in l asked r [])
lived_none schema rows r l asked lasts quiet g =
    subst (λ (os : List Sending). GoodLife schema rows r.room.sessions (record { session = l.session; lasts = is_in r.room l.session; entries = l.entries ++ (asked ++ []); outputs = os; view = l.view })) (sym (append-nil l.outputs))
    (record { equal = more.equal; goes_on = λ h. on (more.goes_on lasts) })
  where
    more : GoodLife schema rows r.room.sessions (with_record (in_room l) (l.entries ++ (asked ++ [])))
    more = same_record schema rows r.room.sessions (in_room l) (l.entries ++ (asked ++ [])) (ap (progress_of schema) (sym (append-nil l.entries)) ∙ quiet_between schema l.entries asked [] quiet) g

    on : GoesOn schema rows r.room.sessions (with_record (in_room l) (l.entries ++ (asked ++ [])))
        → GoesOn schema rows r.room.sessions (record { session = l.session; lasts = is_in r.room l.session; entries = l.entries ++ (asked ++ []); outputs = l.outputs; view = l.view })
    on g = record { session = g.session; there = g.there; fits = g.fits }

-- behind one
lived_one : (schema : Schema) (rows : List RowEntry) (r : HubRoom) (e : RoomEvent) (l : HubLife) (asked : List Entry) → l.lasts ≡ true → AreQuiet schema asked
    → GoodLife schema rows (room_step r.room e).0.sessions (room_lives.lived r.room e (room_step r.room e) (in_room l)) → GoodLife schema rows (room_step r.room e).0.sessions (lived_in l asked r (e ∷ []))
lived_one schema rows r e l asked lasts quiet g =
    same_record schema rows (room_step r.room e).0.sessions stepped (l.entries ++ (asked ++ (here ++ [])))
    (ap (λ es. progress_of schema (l.entries ++ es)) (sym (append-nil here)) ∙ quiet_between schema l.entries asked (here ++ []) quiet)
    (subst (λ b. GoodLife schema rows (room_step r.room e).0.sessions (cond b stepped (in_room l))) lasts g)
  where
    here : List Entry
    here = room_entries r.room e (room_step r.room e).0 l.session

    stepped : RoomLife
    stepped = record {
      session = l.session;
      lasts = is_in (room_step r.room e).0 l.session;
      entries = l.entries ++ here;
      outputs = l.outputs ++ flat_map (given_by l.session) (room_step r.room e).1;
      view = view_after e (room_step r.room e).0 (in_room l);
    }

-- ---- a room behind its events

-- the room is good, with the state of its last tick, and so is each life in it, and one that begins
pub record Moves (schema : Schema) (last : State) (r : HubRoom) (es : List RoomEvent) : Type 0 where
  pub next : State
  pub room : GoodRoom schema next (dealt room_step r es).room.room
  pub life : (l : HubLife) (asked : List Entry) → l.lasts ≡ true → AreQuiet schema asked → GoodLife schema last.rows r.room.sessions (in_room l) → GoodLife schema next.rows (dealt room_step r es).room.room.sessions (lived_in l asked r es)
  pub begins : (session : List ℕ) (lapse : ℕ) (id : List ℕ) (asked : List Entry) → es ≡ happened.Reserve session lapse ∷ [] → is_in r.room session ≡ false → AreQuiet schema asked
      → GoodLife schema next.rows (dealt room_step r es).room.room.sessions (lived_in (new_life r.room.schema session id) asked r es)

moves_one : (schema : Schema) (last : State) (r : HubRoom) (e : RoomEvent) → is_kept schema ≡ true → is_worded_event e ≡ true → may_happen r.room e ≡ true → GoodRoom schema last r.room → Moves schema last r (e ∷ [])
moves_one schema last r e kept words may g = by_tick (is_tick e) refl
  where
    begun : (rows : List RowEntry) (session : List ℕ) (lapse : ℕ) (id : List ℕ) (asked : List Entry) (e : RoomEvent) → happened.Reserve session lapse ≡ e → is_in r.room session ≡ false → AreQuiet schema asked
        → GoodLife schema rows (dealt room_step r (e ∷ [])).room.room.sessions (lived_in (new_life r.room.schema session id) asked r (e ∷ []))
    begun rows session lapse id asked e is new quiet =
        subst (λ e. GoodLife schema rows (dealt room_step r (e ∷ [])).room.room.sessions (lived_in (new_life r.room.schema session id) asked r (e ∷ []))) is
        (lived_one schema rows r (happened.Reserve session lapse) (new_life r.room.schema session id) asked refl quiet (life_begun schema rows r.room session lapse new))

    other : is_tick e ≡ false → Moves schema last r (e ∷ [])
    other no_tick = record {
      next = last;
      room = step_good schema last r.room e kept no_tick words may g;
      life = λ l asked lasts quiet good. lived_one schema last.rows r e l asked lasts quiet (life_stepped schema last r.room e (in_room l) no_tick g good);
      begins = λ session lapse id asked is new quiet. begun last.rows session lapse id asked e (cc) new quiet;
    }

    ticks : (e : RoomEvent) → is_tick e ≡ true → Moves schema last r (e ∷ [])
    ticks happened.Tick is = record {
      next = swept r.room.state;
      room = tick_good schema last r.room g;
      life = λ l asked lasts quiet good. lived_one schema (swept r.room.state).rows r happened.Tick l asked lasts quiet (life_ticked schema last r.room (in_room l) kept g good);
      begins = λ session lapse id asked is new quiet. absurd (cc);
    }
    ticks e is = absurd (cc)

    by_tick : (b : Bool) → is_tick e ≡ b → Moves schema last r (e ∷ [])
    by_tick true is = ticks e is
    by_tick false is = other is

pub moves : (schema : Schema) (last : State) (r : HubRoom) (es : List RoomEvent) → is_kept schema ≡ true → GoodRoom schema last r.room → Few r.room es → Moves schema last r es
moves schema last r es kept g (inl empty) = subst (Moves schema last r) (sym empty) (record {
  next = last;
  room = g;
  life = λ l asked lasts quiet good. lived_none schema last.rows r l asked lasts quiet good;
  begins = λ session lapse id asked is new quiet. absurd (cc);
})
moves schema last r es kept g (inr one) = subst (Moves schema last r) (sym one.is) (moves_one schema last r one.event kept one.worded one.may g)
