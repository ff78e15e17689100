-- Reservations, commands, view edits, keep times and locks, and what they make of a life that goes on.
use Rattle.std.proofs.Common.{◌≡◌, ℕ, Bool, true, false, cond, List, [], Option, Some, None, Result, Ok, Err, refl, ap, ◌∙◌}
use Rattle.std.specs.Prelude.{IfOk}
use Rattle.std.specs.List.{flat_map}
use Rattle.std.specs.Option.{option_or}
use Rattle.std.specs.Str.{bytes_eq}
use Rattle.schema_model.specs.Classes.{Schema}
use Rattle.schema_model.specs.declared.place.Pair.{Pair}
use Rattle.state_model.specs.declared.row.RowEntry.{RowEntry}
use Rattle.state_model.specs.declared.command.TableFault.{TableFault}
use Rattle.state_model.specs.declared.command.TableFault.TheVariants.{NoRef}
use Rattle.state_model.specs.Rows.{root_alone, is_live}
use Rattle.state_model.specs.State.{State}
use Rattle.state_model.specs.Members.{no_members, view_added, view_removed, is_view_full}
use Rattle.room_model.specs.declared.event.Stage.{Stage}
use Rattle.room_model.specs.declared.event.Stage.TheVariants.{Reserved, Joining, Due, Live, Kept}
use Rattle.room_model.specs.declared.refusal.Refusal.{Refusal}
use Rattle.room_model.specs.declared.refusal.Refusal.TheVariants as refusal
use Rattle.room_model.specs.Seats.{Seats}
use Rattle.room_model.specs.Sessions.{Session, Acted, with_members, with_keep, unless_reserved, if_room, view_added_to, view_removed_from, keep_set}
use Rattle.room_model.specs.Room.{RoomValue, after_reserve, after_answer, made_outs, on_session, with_seats, session_after, outs_after}
use Rattle.room_laws.proofs.PlacedSteps.{Stays}
use Rattle.room_laws.proofs.SessionLists.{named_more}
use Rattle.life_model.specs.RoomLives.{RoomLife, given_by}
use Rattle.room_promises.proofs.GoodLives.{held, GoesOn}
use Rattle.room_promises.proofs.LifeSteps.{fits_still, StepsOn, quiet}
use Rattle.room_promises.proofs.Acts.{acted_own, acted_other}

-- ---- a view edit, or a keep time that is set, keeps of a session what its life depends on

pub record Edited (s : Session) (a : Acted) : Type 0 where
  pub same : held a.session ≡ held s
  pub silent : a.outs ≡ []

abbrev pub Edits : Session → Result Acted Refusal → Type 0
Edits s x = IfOk x (Edited s)

unless_edits : (stage : Stage) (s : Session) (x : Result Acted Refusal) → Edits s x → Edits s (unless_reserved stage x)
unless_edits Reserved s x h = tt
unless_edits Joining s x h = h
unless_edits Due s x h = h
unless_edits Live s x h = h
unless_edits Kept s x h = h

pub added_edits : (schema : Schema) (rows : List RowEntry) (p : Pair) (s : Session) → Edits s (view_added_to schema rows p s)
added_edits schema rows p s = unless_edits s.stage s _ (go (is_live rows p.who))
  where
    room : (b : Bool) → Edits s (cond b (Err refusal.ViewFull) (Ok (record { session = with_members (view_added schema rows p s.members) s; outs = [] })))
    room true = tt
    room false = record { same = refl; silent = refl }

    go : (b : Bool) → Edits s (cond b (if_room (view_added schema rows p s.members) s) (Err (refusal.Table NoRef)))
    go true = room (is_view_full (view_added schema rows p s.members))
    go false = tt

pub removed_edits : (schema : Schema) (rows : List RowEntry) (p : Pair) (s : Session) → Edits s (view_removed_from schema rows p s)
removed_edits schema rows p s = unless_edits s.stage s _ (go (is_live rows p.who))
  where
    go : (b : Bool) → Edits s (cond b (Ok (record { session = with_members (view_removed schema rows p s.members) s; outs = [] })) (Err (refusal.Table NoRef)))
    go true = record { same = refl; silent = refl }
    go false = tt

pub keep_edits : (ms : ℕ) (s : Session) → Edits s (keep_set ms s)
keep_edits ms s = unless_edits s.stage s (Ok (record { session = with_keep ms s; outs = [] })) (record { same = refl; silent = refl })

module _ (schema : Schema) (rows : List RowEntry) (r : RoomValue) (l : RoomLife) (g : GoesOn schema rows r.sessions l) where
  pub edit_on : (id : List ℕ) (does : Session → Result Acted Refusal) → ((s : Session) → Stays s (does s)) → ((s : Session) → Edits s (does s)) → StepsOn schema rows (on_session r id does) [] l
  edit_on id does stays edits = by_name (bytes_eq id l.session) refl
    where
      silent : (s : Session) (x : Result Acted Refusal) → Edits s x → flat_map (given_by l.session) (outs_after x) ≡ []
      silent s (Err f) e = refl
      silent s (Ok a) e = ap (flat_map (given_by l.session)) e.silent

      same : (s : Session) (x : Result Acted Refusal) → Edits s x → held (session_after s x) ≡ held s
      same s (Err f) e = refl
      same s (Ok a) e = e.same

      by_name : (b : Bool) → bytes_eq id l.session ≡ b → StepsOn schema rows (on_session r id does) [] l
      by_name true is =
          acted_own schema rows r l g id does [] [] is (stays g.session) (silent g.session (does g.session) (edits g.session))
          (fits_still schema rows (held g.session) (held (session_after g.session (does g.session))) l.entries [] l.outputs [] l.view g.fits (same g.session (does g.session) (edits g.session)) refl refl)
      by_name false is = acted_other schema rows r l g id does is stays (λ s name. silent s (does s) (edits s))

  -- a command
  made_silent : (o : Option ℕ) → flat_map (given_by l.session) (made_outs o) ≡ []
  made_silent None = refl
  made_silent (Some n) = refl

  pub command_on : (x : Result (State × Option ℕ) TableFault) → StepsOn schema rows (after_answer r x) [] l
  command_on (Ok x) = quiet schema rows r.sessions (after_answer r (Ok x)) [] l g g.session g.there refl refl (made_silent x.1)
  command_on (Err f) = quiet schema rows r.sessions (after_answer r (Err f)) [] l g g.session g.there refl refl refl

  -- other places
  pub seats_on : (seats : Seats) → StepsOn schema rows (with_seats r seats, []) [] l
  seats_on seats = quiet schema rows r.sessions (with_seats r seats, []) [] l g g.session g.there refl refl refl

  -- a reservation of another session
  pub reserve_on : (session : List ℕ) (lapse : ℕ) → StepsOn schema rows (after_reserve r session lapse, []) [] l
  reserve_on session lapse =
      let mine : Session = record { id = session; stage = Reserved; members = no_members; permitted = root_alone r.schema; queue = []; keep = r.def.keep } in
      quiet schema rows r.sessions (after_reserve r session lapse, []) [] l g g.session
      (named_more (λ (s : Session). s.id) l.session r.sessions mine ∙ ap (λ o. option_or o (cond (bytes_eq session l.session) (Some mine) None)) g.there) refl refl refl
