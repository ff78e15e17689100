-- Clients that stand as at the last tick do so after each event but a tick.
use Rattle.std.proofs.Common.{◌≡◌, ℕ, suc, true, false, List, [], ◌∷◌, ◌++◌, set, remove, take, drop, Option, Some, Ok, get_or, refl, sym, ap, subst, ◌∙◌, arith}
use Rattle.std.specs.Prelude.{All, slice_get}
use Rattle.std.proofs.lemmas.List.Elements.{All-append, All-cons, All-drop, All-set, All-take}
use Rattle.std.proofs.lemmas.Option.{get_or_from_slice_get, slice_get_within}
use Rattle.schema_model.specs.Classes.{Schema}
use Rattle.state_model.specs.declared.row.RowEntry.{RowEntry}
use Rattle.state_model.specs.declared.command.Command.{Command}
use Rattle.state_model.specs.Commands.{do_command}
use Rattle.state_model.specs.Members.{Members, no_members}
use Rattle.state_model.specs.Shown.{permitted}
use Rattle.command_laws.specs.Kept.{IsKept}
use Rattle.command_laws.specs.Later.{IsLater}
use Rattle.command_laws.proofs.LaterAgain.{later_again}
use Rattle.room_model.specs.declared.event.Stage.{Stage}
use Rattle.room_model.specs.declared.event.Stage.TheVariants.{Reserved, Joining, Due, Live, Kept}
use Rattle.room_model.specs.Sessions.{is_connected}
use Rattle.live_state.specs.Live.{Live as State-now, schema_of, rows_of}
use Rattle.view_counts.specs.Settled.{View, new_view}
use Rattle.view_edits.specs.There.{are_there}
use Rattle.view_edits.proofs.There.{command_there}
use Rattle.room_core.specs.declared.client.Client.{Client}
use Rattle.room_core.specs.Stands.{ViewStands, ClientStands, Stands}
use Rattle.room_core.specs.Steps.{Edited, client_at, dropped_client, acknowledged_stage}

-- ---- a reservation

-- a client that was reserved now
pub fresh_stands : (schema : Schema) (last rows : List RowEntry) (c : Client) → c.stage ≡ Reserved → c.members ≡ no_members → c.view ≡ new_view schema → ClientStands schema last rows c
fresh_stands schema last rows c at none new = record {
  view_stands = subst (λ (s : Stage). ViewStands s schema last c.members c.view) (sym at) (ap (λ (v : View). v.is_new) new);
  pairs = ap (λ (m : Members). are_there rows m.now) none;
}

-- ---- other clients

-- a room stands with other clients where each of them does
pub stands_with : (live : State-now) (shared : View) (cs ds : List Client) (s : Stands live shared cs) → All (ClientStands (schema_of live) s.last.rows (rows_of live)) ds → Stands live shared ds
stands_with live shared cs ds s each = record { last = s.last; kept = s.kept; spelled = s.spelled; later = s.later; shared_stands = s.shared_stands; each = each }

-- with one more
pub stands_more : (live : State-now) (shared : View) (cs more : List Client) (c : Client) → more ≡ cs ++ c ∷ [] → ((last : List RowEntry) → ClientStands (schema_of live) last (rows_of live) c) → Stands live shared cs → Stands live shared more
stands_more live shared cs more c is fresh s =
    let P : Client → Type 0 = ClientStands (schema_of live) s.last.rows (rows_of live) in
    stands_with live shared cs more s (subst (All P) (sym is) (All-append P cs (c ∷ []) s.each (All-cons P c [] (fresh s.last.rows) (λ k d within. absurd (omega arith)))))

-- with one less
pub stands_gone : (live : State-now) (shared : View) (cs : List Client) (at : ℕ) → Stands live shared cs → Stands live shared (remove cs at)
stands_gone live shared cs at s =
    let P : Client → Type 0 = ClientStands (schema_of live) s.last.rows (rows_of live) in
    stands_with live shared cs (remove cs at) s (All-append P (take at cs) (drop (suc at) cs) (All-take P at cs s.each) (All-drop P (suc at) cs s.each))

-- where one becomes another one
pub stands_set : (live : State-now) (shared : View) (cs : List Client) (at : ℕ) (c d : Client) → slice_get cs at ≡ Some c
    → ((last : List RowEntry) → ClientStands (schema_of live) last (rows_of live) c → ClientStands (schema_of live) last (rows_of live) d) → Stands live shared cs → Stands live shared (set cs at d)
stands_set live shared cs at c d there goes s =
    let P : Client → Type 0 = ClientStands (schema_of live) s.last.rows (rows_of live) in
    let was : P c = subst P (get_or_from_slice_get cs at c c there) (s.each at c (slice_get_within cs at c there)) in
    stands_with live shared cs (set cs at d) s (All-set P cs at d (goes s.last.rows was) s.each)

-- ---- clients at another stage

module _ (schema : Schema) (last rows : List RowEntry) where
  -- the view of one without a connection was never settled
  not_settled : (stage : Stage) (m : Members) (v : View) → is_connected stage ≡ false → ViewStands stage schema last m v → v.is_new ≡ true
  not_settled Reserved m v apart stands = stands
  not_settled Kept m v apart stands = stands
  not_settled Joining m v apart stands = cc
  not_settled Due m v apart stands = cc
  not_settled Live m v apart stands = cc

  -- such a one that joins
  pub joins : (c : Client) → is_connected c.stage ≡ false → ClientStands schema last rows c → ClientStands schema last rows (client_at Joining c)
  joins c apart s = record { view_stands = not_settled c.stage c.members c.view apart s.view_stands; pairs = s.pairs }

  -- one that is acknowledged
  at_acknowledged : (stage : Stage) (m : Members) (v : View) → ViewStands stage schema last m v → ViewStands (acknowledged_stage stage) schema last m v
  at_acknowledged Reserved m v stands = stands
  at_acknowledged Joining m v stands = stands
  at_acknowledged Due m v stands = stands
  at_acknowledged Live m v stands = stands
  at_acknowledged Kept m v stands = stands

  pub acknowledges : (c : Client) → ClientStands schema last rows c → ClientStands schema last rows (client_at (acknowledged_stage c.stage) c)
  acknowledges c s = record { view_stands = at_acknowledged c.stage c.members c.view s.view_stands; pairs = s.pairs }

  -- one whose seat is kept
  pub drops : (c : Client) → ClientStands schema last rows c → ClientStands schema last rows (dropped_client schema c)
  drops c s = record { view_stands = refl; pairs = s.pairs }

-- ---- a command

pub stands_answered : (live after : State-now) (shared : View) (cs : List Client) (c : Command) (made : Option ℕ) → IsKept (schema_of live) live.table.state → schema_of after ≡ schema_of live
    → IsLater live.table.state after.table.state → do_command (schema_of live) live.table.state c ≡ Ok (after.table.state, made) → Stands live shared cs → Stands after shared cs
stands_answered live after shared cs c made kept same later does s = record {
  last = s.last;
  kept = subst (λ schema. IsKept schema s.last) (sym same) s.kept;
  spelled = s.spelled;
  later = later_again (schema_of live) s.last live.table.state after.table.state s.kept s.later later;
  shared_stands = subst (λ schema. view_is schema) (sym same) s.shared_stands;
  each = subst (λ schema. All (ClientStands schema s.last.rows (rows_of after)) cs) (sym same)
      (λ k d within. there (get_or cs k d) (s.each k d within));
}
  where
    view_is : Schema → Type 0
    view_is schema = shared.after ≡ permitted schema s.last.rows []

    there : (x : Client) → ClientStands (schema_of live) s.last.rows (rows_of live) x → ClientStands (schema_of live) s.last.rows (rows_of after) x
    there x p = record { view_stands = p.view_stands; pairs = command_there (schema_of live) live.table.state c after.table.state made kept does x.members.now p.pairs }

-- ---- a view edit

edited_stands : (stage : Stage) (schema : Schema) (last : List RowEntry) (c d : Client) → d.members.last ≡ c.members.last → d.view ≡ c.view → ViewStands stage schema last c.members c.view → ViewStands stage schema last d.members d.view
edited_stands Reserved schema last c d same view v = ap (λ (x : View). x.is_new) view ∙ v
edited_stands Joining schema last c d same view v = ap (λ (x : View). x.is_new) view ∙ v
edited_stands Due schema last c d same view v = ap (λ (x : View). x.is_new) view ∙ v
edited_stands Kept schema last c d same view v = ap (λ (x : View). x.is_new) view ∙ v
edited_stands Live schema last c d same view v = ap (λ (x : View). x.after) view ∙ (v ∙ sym (ap (λ ps. permitted schema last ps) same))

pub edits : (schema : Schema) (last rows : List RowEntry) (c d : Client) → Edited c d → are_there rows d.members.now ≡ true → ClientStands schema last rows c → ClientStands schema last rows d
edits schema last rows c d e pairs was = record {
  view_stands = subst (λ (x : Stage). ViewStands x schema last d.members d.view) (sym e.stage) (edited_stands c.stage schema last c d e.last e.view was.view_stands);
  pairs = pairs;
}
