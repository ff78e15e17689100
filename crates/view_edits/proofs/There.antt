-- Pairs of rows that are there: those of a view edit, and what commands and sweeps leave of them.
use Rattle.std.proofs.Common.{◌≡◌, ℕ, Bool, true, not, List, [], ◌∷◌, Option, Ok, refl, ap, ◌∙◌, arith}
use Rattle.std.specs.List.{list_all}
use Rattle.std.proofs.lemmas.Bool.{and_parts, and_from}
use Rattle.std.proofs.lemmas.Bool.Decides.{nat_tests}
use Rattle.std.proofs.lemmas.List.Folds.{list_all-map}
use Rattle.lists.specs.Rising.{put}
use Rattle.lists.proofs.Passing.{list_all-filter, list_all_put, list_all_wider, list_all_filtered}
use Rattle.schema_model.specs.Classes.{Schema}
use Rattle.schema_model.specs.declared.place.Pair.{Pair}
use Rattle.state_model.specs.declared.row.RowEntry.{RowEntry}
use Rattle.state_model.specs.declared.command.Command.{Command}
use Rattle.state_model.specs.Commands.{do_command}
use Rattle.state_model.specs.Members.{Members, pair_rank, with_pairs, rows_through, pairs_behind, live_members}
use Rattle.state_model.specs.Reached.{is_among, reached}
use Rattle.state_model.specs.Rows.{is_live}
use Rattle.state_model.specs.Shown.{is_member}
use Rattle.state_model.specs.Sound.{are_sound}
use Rattle.state_model.specs.State.{State}
use Rattle.state_laws.proofs.Numbers.{live_at, at_live}
use Rattle.command_laws.specs.Kept.{IsKept}
use Rattle.command_laws.proofs.CommandLaws.{command_kinds}
use Rattle.instance_table.proofs.WalkRooms.{reached_there}
use Rattle.view_members.specs.Sets.{with_all, without_all}
use Rattle.view_edits.specs.There.{are_there}

-- ---- lists

-- all numbers pass a test that each of them passes
all_among : (p : ℕ → Bool) (ns : List ℕ) → ((n : ℕ) → is_among n ns ≡ true → p n ≡ true) → list_all p ns ≡ true
all_among p [] each = refl
all_among p (m ∷ ns) each =
    and_from (p m) (list_all p ns) (each m (grind (arith, nat_tests))) (all_among p ns (λ n h. each n (grind (arith, nat_tests))))

-- ---- pairs

-- with more pairs of rows that are there
with_there : (rows : List RowEntry) (pairs more : List Pair) → are_there rows pairs ≡ true → are_there rows more ≡ true → are_there rows (with_pairs pairs more) ≡ true
with_there rows pairs [] h m = h
with_there rows pairs (p ∷ more) h m =
    let here = and_parts (is_live rows p.who) (are_there rows more) m in
    with_there rows (put pair_rank p pairs) more (list_all_put pair_rank (λ (q : Pair). is_live rows q.who) p pairs here.0 h) here.1

module _ (schema : Schema) (rows : List RowEntry) (sound : are_sound schema rows ≡ true) where
  -- the pairs of a view edit are of rows that are there
  pub behind_there : (p : Pair) → is_live rows p.who ≡ true → are_there rows (pairs_behind schema rows p) ≡ true
  behind_there p live =
      let numbers = reached (rows_through schema p.tag rows) p.who in
      let pair = λ (n : ℕ). let q : Pair = record { who = n; tag = p.tag } in q in
      rw live (list_all-map (λ (q : Pair). is_live rows q.who) pair numbers ∙ all_among (is_live rows) numbers (λ n h. reached_there schema rows p.tag p.who n sound live h))

  -- with what is behind such a row the pairs of a view are still of rows that are there
  pub added_there : (p : Pair) (pairs : List Pair) (old new : Members) → is_live rows p.who ≡ true → pairs ≡ pairs_behind schema rows p → new ≡ with_all pairs old → are_there rows old.now ≡ true → are_there rows new.now ≡ true
  added_there p pairs old new live are is h =
      let there : are_there rows pairs ≡ true = ap (are_there rows) are ∙ behind_there p live in
      ap (λ (m : Members). are_there rows m.now) is ∙ with_there rows old.now pairs h there

-- without some pairs
pub removed_there : (rows : List RowEntry) (pairs : List Pair) (old new : Members) → new ≡ without_all pairs old → are_there rows old.now ≡ true → are_there rows new.now ≡ true
removed_there rows pairs old new is h =
    ap (λ (m : Members). are_there rows m.now) is ∙ list_all_filtered (λ (p : Pair). is_live rows p.who) (λ (p : Pair). not (is_member pairs p.who p.tag)) old.now h

-- ---- commands and sweeps

-- pairs of rows that are there are so where these rows stay
pub there_wider : (rows more : List RowEntry) (ps : List Pair) → ((n : ℕ) → is_live rows n ≡ true → is_live more n ≡ true) → are_there rows ps ≡ true → are_there more ps ≡ true
there_wider rows more ps stay h = list_all_wider (λ (p : Pair). is_live rows p.who) (λ (p : Pair). is_live more p.who) ps (λ p s t. stay p.who t) h

-- a command keeps rows that are there
pub command_live : (schema : Schema) (s : State) (c : Command) (t : State) (made : Option ℕ) → IsKept schema s → do_command schema s c ≡ Ok (t, made) → (n : ℕ) → is_live s.rows n ≡ true → is_live t.rows n ≡ true
command_live schema s c t made kept does n h =
    let was = at_live s.rows n h in
    let is = command_kinds schema s c t made kept does n was.0 was.1 in
    live_at t.rows n is.0 is.1

-- and so the pairs of rows that are there
pub command_there : (schema : Schema) (s : State) (c : Command) (t : State) (made : Option ℕ) → IsKept schema s → do_command schema s c ≡ Ok (t, made) → (ps : List Pair) → are_there s.rows ps ≡ true → are_there t.rows ps ≡ true
command_there schema s c t made kept does ps h = there_wider s.rows t.rows ps (command_live schema s c t made kept does) h

-- the pairs that a sweep leaves are of rows that are there
pub live_there : (rows : List RowEntry) (m : Members) → are_there rows (live_members rows m).now ≡ true
live_there rows m = list_all-filter (λ (p : Pair). is_live rows p.who) m.now
