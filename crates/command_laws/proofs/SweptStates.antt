-- A sweep keeps what a state keeps, its rows that are left as they were, and their counts.
use Rattle.std.proofs.Common.{◌≡◌, ℕ, ◌<◌, Bool, true, false, cond, List, [], ◌∷◌, Option, Some, None, is_some, filter, refl, sym, ap, ◌∙◌, arith}
use Rattle.std.specs.Option.{option_map_or}
use Rattle.std.proofs.lemmas.Bool.Decides.{nat_tests}
use Rattle.lists.specs.Rising.{RisesFrom, find}
use Rattle.lists.proofs.RisingLaws.{RisesFrom-filter}
use Rattle.schema_model.specs.Classes.{Schema}
use Rattle.state_model.specs.declared.row.Row.{Row}
use Rattle.state_model.specs.declared.row.RowEntry.{RowEntry}
use Rattle.state_model.specs.Rows.{number_of, row_at, is_live}
use Rattle.state_model.specs.Reached.{freed}
use Rattle.state_model.specs.Sound.{has_root, are_sound}
use Rattle.state_model.specs.State.{State, ItemCount, next_item, swept}
use Rattle.state_model.specs.Commands.{counts_items}
use Rattle.state_laws.proofs.Numbers.{live_row, live_at, at_live, keep_same}
use Rattle.state_laws.proofs.FreedLaw.{freed_rises}
use Rattle.state_laws.proofs.FreedParts.{freed_within, freed_root, freed_link, freed_no_cycle}
use Rattle.command_laws.specs.Kept.{IsKept}
use Rattle.command_laws.proofs.SoundRows.{sound_row, sound_rises, sound_links, sound_root, sound_from, sound_elsewhere}
use Rattle.command_laws.proofs.ItemCounts.{who_of}

-- items that are chosen by their keys are found where they were and are chosen
find_chosen : {E : Type 0} (key : E → ℕ) (keep : ℕ → Bool) (es : List E) (k : ℕ) → find key k (filter (λ e. keep (key e)) es) ≡ cond (keep k) (find key k es) None
find_chosen key keep [] k = grind (arith, nat_tests)
find_chosen key keep (e ∷ es) k = grind (arith, nat_tests, find_chosen key keep es k, keep_same keep (key e) k)

-- what is found among the counts after a sweep
find_swept : (s : State) (n : ℕ) → find who_of n (swept s).counts ≡ cond (is_live (freed s.rows) n) (find who_of n s.counts) None
find_swept s n = find_chosen who_of (is_live (freed s.rows)) s.counts n

-- a row that a sweep leaves was there, as it is
pub sweep_rows : (s : State) (n : ℕ) (r : Row) → RisesFrom number_of 0 s.rows → row_at (swept s).rows n ≡ Some r → row_at s.rows n ≡ Some r
sweep_rows s n r rise h = freed_within s.rows n r rise h

-- the next item number of a row that a sweep leaves is as it was
pub sweep_next : (s : State) (n : ℕ) → is_live (swept s).rows n ≡ true → next_item (swept s) n ≡ next_item s n
sweep_next s n h =
    let count = λ (o : Option ItemCount). option_map_or (λ (c : ItemCount). c.count) o 0 in
    ap count (find_swept s n) ∙ ap (λ b. count (cond b (find who_of n s.counts) None)) h

-- the rows that a sweep leaves of sound rows are sound
freed_sound : (schema : Schema) (rows : List RowEntry) → are_sound schema rows ≡ true → are_sound schema (freed rows) ≡ true
freed_sound schema rows h =
    let rise = sound_rises schema rows h in
    let root = sound_root schema rows h in
    sound_from schema (freed rows) (freed_rises rows rise) (ap (has_root schema) (freed_root rows rise ∙ root.1) ∙ root.2) (λ n r s.
    let was = freed_within rows n r rise s in
    sound_elsewhere schema rows (freed rows) r (λ m t.
    let at = at_live rows m (sound_links schema rows h n m r was t) in
    (at.0, at.0, at.1, freed_link rows n m r at.0 rise s t at.1, refl)) (sound_row schema rows h n r was))

-- a row has a count after a sweep exactly where it is a map or a set that is left
swept_counted : (schema : Schema) (s : State) → IsKept schema s → (n : ℕ) → is_some (find who_of n (swept s).counts) ≡ option_map_or counts_items (row_at (swept s).rows n) false
swept_counted schema s kept n = ap is_some (find_swept s n) ∙ by_row (row_at (freed s.rows) n) refl
  where
    by_row : (o : Option Row) → row_at (freed s.rows) n ≡ o → is_some (cond (is_live (freed s.rows) n) (find who_of n s.counts) None) ≡ option_map_or counts_items (row_at (freed s.rows) n) false
    by_row None e =
        let gone : is_live (freed s.rows) n ≡ false = live_row (freed s.rows) n ∙ ap is_some e in
        ap (λ b. is_some (cond b (find who_of n s.counts) None)) gone ∙ sym (ap (λ o. option_map_or counts_items o false) e)
    by_row (Some r) e =
        let was = freed_within s.rows n r (sound_rises schema s.rows kept.sound) e in
        ap (λ b. is_some (cond b (find who_of n s.counts) None)) (live_at (freed s.rows) n r e) ∙ kept.counted n ∙ ap (λ o. option_map_or counts_items o false) (was ∙ sym e)

-- what a sweep makes of a kept state is kept
pub sweep_keeps : (schema : Schema) (s : State) → IsKept schema s → IsKept schema (swept s)
sweep_keeps schema s kept =
    let rise = sound_rises schema s.rows kept.sound in
    record {
      sound = freed_sound schema s.rows kept.sound;
      acyclic = freed_no_cycle s.rows rise kept.acyclic;
      given = λ n h. let at = at_live (freed s.rows) n h in kept.given n (live_at s.rows n at.0 (freed_within s.rows n at.0 rise at.1));
      counts_rise = RisesFrom-filter who_of 0 (λ (c : ItemCount). is_live (freed s.rows) c.who) s.counts kept.counts_rise;
      counted = swept_counted schema s kept;
      items_given = λ n r at k h.
          let bound : k < next_item s n = kept.items_given n r (freed_within s.rows n r rise at) k h in
          let same : next_item (swept s) n ≡ next_item s n = sweep_next s n (live_at (freed s.rows) n r at) in
          rw same bound;
    }
