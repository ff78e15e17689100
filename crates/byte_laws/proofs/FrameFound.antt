-- The operations of a state frame, done one after another to a client's old view, all find their items.
use Rattle.std.proofs.Common.{◌≡◌, ℕ, true, List, [], ◌++◌, Some}
use Rattle.schema_model.specs.Classes.{Schema}
use Rattle.schema_model.specs.declared.place.Pair.{Pair}
use Rattle.state_model.specs.declared.row.Row.{Row}
use Rattle.state_model.specs.declared.row.Row.TheVariants.{Struct, Map, Array, Set}
use Rattle.state_model.specs.declared.row.RowEntry.{RowEntry}
use Rattle.state_model.specs.Rows.{row_at}
use Rattle.state_model.specs.Shown.{permitted, shared}
use Rattle.state_model.specs.Sound.{are_rows_of}
use Rattle.state_laws.proofs.PermittedLaws.{permitted_rises}
use Rattle.state_laws.proofs.RowsOf.{rows_rise, permitted_rows_of}
use Rattle.state_laws.proofs.SharedWithin.{shared_within}
use Rattle.wire_model.specs.Effect.{apply_edits}
use Rattle.wire_model.specs.Patch.{patch_edits}
use Rattle.wire_laws.specs.PatchLaw.{SameKeys, Agree, Patchable}
use Rattle.wire_laws.specs.FrameLaw.{Follows}
use Rattle.wire_laws.proofs.FormedRows.{rows_formed}
use Rattle.wire_laws.proofs.KindLaws.{kind_emptied, emptied_of_kind}
use Rattle.wire_laws.proofs.Keeping.{kept_at_first}
use Rattle.wire_laws.proofs.StateFrames.{rows_of_sound, agreeing_kind, agreeing_key, is_goal, left_patchable}
use Rattle.byte_laws.proofs.RowsFound.{within_self}
use Rattle.byte_laws.proofs.BlocksFound.{AllFound, AllFound-append}
use Rattle.byte_laws.proofs.PatchFound.{Prepared, patch_found}

-- views of states that agree agree
views_agree : (schema : Schema) (old new : List RowEntry) (M N : List Pair) → are_rows_of schema old ≡ true → are_rows_of schema new ≡ true → Agree old new
    → Agree (permitted schema old M) (permitted schema new N)
views_agree schema old new M N old_are new_are agree = record {
  kinds = λ n a b is_a is_b. kind_emptied a b (agreeing_kind schema old new M N n a b (rows_rise schema old old_are) (rows_rise schema new new_are) agree is_a is_b);
  keys = λ n a b is_a is_b. keys_of n a b is_a is_b;
}
  where
    keys_of : (n : ℕ) (a b : Row) → row_at (permitted schema old M) n ≡ Some a → row_at (permitted schema new N) n ≡ Some b → SameKeys a b
    keys_of n (Map h xs) (Map g ys) is_a is_b = λ j x y at_x at_y. agreeing_key schema old new M N n j h g xs ys x y old_are new_are agree is_a is_b at_x at_y
    keys_of n (Map h xs) (Struct c fs) is_a is_b = tt
    keys_of n (Map h xs) (Array c vs) is_a is_b = tt
    keys_of n (Map h xs) (Set c is) is_a is_b = tt
    keys_of n (Struct d fs) b is_a is_b = tt
    keys_of n (Array d vs) b is_a is_b = tt
    keys_of n (Set d is) b is_a is_b = tt

-- the shared part is prepared: a client's old view has the places of the old shared rows
shared_prepared : (schema : Schema) (old new : List RowEntry) (M : List Pair) → Follows schema old new → Prepared schema (shared schema old) (shared schema new) (permitted schema old M)
shared_prepared schema old new M f =
    let old_are = rows_of_sound schema old f.old_sound in
    let new_are = rows_of_sound schema new f.new_sound in
    let old_rises = rows_rise schema old old_are in
    let new_rises = rows_rise schema new new_are in
    record {
      goal_rises = permitted_rises schema new [] new_rises;
      goal_is = is_goal schema (shared schema new) (permitted_rows_of schema new [] new_are);
      old_formed = λ n a is. rows_formed schema (shared schema old) n a (permitted_rows_of schema old [] old_are) is;
      agree = views_agree schema old new [] [] old_are new_are f.agree;
      kept =
          kept_at_first schema (permitted schema old M) (shared schema new) (permitted_rises schema old M old_rises) (is_goal schema (permitted schema old M) (permitted_rows_of schema old M old_are))
          (λ n a b is_a is_b. agreeing_kind schema old new M [] n a b old_rises new_rises f.agree is_a is_b);
      within = λ n a is. let w = shared_within schema old M n a old_rises is in (w.0, w.1, w.3);
    }

-- rows that can be patched are prepared for the patch from themselves
patch_prepared : (schema : Schema) (old new : List RowEntry) → Patchable schema old new → Prepared schema old new old
patch_prepared schema old new p = record {
  goal_rises = rows_rise schema new p.new_rows;
  goal_is = is_goal schema new p.new_rows;
  old_formed = λ n a is. rows_formed schema old n a p.old_rows is;
  agree = p.agree;
  kept = kept_at_first schema old new (rows_rise schema old p.old_rows) (is_goal schema old p.old_rows) (λ n a b is_a is_b. emptied_of_kind a b (p.agree.kinds n a b is_a is_b));
  within = λ n a is. (a, is, within_self a);
}

-- the shared part and then the view part find their items
pub frame_found : (schema : Schema) (old new : List RowEntry) (M N : List Pair) → Follows schema old new
    → (let part = patch_edits schema (shared schema old) (shared schema new) in AllFound (part ++ patch_edits schema (apply_edits part (permitted schema old M)) (permitted schema new N)) (permitted schema old M))
frame_found schema old new M N f =
    let part = patch_edits schema (shared schema old) (shared schema new) in
    let client = permitted schema old M in
    let left = apply_edits part client in
    AllFound-append part (patch_edits schema left (permitted schema new N)) client
    (patch_found schema (shared schema old) (shared schema new) client (shared_prepared schema old new M f))
    (patch_found schema left (permitted schema new N) left (patch_prepared schema left (permitted schema new N) (left_patchable schema old new M N f)))
