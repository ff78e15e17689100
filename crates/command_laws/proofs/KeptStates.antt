-- Every state that commands make keeps what the new one does.
use Rattle.std.proofs.Common.{◌≡◌, ℕ, suc, Bool, true, false, cond, ◌&&◌, ◌==◌, List, [], Option, Some, None, Ok, length, nat_lt, nat_le, refl, sym, ap, subst, arith, inl, inr}
use Rattle.std.specs.List.{list_all}
use Rattle.std.specs.Option.{option_map}
use Rattle.std.proofs.lemmas.Bool.{and_parts}
use Rattle.std.proofs.lemmas.Bool.Decides.{nat_tests}
use Rattle.schema_model.specs.declared.class.Class.{Class}
use Rattle.schema_model.specs.declared.class.FieldDecl.{FieldDecl}
use Rattle.schema_model.specs.Classes.{Schema, Declared, is_kept, parents_earlier, item_in_range, item_of, fields_from}
use Rattle.state_model.specs.declared.row.Row.{Row}
use Rattle.state_model.specs.declared.row.Row.TheVariants.{Struct}
use Rattle.state_model.specs.declared.row.RowEntry.{RowEntry}
use Rattle.state_model.specs.declared.command.Command.{Command}
use Rattle.state_model.specs.Rows.{row_at, root_alone}
use Rattle.state_model.specs.Reached.{is_among}
use Rattle.state_model.specs.State.{State, next_item, new_state}
use Rattle.state_model.specs.Commands.{gives_number, counts_items, do_command}
use Rattle.state_laws.proofs.Numbers.{entry}
use Rattle.command_laws.specs.Kept.{item_numbers, IsKept}
use Rattle.command_laws.proofs.Accepted.{outcome}
use Rattle.command_laws.proofs.SoundRows.{IsSoundRow, sound_from}
use Rattle.command_laws.proofs.PutRows.{put_kept}
use Rattle.command_laws.proofs.NewRows.{new_may}
use Rattle.command_laws.proofs.ChangedRows.{after_row, changed_may}

-- what an accepted command makes of a kept state is kept
pub command_keeps : (schema : Schema) (s : State) (c : Command) (t : State) (made : Option ℕ) → is_kept schema ≡ true → IsKept schema s → do_command schema s c ≡ Ok (t, made) → IsKept schema t
command_keeps schema s c t made limits kept h = elim (outcome schema s c t made h) [
  | inl m ↦ subst (λ (q : State). IsKept schema q) (sym m.after) (put_kept schema s (suc s.given) m.row (suc s.given) (counts_items m.row) 0 kept (new_may schema s m.row kept m.new))
  | inr d ↦ subst (λ (q : State). IsKept schema q) (sym d.after)
      (put_kept schema s d.holder (after_row s c d.holder d.row) s.given (gives_number c (Some d.row)) (suc (next_item s d.holder)) kept (changed_may schema s c d.holder d.row kept d.names d.stands d.free))
]

-- the root class of a schema within its limits is one of its classes
root_declared : (schema : Schema) → is_kept schema ≡ true → nat_lt schema.root (length schema.classes) ≡ true
root_declared schema h =
    let few = nat_le (length schema.classes) 256 in
    let root = nat_lt schema.root (length schema.classes) in
    let early = parents_earlier 0 schema.classes in
    let ranged = list_all (λ (c : Class). list_all (λ (f : FieldDecl). item_in_range (length schema.classes) (item_of f.shape)) c.own) schema.classes in
    let wide = list_all (λ (fs : List Declared). nat_le (length fs) 63) (fields_from [] schema.classes) in
    (and_parts few root (and_parts (few && root) early (and_parts (few && root && early) ranged (and_parts (few && root && early && ranged) wide h).0).0).0).1

root_row : (schema : Schema) (n : ℕ) (r : Row) → row_at (root_alone schema) n ≡ Some r → r ≡ Struct schema.root []
root_row schema n r h = by_test (0 == n) h
  where
    by_test : (b : Bool) → option_map (λ (e : RowEntry). e.row) (cond b (Some (entry 0 (Struct schema.root []))) None) ≡ Some r → r ≡ Struct schema.root []
    by_test true h = cc
    by_test false h = cc

-- the new state is kept
pub new_state_kept : (schema : Schema) → is_kept schema ≡ true → IsKept schema (new_state schema)
new_state_kept schema h = record {
  sound = sound_from schema (root_alone schema) (omega arith, tt) (grind (arith, nat_tests))
      (λ n r at. subst (λ (q : Row). IsSoundRow schema (root_alone schema) q) (sym (root_row schema n r at)) (record { kind = root_declared schema h; fits = refl; differs = refl }));
  acyclic = refl;
  given = λ n t. grind (arith, nat_tests);
  counts_rise = tt;
  counted = λ n. grind (arith, nat_tests);
  items_given = λ n r at k t. let is = root_row schema n r at in let none : is_among k (item_numbers r) ≡ false = ap (λ q. is_among k (item_numbers q)) is in cc;
}
