-- What an accepted command is: it makes a row or changes one, and no cause of a refusal holds.
use Rattle.std.proofs.Common.{◌≡◌, ℕ, suc, Bool, true, false, cond, not, ◌&&◌, ◌||◌, List, [], ◌∷◌, length, Option, Some, None, is_none, Ok, refl, sym, ap, subst, ◌∙◌, arith, ◌⊎◌, inl, inr}
use Rattle.std.specs.Prelude.{option_and_then, nat_lt, nat_le}
use Rattle.std.specs.Option.{option_map_or}
use Rattle.std.specs.List.{list_any}
use Rattle.std.proofs.lemmas.Option.{same_Some, cond_some}
use Rattle.std.proofs.lemmas.Bool.{or_parts, not-false}
use Rattle.std.proofs.lemmas.Bool.Decides.{nat_tests}
use Rattle.schema_model.specs.Classes.{Schema, home_of, home_field}
use Rattle.schema_model.specs.declared.class.FieldDecl.{FieldDecl}
use Rattle.schema_model.specs.declared.class.Shape.{Shape}
use Rattle.schema_model.specs.declared.class.Shape.TheVariants as shape
use Rattle.schema_model.specs.declared.place.Home.{Home}
use Rattle.state_model.specs.declared.row.Row.{Row}
use Rattle.state_model.specs.declared.row.Row.TheVariants.{Struct, Map, Array, Set}
use Rattle.state_model.specs.declared.row.RowEntry.{RowEntry}
use Rattle.state_model.specs.declared.command.Command.{Command}
use Rattle.state_model.specs.declared.command.Command.TheVariants.{Make, MakeFor, Put, Unset, PutKey, DelKey, Push, SetAt, DelAt, Add, Del, Clear}
use Rattle.state_model.specs.declared.command.TableFault.{TableFault}
use Rattle.state_model.specs.Values.{held_by}
use Rattle.state_model.specs.Rows.{row_at, is_live, place_count, text_bytes_of, emptied}
use Rattle.state_model.specs.Places.{empty_collection, collection_of, same_kind, row_home}
use Rattle.state_model.specs.Sound.{has_kind}
use Rattle.state_model.specs.State.{State, next_item, rows_limit, places_limit, text_limit, last_number}
use Rattle.state_model.specs.Commands.{adds_place, gives_number, holder_of, value_put, made_row, makes_row, is_no_ref, is_no_field, is_no_item, expected_for, is_wrong_type, is_past_range, is_cycle, is_duplicate, is_long_text, is_long_key, is_present, with_new, with_change, row_for, state_after, number_made, first_cause, causes_over, refusal_of, answer_of, do_command}
use Rattle.state_laws.proofs.Numbers.{at_live}

-- no cause

-- none of these causes hold
abbrev NoneHold : List (Bool × TableFault) → Type 0
NoneHold [] = Unit {0}
NoneHold (c ∷ cs) = (c.0 ≡ false) × NoneHold cs

-- where none of these causes is the first, none hold
none_hold : (cs : List (Bool × TableFault)) → first_cause cs ≡ None → NoneHold cs
none_hold [] h = tt
none_hold (c ∷ cs) h =
    let go : (b : Bool) → c.0 ≡ b → cond b (Some c.1) (first_cause cs) ≡ None → NoneHold (c ∷ cs) = elim [ true ↦ λ t first. cc | false ↦ λ t first. (t, none_hold cs first) ] in
    go c.0 refl h

-- no cause of a refusal holds, over the row that the command changes
pub record IsAccepted (schema : Schema) (s : State) (c : Command) (row : Option Row) : Type 0 where
  pub named : is_no_ref s.rows c ≡ false
  pub declared : is_no_field schema c row ≡ false
  pub there : is_no_item c row ≡ false
  pub typed : is_wrong_type schema s.rows (value_put c) (expected_for schema c row) ≡ false
  pub ranged : is_past_range (value_put c) (expected_for schema c row) ≡ false
  pub apart : is_cycle s.rows (holder_of c) (value_put c) ≡ false
  pub single : is_duplicate schema c row ≡ false
  pub rows_left : (makes_row c && nat_le rows_limit (length s.rows)) ≡ false
  pub places_left : (adds_place c row && nat_le places_limit (place_count s.rows)) ≡ false
  pub text_left : nat_lt text_limit (text_bytes_of (state_after schema s c).rows) ≡ false
  pub short : (is_long_text (value_put c) || is_long_key c) ≡ false
  pub refs_left : (makes_row c && nat_le last_number s.given) ≡ false
  pub numbers_left : (gives_number c row && nat_lt last_number (option_map_or (next_item s) (holder_of c) 0)) ≡ false
  pub absent : is_present c row ≡ false

-- where no cause is the first, the command is accepted
pub accepted : (schema : Schema) (s : State) (c : Command) (row : Option Row) → first_cause (causes_over schema s c row) ≡ None → IsAccepted schema s c row
accepted schema s c row h =
    let none = none_hold (causes_over schema s c row) h in
    let values = none.1.1.1 in
    let limits = values.1.1.1.1 in
    record {
      named = none.0;
      declared = none.1.0;
      there = none.1.1.0;
      typed = values.0;
      ranged = values.1.0;
      apart = values.1.1.0;
      single = values.1.1.1.0;
      rows_left = limits.0;
      places_left = limits.1.0;
      text_left = limits.1.1.0;
      short = limits.1.1.1.0;
      refs_left = limits.1.1.1.1.0;
      numbers_left = limits.1.1.1.1.1.0;
      absent = limits.1.1.1.1.1.1.0;
    }

-- an answer that is a state is so for want of a cause
answered : (f : Option TableFault) (s t : State) (made given : Option ℕ) → answer_of f s made ≡ Ok (t, given) → (f ≡ None) × (t ≡ s) × (given ≡ made)
answered (Some f) s t made given h = cc
answered None s t made given h =
    let both : (s, made) ≡ (t, given) = cc in
    (refl, sym (ap (λ (p : State × Option ℕ). p.0) both), sym (ap (λ (p : State × Option ℕ). p.1) both))

-- rows that are made

-- a row has no places and is of a declared kind
pub record IsNew (schema : Schema) (row : Row) : Type 0 where
  pub kind : has_kind schema row ≡ true
  pub empty : emptied row ≡ row

-- an empty collection of a home is its own kind
collection_kind : (home : Home) (s : Shape) (row : Row) → collection_of home s ≡ Some row → (emptied row ≡ row) × (row_home row ≡ Some home) × (same_kind row row ≡ true)
collection_kind home (shape.One i) row h = cc
collection_kind home (shape.Map i) row h = subst (λ (r : Row). (emptied r ≡ r) × (row_home r ≡ Some home) × (same_kind r r ≡ true)) (same_Some (Map home []) row h) (refl, refl, grind (arith, nat_tests))
collection_kind home (shape.Array i) row h = subst (λ (r : Row). (emptied r ≡ r) × (row_home r ≡ Some home) × (same_kind r r ≡ true)) (same_Some (Array home []) row h) (refl, refl, grind (arith, nat_tests))
collection_kind home (shape.Set i) row h = subst (λ (r : Row). (emptied r ≡ r) × (row_home r ≡ Some home) × (same_kind r r ≡ true)) (same_Some (Set home []) row h) (refl, refl, grind (arith, nat_tests))

-- a row of a home is of a declared kind where it is of the kind of the home's empty collection
home_kind : (schema : Schema) (row : Row) (home : Home) → row_home row ≡ Some home → has_kind schema row ≡ option_map_or (same_kind row) (empty_collection schema home) false
home_kind schema (Struct class fields) home h = cc
home_kind schema (Map own items) home h = ap (λ o. option_map_or (λ k. option_map_or (same_kind (Map own items)) (empty_collection schema k) false) o false) h
home_kind schema (Array own values) home h = ap (λ o. option_map_or (λ k. option_map_or (same_kind (Array own values)) (empty_collection schema k) false) o false) h
home_kind schema (Set own items) home h = ap (λ o. option_map_or (λ k. option_map_or (same_kind (Set own items)) (empty_collection schema k) false) o false) h

-- the empty collection of a home is a new row
collection_new : (schema : Schema) (home : Home) (row : Row) → empty_collection schema home ≡ Some row → IsNew schema row
collection_new schema home row h =
    let own = by_field (home_field schema home) h in
    record {
      kind = home_kind schema row home own.1 ∙ ap (λ o. option_map_or (same_kind row) o false) h ∙ own.2;
      empty = own.0;
    }
  where
    by_field : (o : Option FieldDecl) → option_and_then (λ (f : FieldDecl). collection_of home f.shape) o ≡ Some row → (emptied row ≡ row) × (row_home row ≡ Some home) × (same_kind row row ≡ true)
    by_field None h = cc
    by_field (Some f) h = collection_kind home f.shape row h

-- the row that a command makes is new
pub made_new : (schema : Schema) (c : Command) (row : Row) → made_row schema c ≡ Some row → IsNew schema row
made_new schema (Make class) row h =
    let there = cond_some (nat_lt class (length schema.classes)) (Struct class []) row h in
    subst (λ (r : Row). IsNew schema r) there.1 (record { kind = there.0; empty = refl })
made_new schema (MakeFor home) row h = by_home (home_of schema home.class home.field) h
  where
    by_home : (o : Option Home) → option_and_then (empty_collection schema) o ≡ Some row → IsNew schema row
    by_home None h = cc
    by_home (Some own) h = collection_new schema own row h
made_new schema c row h = cc

-- what a command did

-- a new row is added, and its number told
pub record Makes (schema : Schema) (s t : State) (made : Option ℕ) : Type 0 where
  pub row : Row
  pub new : IsNew schema row
  pub after : t ≡ with_new s (Some row)
  pub number : made ≡ Some (suc s.given)

-- a row that stands is changed
pub record Changes (schema : Schema) (s : State) (c : Command) (t : State) (made : Option ℕ) : Type 0 where
  pub holder : ℕ
  pub row : Row
  pub names : holder_of c ≡ Some holder
  pub stands : row_at s.rows holder ≡ Some row
  pub after : t ≡ with_change s c (Some holder) (Some row)
  pub number : made ≡ None
  pub free : IsAccepted schema s c (Some row)

-- a command that makes a row, of a class or a field that is declared, has that row
makes_some : (schema : Schema) (c : Command) (row : Option Row) → makes_row c ≡ true → is_no_field schema c row ≡ false → is_none (made_row schema c) ≡ false
makes_some schema (Make class) row m h = h
makes_some schema (MakeFor home) row m h = h
makes_some schema c row m h = cc

-- a command that makes none names the row that it changes
names_one : (c : Command) → makes_row c ≡ false → (r : ℕ) × (holder_of c ≡ Some r)
names_one (Make class) h = cc
names_one (MakeFor home) h = cc
names_one (Put r f v) h = (r, refl)
names_one (Unset r f) h = (r, refl)
names_one (PutKey r k v) h = (r, refl)
names_one (DelKey r k) h = (r, refl)
names_one (Push r v) h = (r, refl)
names_one (SetAt r at v) h = (r, refl)
names_one (DelAt r at) h = (r, refl)
names_one (Add r v) h = (r, refl)
names_one (Del r v) h = (r, refl)
names_one (Clear r) h = (r, refl)

-- the first of numbers that are all live is
first_live : (rows : List RowEntry) (n : ℕ) (ns : List ℕ) (r : ℕ) → list_any (λ m. not (is_live rows m)) (n ∷ ns) ≡ false → Some n ≡ Some r → is_live rows r ≡ true
first_live rows n ns r h names =
    ap (is_live rows) (sym (same_Some n r names)) ∙ not-false (is_live rows n) (or_parts (not (is_live rows n)) (list_any (λ m. not (is_live rows m)) ns) h).0

-- the row that a command changes is there
pub holder_live : (rows : List RowEntry) (c : Command) → is_no_ref rows c ≡ false → (r : ℕ) → holder_of c ≡ Some r → is_live rows r ≡ true
holder_live rows (Make class) h r names = cc
holder_live rows (MakeFor home) h r names = cc
holder_live rows (Put n f v) h r names = first_live rows n (held_by v) r h names
holder_live rows (Unset n f) h r names = first_live rows n [] r h names
holder_live rows (PutKey n k v) h r names = first_live rows n (held_by v) r h names
holder_live rows (DelKey n k) h r names = first_live rows n [] r h names
holder_live rows (Push n v) h r names = first_live rows n (held_by v) r h names
holder_live rows (SetAt n at v) h r names = first_live rows n (held_by v) r h names
holder_live rows (DelAt n at) h r names = first_live rows n [] r h names
holder_live rows (Add n v) h r names = first_live rows n (held_by v) r h names
holder_live rows (Del n v) h r names = first_live rows n (held_by v) r h names
holder_live rows (Clear n) h r names = first_live rows n [] r h names

-- a command that has an answer is accepted
pub command_accepted : (schema : Schema) (s : State) (c : Command) (t : State) (made : Option ℕ) → do_command schema s c ≡ Ok (t, made) → IsAccepted schema s c (row_for s.rows c)
command_accepted schema s c t made h = accepted schema s c (row_for s.rows c) (answered (refusal_of schema s c) (state_after schema s c) t (number_made s c) made h).0

-- an accepted command makes a row or changes one
pub outcome : (schema : Schema) (s : State) (c : Command) (t : State) (made : Option ℕ) → do_command schema s c ≡ Ok (t, made) → Makes schema s t made ⊎ Changes schema s c t made
outcome schema s c t made h =
    let told = answered (refusal_of schema s c) (state_after schema s c) t (number_made s c) made h in
    by_test (command_accepted schema s c t made h) told.1 told.2 (makes_row c) refl
  where
    made_one : IsAccepted schema s c (row_for s.rows c) → t ≡ with_new s (made_row schema c) → made ≡ Some (suc s.given) → makes_row c ≡ true → (o : Option Row) → made_row schema c ≡ o → Makes schema s t made
    made_one free after number m None h =
        let some : is_none (made_row schema c) ≡ false = makes_some schema c (row_for s.rows c) m free.declared in
        let no : is_none (made_row schema c) ≡ true = ap is_none h in
        cc
    made_one free after number m (Some row) h = record { row = row; new = made_new schema c row h; after = after ∙ ap (with_new s) h; number = number }

    changed_one : IsAccepted schema s c (row_for s.rows c) → t ≡ with_change s c (holder_of c) (row_for s.rows c) → made ≡ None → (holder : ℕ) → holder_of c ≡ Some holder → Changes schema s c t made
    changed_one free after number holder names =
        let at = at_live s.rows holder (holder_live s.rows c free.named holder names) in
        let over : row_for s.rows c ≡ Some at.0 = ap (option_and_then (row_at s.rows)) names ∙ at.1 in
        record {
          holder = holder;
          row = at.0;
          names = names;
          stands = at.1;
          after = after ∙ ap (λ o. with_change s c o (row_for s.rows c)) names ∙ ap (with_change s c (Some holder)) over;
          number = number;
          free = subst (λ (o : Option Row). IsAccepted schema s c o) over free;
        }

    by_test : IsAccepted schema s c (row_for s.rows c) → t ≡ state_after schema s c → made ≡ number_made s c → (b : Bool) → makes_row c ≡ b → Makes schema s t made ⊎ Changes schema s c t made
    by_test free after number true m =
        inl (made_one free (after ∙ ap (λ b. cond b (with_new s (made_row schema c)) (with_change s c (holder_of c) (row_for s.rows c))) m) (number ∙ ap (λ b. cond b (Some (suc s.given)) None) m) m (made_row schema c) refl)
    by_test free after number false m =
        let holder = names_one c m in
        inr (changed_one free (after ∙ ap (λ b. cond b (with_new s (made_row schema c)) (with_change s c (holder_of c) (row_for s.rows c))) m) (number ∙ ap (λ b. cond b (Some (suc s.given)) None) m) holder.0 holder.1)
