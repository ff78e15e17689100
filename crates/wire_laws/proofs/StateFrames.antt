-- A state frame leads a client from its old view to its new one.
use Rattle.std.proofs.Common.{◌≡◌, ℕ, Bool, true, false, not, cond, ◌||◌, List, [], ◌∷◌, length, filter, ◌==◌, Option, Some, None, refl, sym, ap, subst, ◌∙◌}
use Rattle.std.specs.Prelude.{nat_lt}
use Rattle.std.specs.Option.{option_map}
use Rattle.std.proofs.lemmas.Bool.{and_parts, eqb-true, false_from_ne_true}
use Rattle.lists.specs.Rising.{RisesFrom}
use Rattle.lists.proofs.RisingLaws.{RisesFrom-filter, find-filter_passes}
use Rattle.schema_model.specs.Classes.{Schema}
use Rattle.schema_model.specs.declared.place.Home.{Home}
use Rattle.schema_model.specs.declared.place.Pair.{Pair}
use Rattle.state_model.specs.declared.row.Row.{Row}
use Rattle.state_model.specs.declared.row.Row.TheVariants.{Struct, Map, Array, Set}
use Rattle.state_model.specs.declared.row.RowEntry.{RowEntry}
use Rattle.state_model.specs.declared.row.FieldValue.{FieldValue}
use Rattle.state_model.specs.declared.row.MapItem.{MapItem}
use Rattle.state_model.specs.Rows.{number_of, row_at, is_live, held_in, emptied, root_alone}
use Rattle.state_model.specs.Places.{same_kind}
use Rattle.state_model.specs.Reached.{is_among}
use Rattle.state_model.specs.Shown.{permitted, shared, shown_row, shows_item}
use Rattle.state_model.specs.Sound.{are_rows_of, has_root, has_kind, Sound}
use Rattle.state_laws.proofs.Numbers.{live_at, at_live, row_chosen}
use Rattle.state_laws.proofs.ShownRows.{shown_kind, shown_held}
use Rattle.state_laws.proofs.PermittedLaws.{permitted_from, permitted_rises, permitted_reached, no_cycle_within}
use Rattle.state_laws.proofs.SharedWithin.{shared_within}
use Rattle.state_laws.proofs.RowsOf.{rows_rise, rows_fit, rows_links, rows_root, permitted_rows_of}
use Rattle.wire_model.specs.Effect.{apply_edits}
use Rattle.wire_model.specs.Patch.{patch_edits, map_item}
use Rattle.wire_laws.specs.PatchLaw.{SameKeys, Agree, Patchable, outside}
use Rattle.wire_laws.specs.FrameLaw.{view_at, Follows, FrameLeads, FullLeads, TicksLead, JoinedLead, after_moments}
use Rattle.wire_laws.proofs.Forms.{IsFormed}
use Rattle.wire_laws.proofs.FormedRows.{rows_formed}
use Rattle.wire_laws.proofs.KindLaws.{kind_emptied, emptied_of_kind}
use Rattle.wire_laws.proofs.Origins.{Kept, has_key, some_row}
use Rattle.wire_laws.proofs.OriginLaws.{from_held, from_key, has_key_item}
use Rattle.wire_laws.proofs.KeptRows.{kept_rows_of}
use Rattle.wire_laws.proofs.Keeping.{IsGoal, blocks_kept, patch_leads_all, kept_at_first}
use Rattle.wire_laws.proofs.Leads.{patch_leads}
use Rattle.std.proofs.lemmas.Option.{same_Some}
use Rattle.lists.proofs.Numbers.{same_number}
use Rattle.wire_laws.proofs.LinkedRows.{missing_row}

-- ---- two views

-- sound rows are rows of the schema
pub rows_of_sound : (schema : Schema) (rows : List RowEntry) → Sound schema rows → are_rows_of schema rows ≡ true
rows_of_sound schema rows h = (and_parts _ _ h).0

-- the rows of a view are of the kinds of the state's
view_kind : (schema : Schema) (rows : List RowEntry) (M : List Pair) (n : ℕ) (p : Row) → RisesFrom number_of 0 rows → row_at (permitted schema rows M) n ≡ Some p
    → (r : Row) × (row_at rows n ≡ Some r) × (emptied p ≡ emptied r)
view_kind schema rows M n p rises is =
    let from = permitted_from schema rows M n p rises is in
    (from.0, from.1, ap emptied from.2 ∙ shown_kind schema M n from.0)

-- two views of one state have rows of the same kinds
views_kind : (schema : Schema) (rows : List RowEntry) (M N : List Pair) (n : ℕ) (a b : Row) → RisesFrom number_of 0 rows
    → row_at (permitted schema rows M) n ≡ Some a → row_at (permitted schema rows N) n ≡ Some b → emptied a ≡ emptied b
views_kind schema rows M N n a b rises is_a is_b =
    let x = view_kind schema rows M n a rises is_a in
    let y = view_kind schema rows N n b rises is_b in
    x.2 ∙ (ap emptied (same_Some x.0 y.0 (sym x.1 ∙ y.1)) ∙ sym y.2)

-- views of states that agree have rows of the same kinds
pub agreeing_kind : (schema : Schema) (old new : List RowEntry) (M N : List Pair) (n : ℕ) (a b : Row) → RisesFrom number_of 0 old → RisesFrom number_of 0 new → Agree old new
    → row_at (permitted schema old M) n ≡ Some a → row_at (permitted schema new N) n ≡ Some b → emptied a ≡ emptied b
agreeing_kind schema old new M N n a b old_rises new_rises agree is_a is_b =
    let x = view_kind schema old M n a old_rises is_a in
    let y = view_kind schema new N n b new_rises is_b in
    x.2 ∙ (emptied_of_kind x.0 y.0 (agree.kinds n x.0 y.0 x.1 y.1) ∙ sym y.2)

-- ---- keys

-- an item of a shown map is one of the map
shown_item : (schema : Schema) (M : List Pair) (who : ℕ) (r : Row) (home : Home) (items : List MapItem) (j : ℕ) (i : MapItem) → IsFormed schema r
    → shown_row schema M who r ≡ Map home items → map_item items j ≡ Some i → (h : Home) × (all : List MapItem) × (r ≡ Map h all) × (map_item all j ≡ Some i)
shown_item schema M who (Struct class fields) home items j i formed is found = cc
shown_item schema M who (Map h all) home items j i formed is found =
    let passing : filter (λ (x : MapItem). shows_item schema M who h x.value) all ≡ items = cc in
    let at = find-filter_passes (λ (x : MapItem). x.number) 0 (λ (x : MapItem). shows_item schema M who h x.value) all j i formed.0 (ap (λ xs. map_item xs j) passing ∙ found) in
    (h, all, refl, at.0)
shown_item schema M who (Array h values) home items j i formed is found = cc
shown_item schema M who (Set h others) home items j i formed is found = cc

-- an item of a view's map is one of the state's map
view_item : (schema : Schema) (rows : List RowEntry) (M : List Pair) (n : ℕ) (home : Home) (items : List MapItem) (j : ℕ) (i : MapItem) → are_rows_of schema rows ≡ true
    → row_at (permitted schema rows M) n ≡ Some (Map home items) → map_item items j ≡ Some i
    → (h : Home) × (all : List MapItem) × (row_at rows n ≡ Some (Map h all)) × (map_item all j ≡ Some i)
view_item schema rows M n home items j i are is found =
    let from = permitted_from schema rows M n (Map home items) (rows_rise schema rows are) is in
    let item = shown_item schema M n from.0 home items j i (rows_formed schema rows n from.0 are from.1) (sym from.2) found in
    (item.0, item.1, from.1 ∙ ap Some item.2, item.3)

same_map : (h g : Home) (xs ys : List MapItem) → Some (Map h xs) ≡ Some (Map g ys) → xs ≡ ys
same_map h g xs ys e = let f : Map h xs ≡ Map g ys = cc in cc

same_item : (x y : MapItem) → Some x ≡ Some y → x ≡ y
same_item x y h = cc

-- items of two views of one state that have one number have one key
views_key : (schema : Schema) (rows : List RowEntry) (M N : List Pair) (n j : ℕ) (h g : Home) (xs ys : List MapItem) (x y : MapItem) → are_rows_of schema rows ≡ true
    → row_at (permitted schema rows M) n ≡ Some (Map h xs) → row_at (permitted schema rows N) n ≡ Some (Map g ys) → map_item xs j ≡ Some x → map_item ys j ≡ Some y → x.key ≡ y.key
views_key schema rows M N n j h g xs ys x y are is_x is_y at_x at_y =
    let a = view_item schema rows M n h xs j x are is_x at_x in
    let b = view_item schema rows N n g ys j y are is_y at_y in
    let same : a.1 ≡ b.1 = same_map a.0 b.0 a.1 b.1 (sym a.2 ∙ b.2) in
    ap (λ (i : MapItem). i.key) (same_item x y (sym a.3 ∙ (ap (λ all. map_item all j) same ∙ b.3)))

-- and so have those of views of states that agree
pub agreeing_key : (schema : Schema) (old new : List RowEntry) (M N : List Pair) (n j : ℕ) (h g : Home) (xs ys : List MapItem) (x y : MapItem) → are_rows_of schema old ≡ true
    → are_rows_of schema new ≡ true → Agree old new
    → row_at (permitted schema old M) n ≡ Some (Map h xs) → row_at (permitted schema new N) n ≡ Some (Map g ys) → map_item xs j ≡ Some x → map_item ys j ≡ Some y → x.key ≡ y.key
agreeing_key schema old new M N n j h g xs ys x y old_are new_are agree is_x is_y at_x at_y =
    let a = view_item schema old M n h xs j x old_are is_x at_x in
    let b = view_item schema new N n g ys j y new_are is_y at_y in
    agree.keys n (Map a.0 a.1) (Map b.0 b.1) a.2 b.2 j x y a.3 b.3

-- ---- what the shared part leaves of a client's rows

-- the rows that the shared part leaves of the old view, and what is kept of it
abbrev left_by : Schema → List RowEntry → List RowEntry → List Pair → List RowEntry
left_by schema old new M = apply_edits (patch_edits schema (shared schema old) (shared schema new)) (permitted schema old M)

pub is_goal : (schema : Schema) (rows : List RowEntry) → are_rows_of schema rows ≡ true → IsGoal schema rows
is_goal schema rows are = record { formed = λ n b is. rows_formed schema rows n b are is; links = rows_links schema rows are }

left_kept : (schema : Schema) (old new : List RowEntry) (M : List Pair) → are_rows_of schema old ≡ true → are_rows_of schema new ≡ true → Agree old new
    → Kept schema (permitted schema old M) (shared schema new) (left_by schema old new M)
left_kept schema old new M old_are new_are agree =
    let old_rises = rows_rise schema old old_are in
    let new_rises = rows_rise schema new new_are in
    let client = permitted schema old M in
    let goal = shared schema new in
    blocks_kept schema client goal (patch_edits schema (shared schema old) goal) client (is_goal schema goal (permitted_rows_of schema new [] new_are))
    (patch_leads_all schema (shared schema old) goal (permitted_rises schema new [] new_rises)
    (λ n a b is_a is_b. kind_emptied a b (agreeing_kind schema old new [] [] n a b old_rises new_rises agree is_a is_b)))
    (kept_at_first schema client goal (permitted_rises schema old M old_rises) (is_goal schema client (permitted_rows_of schema old M old_are))
    (λ n a b is_a is_b. agreeing_kind schema old new M [] n a b old_rises new_rises agree is_a is_b))

-- the kinds of what is left are those of the new view
left_kind : (schema : Schema) (old new : List RowEntry) (M N : List Pair) (now : List RowEntry) (n : ℕ) (a b : Row) → are_rows_of schema old ≡ true → are_rows_of schema new ≡ true → Agree old new
    → Kept schema (permitted schema old M) (shared schema new) now → row_at now n ≡ Some a → row_at (permitted schema new N) n ≡ Some b → emptied a ≡ emptied b
left_kind schema old new M N now n a b old_are new_are agree k is_a is_b =
    let old_rises = rows_rise schema old old_are in
    let new_rises = rows_rise schema new new_are in
    let go : (c d : Bool) → is_live (permitted schema old M) n ≡ c → is_live (shared schema new) n ≡ d → (c || d) ≡ true → emptied a ≡ emptied b = elim [
      | true ↦ λ d c_is d_is h.
          let x = at_live (permitted schema old M) n c_is in
          k.client_kind n a x.0 is_a x.1 ∙ agreeing_kind schema old new M N n x.0 b old_rises new_rises agree x.1 is_b
      | false ↦ elim [
        | true ↦ λ c_is d_is h.
            let x = at_live (shared schema new) n d_is in
            k.goal_kind n a x.0 is_a x.1 ∙ views_kind schema new [] N n x.0 b new_rises x.1 is_b
        | false ↦ λ c_is d_is h. cc
      ]
    ] in go (is_live (permitted schema old M) n) (is_live (shared schema new) n) refl refl (k.there n (live_at now n a is_a))

-- a map that holds this key under this number, in an option of a row
held_key : (schema : Schema) (rows : List RowEntry) (M : List Pair) (n j : ℕ) (key : List ℕ) → are_rows_of schema rows ≡ true → some_row (has_key j key) (row_at (permitted schema rows M) n) ≡ true
    → (home : Home) × (items : List MapItem) × (i : MapItem) × (row_at (permitted schema rows M) n ≡ Some (Map home items)) × (map_item items j ≡ Some i) × (i.key ≡ key)
held_key schema rows M n j key are h = held_in_row (row_at (permitted schema rows M) n) refl h
  where
    held_in_row : (o : Option Row) → row_at (permitted schema rows M) n ≡ o → some_row (has_key j key) o ≡ true
        → (home : Home) × (items : List MapItem) × (i : MapItem) × (row_at (permitted schema rows M) n ≡ Some (Map home items)) × (map_item items j ≡ Some i) × (i.key ≡ key)
    held_in_row None is g = absurd (cc)
    held_in_row (Some r) is g =
        let k = has_key_item j key r schema (rows_formed schema (permitted schema rows M) n r (permitted_rows_of schema rows M are) is) g in
        (k.0, k.1, k.2, is ∙ ap Some k.3, k.4, k.5)

left_keys : (schema : Schema) (old new : List RowEntry) (M N : List Pair) (now : List RowEntry) (n j : ℕ) (h g : Home) (xs ys : List MapItem) (x y : MapItem)
    → are_rows_of schema old ≡ true → are_rows_of schema new ≡ true → Agree old new → Kept schema (permitted schema old M) (shared schema new) now
    → row_at now n ≡ Some (Map h xs) → row_at (permitted schema new N) n ≡ Some (Map g ys) → map_item xs j ≡ Some x → map_item ys j ≡ Some y → x.key ≡ y.key
left_keys schema old new M N now n j h g xs ys x y old_are new_are agree k is_x is_y at_x at_y =
    let go : (c d : Bool) → some_row (has_key j x.key) (row_at (permitted schema old M) n) ≡ c → some_row (has_key j x.key) (row_at (shared schema new) n) ≡ d → (c || d) ≡ true → x.key ≡ y.key = elim [
      | true ↦ λ d c_is d_is e.
          let o = held_key schema old M n j x.key old_are c_is in
          sym o.5 ∙ agreeing_key schema old new M N n j o.0 g o.1 ys o.2 y old_are new_are agree o.3 is_y o.4 at_y
      | false ↦ elim [
        | true ↦ λ c_is d_is e.
            let o = held_key schema new [] n j x.key new_are d_is in
            sym o.5 ∙ views_key schema new [] N n j o.0 g o.1 ys o.2 y new_are o.3 is_y o.4 at_y
        | false ↦ λ c_is d_is e. cc
      ]
    ] in go (some_row (has_key j x.key) (row_at (permitted schema old M) n)) (some_row (has_key j x.key) (row_at (shared schema new) n)) refl refl
    (from_key (row_at (permitted schema old M) n) (row_at (shared schema new) n) h xs j x (k.origin n (Map h xs) is_x) at_x)

-- what is left agrees with the new view
left_agrees : (schema : Schema) (old new : List RowEntry) (M N : List Pair) (now : List RowEntry) → are_rows_of schema old ≡ true → are_rows_of schema new ≡ true → Agree old new
    → Kept schema (permitted schema old M) (shared schema new) now → Agree now (permitted schema new N)
left_agrees schema old new M N now old_are new_are agree k = record {
  kinds = λ n a b is_a is_b. kind_emptied a b (left_kind schema old new M N now n a b old_are new_are agree k is_a is_b);
  keys = λ n a b is_a is_b. keys_of n a b is_a is_b;
}
  where
    keys_of : (n : ℕ) (a b : Row) → row_at now n ≡ Some a → row_at (permitted schema new N) n ≡ Some b → SameKeys a b
    keys_of n (Map h xs) (Map g ys) is_a is_b = λ j x y at_x at_y. left_keys schema old new M N now n j h g xs ys x y old_are new_are agree k is_a is_b at_x at_y
    keys_of n (Map h xs) (Struct c fs) is_a is_b = tt
    keys_of n (Map h xs) (Array c vs) is_a is_b = tt
    keys_of n (Map h xs) (Set c is) is_a is_b = tt
    keys_of n (Struct d fs) b is_a is_b = tt
    keys_of n (Array d vs) b is_a is_b = tt
    keys_of n (Set d is) b is_a is_b = tt

-- ---- no cycle

only_first : (a b : Bool) → (a || b) ≡ true → b ≡ false → a ≡ true
only_first true b h f = refl
only_first false b h f = cc

-- where the new view lacks a number, what is left of it holds what the old state's row holds
left_holds : (schema : Schema) (old new : List RowEntry) (M N : List Pair) (now : List RowEntry) (n m : ℕ) (a : Row) → RisesFrom number_of 0 old → RisesFrom number_of 0 new
    → Kept schema (permitted schema old M) (shared schema new) now → row_at (outside (permitted schema new N) now) n ≡ Some a → is_among m (held_in a) ≡ true
    → (b : Row) × (row_at old n ≡ Some b) × (is_among m (held_in b) ≡ true)
left_holds schema old new M N now n m a old_rises new_rises k is held =
    let chosen = row_chosen (λ i. not (is_live (permitted schema new N) i)) now n in
    let parts = outside_row (is_live (permitted schema new N) n) (row_at now n) a (sym chosen ∙ is) in
    let unshared : row_at (shared schema new) n ≡ None = missing_row (shared schema new) n (not_shared n parts.0) in
    let holders = from_held (row_at (permitted schema old M) n) (row_at (shared schema new) n) a m (k.origin n a parts.1) held in
    let first = only_first _ _ holders (ap (some_row (λ x. is_among m (held_in x))) unshared) in
    by_client (row_at (permitted schema old M) n) refl first
  where
    outside_row : (live : Bool) (o : Option Row) (a : Row) → cond (not live) o None ≡ Some a → (live ≡ false) × (o ≡ Some a)
    outside_row true o a h = cc
    outside_row false o a h = (refl, h)

    not_shared : (n : ℕ) → is_live (permitted schema new N) n ≡ false → is_live (shared schema new) n ≡ false
    not_shared n gone = false_from_ne_true (is_live (shared schema new) n) (λ live.
        let s = at_live (shared schema new) n live in
        let w = shared_within schema new N n s.0 new_rises s.1 in
        let there = live_at (permitted schema new N) n w.0 w.1 in cc)

    by_client : (o : Option Row) → row_at (permitted schema old M) n ≡ o → some_row (λ x. is_among m (held_in x)) o ≡ true → (b : Row) × (row_at old n ≡ Some b) × (is_among m (held_in b) ≡ true)
    by_client None is h = cc
    by_client (Some p) is h =
        let from = permitted_from schema old M n p old_rises is in
        (from.0, from.1, shown_held schema M n m from.0 (ap (λ x. is_among m (held_in x)) (sym from.2) ∙ h))

-- ---- a frame

-- what the shared part leaves can be patched to the new view
pub left_patchable : (schema : Schema) (old new : List RowEntry) (M N : List Pair) → Follows schema old new → Patchable schema (left_by schema old new M) (permitted schema new N)
left_patchable schema old new M N f =
    let old_are = rows_of_sound schema old f.old_sound in
    let new_are = rows_of_sound schema new f.new_sound in
    let old_rises = rows_rise schema old old_are in
    let new_rises = rows_rise schema new new_are in
    let k = left_kept schema old new M old_are new_are f.agree in
    let now = left_by schema old new M in
    record {
      old_rows = kept_rows_of schema (permitted schema old M) (shared schema new) now (permitted_rows_of schema old M old_are) (permitted_rows_of schema new [] new_are) k;
      new_rows = permitted_rows_of schema new N new_are;
      agree = left_agrees schema old new M N now old_are new_are f.agree k;
      reach = permitted_reached schema new N new_rises (rows_links schema new new_are) (rows_root schema new new_are);
      no_cycle =
          no_cycle_within (outside (permitted schema new N) now) old (RisesFrom-filter number_of 0 (λ (e : RowEntry). not (is_live (permitted schema new N) e.who)) now k.rises) old_rises
          (λ n m a is held. left_holds schema old new M N now n m a old_rises new_rises k is held) f.no_cycle;
    }

-- a state frame leads a client from its old view to its new one
pub frame_leads : FrameLeads
frame_leads schema old new f = patch_leads schema (left_by schema old.rows new.rows old.members) (view_at schema new) (left_patchable schema old.rows new.rows old.members new.members f)

-- ---- ticks

pub ticks_lead : TicksLead
ticks_lead schema first [] follow = refl
ticks_lead schema first (m ∷ ms) follow = ap (after_moments schema m ms) (frame_leads schema first m follow.0) ∙ ticks_lead schema m ms follow.1

-- ---- a full state

-- the row of the root: an instance of the root's class, which is one of the schema's
root_row : (schema : Schema) (new : List RowEntry) → Sound schema new
    → (fields : List FieldValue) × (row_at new 0 ≡ Some (Struct schema.root fields)) × (nat_lt schema.root (length schema.classes) ≡ true)
root_row schema new sound =
    let are = rows_of_sound schema new sound in
    let row = at_live new 0 (rows_root schema new are) in
    let parts = and_parts _ _ (and_parts _ _ are).0 in
    by_row row.0 row.1 (sym (ap (has_root schema) row.1) ∙ parts.1) (rows_fit schema new are 0 row.0 row.1).0
  where
    by_row : (r : Row) → row_at new 0 ≡ Some r → has_root schema (Some r) ≡ true → has_kind schema r ≡ true
        → (fields : List FieldValue) × (row_at new 0 ≡ Some (Struct schema.root fields)) × (nat_lt schema.root (length schema.classes) ≡ true)
    by_row (Struct class fields) is root kind =
        let same : class ≡ schema.root = eqb-true class schema.root root in
        (fields, is ∙ ap (λ c. Some (Struct c fields)) same, ap (λ c. nat_lt c (length schema.classes)) (sym same) ∙ kind)
    by_row (Map home items) is root kind = cc
    by_row (Array home values) is root kind = cc
    by_row (Set home items) is root kind = cc

-- the root alone is sound
root_sound : (schema : Schema) → nat_lt schema.root (length schema.classes) ≡ true → Sound schema (root_alone schema)
root_sound schema small = rw (same_number schema.root, small) refl

-- the root alone is a state, which any sound state may follow
pub root_follows : (schema : Schema) (new : List RowEntry) → Sound schema new → Follows schema (root_alone schema) new
root_follows schema new sound =
    let root = root_row schema new sound in
    record {
      old_sound = root_sound schema root.2;
      new_sound = sound;
      no_cycle = refl;
      agree = record { kinds = λ n a b is_a is_b. kinds root.0 root.1 n a b is_a is_b; keys = λ n a b is_a is_b. keys n a b is_a };
    }
  where
    alone : (n : ℕ) (a : Row) → row_at (root_alone schema) n ≡ Some a → (0 ≡ n) × (a ≡ Struct schema.root [])
    alone n a is =
        let go : (b : Bool) → (0 == n) ≡ b → option_map (λ (e : RowEntry). e.row) (cond b (Some (record { who = 0; row = Struct schema.root [] })) None) ≡ Some a
        → (0 ≡ n) × (a ≡ Struct schema.root []) = elim [ true ↦ λ t h. (eqb-true 0 n t, same_Some a (Struct schema.root []) (sym h)) | false ↦ λ t h. absurd (cc) ] in
        go (0 == n) refl is

    kinds : (fields : List FieldValue) → row_at new 0 ≡ Some (Struct schema.root fields) → (n : ℕ) (a b : Row) → row_at (root_alone schema) n ≡ Some a → row_at new n ≡ Some b → same_kind a b ≡ true
    kinds fields root n a b is_a is_b =
        let one = alone n a is_a in
        let same : b ≡ Struct schema.root fields = same_Some b (Struct schema.root fields) (sym is_b ∙ (ap (row_at new) (sym one.0) ∙ root)) in
        ap (λ x. same_kind x b) one.1 ∙ (ap (same_kind (Struct schema.root [])) same ∙ same_number schema.root)

    keys : (n : ℕ) (a b : Row) → row_at (root_alone schema) n ≡ Some a → SameKeys a b
    keys n a b is_a = subst (λ x. SameKeys x b) (sym (alone n a is_a).1) tt

pub full_leads : FullLeads
full_leads schema new sound = frame_leads schema (record { rows = root_alone schema; members = [] }) new (root_follows schema new.rows sound)

pub joined_lead : JoinedLead
joined_lead schema first ms sound follow = ap (after_moments schema first ms) (full_leads schema first sound) ∙ ticks_lead schema first ms follow
