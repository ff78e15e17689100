-- The operations on a filtered array: links go by reference, and new ones come last.
use Rattle.std.proofs.Common.{◌≡◌, ℕ, Bool, true, false, not, ◌||◌, List, [], ◌∷◌, ◌++◌, map, filter, Option, Some, None, refl, sym, ap, ◌∙◌, append_assoc, arith}
use Rattle.std.specs.List.{fold, flat_map, list_any, list_all}
use Rattle.std.proofs.lemmas.List.{append-nil}
use Rattle.std.proofs.lemmas.List.Sums.{fold-append}
use Rattle.std.proofs.lemmas.Bool.Decides.{nat_tests}
use Rattle.lists.proofs.Passing.{list_all_filtered}
use Rattle.schema_model.specs.Classes.{Schema}
use Rattle.schema_model.specs.declared.value.Value.{Value}
use Rattle.schema_model.specs.declared.value.Value.TheVariants.{Whole, Str, Truth, Link}
use Rattle.schema_model.specs.declared.place.Home.{Home}
use Rattle.state_model.specs.declared.row.Row.TheVariants.{Array}
use Rattle.state_model.specs.declared.row.RowEntry.{RowEntry}
use Rattle.state_model.specs.Values.{same_value, is_link}
use Rattle.state_model.specs.Sound.{differ}
use Rattle.wire_model.specs.Edits.{Edit, Clear}
use Rattle.wire_model.specs.Effect.{Slots, effect, closed, closed_slots, has_link, push_link, drop_link}
use Rattle.wire_model.specs.Patch.{stands_in, kept_of, gone_of, same_values, drop_edit, push_edit, ref_edits}
use Rattle.state_laws.proofs.SameValues.{same_is, same_value_sym}
use Rattle.state_laws.proofs.FittingRows.{differ_filtered}
use Rattle.wire_laws.proofs.Values.{same_values_is}
use Rattle.wire_laws.proofs.SlotRuns.{closed_slots-append, closed_slots-map}
use Rattle.wire_laws.proofs.LinkLists.{filter-filter, filter_keeps, filter_all, differ_apart, without_gone}

-- ---- one operation

-- a slot has the link where it stands among the closed ones
list_any-has_link : (n : ℕ) (slots : List (Option Value)) → list_any (has_link n) slots ≡ stands_in (closed_slots slots) (Link n)
list_any-has_link n [] = refl
list_any-has_link n (None ∷ slots) = list_any-has_link n slots
list_any-has_link n (Some v ∷ slots) = ap (λ b. same_value (Link n) v || b) (list_any-has_link n slots)

-- a link that isn't there goes last
push_last : (v : Value) (slots : List (Option Value)) → is_link v ≡ true → stands_in (closed_slots slots) v ≡ false → closed_slots (push_link v slots) ≡ closed_slots slots ++ v ∷ []
push_last (Link n) slots l h = rw (list_any-has_link n slots ∙ h) (closed_slots-append slots (Some (Link n) ∷ []))
push_last (Whole a) slots l h = cc
push_last (Str a) slots l h = cc
push_last (Truth a) slots l h = cc

-- of links that differ the one that is dropped goes
drop_filters : (n : ℕ) (slots : List (Option Value)) → differ (closed_slots slots) ≡ true → closed_slots (drop_link n slots) ≡ filter (λ v. not (same_value (Link n) v)) (closed_slots slots)
drop_filters n [] d = refl
drop_filters n (None ∷ slots) d = drop_filters n slots d
drop_filters n (Some v ∷ slots) d =
    let others : differ (closed_slots slots) ≡ true = grind (arith, nat_tests) in
    let apart : list_any (same_value v) (closed_slots slots) ≡ false = grind (arith, nat_tests) in
    let go : (b : Bool) → same_value (Link n) v ≡ b → closed_slots (drop_link n (Some v ∷ slots)) ≡ filter (λ w. not (same_value (Link n) w)) (v ∷ closed_slots slots) = elim [
      | true ↦ λ t.
          let none : list_any (same_value (Link n)) (closed_slots slots) ≡ false = rw (same_is (Link n) v t) apart in
          rw t (sym (filter_keeps (same_value (Link n)) (closed_slots slots) none))
      | false ↦ λ f. rw f (ap (λ vs. v ∷ vs) (drop_filters n slots others))
    ] in
    go (same_value (Link n) v) refl

-- ---- many operations

module _ (home declared : Home) (schema : Schema) (rows : List RowEntry) where
  -- operations lead from slots to slots that close to these values
  abbrev Closes : List (Option Value) → List Edit → List Value → Type 0
  Closes slots edits vs = (last : List (Option Value)) × (fold (λ body e. effect e body) (Slots home slots) edits ≡ Slots home last) × (closed_slots last ≡ vs)

  -- operations, and then others
  then_closes : (slots : List (Option Value)) (first second : List Edit) (vs ws : List Value) → Closes slots first vs → ((last : List (Option Value)) → closed_slots last ≡ vs → Closes last second ws) → Closes slots (first ++ second) ws
  then_closes slots first second vs ws a f =
      let b = f a.0 a.2 in
      (b.0, fold-append (λ body e. effect e body) (Slots home slots) first second ∙ ap (λ x. fold (λ body e. effect e body) x second) a.1 ∙ b.1, b.2)

  -- links that aren't there yet come last
  pushes_close : (vs : List Value) (slots : List (Option Value)) → list_all is_link vs ≡ true → differ (closed_slots slots ++ vs) ≡ true → Closes slots (map (push_edit schema rows declared) vs) (closed_slots slots ++ vs)
  pushes_close [] slots l d = (slots, refl, sym (append-nil (closed_slots slots)))
  pushes_close (Whole a ∷ vs) slots l d = cc
  pushes_close (Str a ∷ vs) slots l d = cc
  pushes_close (Truth a ∷ vs) slots l d = cc
  pushes_close (Link n ∷ vs) slots l d =
      let last = push_last (Link n) slots refl (differ_apart (closed_slots slots) (Link n) vs d) in
      let joined : closed_slots (push_link (Link n) slots) ++ vs ≡ closed_slots slots ++ Link n ∷ vs = ap (λ xs. xs ++ vs) last ∙ append_assoc (closed_slots slots) (Link n ∷ []) vs in
      let rest = pushes_close vs (push_link (Link n) slots) l (rw joined d) in
      (rest.0, rest.1, rest.2 ∙ joined)

  -- links that are dropped go
  drops_close : (gs : List Value) (slots : List (Option Value)) → list_all is_link gs ≡ true → differ (closed_slots slots) ≡ true → Closes slots (flat_map drop_edit gs) (filter (λ v. not (stands_in gs v)) (closed_slots slots))
  drops_close [] slots l d = (slots, refl, sym (filter_all (closed_slots slots)))
  drops_close (Whole a ∷ gs) slots l d = cc
  drops_close (Str a ∷ gs) slots l d = cc
  drops_close (Truth a ∷ gs) slots l d = cc
  drops_close (Link n ∷ gs) slots l d =
      let dropped = drop_filters n slots d in
      let rest = drops_close gs (drop_link n slots) l (rw dropped (differ_filtered (λ v. not (same_value (Link n) v)) (closed_slots slots) d)) in (
        rest.0,
        rest.1,
        rest.2 ∙ ap (filter (λ v. not (stands_in gs v))) dropped
            ∙ filter-filter (λ v. not (stands_in gs v)) (λ v. not (same_value (Link n) v)) (λ v. not (stands_in (Link n ∷ gs) v)) (λ v. let e = same_value_sym v (Link n) in grind (arith, nat_tests)) (closed_slots slots),
      )

  -- those that went are dropped and the new ones are pushed
  kept_close : (old new : List Value) → differ old ≡ true → list_all is_link old ≡ true → differ new ≡ true → list_all is_link new ≡ true → new ≡ kept_of new old ++ gone_of old new
      → Closes (map Some old) (flat_map drop_edit (gone_of new old) ++ map (push_edit schema rows declared) (gone_of old new)) new
  kept_close old new d l e k is =
      let base = closed_slots-map old in
      let gone_links : list_all is_link (gone_of new old) ≡ true = list_all_filtered is_link (λ v. not (stands_in new v)) old l in
      let new_links : list_all is_link (gone_of old new) ≡ true = list_all_filtered is_link (λ v. not (stands_in old v)) new k in
      let dropped = drops_close (gone_of new old) (map Some old) gone_links (rw base d) in
      let left : Closes (map Some old) (flat_map drop_edit (gone_of new old)) (kept_of new old) =
      (dropped.0, dropped.1, dropped.2 ∙ ap (filter (λ v. not (stands_in (gone_of new old) v))) base ∙ without_gone new old) in
      then_closes (map Some old) (flat_map drop_edit (gone_of new old)) (map (push_edit schema rows declared) (gone_of old new)) (kept_of new old) new left
      (λ last h.
      let joined : closed_slots last ++ gone_of old new ≡ new = ap (λ vs. vs ++ gone_of old new) h ∙ sym is in
      let pushed = pushes_close (gone_of old new) last new_links (rw joined e) in
      (pushed.0, pushed.1, pushed.2 ∙ joined))

  -- all is pushed anew
  anew_close : (slots : List (Option Value)) (new : List Value) → differ new ≡ true → list_all is_link new ≡ true → Closes slots (Clear ∷ map (push_edit schema rows declared) new) new
  anew_close slots new d l = pushes_close new [] l d

  -- either way, the new links are there in their order
  refs_close : (old new : List Value) → differ old ≡ true → list_all is_link old ≡ true → differ new ≡ true → list_all is_link new ≡ true → (b : Bool) → same_values new (kept_of new old ++ gone_of old new) ≡ b
      → Closes (map Some old) (ref_edits schema rows declared old new) new
  refs_close old new d l e k true t = rw t (kept_close old new d l e k (same_values_is new (kept_of new old ++ gone_of old new) t))
  refs_close old new d l e k false f = rw f (anew_close (map Some old) new e k)

-- the operations by reference lead from the old links of an array to its new ones
pub ref_run : (schema : Schema) (rows : List RowEntry) (home declared : Home) (old new : List Value) → differ old ≡ true → list_all is_link old ≡ true → differ new ≡ true → list_all is_link new ≡ true
    → closed (fold (λ body e. effect e body) (Slots home (map Some old)) (ref_edits schema rows declared old new)) ≡ Array home new
ref_run schema rows home declared old new d l e k =
    let c = refs_close home declared schema rows old new d l e k (same_values new (kept_of new old ++ gone_of old new)) refl in
    ap closed c.1 ∙ ap (Array home) c.2
