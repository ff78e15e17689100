-- The blocks of a patch find their items in a client's rows that have the places of the old ones.
use Rattle.std.proofs.Common.{◌≡◌, ◌≤◌, ℕ, zero, suc, true, List, [], ◌∷◌, ◌++◌, length, Option, Some, None, inl, inr, refl, sym, ap, ◌∙◌, arith}
use Rattle.std.specs.Option.{option_map_or}
use Rattle.std.proofs.lemmas.Bool.Decides.{nat_tests}
use Rattle.std.proofs.lemmas.Option.{same_Some}
use Rattle.lists.specs.Rising.{RisesFrom}
use Rattle.schema_model.specs.Classes.{Schema}
use Rattle.state_model.specs.declared.row.Row.{Row}
use Rattle.state_model.specs.declared.row.RowEntry.{RowEntry}
use Rattle.state_model.specs.Rows.{number_of, numbers_of, row_at}
use Rattle.state_laws.proofs.SharedWithin.{Within}
use Rattle.wire_model.specs.Edits.{Edit, EditBlock}
use Rattle.wire_model.specs.Effect.{opened, apply_block, apply_edits}
use Rattle.wire_model.specs.Patch.{row_edits, whole_edits, block_of, common_block, common_blocks, named_in, named_by_blocks, next_named, new_edits, new_blocks, patch_edits}
use Rattle.wire_laws.specs.PatchLaw.{Agree}
use Rattle.wire_laws.proofs.Forms.{IsFormed}
use Rattle.wire_laws.proofs.CommonPhase.{AreAmong, blocks_for}
use Rattle.wire_laws.proofs.Leads.{among_self}
use Rattle.wire_laws.proofs.Origins.{Kept}
use Rattle.wire_laws.proofs.Keeping.{LeadsTo, IsGoal, carries_of, names_of, named_kept, block_kept, blocks_kept, common_leads, whole_leads}
use Rattle.byte_laws.proofs.Found.{all_found}
use Rattle.byte_laws.proofs.RowsFound.{row_found, whole_found}
use Rattle.byte_laws.proofs.BlocksFound.{block_found, AllFound, AllFound-append, found_in, named_stays, block_stays}

-- the client's rows have the places of the old rows, and are of the kinds of the goal's; the old rows agree with the goal
pub record Prepared (schema : Schema) (old goal client : List RowEntry) : Type 0 where
  pub goal_rises : RisesFrom number_of 0 goal
  pub goal_is : IsGoal schema goal
  pub old_formed : (n : ℕ) (a : Row) → row_at old n ≡ Some a → IsFormed schema a
  pub agree : Agree old goal
  pub kept : Kept schema client goal client
  pub within : (n : ℕ) (a : Row) → row_at old n ≡ Some a → (c : Row) × (row_at client n ≡ Some c) × Within a c

module _ (schema : Schema) (old goal client : List RowEntry) (p : Prepared schema old goal client) where
  -- the client's rows from a number on are as they were
  abbrev Untouched : ℕ → List RowEntry → Type 0
  Untouched low now = (n : ℕ) (c : Row) → low ≤ n → row_at client n ≡ Some c → row_at now n ≡ Some c

  -- ---- the blocks of the numbers that both have

  -- the block of one number leads to the goal's row
  one_leads : (e : RowEntry) (a : Row) (edits : List Edit) → row_at goal e.who ≡ Some e.row → row_at old e.who ≡ Some a → row_edits schema goal a e.row ≡ edits
      → LeadsTo schema goal (record { holder = e.who; edits = edits })
  one_leads e a edits is_new is_old same = record { row = e.row; is_row = is_new; leads = inl (a, p.agree.kinds e.who a e.row is_old is_new, sym same) }

  -- and finds its items, where the client's row is as it was
  one_found : (e : RowEntry) (a : Row) (edits : List Edit) (now : List RowEntry) → row_at goal e.who ≡ Some e.row → row_at old e.who ≡ Some a → row_edits schema goal a e.row ≡ edits
      → Kept schema client goal now → Untouched e.who now → block_found (record { holder = e.who; edits = edits }) now ≡ true
  one_found e a edits now is_new is_old same k untouched =
      let b : EditBlock = record { holder = e.who; edits = edits } in
      let w = p.within e.who a is_old in
      let stays = named_stays goal now edits e.who w.0 k.rises (carries_of schema goal b (one_leads e a edits is_new is_old same)) (untouched e.who w.0 (omega arith) w.1) in
      let found : all_found edits (opened w.0) ≡ true =
      ap (λ es. all_found es (opened w.0)) (sym same)
      ∙ row_found schema goal a e.row w.0 (p.agree.kinds e.who a e.row is_old is_new) (p.old_formed e.who a is_old) (p.goal_is.formed e.who e.row is_new) (p.agree.keys e.who a e.row is_old is_new) w.2 in
      found_in b now (λ r is. ap (λ x. all_found edits (opened x)) (same_Some r w.0 (sym is ∙ stays)) ∙ found)

  -- it leaves the client's rows of greater numbers
  one_leaves : (e : RowEntry) (a : Row) (edits : List Edit) (now : List RowEntry) (low : ℕ) → row_at goal e.who ≡ Some e.row → row_at old e.who ≡ Some a → row_edits schema goal a e.row ≡ edits
      → Kept schema client goal now → low ≤ e.who → Untouched low now → Untouched (suc e.who) (apply_block now (record { holder = e.who; edits = edits }))
  one_leaves e a edits now low is_new is_old same k above untouched = λ n c h is.
      let b : EditBlock = record { holder = e.who; edits = edits } in
      block_stays goal now b n c k.rises (carries_of schema goal b (one_leads e a edits is_new is_old same)) (grind (arith, nat_tests)) (untouched n c (omega arith) is)

  -- the blocks of some of the goal's rows, behind smaller numbers
  abbrev CommonFound : ℕ → List RowEntry → Type 0
  CommonFound low es = (now : List RowEntry) → Kept schema client goal now → Untouched low now → AllFound (blocks_for schema old goal es) now

  -- one number before others
  common_next : (e : RowEntry) (es now : List RowEntry) (low : ℕ) (old_row : Option Row) → CommonFound (suc e.who) es → low ≤ e.who → row_at goal e.who ≡ Some e.row → row_at old e.who ≡ old_row
      → Kept schema client goal now → Untouched low now → AllFound (common_block schema goal e old_row ++ blocks_for schema old goal es) now
  common_next e es now low None law above is_new is_old k untouched = law now k (λ n c h is. untouched n c (omega arith) is)
  common_next e es now low (Some a) law above is_new is_old k untouched = by (row_edits schema goal a e.row) refl
    where
      by : (edits : List Edit) → row_edits schema goal a e.row ≡ edits → AllFound (block_of e.who edits ++ blocks_for schema old goal es) now
      by [] same = law now k (λ n c h is. untouched n c (omega arith) is)
      by (d ∷ ds) same = (
        one_found e a (d ∷ ds) now is_new is_old same k (λ n c h is. untouched n c (omega arith) is),
        law (apply_block now (record { holder = e.who; edits = d ∷ ds })) (block_kept schema client goal now (record { holder = e.who; edits = d ∷ ds }) p.goal_is k (one_leads e a (d ∷ ds) is_new is_old same))
            (one_leaves e a (d ∷ ds) now low is_new is_old same k above untouched),
      )

  -- all of them
  common_found : (es : List RowEntry) (low : ℕ) → RisesFrom number_of low es → AreAmong goal es → CommonFound low es
  common_found [] low rises among now k untouched = tt
  common_found (e ∷ es) low rises among now k untouched = common_next e es now low (row_at old e.who) (common_found es (suc e.who) rises.1 among.1) rises.0 among.0 refl k untouched

  -- ---- the blocks of new rows

  -- the block of a whole row
  whole_block_found : (n : ℕ) (b : Row) (edits : List Edit) (now : List RowEntry) → row_at goal n ≡ Some b → whole_edits schema goal b ≡ edits → Kept schema client goal now → AllFound (block_of n edits) now
  whole_block_found n b [] now is same k = tt
  whole_block_found n b (d ∷ ds) now is same k =
      let block : EditBlock = record { holder = n; edits = d ∷ ds } in
      let l : LeadsTo schema goal block = record { row = b; is_row = is; leads = inr (sym same) } in
      let named = named_kept schema client goal now (d ∷ ds) k (carries_of schema goal block l) (names_of schema goal block p.goal_is l) in
      (found_in block now (λ r at. ap (λ es. all_found es (opened r)) (sym same) ∙ whole_found schema goal b r (p.goal_is.formed n b is) (named.goal_kind n r b at is)), tt)

  -- the block of a number, where the goal has it
  new_block_found : (n : ℕ) (o : Option Row) (now : List RowEntry) → row_at goal n ≡ o → Kept schema client goal now → AllFound (block_of n (option_map_or (whole_edits schema goal) o [])) now
  new_block_found n None now is k = tt
  new_block_found n (Some b) now is k = whole_block_found n b (whole_edits schema goal b) now is refl k

  -- one number before others
  new_next : (fuel : ℕ) (done : List ℕ) (now : List RowEntry)
      → ((done named : List ℕ) (now : List RowEntry) → Kept schema client goal now → AllFound (new_blocks fuel schema goal done named) now) → Kept schema client goal now
      → (o : Option (ℕ × List ℕ)) → AllFound (option_map_or (λ (next : ℕ × List ℕ). block_of next.0 (new_edits schema goal next.0)
      ++ new_blocks fuel schema goal (next.0 ∷ done) (next.1 ++ named_in (new_edits schema goal next.0))) o []) now
  new_next fuel done now law k None = tt
  new_next fuel done now law k (Some next) =
      let edits = new_edits schema goal next.0 in
      AllFound-append (block_of next.0 edits) (new_blocks fuel schema goal (next.0 ∷ done) (next.1 ++ named_in edits)) now (new_block_found next.0 (row_at goal next.0) now refl k)
      (law (next.0 ∷ done) (next.1 ++ named_in edits) (apply_edits (block_of next.0 edits) now)
      (blocks_kept schema client goal (block_of next.0 edits) now p.goal_is (whole_leads schema goal next.0 (row_at goal next.0) refl) k))

  -- all of them
  new_found : (fuel : ℕ) (done named : List ℕ) (now : List RowEntry) → Kept schema client goal now → AllFound (new_blocks fuel schema goal done named) now
  new_found zero done named now k = tt
  new_found (suc fuel) done named now k = new_next fuel done now (new_found fuel) k (next_named done named)

  -- ---- the patch

  -- all blocks of the patch find their items in the client's rows
  pub patch_found : AllFound (patch_edits schema old goal) client
  patch_found =
      let common = common_blocks schema old goal in
      let among = among_self goal 0 p.goal_rises in
      AllFound-append common (new_blocks (length goal) schema goal (numbers_of old) (named_by_blocks common)) client
      (common_found goal 0 p.goal_rises among client p.kept (λ n c h is. is))
      (new_found (length goal) (numbers_of old) (named_by_blocks common) (apply_edits common client)
      (blocks_kept schema client goal common client p.goal_is (common_leads schema old goal goal p.agree.kinds among) p.kept))
