-- The places can go of the rows that the blocks of a patch leave of a client's rows, which need not be those that the patch is from.
use Rattle.std.proofs.Common.{◌≡◌, ℕ, suc, ◌≤◌, Bool, true, false, cond, ◌==◌, inl, inr, List, [], ◌∷◌, length, Option, Some, None, refl, sym, ap, subst, ◌∙◌, arith}
use Rattle.std.specs.Prelude.{◌⊎◌}
use Rattle.std.specs.List.{AllByRecursion as Each}
use Rattle.std.specs.Option.{option_map_or}
use Rattle.std.proofs.lemmas.Bool.{and_parts, and_from, eqb-true, ne_eqb}
use Rattle.std.proofs.lemmas.Option.{same_Some}
use Rattle.lists.specs.Rising.{RisesFrom}
use Rattle.schema_model.specs.Classes.{Schema, is_kept}
use Rattle.state_model.specs.declared.row.Row.{Row}
use Rattle.state_model.specs.declared.row.Row.TheVariants.{Struct}
use Rattle.state_model.specs.declared.row.RowEntry.{RowEntry}
use Rattle.state_model.specs.Rows.{number_of, numbers_of, row_at, is_live, emptied}
use Rattle.state_model.specs.Places.{same_kind}
use Rattle.state_model.specs.Reached.{is_among}
use Rattle.state_model.specs.Sound.{are_rows_of}
use Rattle.state_laws.proofs.Numbers.{live_at, at_live}
use Rattle.state_laws.proofs.RowsOf.{rows_rise}
use Rattle.wire_model.specs.Edits.{Edit, EditBlock}
use Rattle.wire_model.specs.Effect.{apply_block, apply_edits, edited_row, with_named, with_edits}
use Rattle.wire_model.specs.Patch.{named_in, named_by_blocks, kind_in, row_edits, whole_edits, block_of, common_block, common_blocks, new_blocks, patch_edits, is_short}
use Rattle.wire_laws.proofs.CommonPhase.{AreAmong, blocks_for, fold-append_blocks}
use Rattle.wire_laws.proofs.EditedForm.{edited_kind}
use Rattle.wire_laws.proofs.FormedRows.{rows_formed}
use Rattle.wire_laws.proofs.Keeping.{named_stands, emptied_twice}
use Rattle.wire_laws.proofs.KindLaws.{kind_of}
use Rattle.wire_laws.proofs.Leads.{among_self}
use Rattle.wire_laws.proofs.LinkedRows.{CarriesKinds, named_rows, row_at-put_row}
use Rattle.wire_laws.proofs.OneBlock.{block_rises}
use Rattle.byte_laws.proofs.SpelledRows.{EachSpelled, has_numbers, has_counts}
use Rattle.byte_laws.proofs.RowFits.{emptied_counts}
use Rattle.byte_laws.proofs.WritableEdits.{edits_writable}
use Rattle.byte_laws.proofs.PatchBlocks.{BlockFits, block_on, whole_block, common_block_fits, new_each}
use Rattle.byte_laws.proofs.KnownBlocks.{edits_carry}
use Rattle.byte_laws.proofs.CountedRows.{edited_numbers}
use Rattle.byte_laws.proofs.ShortArrays.{SameArray, common_short, whole_short}
use Rattle.byte_laws.proofs.SpelledViews.{spelled_short}

-- rows that rise, of the goal's kinds, whose places can go
pub record Counted (schema : Schema) (goal now : List RowEntry) : Type 0 where
  pub rises : RisesFrom number_of 0 now
  pub kinds : (n : ℕ) (r b : Row) → row_at now n ≡ Some r → row_at goal n ≡ Some b → emptied r ≡ emptied b
  pub counts : (n : ℕ) (r : Row) → row_at now n ≡ Some r → has_counts schema r ≡ true

-- ---- one block

-- the rows that a block leaves at other numbers than its holder's are those that naming left
other_row : (b : EditBlock) (now : List RowEntry) (n : ℕ) → (b.holder == n) ≡ false → row_at (apply_block now b) n ≡ row_at (with_named b.edits now) n
other_row b now n apart = by_holder (row_at (with_named b.edits now) b.holder)
  where
    by_holder : (o : Option Row) → row_at (with_edits b (with_named b.edits now) o) n ≡ row_at (with_named b.edits now) n
    by_holder None = refl
    by_holder (Some r) = row_at-put_row b.holder (edited_row b.edits r) (with_named b.edits now) n ∙ ap (λ t. cond t (Some (edited_row b.edits r)) (row_at (with_named b.edits now) n)) apart

-- what stands under a number after a block: what naming left, or the edited row
stands_after : (b : EditBlock) (now : List RowEntry) (n : ℕ) (r : Row) → row_at (apply_block now b) n ≡ Some r
    → (row_at (with_named b.edits now) n ≡ Some r) ⊎ ((b.holder ≡ n) × (x : Row) × (row_at (with_named b.edits now) b.holder ≡ Some x) × (r ≡ edited_row b.edits x))
stands_after b now n r is = by_holder (row_at (with_named b.edits now) b.holder) refl is
  where
    by_holder : (o : Option Row) → row_at (with_named b.edits now) b.holder ≡ o → row_at (with_edits b (with_named b.edits now) o) n ≡ Some r
        → (row_at (with_named b.edits now) n ≡ Some r) ⊎ ((b.holder ≡ n) × (x : Row) × (row_at (with_named b.edits now) b.holder ≡ Some x) × (r ≡ edited_row b.edits x))
    by_holder None held is = inl is
    by_holder (Some x) held is =
        let go : (t : Bool) → (b.holder == n) ≡ t → cond t (Some (edited_row b.edits x)) (row_at (with_named b.edits now) n) ≡ Some r
        → (row_at (with_named b.edits now) n ≡ Some r) ⊎ ((b.holder ≡ n) × (x : Row) × (row_at (with_named b.edits now) b.holder ≡ Some x) × (r ≡ edited_row b.edits x)) = elim [
          | true ↦ λ t h. inr (eqb-true b.holder n t, x, held, sym (same_Some (edited_row b.edits x) r h))
          | false ↦ λ t h. inl h
        ] in go (b.holder == n) refl (sym (row_at-put_row b.holder (edited_row b.edits x) (with_named b.edits now) n) ∙ is)

-- the goal's row of a number without its places has none that can't go
kind_counts : (schema : Schema) (goal : List RowEntry) (n : ℕ) → has_counts schema (kind_in goal n) ≡ true
kind_counts schema goal n = by_row (row_at goal n)
  where
    by_row : (o : Option Row) → has_counts schema (option_map_or emptied o (Struct 0 [])) ≡ true
    by_row None = refl
    by_row (Some b) = emptied_counts schema b

module _ (schema : Schema) (goal : List RowEntry) where
  -- where a block carries the goal's kinds and leaves counts of its holder's row, it leaves counts
  block_counted : (b : EditBlock) (now : List RowEntry) → CarriesKinds goal b.edits → Counted schema goal now
      → ((x : Row) → row_at (with_named b.edits now) b.holder ≡ Some x → has_counts schema x ≡ true → ((g : Row) → row_at goal b.holder ≡ Some g → emptied x ≡ emptied g)
      → has_counts schema (edited_row b.edits x) ≡ true)
      → Counted schema goal (apply_block now b)
  block_counted b now carries c step = record {
    rises = block_rises b now c.rises;
    kinds = λ n r g is goal_is. elim (stands_after b now n r is) [
      | inl h ↦ named_kind n r g h goal_is
      | inr h ↦ ap emptied h.3 ∙ (edited_kind b.edits h.1 ∙ named_kind b.holder h.1 g h.2 (ap (row_at goal) h.0 ∙ goal_is))
    ];
    counts = λ n r is. elim (stands_after b now n r is) [
      | inl h ↦ named_counts n r h
      | inr h ↦ ap (has_counts schema) h.3 ∙ step h.1 h.2 (named_counts b.holder h.1 h.2) (λ g. named_kind b.holder h.1 g h.2)
    ];
  }
    where
      named_kind : (n : ℕ) (r g : Row) → row_at (with_named b.edits now) n ≡ Some r → row_at goal n ≡ Some g → emptied r ≡ emptied g
      named_kind n r g is goal_is = elim (named_stands goal now b.edits n r c.rises carries is) [
        | inl h ↦ c.kinds n r g h goal_is
        | inr h ↦ ap emptied (h.2 ∙ kind_of goal n g goal_is) ∙ emptied_twice g
      ]

      named_counts : (n : ℕ) (r : Row) → row_at (with_named b.edits now) n ≡ Some r → has_counts schema r ≡ true
      named_counts n r is = elim (named_stands goal now b.edits n r c.rises carries is) [
        | inl h ↦ c.counts n r h
        | inr h ↦ ap (has_counts schema) h.2 ∙ kind_counts schema goal n
      ]

  -- blocks that each leave counts leave counts, one behind another
  blocks_counted : (bs : List EditBlock) (now : List RowEntry) → Each (λ b. (now : List RowEntry) → Counted schema goal now → Counted schema goal (apply_block now b)) bs → Counted schema goal now
      → Counted schema goal (apply_edits bs now)
  blocks_counted [] now each c = c
  blocks_counted (b ∷ bs) now each c = blocks_counted bs (apply_block now b) each.1 (each.0 now c)

-- ---- the blocks of a patch

module _ (schema : Schema) (client old goal : List RowEntry) (kept : is_kept schema ≡ true) (rows : are_rows_of schema goal ≡ true) (spelled : EachSpelled goal) where
  -- the operations of a block that fits carry the goal's kinds
  block_carries : (b : EditBlock) → BlockFits schema goal b → CarriesKinds goal b.edits
  block_carries b f = edits_carry schema goal goal (λ n live. refl) (kind_in goal b.holder) b.edits f.edits

  -- they leave numbers that have bytes
  block_numbers : (b : EditBlock) (x : Row) → BlockFits schema goal b → has_counts schema x ≡ true → has_numbers (edited_row b.edits x) ≡ true
  block_numbers b x f h = edited_numbers b.edits x (edits_writable schema goal (kind_in goal b.holder) kept rows b.edits f.edits) (and_parts (is_short schema x) (has_numbers x) h).1

  -- the block of a whole row leaves counts
  whole_counted : (n : ℕ) (b : Row) → row_at goal n ≡ Some b → (now : List RowEntry) → Counted schema goal now → Counted schema goal (apply_block now (block_on n (whole_edits schema goal b)))
  whole_counted n b is now c =
      let f = whole_block schema goal kept rows spelled n b is in
      block_counted schema goal (block_on n (whole_edits schema goal b)) now (block_carries _ f) c
      (λ x named h kinds.
      and_from _ _
      (whole_short schema goal b x (kinds b is) (rows_formed schema goal n b rows is) (spelled_short schema b (spelled n b is).1) (and_parts (is_short schema x) (has_numbers x) h).0)
      (block_numbers (block_on n (whole_edits schema goal b)) x f h))

  module _ (old_rows : are_rows_of schema old ≡ true) (kinds : (n : ℕ) (a b : Row) → row_at old n ≡ Some a → row_at goal n ≡ Some b → same_kind a b ≡ true)
      (old_counts : (n : ℕ) (a : Row) → row_at old n ≡ Some a → has_counts schema a ≡ true)
      (held : (n : ℕ) (a : Row) → row_at old n ≡ Some a → (c : Row) × (row_at client n ≡ Some c) × SameArray schema a c) where
    -- from a number on, the client's rows are as they were
    abbrev Untouched : ℕ → List RowEntry → Type 0
    Untouched low now = (n : ℕ) → low ≤ n → is_live client n ≡ true → row_at now n ≡ row_at client n

    -- naming leaves a client's row that is as it was
    named_same : (es : List Edit) (now : List RowEntry) (n : ℕ) (c : Row) → CarriesKinds goal es → RisesFrom number_of 0 now → row_at now n ≡ row_at client n → row_at client n ≡ Some c
        → row_at (with_named es now) n ≡ row_at client n
    named_same es now n c carries rises same is =
        let live = live_at now n c (same ∙ is) in
        named_rows goal es now n rises carries ∙ (ap (λ t. cond t (row_at now n) (cond (is_among n (named_in es)) (Some (kind_in goal n)) None)) live ∙ same)

    -- the block of a number that both have leaves counts, and the client's rows behind it
    common_counted : (n : ℕ) (a b : Row) (now : List RowEntry) → row_at old n ≡ Some a → row_at goal n ≡ Some b → Counted schema goal now → Untouched n now
        → Counted schema goal (apply_block now (block_on n (row_edits schema goal a b))) × Untouched (suc n) (apply_block now (block_on n (row_edits schema goal a b)))
    common_counted n a b now old_is is c untouched =
        let block = block_on n (row_edits schema goal a b) in
        let f = common_block_fits schema goal kept rows spelled old old_rows kinds old_counts n a b old_is is in
        let carries = block_carries block f in
        let h = held n a old_is in
        let same = untouched n (omega arith) (live_at client n h.0 h.1) in (
          block_counted schema goal block now carries c
              (λ x named counts goal_kinds.
              let own : x ≡ h.0 = same_Some x h.0 (sym named ∙ (named_same block.edits now n h.0 carries c.rises same h.1 ∙ h.1)) in
              and_from _ _
              (common_short schema goal a b x (kinds n a b old_is is) (rows_formed schema old n a old_rows old_is) (rows_formed schema goal n b rows is) (spelled_short schema b (spelled n b is).1)
              (subst (SameArray schema a) (sym own) h.2))
              (block_numbers block x f counts)),
          λ m above live.
              let row = at_live client m live in
              let apart : (n == m) ≡ false = ne_eqb n m (λ e. absurd (omega arith)) in
              other_row block now m apart ∙ named_same block.edits now m row.0 carries c.rises (untouched m (omega arith) live) row.1,
        )

    -- so do the blocks of all of them
    commons_counted : (es : List RowEntry) (low : ℕ) (now : List RowEntry) → RisesFrom number_of low es → AreAmong goal es → Counted schema goal now → Untouched low now
        → Counted schema goal (apply_edits (blocks_for schema old goal es) now)
    commons_counted [] low now rises among c untouched = c
    commons_counted (e ∷ es) low now rises among c untouched =
        let one = by_row (row_at old e.who) refl in
        subst (Counted schema goal) (sym (fold-append_blocks (common_block schema goal e (row_at old e.who)) (blocks_for schema old goal es) now))
        (commons_counted es (suc e.who) (apply_edits (common_block schema goal e (row_at old e.who)) now) rises.1 among.1 one.0 one.1)
      where
        higher : Untouched e.who now
        higher = λ m above. untouched m (omega (arith, rises.0))

        behind : Untouched (suc e.who) now
        behind = λ m above. untouched m (omega (arith, rises.0))

        by_edits : (a : Row) (ds : List Edit) → row_at old e.who ≡ Some a → row_edits schema goal a e.row ≡ ds
            → Counted schema goal (apply_edits (block_of e.who ds) now) × Untouched (suc e.who) (apply_edits (block_of e.who ds) now)
        by_edits a [] is same = (c, behind)
        by_edits a (d ∷ ds) is same =
            subst (λ fs. Counted schema goal (apply_block now (block_on e.who fs)) × Untouched (suc e.who) (apply_block now (block_on e.who fs))) same (common_counted e.who a e.row now is among.0 c higher)

        by_row : (o : Option Row) → row_at old e.who ≡ o → Counted schema goal (apply_edits (common_block schema goal e o) now) × Untouched (suc e.who) (apply_edits (common_block schema goal e o) now)
        by_row None is = (c, behind)
        by_row (Some a) is = by_edits a (row_edits schema goal a e.row) is refl

    -- so does the patch
    pub patch_counted : Counted schema goal client → Counted schema goal (apply_edits (patch_edits schema old goal) client)
    patch_counted c =
        let common = common_blocks schema old goal in
        let rises = rows_rise schema goal rows in
        let first = commons_counted goal 0 client rises (among_self goal 0 rises) c (λ n above live. refl) in
        let news = new_blocks (length goal) schema goal (numbers_of old) (named_by_blocks common) in
        subst (Counted schema goal) (sym (fold-append_blocks common news client))
        (blocks_counted schema goal news (apply_edits common client)
        (new_each schema goal (λ b. (now : List RowEntry) → Counted schema goal now → Counted schema goal (apply_block now b)) whole_counted (length goal) (numbers_of old) (named_by_blocks common)) first)
