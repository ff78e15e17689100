-- What the blocks of a patch mean again after they were told: each holder and each link is known when its turn comes.
use Rattle.std.proofs.Common.{◌≡◌, ℕ, zero, suc, Bool, true, false, cond, ◌||◌, ◌==◌, inl, inr, List, [], ◌∷◌, ◌++◌, length, map, Option, Some, None, refl, sym, ap, subst, ◌∙◌, arith}
use Rattle.std.specs.Option.{option_map_or}
use Rattle.std.proofs.lemmas.Bool.Decides.{nat_tests}
use Rattle.std.proofs.lemmas.Bool.{or_left, or_right}
use Rattle.lists.proofs.Tests.{or_wider}
use Rattle.schema_model.specs.Classes.{Schema}
use Rattle.state_model.specs.declared.row.Row.{Row}
use Rattle.state_model.specs.declared.row.Row.TheVariants.{Struct}
use Rattle.state_model.specs.declared.row.RowEntry.{RowEntry}
use Rattle.state_model.specs.Rows.{numbers_of, row_at, is_live, emptied, kinds_of}
use Rattle.state_model.specs.Reached.{is_among, freed}
use Rattle.state_model.specs.Sound.{are_rows_of}
use Rattle.state_laws.proofs.Numbers.{at_live, live_at, among_both}
use Rattle.state_laws.proofs.RowsOf.{rows_rise, rows_fit}
use Rattle.wire_model.specs.Edits.{Edit, EditBlock, encoded, encoded_blocks}
use Rattle.wire_model.specs.Effect.{apply_edits}
use Rattle.wire_model.specs.Grammar.{known_after}
use Rattle.wire_model.specs.Patch.{named_in, named_by_blocks, block_of, common_block, common_blocks, next_named, new_edits, new_blocks, row_edits, patch_edits}
use Rattle.wire_model.specs.Resolved.{holder_kind, resolved_ops, known_behind, resolved_blocks, applied}
use Rattle.wire_laws.specs.PatchLaw.{Patchable}
use Rattle.wire_laws.proofs.Bools.{or-none, or_moved}
use Rattle.wire_laws.proofs.LinkedRows.{CarriesKinds}
use Rattle.wire_laws.proofs.CommonPhase.{blocks_for, named_block}
use Rattle.wire_laws.proofs.Keeping.{LeadsTo, AllLead, patch_leads_all, carries_of}
use Rattle.wire_laws.proofs.Leads.{patch_leads}
use Rattle.wire_laws.proofs.EncodedValues.{Knows}
use Rattle.wire_laws.proofs.EncodedKnown.{known_with, knows_first, is_live-kinds_of, knows_after, knows_behind, lives_behind}
use Rattle.wire_laws.proofs.EncodedEdits.{EditsMean, row_means, whole_means}
use Rattle.wire_laws.proofs.KindLaws.{kind_of}

-- ---- the operations of a block

-- operations that mean again what they were do so one behind another
pub ops_mean : (schema : Schema) (new : List RowEntry) (holder : Row) (es : List Edit) (known : List RowEntry) → Knows new known → CarriesKinds new es → EditsMean schema new holder es
    → (resolved_ops schema holder known (map encoded es) ≡ es) × (known_behind schema holder known (map encoded es) ≡ known_with es known)
ops_mean schema new holder [] known k c m = (refl, refl)
ops_mean schema new holder (e ∷ es) known k c m =
    let here = m.0 known k in
    let rest = ops_mean schema new holder es (known_after e known) (knows_after new e known c.0 k) c.1 m.1 in (
      ap (λ x. x ∷ resolved_ops schema holder (known_after x known) (map encoded es)) here ∙ ap (λ xs. e ∷ xs) rest.0,
      ap (λ x. known_behind schema holder (known_after x known) (map encoded es)) here ∙ rest.1,
    )

-- the operations that lead to a holder's row mean again what they were
block_means : (schema : Schema) (new : List RowEntry) (b : EditBlock) → are_rows_of schema new ≡ true → (l : LeadsTo schema new b) → EditsMean schema new (emptied l.row) b.edits
block_means schema new b rows l =
    let fit = (rows_fit schema new rows b.holder l.row l.is_row).1 in
    elim l.leads [
      | inl h ↦ subst (EditsMean schema new (emptied l.row)) (sym h.2) (row_means schema new h.0 l.row rows fit)
      | inr h ↦ subst (EditsMean schema new (emptied l.row)) (sym h) (whole_means schema new l.row rows fit)
    ]

-- a known holder is known as its new row without its places
holder_known : (new known : List RowEntry) (n : ℕ) (r : Row) → Knows new known → is_live known n ≡ true → row_at new n ≡ Some r → holder_kind known n ≡ emptied r
holder_known new known n r k live is =
    let row = at_live known n live in
    ap (λ o. option_map_or (λ r. r) o (Struct 0 [])) row.1 ∙ (k.kinds n row.0 row.1 (live_at new n r is) ∙ kind_of new n r is)

-- ---- blocks

-- each holder is among the numbers, or a block before its own names it
abbrev pub Follows : (ℕ → Bool) → List EditBlock → Type 0
Follows there [] = Unit {0}
Follows there (b ∷ bs) = (there b.holder ≡ true) × Follows (λ n. there n || is_among n (named_in b.edits)) bs

-- the numbers may be more
follows_wider : (bs : List EditBlock) (there more : ℕ → Bool) → ((n : ℕ) → there n ≡ true → more n ≡ true) → Follows there bs → Follows more bs
follows_wider [] there more w f = tt
follows_wider (b ∷ bs) there more w f =
    (w b.holder f.0, follows_wider bs (λ n. there n || is_among n (named_in b.edits)) (λ n. more n || is_among n (named_in b.edits)) (λ n. or_wider (there n) (more n) (is_among n (named_in b.edits)) (w n)) f.1)

-- blocks behind others may have the holders that those name
Follows-append : (prefix back : List EditBlock) (there : ℕ → Bool) → Follows there prefix → Follows (λ n. there n || is_among n (named_by_blocks prefix)) back → Follows there (prefix ++ back)
Follows-append [] back there f g = follows_wider back (λ n. there n || false) there (λ n h. or-none (there n) ∙ h) g
Follows-append (a ∷ prefix) back there f g = (
  f.0,
  Follows-append prefix back (λ n. there n || is_among n (named_in a.edits)) f.1
      (follows_wider back (λ n. there n || is_among n (named_in a.edits ++ named_by_blocks prefix)) (λ n. (there n || is_among n (named_in a.edits)) || is_among n (named_by_blocks prefix))
      (λ n h. or_moved (there n) (is_among n (named_in a.edits)) (is_among n (named_by_blocks prefix)) ∙ (ap (λ b. there n || b) (sym (among_both (named_in a.edits) (named_by_blocks prefix) n)) ∙ h)) g),
)

-- blocks that lead to new rows mean again what they were, where each holder is known or named before
pub blocks_mean : (schema : Schema) (new : List RowEntry) (bs : List EditBlock) (known : List RowEntry) (there : ℕ → Bool) → are_rows_of schema new ≡ true → Knows new known
    → ((n : ℕ) → there n ≡ true → is_live known n ≡ true) → Follows there bs → AllLead schema new bs → resolved_blocks schema known (encoded_blocks bs) ≡ bs
blocks_mean schema new [] known there rows k lives f l = refl
blocks_mean schema new (b ∷ bs) known there rows k lives f l =
    let kind = holder_known new known b.holder l.0.row k (lives b.holder f.0) l.0.is_row in
    let carries = carries_of schema new b l.0 in
    let ops = ops_mean schema new (emptied l.0.row) b.edits known k carries (block_means schema new b rows l.0) in
    let edits = ap (λ h. resolved_ops schema h known (map encoded b.edits)) kind ∙ ops.0 in
    let behind = ap (λ h. known_behind schema h known (map encoded b.edits)) kind ∙ ops.1 in
    let rest = blocks_mean schema new bs (known_with b.edits known) (λ n. there n || is_among n (named_in b.edits)) rows (knows_behind new b.edits known carries k)
    (λ n h. lives_behind b.edits known n ∙ or_wider (there n) (is_live known n) (is_among n (named_in b.edits)) (lives n) h) f.1 l.1 in
    ap (λ es. let x : EditBlock = record { holder = b.holder; edits = es } in x ∷ resolved_blocks schema (known_behind schema (holder_kind known b.holder) known (map encoded b.edits)) (encoded_blocks bs)) edits
    ∙ (ap (λ rows. b ∷ resolved_blocks schema rows (encoded_blocks bs)) behind ∙ ap (λ xs. b ∷ xs) rest)

-- ---- the blocks of a patch

-- the block of one of the numbers
follows_one : (n : ℕ) (es : List Edit) (there : ℕ → Bool) → there n ≡ true → Follows there (block_of n es)
follows_one n [] there h = tt
follows_one n (e ∷ es) there h = (h, tt)

-- the holders of the blocks of common numbers are old
follows_common : (schema : Schema) (old new es : List RowEntry) (there : ℕ → Bool) → ((n : ℕ) → is_live old n ≡ true → there n ≡ true) → Follows there (blocks_for schema old new es)
follows_common schema old new [] there h = tt
follows_common schema old new (e ∷ es) there h =
    let block = common_block schema new e (row_at old e.who) in
    Follows-append block (blocks_for schema old new es) there (one (row_at old e.who) refl)
    (follows_common schema old new es (λ n. there n || is_among n (named_by_blocks block)) (λ n live. or_left (there n) (is_among n (named_by_blocks block)) (h n live)))
  where
    one : (o : Option Row) → row_at old e.who ≡ o → Follows there (common_block schema new e o)
    one None is = tt
    one (Some a) is = follows_one e.who (row_edits schema new a e.row) there (h e.who (live_at old e.who a is))

-- the next number is one of those named, and so is each behind it
next_within : (done named : List ℕ) (p : ℕ × List ℕ) → next_named done named ≡ Some p → (is_among p.0 named ≡ true) × ((n : ℕ) → is_among n p.1 ≡ true → is_among n named ≡ true)
next_within done [] p h = cc
next_within done (m ∷ ms) p h =
    let go : (b : Bool) → cond b (next_named done ms) (Some (m, ms)) ≡ Some p → (is_among p.0 (m ∷ ms) ≡ true) × ((n : ℕ) → is_among n p.1 ≡ true → is_among n (m ∷ ms) ≡ true) = elim [
      | true ↦ λ t. let rest = next_within done ms p t in (or_right (m == p.0) (is_among p.0 ms) rest.0, λ n g. or_right (m == n) (is_among n ms) (rest.1 n g))
      | false ↦ λ t.
          let first : m ≡ p.0 = ap (λ (o : Option (ℕ × List ℕ)). option_map_or (λ (q : ℕ × List ℕ). q.0) o 0) t in
          let behind : ms ≡ p.1 = ap (λ (o : Option (ℕ × List ℕ)). option_map_or (λ (q : ℕ × List ℕ). q.1) o []) t in
          (or_left (m == p.0) (is_among p.0 ms) (grind (arith, nat_tests)), λ n g. or_right (m == n) (is_among n ms) (ap (is_among n) behind ∙ g))
    ] in go (is_among m done) h

-- the holders of new rows are named before
follows_next : (schema : Schema) (new : List RowEntry) (fuel : ℕ) (done named : List ℕ) (there : ℕ → Bool)
    → ((done named : List ℕ) (there : ℕ → Bool) → ((n : ℕ) → is_among n named ≡ true → there n ≡ true) → Follows there (new_blocks fuel schema new done named))
    → ((n : ℕ) → is_among n named ≡ true → there n ≡ true) → (o : Option (ℕ × List ℕ)) → next_named done named ≡ o
    → Follows there (option_map_or (λ (next : ℕ × List ℕ). block_of next.0 (new_edits schema new next.0)
    ++ new_blocks fuel schema new (next.0 ∷ done) (next.1 ++ named_in (new_edits schema new next.0))) o [])
follows_next schema new fuel done named there law h None is = tt
follows_next schema new fuel done named there law h (Some p) is =
    let within = next_within done named p is in
    let es = new_edits schema new p.0 in
    Follows-append (block_of p.0 es) (new_blocks fuel schema new (p.0 ∷ done) (p.1 ++ named_in es)) there (follows_one p.0 es there (h p.0 within.0))
    (law (p.0 ∷ done) (p.1 ++ named_in es) (λ n. there n || is_among n (named_by_blocks (block_of p.0 es)))
    (λ n g. ap (λ ns. there n || is_among n ns) (named_block p.0 es) ∙ or_wider (is_among n p.1) (there n) (is_among n (named_in es)) (λ e. h n (within.1 n e)) (sym (among_both p.1 (named_in es) n) ∙ g)))

-- so with so many new rows
follows_new : (schema : Schema) (new : List RowEntry) (fuel : ℕ) (done named : List ℕ) (there : ℕ → Bool) → ((n : ℕ) → is_among n named ≡ true → there n ≡ true)
    → Follows there (new_blocks fuel schema new done named)
follows_new schema new zero done named there h = tt
follows_new schema new (suc fuel) done named there h = follows_next schema new fuel done named there (follows_new schema new fuel) h (next_named done named) refl

-- in a patch each holder is old or named before
pub follows_patch : (schema : Schema) (old new : List RowEntry) → Follows (is_live old) (patch_edits schema old new)
follows_patch schema old new =
    let common = common_blocks schema old new in
    Follows-append common (new_blocks (length new) schema new (numbers_of old) (named_by_blocks common)) (is_live old) (follows_common schema old new new (is_live old) (λ n h. h))
    (follows_new schema new (length new) (numbers_of old) (named_by_blocks common) (λ n. is_live old n || is_among n (named_by_blocks common))
    (λ n h. or_right (is_live old n) (is_among n (named_by_blocks common)) h))

-- ---- the patch

-- what the operations of a patch tell means again what the patch had
pub encoded_blocks_mean : (schema : Schema) (old new : List RowEntry) → Patchable schema old new → resolved_blocks schema (kinds_of old) (encoded_blocks (patch_edits schema old new)) ≡ patch_edits schema old new
encoded_blocks_mean schema old new p =
    blocks_mean schema new (patch_edits schema old new) (kinds_of old) (is_live old) p.new_rows (knows_first old new p.agree.kinds) (λ n h. is_live-kinds_of old n ∙ h)
    (follows_patch schema old new) (patch_leads_all schema old new (rows_rise schema new p.new_rows) p.agree.kinds)

-- the told patch leads from the old rows to the new ones
pub applied_leads : (schema : Schema) (old new : List RowEntry) → Patchable schema old new → freed (applied schema old (encoded_blocks (patch_edits schema old new))) ≡ new
applied_leads schema old new p = ap (λ blocks. freed (apply_edits blocks old)) (encoded_blocks_mean schema old new p) ∙ patch_leads schema old new p
