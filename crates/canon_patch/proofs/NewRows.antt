-- The new rows by a test of what is done, which are those of the patch.
use Rattle.std.proofs.Common.{◌≡◌, ℕ, zero, suc, ◌≤◌, Bool, true, false, cond, ◌||◌, ◌==◌, List, [], ◌∷◌, ◌++◌, length, drop, Option, Some, None, refl, sym, ap, ◌∙◌}
use Rattle.std.specs.Prelude.{is_some}
use Rattle.std.specs.Option.{option_map, option_map_or}
use Rattle.std.proofs.lemmas.List.{append-nil, append_assoc, drop-append-le, map-append}
use Rattle.lists.specs.Rising.{find}
use Rattle.schema_model.specs.Classes.{Schema}
use Rattle.state_model.specs.declared.row.RowEntry.{RowEntry}
use Rattle.state_model.specs.Reached.{is_among}
use Rattle.state_model.specs.Rows.{number_of, numbers_of, row_at}
use Rattle.wire_model.specs.declared.op.Block.{Block}
use Rattle.wire_model.specs.declared.op.Op.{Op}
use Rattle.wire_model.specs.Edits.{EditBlock, encoded_block, encoded_blocks}
use Rattle.wire_model.specs.Patch.{block_of, named_in, new_blocks, new_edits, next_named}
use Rattle.canon_patch.specs.Names.{block_encoded, named_by_ops}
use Rattle.canon_patch.specs.NewRows.{next_new, new_ops_encoded, next_encoded, new_encoded}
use Rattle.canon_patch.proofs.Encoded.{block_is_encoded, names_encoded}

-- the next one by the same test
next_same : (p q : ℕ → Bool) → ((k : ℕ) → p k ≡ q k) → (ns : List ℕ) → next_new p ns ≡ next_new q ns
next_same p q h [] = refl
next_same p q h (n ∷ ns) = rw (h n, next_same p q h ns) refl

-- the next one by the numbers that are done
next_listed : (done : List ℕ) (ns : List ℕ) → next_named done ns ≡ next_new (λ k. is_among k done) ns
next_listed done [] = refl
next_listed done (n ∷ ns) = rw (next_listed done ns) refl

-- only which numbers are done matters
new_encoded_same : (rows : ℕ) (schema : Schema) (new : List RowEntry) (p q : ℕ → Bool) (names : List ℕ) → ((k : ℕ) → p k ≡ q k) →
    new_encoded rows schema new p names ≡ new_encoded rows schema new q names
new_encoded_same zero schema new p q names h = refl
new_encoded_same (suc rows) schema new p q names h =
    ap (λ o. option_map_or (next_encoded schema new (new_encoded rows schema new) p) o []) (next_same p q h names)
    ∙ onward
    (λ n behind. new_encoded_same rows schema new (λ k. (n == k) || p k) (λ k. (n == k) || q k) behind (λ k. ap (λ b. (n == k) || b) (h k)))
    (next_new q names)
  where
    onward : ((n : ℕ) (behind : List ℕ) → new_encoded rows schema new (λ k. (n == k) || p k) behind ≡ new_encoded rows schema new (λ k. (n == k) || q k) behind) →
        (o : Option (ℕ × List ℕ)) →
        option_map_or (next_encoded schema new (new_encoded rows schema new) p) o [] ≡ option_map_or (next_encoded schema new (new_encoded rows schema new) q) o []
    onward same None = refl
    onward same (Some next) =
        ap (λ bs. block_encoded next.0 (new_ops_encoded schema new next.0) ++ bs) (same next.0 (next.1 ++ named_by_ops (new_ops_encoded schema new next.0)))

-- the block of the next row, and then those of what is left, in the patch
abbrev next_block : Schema → List RowEntry → (List ℕ → List ℕ → List EditBlock) → List ℕ → ℕ × List ℕ → List EditBlock
next_block schema new behind done next = block_of next.0 (new_edits schema new next.0) ++ behind (next.0 ∷ done) (next.1 ++ named_in (new_edits schema new next.0))

-- the new blocks of the patch, as they are told
new_blocks_encoded : (rows : ℕ) (schema : Schema) (new : List RowEntry) (done names : List ℕ) →
    encoded_blocks (new_blocks rows schema new done names) ≡ new_encoded rows schema new (λ k. is_among k done) names
new_blocks_encoded zero schema new done names = refl
new_blocks_encoded (suc rows) schema new done names =
    ap (λ o. encoded_blocks (option_map_or (next_block schema new (new_blocks rows schema new) done) o [])) (next_listed done names)
    ∙ onward (λ n behind. new_blocks_encoded rows schema new (n ∷ done) behind) (next_new (λ k. is_among k done) names)
  where
    onward : ((n : ℕ) (behind : List ℕ) → encoded_blocks (new_blocks rows schema new (n ∷ done) behind) ≡ new_encoded rows schema new (λ k. (n == k) || is_among k done) behind) →
        (o : Option (ℕ × List ℕ)) →
        encoded_blocks (option_map_or (next_block schema new (new_blocks rows schema new) done) o [])
        ≡ option_map_or (next_encoded schema new (new_encoded rows schema new) (λ k. is_among k done)) o []
    onward same None = refl
    onward same (Some next) =
        let edits = new_edits schema new next.0 in
        let others = new_blocks rows schema new (next.0 ∷ done) (next.1 ++ named_in edits) in
        map-append encoded_block (block_of next.0 edits) others
        ∙ (ap (λ bs. bs ++ encoded_blocks others) (block_is_encoded next.0 edits)
        ∙ ap (λ bs. block_encoded next.0 (new_ops_encoded schema new next.0) ++ bs)
        (same next.0 (next.1 ++ named_in edits)
        ∙ ap (λ ns. new_encoded rows schema new (λ k. (next.0 == k) || is_among k done) (next.1 ++ ns)) (sym (names_encoded edits))))

-- ---- the loop over the new rows

-- the rows that are done before the first one are the old ones
old_done : (old : List RowEntry) (k : ℕ) → is_among k (numbers_of old) ≡ (is_some (row_at old k) || is_among k [])
old_done [] k = refl
old_done (e ∷ es) k = by_test (old_done es k) (e.who == k)
  where
    by_test : is_among k (numbers_of es) ≡ (is_some (row_at es k) || is_among k []) → (b : Bool) →
        (b || is_among k (numbers_of es)) ≡ (is_some (option_map (λ (x : RowEntry). x.row) (cond b (Some e) (find number_of k es))) || is_among k [])
    by_test later true = refl
    by_test later false = later

-- the new blocks of the patch, by whether a row is an old one or was written
new_encoded_first : (rows : ℕ) (schema : Schema) (old new : List RowEntry) (names : List ℕ) →
    encoded_blocks (new_blocks rows schema new (numbers_of old) names) ≡ new_encoded rows schema new (λ k. is_some (row_at old k) || is_among k []) names
new_encoded_first rows schema old new names =
    new_blocks_encoded rows schema new (numbers_of old) names
    ∙ new_encoded_same rows schema new (λ k. is_among k (numbers_of old)) (λ k. is_some (row_at old k) || is_among k []) names (old_done old)

-- where nothing is left there are no more blocks
pub new_encoded_none : (rows : ℕ) (schema : Schema) (new : List RowEntry) (is_done : ℕ → Bool) (names : List ℕ) →
    None ≡ next_new is_done names → new_encoded rows schema new is_done names ≡ []
new_encoded_none zero schema new is_done names h = refl
new_encoded_none (suc rows) schema new is_done names h = ap (λ o. option_map_or (next_encoded schema new (new_encoded rows schema new) is_done) o []) (sym h)

-- one more is done
more_done : (is_old here was : Bool) → (here || (is_old || was)) ≡ (is_old || (here || was))
more_done true true was = refl
more_done true false was = refl
more_done false here was = refl

-- one turn: the next row's block is written, and the numbers that it names go behind the others
pub new_encoded_turn : (rows : ℕ) (schema : Schema) (new : List RowEntry) (is_old : ℕ → Bool) (done done_now names names_now : List ℕ) (from at n : ℕ)
    (ops : List Op) (blocks blocks_now whole : List Block) →
    blocks ++ new_encoded (suc rows) schema new (λ k. is_old k || is_among k done) (drop from names) ≡ whole →
    Some (n, drop at names) ≡ next_new (λ k. is_old k || is_among k done) (drop from names) → at ≤ length names →
    ((k : ℕ) → is_among k done_now ≡ ((n == k) || is_among k done)) → ops ≡ new_ops_encoded schema new n →
    names_now ≡ names ++ named_by_ops ops → blocks_now ≡ blocks ++ block_encoded n ops →
    blocks_now ++ new_encoded rows schema new (λ k. is_old k || is_among k done_now) (drop at names_now) ≡ whole
new_encoded_turn rows schema new is_old done done_now names names_now from at n ops blocks blocks_now whole so_far next within more is_ops is_names is_blocks =
    let was_done : ℕ → Bool = λ k. is_old k || is_among k done in
    let is_done : ℕ → Bool = λ k. is_old k || is_among k done_now in
    let row_ops : List Op = new_ops_encoded schema new n in
    let same : (k : ℕ) → is_done k ≡ ((n == k) || was_done k) = λ k. ap (λ b. is_old k || b) (more k) ∙ sym (more_done (is_old k) (n == k) (is_among k done)) in
    let here : blocks_now ≡ blocks ++ block_encoded n row_ops = is_blocks ∙ ap (λ os. blocks ++ block_encoded n os) is_ops in
    let left : drop at names_now ≡ drop at names ++ named_by_ops row_ops =
    ap (drop at) (is_names ∙ ap (λ os. names ++ named_by_ops os) is_ops) ∙ drop-append-le at names (named_by_ops row_ops) within in
    let behind = new_encoded rows schema new (λ k. (n == k) || was_done k) (drop at names ++ named_by_ops row_ops) in
    ap (λ bs. bs ++ new_encoded rows schema new is_done (drop at names_now)) here
    ∙ (ap (λ ns. (blocks ++ block_encoded n row_ops) ++ new_encoded rows schema new is_done ns) left
    ∙ (ap (λ bs. (blocks ++ block_encoded n row_ops) ++ bs)
    (new_encoded_same rows schema new is_done (λ k. (n == k) || was_done k) (drop at names ++ named_by_ops row_ops) same)
    ∙ (append_assoc blocks (block_encoded n row_ops) behind
    ∙ (ap (λ o. blocks ++ option_map_or (next_encoded schema new (new_encoded rows schema new) was_done) o []) next ∙ so_far))))

-- the end, where no more blocks are left
pub new_encoded_last : (rows : ℕ) (schema : Schema) (old new : List RowEntry) (names : List ℕ) (blocks0 blocks others : List Block) →
    blocks ++ others ≡ blocks0 ++ new_encoded rows schema new (λ k. is_some (row_at old k) || is_among k []) names → others ≡ [] →
    blocks ≡ blocks0 ++ encoded_blocks (new_blocks rows schema new (numbers_of old) names)
new_encoded_last rows schema old new names blocks0 blocks others so_far none =
    sym (append-nil blocks)
    ∙ (ap (λ bs. blocks ++ bs) (sym none) ∙ (so_far ∙ ap (λ bs. blocks0 ++ bs) (sym (new_encoded_first rows schema old new names))))
