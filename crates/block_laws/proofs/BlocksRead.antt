-- What is written of blocks that fit the rows known is read as these blocks.
use Rattle.std.proofs.Common.{◌≡◌, ℕ, ◌+◌, Bool, true, false, cond, ◌&&◌, ◌==◌, List, [], ◌∷◌, ◌++◌, length, map, Option, Some, None, is_some, refl, sym, ap, subst, ◌∙◌, arith, length-append, append_assoc}
use Rattle.std.specs.List.{flat_map, list_all}
use Rattle.std.specs.Option.{option_map_or}
use Rattle.std.proofs.lemmas.Bool.{and_parts, eqb-true}
use Rattle.std.proofs.lemmas.List.{map-append}
use Rattle.schema_model.specs.Classes.{Schema}
use Rattle.state_model.specs.declared.row.Row.{Row}
use Rattle.state_model.specs.declared.row.Row.TheVariants.{Struct}
use Rattle.state_model.specs.declared.row.RowEntry.{RowEntry}
use Rattle.state_model.specs.Rows.{row_at, kinds_of}
use Rattle.wire_model.specs.declared.op.Op.{Op}
use Rattle.wire_model.specs.declared.op.Block.{Block}
use Rattle.wire_model.specs.Edits.{EditBlock}
use Rattle.wire_model.specs.OpBytes.{op_bytes, switch_bytes, whole_block}
use Rattle.wire_model.specs.Grammar.{PlacedEdit, ReadBlock, Progress, advanced, reading_start, read_blocks}
use Rattle.wire_model.specs.Resolved.{holder_kind, resolved_ops, known_behind, resolved_blocks}
use Rattle.wire_model.specs.Decoded.{edits_of}
use Rattle.block_laws.specs.Writable.{is_count, is_writable_op, is_writable, are_writable}
use Rattle.block_laws.specs.Fitting.{OpsFit, BlocksFit, ReadAs}
use Rattle.block_laws.specs.ReadAgain.{BlocksReadAgain}
use Rattle.block_laws.proofs.Stands.{Stands, stands_whole, stands_first, stands_behind}
use Rattle.block_laws.proofs.StepsTaken.{Taken, none_taken, one_taken, both_taken, all_taken}
use Rattle.block_laws.proofs.OpsTaken.{reading, all_placed, turn_step, placed_edits, ops_taken}

-- reading takes so many bytes from here on, without a fault, and finds these blocks behind those that were done
record Found (schema : Schema) (bytes : List ℕ) (from : Progress) (size : ℕ) (there : List EditBlock) : Type 0 where
  pub to : Progress
  pub taken : Taken (advanced schema bytes) from to size
  pub place : to.at ≡ from.at + size
  pub fault : to.fault ≡ None
  pub blocks : map edits_of (to.done ++ to.block ∷ []) ≡ map edits_of from.done ++ there

-- blocks with their switches are found behind a holder's operations
abbrev FindsBlocks : Schema → List ℕ → List RowEntry → List ReadBlock → ℕ → List Block → Type 0
FindsBlocks schema bytes known done holder bs = (edits : List PlacedEdit) (at : ℕ) → Stands bytes at (flat_map whole_block bs)
    → Found schema bytes (reading known done holder edits at) (length (flat_map whole_block bs))
    (edits_of (record { holder = holder; edits = edits }) ∷ resolved_blocks schema known bs)

-- operations on a holder are found, and then blocks
ops_found : (schema : Schema) (bytes : List ℕ) (known : List RowEntry) (done : List ReadBlock) (holder at : ℕ) (kind : Row) (os : List Op) (bs : List Block) → row_at known holder ≡ Some kind
    → OpsFit schema kind known os → list_all is_writable_op os ≡ true → FindsBlocks schema bytes (known_behind schema kind known os) done holder bs
    → Stands bytes at (flat_map op_bytes os ++ flat_map whole_block bs)
    → Found schema bytes (reading known done holder [] at) (length (flat_map op_bytes os ++ flat_map whole_block bs))
    (record { holder = holder; edits = resolved_ops schema kind known os } ∷ resolved_blocks schema (known_behind schema kind known os) bs)
ops_found schema bytes known done holder at kind os bs is f w later s =
    let a = flat_map op_bytes os in
    let b = flat_map whole_block bs in
    let sum : length a + length b ≡ length (a ++ b) = sym (length-append a b) in
    let ops = ops_taken schema bytes known done holder [] at kind os is f w (stands_first bytes at a b s) in
    let rest = later (all_placed schema kind known at os) (at + length a) (stands_behind bytes at a b s) in
    record {
      to = rest.to;
      taken = both_taken (advanced schema bytes) _ _ _ (length a) (length b) (length (a ++ b)) sum ops rest.taken;
      place = omega (arith, rest.place);
      fault = rest.fault;
      blocks = rest.blocks
          ∙ ap (λ es. map edits_of done ++ record { holder = holder; edits = es } ∷ resolved_blocks schema (known_behind schema kind known os) bs) (placed_edits schema kind known at os);
    }

-- behind a switch what is found stands behind the block before it
turned_found : (schema : Schema) (bytes : List ℕ) (known : List RowEntry) (done : List ReadBlock) (holder : ℕ) (edits : List PlacedEdit) (at n : ℕ) (part : List ℕ) (there : List EditBlock)
    → is_some (row_at known n) ≡ true → is_count n ≡ true → Stands bytes at (switch_bytes n ++ part)
    → Found schema bytes (reading known (done ++ record { holder = holder; edits = edits } ∷ []) n [] (at + length (switch_bytes n))) (length part) there
    → Found schema bytes (reading known done holder edits at) (length (switch_bytes n ++ part)) (edits_of (record { holder = holder; edits = edits }) ∷ there)
turned_found schema bytes known done holder edits at n part there is h s rest =
    let block : ReadBlock = record { holder = holder; edits = edits } in
    let sum : length (switch_bytes n) + length part ≡ length (switch_bytes n ++ part) = sym (length-append (switch_bytes n) part) in
    let turn = one_taken (advanced schema bytes) _ _ (length (switch_bytes n)) (omega arith)
    (turn_step schema bytes known done holder edits at n is h (stands_first bytes at (switch_bytes n) part s)) in
    record {
      to = rest.to;
      taken = both_taken (advanced schema bytes) _ _ _ (length (switch_bytes n)) (length part) (length (switch_bytes n ++ part)) sum turn rest.taken;
      place = omega (arith, rest.place);
      fault = rest.fault;
      blocks = rest.blocks ∙ (ap (λ x. x ++ there) (map-append edits_of done (block ∷ [])) ∙ append_assoc (map edits_of done) (edits_of block ∷ []) there);
    }

-- what is there is what it is known to be
known_is : (o : Option Row) (rest : Row) → is_some o ≡ true → o ≡ Some (option_map_or (λ r. r) o rest)
known_is None rest h = cc
known_is (Some r) rest h = refl

-- blocks with their switches are found
blocks_found : (schema : Schema) (bytes : List ℕ) (known : List RowEntry) (done : List ReadBlock) (holder : ℕ) (bs : List Block) → BlocksFit schema known bs → are_writable bs ≡ true
    → FindsBlocks schema bytes known done holder bs
blocks_found schema bytes known done holder [] f w edits at s = record {
  to = reading known done holder edits at;
  taken = none_taken (advanced schema bytes) (reading known done holder edits at);
  place = omega arith;
  fault = refl;
  blocks = map-append edits_of done (record { holder = holder; edits = edits } ∷ []);
}
blocks_found schema bytes known done holder (b ∷ bs) f w edits at s =
    let two = and_parts (is_writable b) (are_writable bs) w in
    let one = and_parts (is_count b.holder) (list_all is_writable_op b.ops) two.0 in
    let kind = holder_kind known b.holder in
    let before : List ReadBlock = done ++ record { holder = holder; edits = edits } ∷ [] in
    let a = flat_map op_bytes b.ops in
    let c = flat_map whole_block bs in
    let same = append_assoc (switch_bytes b.holder) a c in
    let s = subst (Stands bytes at) same s in
    let rest = ops_found schema bytes known before b.holder (at + length (switch_bytes b.holder)) kind b.ops bs (known_is (row_at known b.holder) (Struct 0 []) f.0) f.1.0 one.1
    (blocks_found schema bytes (known_behind schema kind known b.ops) before b.holder bs f.1.1 two.1) (stands_behind bytes at (switch_bytes b.holder) (a ++ c) s) in
    subst (λ x. Found schema bytes (reading known done holder edits at) (length x) (edits_of (record { holder = holder; edits = edits }) ∷ resolved_blocks schema known (b ∷ bs))) (sym same)
    (turned_found schema bytes known done holder edits at b.holder (a ++ c) (resolved_blocks schema known (b ∷ bs)) f.0 one.0 s rest)

-- ---- the law

-- what is found from the begin to the end is what reading finds
read_found : (schema : Schema) (rows : List RowEntry) (bytes : List ℕ) (there : List EditBlock) → Found schema bytes (reading_start rows) (length bytes) there
    → ReadAs (read_blocks schema rows bytes) there
read_found schema rows bytes there f =
    let end : f.to.at ≡ length bytes = omega (arith, f.place) in
    let all = all_taken schema bytes (reading_start rows) f.to f.taken end in
    record {
      fault = ap (λ (p : Progress). p.fault) all ∙ f.fault;
      blocks = ap (λ (p : Progress). map edits_of (p.done ++ p.block ∷ [])) all ∙ f.blocks;
    }

-- the bytes of blocks that fit the rows known are read as these blocks
pub blocks_read_again : BlocksReadAgain
blocks_read_again schema rows [] bare w f = record { fault = refl; blocks = refl }
blocks_read_again schema rows (b ∷ bs) bare w f = by_test (bare && (b.holder == 0)) (λ h. eqb-true b.holder 0 (and_parts bare (b.holder == 0) h).1)
  where
    known : List RowEntry
    known = kinds_of rows

    there : List EditBlock
    there = resolved_blocks schema known (b ∷ bs)

    by_test : (t : Bool) → (t ≡ true → b.holder ≡ 0)
        → ReadAs (read_blocks schema rows (cond t (flat_map op_bytes b.ops) (whole_block b) ++ flat_map whole_block bs)) (cond t there (record { holder = 0; edits = [] } ∷ there))
    by_test true root =
        let two = and_parts (is_writable b) (are_writable bs) w in
        let one = and_parts (is_count b.holder) (list_all is_writable_op b.ops) two.0 in
        let kind = holder_kind known b.holder in
        let bytes = flat_map op_bytes b.ops ++ flat_map whole_block bs in
        let found = ops_found schema bytes known [] b.holder 0 kind b.ops bs (known_is (row_at known b.holder) (Struct 0 []) f.0) f.1.0 one.1
        (blocks_found schema bytes (known_behind schema kind known b.ops) [] b.holder bs f.1.1 two.1) (stands_whole bytes) in
        read_found schema rows bytes there (subst (λ n. Found schema bytes (reading known [] n [] 0) (length bytes) there) (root refl) found)
    by_test false root =
        let bytes = whole_block b ++ flat_map whole_block bs in
        read_found schema rows bytes (record { holder = 0; edits = [] } ∷ there) (blocks_found schema bytes known [] 0 (b ∷ bs) f w [] 0 (stands_whole bytes))
