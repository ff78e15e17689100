-- Lines that were all taken are few.
use Rattle.std.proofs.Common.{◌≡◌, ℕ, suc, ◌+◌, ◌*◌, ◌≤◌, List, [], ◌∷◌, ◌++◌, length, Option, Some, None, Result, Ok, sym, ap, ◌∙◌, refl, arith, leb, leb-true}
use Rattle.std.proofs.lemmas.Bool.{and_parts}
use Rattle.std.proofs.lemmas.List.{length-append, length-map}
use Rattle.schema_model.specs.Reading.{◌>>=◌}
use Rattle.state_model.specs.Sound.{keys_differ}
use Rattle.text_model.specs.declared.fault.SchemaFault.{SchemaFault}
use Rattle.text_model.specs.declared.draft.DraftClass.{DraftClass}
use Rattle.text_model.specs.declared.draft.DraftRoot.{DraftRoot}
use Rattle.text_model.specs.SchemaLines.{line_words}
use Rattle.text_model.specs.SchemaReading.{Draft, empty_draft, names_from, names_inherited, line_taken, lines_taken}
use Rattle.text_model.proofs.DraftTable.{names_next, field_names}
use Rattle.text_model.proofs.DraftKept.{IsClassBehind, AreClassesBehind}
use Rattle.text_model.proofs.DraftLines.{draft_field_line, draft_class_lines, lines_behind, root_lines}
use Rattle.text_model.proofs.LineTaken.{bound_from, read_lines}
use Rattle.text_model.proofs.DraftWhole.{behind_count}

-- a line more
pub lines_taken-push : (n : ℕ) (d : Draft) (ls : List (List (List ℕ))) (ws : List (List ℕ)) (e f : Draft) → lines_taken n d ls ≡ Ok e
    → line_taken (n + length ls) e ws ≡ Ok f → lines_taken n d (ls ++ ws ∷ []) ≡ Ok f
lines_taken-push n d [] ws e f h k =
    let next : Draft → Result Draft SchemaFault = λ x. Ok x in
    let same : d ≡ e = cc in
    let here : n + 0 ≡ n = omega arith in
    ap (λ x. line_taken n x ws >>= next) same ∙ ap (λ r. r >>= next) (ap (λ m. line_taken m e ws) (sym here) ∙ k)
lines_taken-push n d (l ∷ ls) ws e f h k =
    let b = bound_from (line_taken n d l) (λ next. lines_taken (suc n) next ls) e h in
    let place : suc n + length ls ≡ n + length (l ∷ ls) = omega arith in
    ap (λ r. r >>= (λ next. lines_taken (suc n) next (ls ++ ws ∷ []))) b.1
    ∙ lines_taken-push (suc n) b.0 ls ws e f b.2 (ap (λ m. line_taken m e ws) place ∙ k)

-- a class declares at most 63 fields
own_few : (earlier : List DraftClass) (c : DraftClass) → IsClassBehind earlier c → length c.own ≤ 63
own_few earlier c h =
    let names = names_next (names_from [] earlier) c in
    let few = leb-true (length names) 63 (and_parts (keys_differ names) (leb (length names) 63) h.names).1 in
    omega (arith, length-append (names_inherited (names_from [] earlier) c.parent) (field_names c.own), length-map c.own (λ f. f.name), few)

lines_short : (earlier cs : List DraftClass) → AreClassesBehind earlier cs → length (lines_behind earlier cs) ≤ 64 * length cs
lines_short earlier [] k = omega arith
lines_short earlier (c ∷ cs) k =
    omega (
      arith,
      length-append (draft_class_lines earlier c) (lines_behind (earlier ++ c ∷ []) cs),
      length-map c.own draft_field_line,
      own_few earlier c k.0,
      lines_short (earlier ++ c ∷ []) cs k.1,
    )

root_short : (o : Option DraftRoot) → length (root_lines o) ≤ 1
root_short None = omega arith
root_short (Some r) = omega arith

-- at most 256 classes of 63 fields, and the root
pub lines_few : (ls : List (List (List ℕ))) (d : Draft) → lines_taken 1 empty_draft ls ≡ Ok d → length ls ≤ 16385
lines_few ls d h =
    let r = read_lines 1 [] [] ls d (record { lines = refl; kept = tt }) h in
    omega (
      arith,
      ap length r.words,
      length-map r.more line_words,
      ap length r.lines,
      length-append (lines_behind [] d.classes) (root_lines d.root),
      lines_short [] d.classes r.kept,
      behind_count [] d.classes (omega arith) r.kept,
      root_short d.root,
    )
