-- A text is read as a schema exactly where it is that schema's one text.
use Rattle.std.proofs.Common.{◌≡◌, ℕ, ◌-◌, true, List, [], ◌∷◌, ◌++◌, length, map, Option, Some, None, is_some, unwrap_or, Result, Ok, refl, sym, ap, ap₂, ◌∙◌, subst}
use Rattle.std.specs.List.{list_all}
use Rattle.std.proofs.lemmas.Bool.{and_from}
use Rattle.std.proofs.lemmas.List.{map-append}
use Rattle.std.proofs.lemmas.List.Folds.{list_all-map}
use Rattle.lists.proofs.Passing.{all_append}
use Rattle.schema_model.specs.Classes.{Schema}
use Rattle.schema_model.specs.Reading.{◌>>=◌}
use Rattle.schema_model.specs.declared.class.Class.{Class}
use Rattle.text_model.specs.Marks.{is_class_name, lines, spaced}
use Rattle.text_model.specs.Lines.{words_of, pieces_of}
use Rattle.text_model.proofs.Spaced.{is_line, all_pass, prefix_of, last_of, prefix_of_push, last_of_push, pieces_of-lines, words_of-lines, text_of_lines}
use Rattle.text_model.specs.declared.fault.SchemaFault.{SchemaFault}
use Rattle.text_model.specs.declared.draft.DraftRoot.{DraftRoot}
use Rattle.text_model.specs.SchemaLines.{RootLine, is_spelled, line_words, class_name, lines_of, IsSchemaText}
use Rattle.text_model.specs.SchemaReading.{Draft, empty_draft, class_place, form_taken, lines_taken, unknown_lines, schema_of, resolved, ended, read_pieces, read_schema_text}
use Rattle.text_model.proofs.LineForms.{is_line_form, form_read}
use Rattle.text_model.proofs.LinePlain.{form_plain}
use Rattle.text_model.proofs.DraftKept.{AreClassesBehind}
use Rattle.text_model.proofs.DraftLines.{lines_behind, root_lines}
use Rattle.text_model.proofs.DraftWhole.{whole_of_behind, behind_of_whole}
use Rattle.text_model.proofs.LineTaken.{unrooted, bound_from, read_lines}
use Rattle.text_model.proofs.Known.{is_known_root, known_of_none, none_of_known, root_found, named_at}
use Rattle.text_model.proofs.Spelled.{AreSpelled, parts_of_spelled, spelled_of_parts}
use Rattle.text_model.proofs.DraftSchema.{lines_same, spelled_of_whole, whole_of_spelled}
use Rattle.text_model.proofs.DraftOf.{behind_lines, drafted, drafted_again, drafted_root}
use Rattle.text_model.proofs.LinesRead.{class_names, lines_formed, read_classes}

-- ---- what is read is the schema of the text

-- a text that was read to its end, with nothing unknown
record IsEnded (piece : List ℕ) (d : Draft) (s : Schema) : Type 0 where
  nothing_left : piece ≡ []
  none_unknown : unknown_lines d ≡ []
  root : DraftRoot
  rooted : d.root ≡ Some root
  schema : schema_of d root ≡ s

ended_of : (n : ℕ) (piece : List ℕ) (d : Draft) (s : Schema) → ended n piece d ≡ Ok s → IsEnded piece d s
ended_of n (b ∷ bs) d s h = absurd (cc)
ended_of n [] d s h = from (unknown_lines d) d.root refl refl h
  where
    from : (ls : List ℕ) (o : Option DraftRoot) → unknown_lines d ≡ ls → d.root ≡ o → resolved n (record { classes = d.classes; root = o }) ls ≡ Ok s
        → IsEnded [] d s
    from (l ∷ ls) o e r k = absurd (cc)
    from [] None e r k = absurd (cc)
    from [] (Some root) e r k = record { nothing_left = refl; none_unknown = e; root = root; rooted = r; schema = (cc) }

-- lines that are read to their end as a schema are the lines of it
pub lines_are_schema : (ls : List (List (List ℕ))) (n : ℕ) (piece : List ℕ) (s : Schema) → (lines_taken 1 empty_draft ls >>= ended n piece) ≡ Ok s → (piece ≡ []) × (is_spelled s ≡ true) × (ls ≡ map line_words (lines_of s))
lines_are_schema ls n piece s h =
    let b = bound_from (lines_taken 1 empty_draft ls) (ended n piece) s h in
    let d = b.0 in
    let e = ended_of n piece d s b.2 in
    let r = read_lines 1 [] [] ls d (record { lines = refl; kept = tt }) b.1 in
    let whole = whole_of_behind d.classes r.kept in
    let known = known_of_none d e.none_unknown in
    let root : is_some (class_place d.classes e.root.name) ≡ true = ap (is_known_root d.classes) (sym e.rooted) ∙ known.1 in
    let spelled = spelled_of_parts (schema_of d e.root) (spelled_of_whole d.classes _ whole known.0 (root_found d.classes e.root.name root).0) in
    let same : lines_of (schema_of d e.root) ≡ r.more =
    lines_same d.classes e.root.name whole.parents known.0 root ∙ (ap (λ o. lines_behind [] d.classes ++ root_lines o) (sym e.rooted) ∙ r.lines) in
    (e.nothing_left, ap is_spelled (sym e.schema) ∙ spelled, r.words ∙ (ap (map line_words) (sym same) ∙ ap (λ t. map line_words (lines_of t)) e.schema))

pub read_is_schema : (text : List ℕ) (s : Schema) → read_schema_text text ≡ Ok s → IsSchemaText text s
read_is_schema text s h =
    let ps = pieces_of text in
    let is = lines_are_schema (map words_of (prefix_of ps)) (length ps - 1) (last_of ps) s h in
    (is.1, text_of_lines text is.0 ∙ ap lines is.2)

-- ---- the text of a schema is read as it

-- the root's line
abbrev root_of : Schema → DraftRoot
root_of s = record { name = class_name s.classes s.root; line = behind_lines 1 s.classes }

-- what is read of the text of a schema
abbrev draft_of : Schema → Draft
draft_of s = record { classes = drafted s; root = Some (root_of s) }

-- its schema, and its lines
record IsDrafted (s : Schema) : Type 0 where
  kept : AreClassesBehind [] (drafted s)
  none_unknown : unknown_lines (draft_of s) ≡ []
  schema : schema_of (draft_of s) (root_of s) ≡ s
  lines : lines_of s ≡ lines_behind [] (drafted s) ++ RootLine (class_name s.classes s.root) ∷ []
  root_named : is_class_name (class_name s.classes s.root) ≡ true

drafted_of : (s : Schema) → AreSpelled s → IsDrafted s
drafted_of s p =
    let ds = drafted s in
    let name = class_name s.classes s.root in
    let again = drafted_again s p in
    let place = drafted_root s p in
    let schema_at : List Class → ℕ → Schema = λ cs n. record { classes = cs; root = n } in
    let whole = whole_of_spelled ds s.root again.1 (subst (λ cs. AreSpelled (schema_at cs s.root)) (sym again.0) p) in
    let kept = behind_of_whole [] ds whole in
    let found : is_some (class_place ds name) ≡ true = ap is_some place in
    let same = ap₂ schema_at again.0 (ap (λ o. unwrap_or o 0) place) in
    let root = root_found ds name found in
    record {
      kept = kept;
      none_unknown = none_of_known (draft_of s) again.1 found;
      schema = same;
      lines = ap lines_of (sym same) ∙ lines_same ds name whole.parents again.1 found;
      root_named = ap is_class_name (sym root.1) ∙ named_at ds _ (class_names ds kept) root.0;
    }

-- the lines are read as what was drafted
drafted_read : (s : Schema) → IsDrafted s → lines_taken 1 empty_draft (map line_words (lines_of s)) ≡ Ok (draft_of s)
drafted_read s d =
    let name = class_name s.classes s.root in
    let before = lines_behind [] (drafted s) in
    let next : Draft → Result Draft SchemaFault = λ x. Ok x in
    ap (λ l. lines_taken 1 empty_draft (map line_words l)) d.lines
    ∙ (ap (lines_taken 1 empty_draft) (map-append line_words before (RootLine name ∷ []))
    ∙ (read_classes s.classes s.classes 1 [] (line_words (RootLine name) ∷ []) tt d.kept
    ∙ ap (λ f. form_taken (behind_lines 1 s.classes) (unrooted (drafted s)) f >>= next) (form_read (RootLine name) d.root_named)))

-- its lines are of their forms, and their words can stand on them
drafted_formed : (s : Schema) → IsDrafted s → list_all is_line_form (lines_of s) ≡ true
drafted_formed s d =
    let before = lines_behind [] (drafted s) in
    ap (list_all is_line_form) d.lines
    ∙ all_append is_line_form before (RootLine (class_name s.classes s.root) ∷ []) (lines_formed [] (drafted s) tt d.kept) (and_from _ _ d.root_named refl)

drafted_plain : (s : Schema) → IsDrafted s → list_all is_line (map line_words (lines_of s)) ≡ true
drafted_plain s d = list_all-map is_line line_words (lines_of s) ∙ all_pass is_line_form (λ f. is_line (line_words f)) (lines_of s) form_plain (drafted_formed s d)

-- so they are read as the schema
pub schema_lines_read : (s : Schema) (n : ℕ) → is_spelled s ≡ true → (lines_taken 1 empty_draft (map line_words (lines_of s)) >>= ended n []) ≡ Ok s
schema_lines_read s n h =
    let d = drafted_of s (parts_of_spelled s h) in
    ap (λ r. r >>= ended n []) (drafted_read s d) ∙ (ap (resolved n (draft_of s)) d.none_unknown ∙ ap Ok d.schema)

pub schema_lines_plain : (s : Schema) → is_spelled s ≡ true → list_all is_line (map line_words (lines_of s)) ≡ true
schema_lines_plain s h = drafted_plain s (drafted_of s (parts_of_spelled s h))

-- and of their forms
pub schema_lines_formed : (s : Schema) → is_spelled s ≡ true → list_all is_line_form (lines_of s) ≡ true
schema_lines_formed s h = drafted_formed s (drafted_of s (parts_of_spelled s h))

pub schema_is_read : (text : List ℕ) (s : Schema) → IsSchemaText text s → read_schema_text text ≡ Ok s
schema_is_read text s h =
    let ls = map line_words (lines_of s) in
    let plain = schema_lines_plain s h.0 in
    let ps = map spaced ls ++ [] ∷ [] in
    let n = length ps - 1 in
    let words : map words_of (prefix_of ps) ≡ ls = ap (map words_of) (prefix_of_push (map spaced ls) []) ∙ words_of-lines ls plain in
    ap (λ t. read_pieces (pieces_of t)) h.1
    ∙ (ap read_pieces (pieces_of-lines ls plain)
    ∙ (ap (λ l. lines_taken 1 empty_draft l >>= ended n (last_of ps)) words
    ∙ (ap (λ l. lines_taken 1 empty_draft ls >>= ended n l) (last_of_push (map spaced ls) []) ∙ schema_lines_read s n h.0)))
