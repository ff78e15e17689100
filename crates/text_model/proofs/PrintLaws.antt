-- A text is read as what a replay prints exactly where it is the one text of that.
use Rattle.std.proofs.Common.{◌≡◌, ℕ, suc, ◌==◌, Bool, true, false, ◌&&◌, cond, List, [], ◌∷◌, ◌++◌, length, map, Option, Some, None, Result, Ok, Err, refl, sym, ap, ◌∙◌, eqb-true, codes}
use Rattle.std.specs.List.{list_all, list_any}
use Rattle.std.specs.Option.{option_map_or}
use Rattle.std.proofs.lemmas.Bool.{and_parts, and_from, false_from_ne_true}
use Rattle.std.proofs.lemmas.Grind.{flat_map-append}
use Rattle.std.proofs.lemmas.List.{length-map, map-append}
use Rattle.lists.proofs.Numbers.{same_number}
use Rattle.lists.proofs.Passing.{all_append}
use Rattle.schema_model.specs.Classes.{Schema}
use Rattle.schema_model.specs.Reading.{◌>>=◌}
use Rattle.hub_model.specs.declared.event.HubOut.{HubOut}
use Rattle.text_model.specs.declared.schedule.Print.{Print}
use Rattle.text_model.specs.declared.schedule.Word.TheVariants as word
use Rattle.text_model.specs.Lines.{behind_lines, is_word, lines_in, pieces_of, words_of}
use Rattle.text_model.specs.Marks.{line, lines, spaced}
use Rattle.text_model.specs.Outputs.{out_words}
use Rattle.text_model.specs.OutLines.{IsPrintText, are_numbered, is_out, is_print, out_of, outs_from, print_text, read_print_text}
use Rattle.text_model.specs.Schedules.{Fault, at_end, behind, behind_schema, is_root_line, schema_of_lines, schema_part, with_schema}
use Rattle.text_model.specs.SchemaLines.{is_spelled, line_words, lines_of}
use Rattle.text_model.proofs.LineTaken.{bound_from}
use Rattle.text_model.proofs.OutLaws.{line_lacks, out_is, out_read}
use Rattle.text_model.proofs.SchemaLaw.{lines_are_schema, schema_lines_plain}
use Rattle.text_model.proofs.ScheduleLaws.{behind_of, end_of, joined_again, schema_parted, schema_read, texts_of}
use Rattle.text_model.proofs.Spaced.{prefix_of, prefix_of_push, lacks, last_of, last_of_push, pieces_of_texts, spaced-words_of, text_of_lines, texts_from_lines}
use Rattle.text_model.proofs.WordLaws.{word_is}

-- ---- outputs

abbrev pub output_lines : List (ℕ × HubOut) → List (List (List ℕ))
output_lines os = map (λ (o : ℕ × HubOut). out_words o.1) os ++ (codes "end" ∷ []) ∷ []

abbrev are_outs : List (ℕ × HubOut) → Bool
are_outs os = list_all (λ (o : ℕ × HubOut). is_out o.1) os

record OutsRead (n : ℕ) (ls : List (List ℕ)) (rest : List ℕ) (os : List (ℕ × HubOut)) : Type 0 where
  nothing_left : rest ≡ []
  lines : ls ≡ map spaced (output_lines os)
  numbered : are_numbered n os ≡ true
  fits : are_outs os ≡ true

outs_read : (n : ℕ) (ls : List (List ℕ)) (rest : List ℕ) (os : List (ℕ × HubOut)) → outs_from n ls rest ≡ Ok os → OutsRead n ls rest os
outs_read n [] rest os h = absurd (cc)
outs_read n (l ∷ ls) rest os h = by_end (is_word (codes "end") l) refl h (λ os. outs_read (suc n) ls rest os)
  where
    by_out : (o : Option HubOut) → out_of (words_of l) ≡ o → option_map_or (λ o. outs_from (suc n) ls rest >>= (λ os. Ok ((n, o) ∷ os))) o (Err (n, word.Output)) ≡ Ok os
        → ((os : List (ℕ × HubOut)) → outs_from (suc n) ls rest ≡ Ok os → OutsRead (suc n) ls rest os) → OutsRead n (l ∷ ls) rest os
    by_out None is k rest_of = absurd (cc)
    by_out (Some o) is k rest_of =
        let b = bound_from (outs_from (suc n) ls rest) (λ os. Ok ((n, o) ∷ os)) os k in
        let r = rest_of b.0 b.1 in
        let a = out_read (words_of l) o is in
        let all : (n, o) ∷ b.0 ≡ os = (let q = b.2 in cc) in
        record {
          nothing_left = r.nothing_left;
          lines = (λ i. (sym (spaced-words_of l) ∙ a.text) i ∷ r.lines i) ∙ ap (λ os. map spaced (output_lines os)) all;
          numbered = ap (are_numbered n) (sym all) ∙ and_from (n == n) (are_numbered (suc n) b.0) (same_number n) r.numbered;
          fits = ap are_outs (sym all) ∙ and_from (is_out o) (are_outs b.0) a.fits r.fits;
        }

    by_end : (t : Bool) → is_word (codes "end") l ≡ t → cond t (at_end (suc n) ls rest []) (option_map_or (λ o. outs_from (suc n) ls rest >>= (λ os. Ok ((n, o) ∷ os))) (out_of (words_of l)) (Err (n, word.Output))) ≡ Ok os
        → ((os : List (ℕ × HubOut)) → outs_from (suc n) ls rest ≡ Ok os → OutsRead (suc n) ls rest os) → OutsRead n (l ∷ ls) rest os
    by_end true is k rest_of =
        let e = end_of (suc n) ls rest [] os k in
        record {
          nothing_left = e.1;
          lines = (λ i. word_is (codes "end") l is i ∷ e.0 i) ∙ ap (λ os. map spaced (output_lines os)) e.2;
          numbered = ap (are_numbered n) (sym e.2);
          fits = ap are_outs (sym e.2);
        }
    by_end false other k rest_of = by_out (out_of (words_of l)) refl k rest_of

no_end : (l : List ℕ) (o : HubOut) → out_of (words_of l) ≡ Some o → is_word (codes "end") l ≡ false
no_end l o is = false_from_ne_true (is_word (codes "end") l) (λ t. absurd (let both : None ≡ Some o = sym (ap (λ l. out_of (words_of l)) (word_is (codes "end") l t)) ∙ is in cc))

outs_are : (n : ℕ) (os : List (ℕ × HubOut)) → are_numbered n os ≡ true → are_outs os ≡ true → outs_from n (map spaced (output_lines os)) [] ≡ Ok os
outs_are n [] h k = refl
outs_are n ((m, o) ∷ os) h k =
    let p = and_parts (m == n) (are_numbered (suc n) os) h in
    let q = and_parts (is_out o) (are_outs os) k in
    let own = out_is o q.0 in
    rw (no_end (spaced (out_words o)) o own, own, outs_are (suc n) os p.1 q.1) (ap (λ n. Ok ((n, o) ∷ os)) (sym (eqb-true m n p.0)))

outs_lack : (os : List (ℕ × HubOut)) → are_outs os ≡ true → list_all (λ ws. lacks 10 (spaced ws)) (output_lines os) ≡ true
outs_lack [] h = refl
outs_lack ((m, o) ∷ os) h =
    let p = and_parts (is_out o) (are_outs os) h in
    and_from (lacks 10 (spaced (out_words o))) _ (line_lacks o p.0) (outs_lack os p.1)

-- ---- the whole text

abbrev all_lines : Print → List (List (List ℕ))
all_lines p = map line_words (lines_of p.schema) ++ output_lines p.outs

text_is : (p : Print) → print_text p ≡ lines (all_lines p)
text_is p = sym (flat_map-append line (map line_words (lines_of p.schema)) (output_lines p.outs))

record Written (p : Print) : Type 0 where
  spelled : is_spelled p.schema ≡ true
  numbered : are_numbered (suc (length (lines_of p.schema))) p.outs ≡ true
  fits : are_outs p.outs ≡ true

written_of : (p : Print) → is_print p ≡ true → Written p
written_of p h =
    let a = and_parts (is_spelled p.schema) (are_numbered (suc (length (lines_of p.schema))) p.outs && are_outs p.outs) h in
    let b = and_parts (are_numbered (suc (length (lines_of p.schema))) p.outs) (are_outs p.outs) a.1 in
    record { spelled = a.0; numbered = b.0; fits = b.1 }

count_texts : (s : Schema) → length (texts_of (lines_of s)) ≡ length (lines_of s)
count_texts s = length-map (map line_words (lines_of s)) spaced ∙ length-map (lines_of s) line_words

lines_are_read : (p : Print) → Written p → with_schema (map spaced (all_lines p)) [] (λ n t ls. outs_from n ls [] >>= (λ os. Ok (record { schema = t; outs = os }))) ≡ Ok p
lines_are_read p w =
    let own = texts_of (lines_of p.schema) in
    let rest = map spaced (output_lines p.outs) in
    let t = schema_parted p.schema rest w.spelled in
    let outs : outs_from (suc (length own)) rest [] ≡ Ok p.outs = outs_are (suc (length own)) p.outs (ap (λ n. are_numbered (suc n) p.outs) (count_texts p.schema) ∙ w.numbered) w.fits in
    ap (λ ls. with_schema ls [] (λ n t ls. outs_from n ls [] >>= (λ os. Ok (record { schema = t; outs = os })))) (map-append spaced (map line_words (lines_of p.schema)) (output_lines p.outs))
    ∙ rw (t.has_root, t.part, t.others, schema_read p.schema w.spelled, outs) refl

pub print_is_read : (text : List ℕ) (p : Print) → IsPrintText text p → read_print_text text ≡ Ok p
print_is_read text p h =
    let w = written_of p h.0 in
    let lack = all_append (λ ws. lacks 10 (spaced ws)) (map line_words (lines_of p.schema)) (output_lines p.outs) (texts_from_lines (map line_words (lines_of p.schema)) (schema_lines_plain p.schema w.spelled)) (outs_lack p.outs w.fits) in
    let pieces : pieces_of text ≡ map spaced (all_lines p) ++ [] ∷ [] = ap pieces_of (h.1 ∙ text_is p) ∙ pieces_of_texts (all_lines p) lack in
    let prefix : lines_in text ≡ map spaced (all_lines p) = ap prefix_of pieces ∙ prefix_of_push (map spaced (all_lines p)) [] in
    let last : behind_lines text ≡ [] = ap last_of pieces ∙ last_of_push (map spaced (all_lines p)) [] in
    (λ i. with_schema (prefix i) (last i) (λ n t ls. outs_from n ls (last i) >>= (λ os. Ok (record { schema = t; outs = os })))) ∙ lines_are_read p w

none_goes_on : {A : Type 0} (n : ℕ) (rest : List ℕ) (f : List (ℕ × HubOut) → Result A Fault) (y : A) → (outs_from n [] rest >>= f) ≡ Ok y → ⊥
none_goes_on n rest f y h = absurd (cc)

-- a text of lines
spaced_lines : (xs : List (List (List ℕ))) (ls : List (List ℕ)) → ls ≡ map spaced xs → lines (map words_of ls) ≡ lines xs
spaced_lines [] ls is = ap (λ ls. lines (map words_of ls)) is
spaced_lines (x ∷ xs) ls is =
    ap (λ ls. lines (map words_of ls)) is ∙ (λ i. (spaced-words_of (spaced x) i ++ 10 ∷ []) ++ spaced_lines xs (map spaced xs) refl i)

pub read_is_print : (text : List ℕ) (p : Print) → read_print_text text ≡ Ok p → IsPrintText text p
read_is_print text p h = by_root (list_any is_root_line (lines_in text)) refl h
  where
    by_root : (t : Bool) → list_any is_root_line (lines_in text) ≡ t
        → cond t (behind (schema_of_lines (schema_part (lines_in text)) []) (λ t. outs_from (suc (length (schema_part (lines_in text)))) (behind_schema (lines_in text)) (behind_lines text) >>= (λ os. Ok (record { schema = t; outs = os }))))
        (behind (schema_of_lines (lines_in text) (behind_lines text)) (λ t. outs_from (suc (length (lines_in text))) [] (behind_lines text) >>= (λ os. Ok (record { schema = t; outs = os })))) ≡ Ok p → IsPrintText text p
    by_root false none k =
        let b = behind_of (schema_of_lines (lines_in text) (behind_lines text)) (λ t. outs_from (suc (length (lines_in text))) [] (behind_lines text) >>= (λ os. Ok (record { schema = t; outs = os }))) p k in
        absurd (none_goes_on (suc (length (lines_in text))) (behind_lines text) (λ os. Ok (record { schema = b.0; outs = os })) p b.2)
    by_root true has k =
        let part = schema_part (lines_in text) in
        let rest = behind_schema (lines_in text) in
        let b = behind_of (schema_of_lines part []) (λ t. outs_from (suc (length part)) rest (behind_lines text) >>= (λ os. Ok (record { schema = t; outs = os }))) p k in
        let own = lines_are_schema (map words_of part) (length part) [] b.0 b.1 in
        let c = bound_from (outs_from (suc (length part)) rest (behind_lines text)) (λ os. Ok (record { schema = b.0; outs = os })) p b.2 in
        let r = outs_read (suc (length part)) rest (behind_lines text) c.0 c.1 in
        let all : record { schema = b.0; outs = c.0 } ≡ p = (let q = c.2 in cc) in
        let count : length part ≡ length (lines_of b.0) = sym (length-map part words_of) ∙ (ap length own.2 ∙ length-map (lines_of b.0) line_words) in
        let made : Print = record { schema = b.0; outs = c.0 } in
        let fits : is_print made ≡ true = and_from (is_spelled b.0) _ own.1 (and_from (are_numbered (suc (length (lines_of b.0))) c.0) (are_outs c.0) (ap (λ n. are_numbered (suc n) c.0) (sym count) ∙ r.numbered) r.fits) in
        let words : lines (map words_of (lines_in text)) ≡ lines (all_lines made) =
        ap (λ ls. lines (map words_of ls)) (joined_again (lines_in text) has)
        ∙ (ap lines (map-append words_of part rest)
        ∙ (flat_map-append line (map words_of part) (map words_of rest)
        ∙ ((λ i. lines (own.2 i) ++ spaced_lines (output_lines c.0) rest r.lines i) ∙ sym (flat_map-append line (map line_words (lines_of b.0)) (output_lines c.0))))) in
        (ap is_print (sym all) ∙ fits, text_of_lines text r.nothing_left ∙ (words ∙ (sym (text_is made) ∙ ap print_text all)))
