-- The schema with which a text begins: its lines up to the first one of a root, or all.
use Rattle.std.proofs.Common.{◌≡◌, ℕ, suc, ◌+◌, ◌-◌, ◌<◌, ◌≤◌, ◌==◌, Bool, true, false, not, cond, ◌||◌, List, [], ◌∷◌, ◌++◌, length, take, drop, get_or, map, Result, Ok, refl, sym, ap, ap₂, ◌∙◌, append_assoc, append-nil, arith}
use Rattle.std.specs.List.{flat_map, list_all, list_any}
use Rattle.std.proofs.lemmas.List.Concat.{flat_map-append}
use Rattle.std.proofs.lemmas.List.Folds.{list_any-append}
use Rattle.std.proofs.lemmas.List.Splits.{length-slice_split}
use Rattle.std.proofs.lemmas.List.{drop_at, drop_all, length-append, length-take-le, length_push, take_all, take_at}
use Rattle.std.proofs.lemmas.Bool.{and_from, and_parts, or_from, or_parts}
use Rattle.lists.proofs.Passing.{all_append}
use Rattle.schema_model.specs.Classes.{Schema}
use Rattle.schema_model.specs.Reading.{◌>>=◌}
use Rattle.text_model.specs.Lines.{behind_lines, lines_in, pieces_of, words_of}
use Rattle.text_model.specs.Schedules.{Fault, behind, behind_schema, is_root_line, schema_of_lines, schema_part, with_schema}
use Rattle.text_model.specs.SchemaReading.{empty_draft, ended, lines_taken, read_pieces, read_schema_text}
use Rattle.text_model.proofs.SchemaLaw.{lines_are_schema}
use Rattle.text_model.proofs.Spaced.{cut_first, prefix_of_push, last_of_push}
use Rattle.text_words.specs.Cuts.{IsCut, IsUncut}
use Rattle.schedule_text.specs.Tells.{IsEnd}
use Rattle.text_words.proofs.CutLaws.{prefix_more, last_more}

-- lines, each with its LF
abbrev pub texts : List (List ℕ) → List ℕ
texts ls = flat_map (λ l. l ++ 10 ∷ []) ls

abbrev pub lack : List (List ℕ) → Bool
lack ls = list_all (λ l. list_all (λ b. not (b == 10)) l) ls

some_pieces : (t : List ℕ) → 0 < length (pieces_of t)
some_pieces t = omega (arith, length-slice_split (λ b. b == 10) t)

texts_first : (l : List ℕ) (ls : List (List ℕ)) (t : List ℕ) → texts (l ∷ ls) ++ t ≡ l ++ 10 ∷ (texts ls ++ t)
texts_first l ls t = append_assoc (l ++ 10 ∷ []) (texts ls) t ∙ append_assoc l (10 ∷ []) (texts ls ++ t)

pieces_first : (l : List ℕ) (ls : List (List ℕ)) (t : List ℕ) → list_all (λ b. not (b == 10)) l ≡ true → pieces_of (texts (l ∷ ls) ++ t) ≡ l ∷ pieces_of (texts ls ++ t)
pieces_first l ls t h = ap pieces_of (texts_first l ls t) ∙ cut_first 10 l (texts ls ++ t) h

pub pieces_behind : (ls : List (List ℕ)) (t : List ℕ) → lack ls ≡ true → pieces_of (texts ls ++ t) ≡ ls ++ pieces_of t
pieces_behind [] t h = refl
pieces_behind (l ∷ ls) t h =
    let parts = and_parts (list_all (λ b. not (b == 10)) l) (lack ls) h in
    pieces_first l ls t parts.0 ∙ ap (λ ps. l ∷ ps) (pieces_behind ls t parts.1)

pub lines_behind : (ls : List (List ℕ)) (t : List ℕ) → lack ls ≡ true → lines_in (texts ls ++ t) ≡ ls ++ lines_in t
lines_behind [] t h = refl
lines_behind (l ∷ ls) t h =
    let parts = and_parts (list_all (λ b. not (b == 10)) l) (lack ls) h in
    ap (λ ps. take (length ps - 1) ps) (pieces_first l ls t parts.0) ∙ (prefix_more l (pieces_of (texts ls ++ t)) (some_pieces (texts ls ++ t)) ∙ ap (λ ps. l ∷ ps) (lines_behind ls t parts.1))

pub rest_behind : (ls : List (List ℕ)) (t : List ℕ) → lack ls ≡ true → behind_lines (texts ls ++ t) ≡ behind_lines t
rest_behind [] t h = refl
rest_behind (l ∷ ls) t h =
    let parts = and_parts (list_all (λ b. not (b == 10)) l) (lack ls) h in
    ap (λ ps. get_or ps (length ps - 1) []) (pieces_first l ls t parts.0) ∙ (last_more l (pieces_of (texts ls ++ t)) (some_pieces (texts ls ++ t)) ∙ rest_behind ls t parts.1)

texts_long : (ls : List (List ℕ)) → length ls ≤ length (texts ls)
texts_long [] = omega arith
texts_long (l ∷ ls) = omega (arith, texts_long ls, length-append (l ++ 10 ∷ []) (texts ls), length-append l (10 ∷ []))

texts_push : (ls : List (List ℕ)) (l : List ℕ) → texts (ls ++ l ∷ []) ≡ texts ls ++ (l ++ 10 ∷ [])
texts_push ls l = flat_map-append (λ l. l ++ 10 ∷ []) ls (l ∷ []) ∙ ap (λ t. texts ls ++ t) (append-nil (l ++ 10 ∷ []))

-- ---- lines that were read, of which none is a root's

pub record IsRead (text : List ℕ) (count : ℕ) (rest : List ℕ) : Type 0 where
  pub done : List (List ℕ)
  pub joined : text ≡ texts done ++ rest
  pub lacking : lack done ≡ true
  pub none : list_any is_root_line done ≡ false
  pub counted : length done ≡ count

pub read_none : (text : List ℕ) → IsRead text 0 text
read_none text = record { done = []; joined = refl; lacking = refl; none = refl; counted = refl }

pub read_few : (text : List ℕ) (count : ℕ) (rest : List ℕ) → IsRead text count rest → count + length rest ≤ length text
read_few text count rest r = omega (arith, r.counted, texts_long r.done, ap length r.joined, length-append (texts r.done) rest)

-- one line more of a text
more_joined : (text rest line behind : List ℕ) (done : List (List ℕ)) → text ≡ texts done ++ rest → rest ≡ line ++ 10 ∷ behind → text ≡ texts (done ++ line ∷ []) ++ behind
more_joined text rest line behind done is cut =
    is ∙ (ap (λ t. texts done ++ t) (cut ∙ sym (append_assoc line (10 ∷ []) behind)) ∙ (sym (append_assoc (texts done) (line ++ 10 ∷ []) behind) ∙ ap (λ t. t ++ behind) (sym (texts_push done line))))

pub read_more : (text : List ℕ) (count : ℕ) (rest line behind : List ℕ) → IsRead text count rest → IsCut rest line behind → is_root_line line ≡ false → IsRead text (count + 1) behind
read_more text count rest line behind r cut other =
    record {
      done = r.done ++ line ∷ [];
      joined = more_joined text rest line behind r.done r.joined cut.joined;
      lacking = all_append (λ l. list_all (λ b. not (b == 10)) l) r.done (line ∷ []) r.lacking (and_from (list_all (λ b. not (b == 10)) line) true cut.lacks refl);
      none = list_any-append is_root_line r.done (line ∷ []) ∙ or_from (list_any is_root_line r.done) (is_root_line line || false) r.none (or_from (is_root_line line) false other refl);
      counted = omega (arith, r.counted, length_push r.done line);
    }

-- ---- the lines of a schema

-- a text of lines alone is read as them
pub schema_of_texts : (ls : List (List ℕ)) → lack ls ≡ true → read_schema_text (texts ls) ≡ schema_of_lines ls []
schema_of_texts ls h =
    let pieces : pieces_of (texts ls) ≡ ls ++ [] ∷ [] = ap pieces_of (sym (append-nil (texts ls))) ∙ pieces_behind ls [] h in
    let count : length (ls ++ [] ∷ []) - 1 ≡ length ls = omega (arith, length_push ls []) in
    ap read_pieces pieces
    ∙ (ap₂ (λ prefix last. lines_taken 1 empty_draft (map words_of prefix) >>= ended (length (ls ++ [] ∷ []) - 1) last) (prefix_of_push ls []) (last_of_push ls [])
    ∙ ap (λ k. lines_taken 1 empty_draft (map words_of ls) >>= ended k []) count)

-- the first root's line
part_at : (done : List (List ℕ)) (l : List ℕ) (more : List (List ℕ)) → list_any is_root_line done ≡ false → is_root_line l ≡ true → schema_part (done ++ l ∷ more) ≡ done ++ l ∷ []
part_at [] l more none is = ap (λ b. cond b (l ∷ []) (l ∷ schema_part more)) is
part_at (d ∷ done) l more none is =
    let p = or_parts (is_root_line d) (list_any is_root_line done) none in
    ap (λ b. cond b (d ∷ []) (d ∷ schema_part (done ++ l ∷ more))) p.0 ∙ ap (λ t. d ∷ t) (part_at done l more p.1 is)

behind_at : (done : List (List ℕ)) (l : List ℕ) (more : List (List ℕ)) → list_any is_root_line done ≡ false → is_root_line l ≡ true → behind_schema (done ++ l ∷ more) ≡ more
behind_at [] l more none is = ap (λ b. cond b more (behind_schema more)) is
behind_at (d ∷ done) l more none is =
    let p = or_parts (is_root_line d) (list_any is_root_line done) none in
    ap (λ b. cond b (done ++ l ∷ more) (behind_schema (done ++ l ∷ more))) p.0 ∙ behind_at done l more p.1 is

any_at : (done : List (List ℕ)) (l : List ℕ) (more : List (List ℕ)) → is_root_line l ≡ true → list_any is_root_line (done ++ l ∷ more) ≡ true
any_at [] l more is = ap (λ b. b || list_any is_root_line more) is
any_at (d ∷ done) l more is = by_first (is_root_line d) (any_at done l more is)
  where
    by_first : (b : Bool) → list_any is_root_line (done ++ l ∷ more) ≡ true → (b || list_any is_root_line (done ++ l ∷ more)) ≡ true
    by_first true rest = refl
    by_first false rest = rest

-- the text up to the first root's line
pub end_found : (text : List ℕ) (count : ℕ) (rest line behind_it : List ℕ) → IsRead text count rest → IsCut rest line behind_it → is_root_line line ≡ true → IsEnd text (count + 1) (length text - length behind_it)
end_found text count rest line behind_it r cut is =
    let own = r.done ++ line ∷ [] in
    let len = length text - length behind_it in
    let all : text ≡ texts own ++ behind_it = more_joined text rest line behind_it r.done r.joined cut.joined in
    let lacking : lack own ≡ true = all_append (λ l. list_all (λ b. not (b == 10)) l) r.done (line ∷ []) r.lacking (and_from (list_all (λ b. not (b == 10)) line) true cut.lacks refl) in
    let long : length (texts own) ≡ len = omega (arith, ap length all, length-append (texts own) behind_it) in
    let prefix : take len text ≡ texts own = ap (take len) all ∙ take_at (texts own) behind_it len long in
    let back : drop len text ≡ behind_it = ap (drop len) all ∙ drop_at (texts own) behind_it len long in
    let lines : lines_in text ≡ r.done ++ line ∷ lines_in behind_it = ap lines_in all ∙ (lines_behind own behind_it lacking ∙ append_assoc r.done (line ∷ []) (lines_in behind_it)) in
    let ended_by : behind_lines text ≡ behind_lines behind_it = ap behind_lines all ∙ rest_behind own behind_it lacking in
    let count_is : length own ≡ count + 1 = omega (arith, r.counted, length_push r.done line) in
    let go : ℕ → Schema → List (List ℕ) → Result (ℕ × Schema × List (List ℕ)) Fault = λ n s ls. Ok (n, s, ls) in
    record {
      within = omega arith;
      few = omega (arith, ap length back, ap length all, length-append (texts own) behind_it, texts_long own, count_is);
      parted =
          ap (λ ls. with_schema ls (behind_lines text) go) lines
          ∙ (ap (λ b. cond b (behind (schema_of_lines (schema_part (r.done ++ line ∷ lines_in behind_it)) []) (λ s. go (suc (length (schema_part (r.done ++ line ∷ lines_in behind_it)))) s (behind_schema (r.done ++ line ∷ lines_in behind_it))))
          (behind (schema_of_lines (r.done ++ line ∷ lines_in behind_it) (behind_lines text)) (λ s. go (suc (length (r.done ++ line ∷ lines_in behind_it))) s []))) (any_at r.done line (lines_in behind_it) is)
          ∙ (ap₂ (λ part more. behind (schema_of_lines part []) (λ s. go (suc (length part)) s more)) (part_at r.done line (lines_in behind_it) r.none is) (behind_at r.done line (lines_in behind_it) r.none is)
          ∙ (ap (λ x. behind x (λ s. go (suc (length own)) s (lines_in behind_it))) (sym (ap read_schema_text prefix ∙ schema_of_texts own lacking))
          ∙ ap₂ (λ k more. behind (read_schema_text (take len text)) (λ s. go (suc k) s (lines_in more))) count_is (sym back))));
      rest = λ s read. ap behind_lines back ∙ sym ended_by;
    }

-- or all of it
pub end_all : (text : List ℕ) (count : ℕ) (rest : List ℕ) → IsRead text count rest → IsUncut rest → IsEnd text count (length text)
end_all text count rest r uncut =
    let len = length text in
    let lines : lines_in text ≡ r.done = ap lines_in r.joined ∙ (lines_behind r.done rest r.lacking ∙ (ap (λ t. r.done ++ t) uncut.lines ∙ append-nil r.done)) in
    let count_is : length (lines_in text) ≡ count = ap length lines ∙ r.counted in
    let whole : take len text ≡ text = take_all len text (omega arith) in
    let nothing : drop len text ≡ [] = drop_all len text (omega arith) in
    let none : list_any is_root_line (lines_in text) ≡ false = ap (list_any is_root_line) lines ∙ r.none in
    let pieces = pieces_of text in
    let same : read_schema_text text ≡ schema_of_lines (lines_in text) (behind_lines text) =
    ap (λ k. lines_taken 1 empty_draft (map words_of (lines_in text)) >>= ended k (behind_lines text)) (sym (length-take-le (length pieces - 1) pieces (omega arith))) in
    let go : ℕ → Schema → List (List ℕ) → Result (ℕ × Schema × List (List ℕ)) Fault = λ n s ls. Ok (n, s, ls) in
    record {
      within = omega arith;
      few = omega (arith, ap length nothing, r.counted, texts_long r.done, ap length r.joined, length-append (texts r.done) rest);
      parted =
          ap (λ b. cond b (behind (schema_of_lines (schema_part (lines_in text)) []) (λ s. go (suc (length (schema_part (lines_in text)))) s (behind_schema (lines_in text))))
          (behind (schema_of_lines (lines_in text) (behind_lines text)) (λ s. go (suc (length (lines_in text))) s []))) none
          ∙ (ap (λ x. behind x (λ s. go (suc (length (lines_in text))) s [])) (sym (ap read_schema_text whole ∙ same))
          ∙ ap₂ (λ k more. behind (read_schema_text (take len text)) (λ s. go (suc k) s (lines_in more))) count_is (sym nothing));
      rest = λ s read.
          ap behind_lines nothing ∙ sym (lines_are_schema (map words_of (lines_in text)) (length (lines_in text)) (behind_lines text) s (sym (ap read_schema_text whole ∙ same) ∙ read)).0;
    }
