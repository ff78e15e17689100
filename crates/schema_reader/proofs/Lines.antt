-- A text, line by line.
use Rattle.std.proofs.Common.{◌≡◌, ℕ, suc, ◌+◌, ◌-◌, ◌<◌, List, [], ◌∷◌, ◌++◌, ◌≤◌, length, map, take, get_or, Result, Ok, Err, refl, sym, ap, ◌∙◌, add-one, arith}
use Rattle.std.proofs.lemmas.List.Splits.{length-slice_split}
use Rattle.std.proofs.lemmas.List.{length_push}
use Rattle.schema_model.specs.Classes.{Schema}
use Rattle.schema_model.specs.Reading.{◌>>=◌}
use Rattle.text_model.proofs.FirstLine.{is_lf}
use Rattle.text_model.specs.Lines.{pieces_of, words_of}
use Rattle.text_model.specs.SchemaReading.{Draft, empty_draft, ended, line_taken, lines_taken, read_schema_text}
use Rattle.text_model.specs.declared.fault.SchemaFault.{SchemaFault}
use Rattle.text_model.proofs.LinesFew.{lines_few, lines_taken-push}
use Rattle.text_words.specs.Cuts.{IsCut, IsUncut}
use Rattle.schema_reader.specs.Gives.{Gives}
use Rattle.schema_reader.proofs.GivesLaws.{gives_err}

-- what pieces give behind so many lines
abbrev read_on : ℕ → Draft → List (List ℕ) → Result Schema SchemaFault
read_on count d pieces =
    lines_taken (suc count) d (map words_of (take (length pieces - 1) pieces)) >>= ended (count + (length pieces - 1)) (get_or pieces (length pieces - 1) [])

-- the same of a text
abbrev pub read_rest : ℕ → Draft → List ℕ → Result Schema SchemaFault
read_rest count d text = read_on count d (pieces_of text)

pub read_rest_whole : (text : List ℕ) → read_rest 0 empty_draft text ≡ read_schema_text text
read_rest_whole text =
    let pieces = pieces_of text in
    let n = length pieces - 1 in
    let same : 0 + n ≡ n = omega arith in
    ap (λ k. lines_taken 1 empty_draft (map words_of (take n pieces)) >>= ended k (get_or pieces n [])) same

then_ended : (count n : ℕ) (last : List ℕ) (rest : List (List (List ℕ))) (r : Result Draft SchemaFault)
    → ((r >>= (λ next. lines_taken (suc (suc count)) next rest)) >>= ended (count + suc n) last) ≡ (r >>= (λ next. lines_taken (suc (suc count)) next rest >>= ended (suc count + n) last))
then_ended count n last rest (Ok next) =
    let same : count + suc n ≡ suc count + n = omega arith in
    ap (λ k. lines_taken (suc (suc count)) next rest >>= ended k last) same
then_ended count n last rest (Err f) = refl

read_on-cons : (count : ℕ) (d : Draft) (l : List ℕ) (ls : List (List ℕ)) → 0 < length ls
    → read_on count d (l ∷ ls) ≡ (line_taken (suc count) d (words_of l) >>= (λ next. read_on (suc count) next ls))
read_on-cons count d l [] h = absurd (omega arith)
read_on-cons count d l (m ∷ ms) h =
    let a : length (l ∷ m ∷ ms) - 1 ≡ suc (length ms) = omega arith in
    let b : length (m ∷ ms) - 1 ≡ length ms = omega arith in
    ap (λ k. lines_taken (suc count) d (map words_of (take k (l ∷ m ∷ ms))) >>= ended (count + k) (get_or (l ∷ m ∷ ms) k [])) a
    ∙ (then_ended count (length ms) (get_or (m ∷ ms) (length ms) []) (map words_of (take (length ms) (m ∷ ms))) (line_taken (suc count) d (words_of l))
    ∙ sym (ap (λ k. line_taken (suc count) d (words_of l) >>= (λ next. lines_taken (suc (suc count)) next (map words_of (take k (m ∷ ms))) >>= ended (suc count + k) (get_or (m ∷ ms) k []))) b))

-- a line, and what is behind it
read_rest_line : (count : ℕ) (d : Draft) (xs line behind : List ℕ) → IsCut xs line behind
    → read_rest count d xs ≡ (line_taken (count + 1) d (words_of line) >>= (λ next. read_rest (count + 1) next behind))
read_rest_line count d xs line behind cut =
    ap (read_on count d) cut.pieces
    ∙ (read_on-cons count d line (pieces_of behind) (omega (arith, length-slice_split is_lf behind))
    ∙ ap (λ k. line_taken k d (words_of line) >>= (λ next. read_rest k next behind)) (sym (add-one count)))

pub read_rest_last : (count : ℕ) (d : Draft) (xs : List ℕ) → IsUncut xs → read_rest count d xs ≡ ended count xs d
read_rest_last count d xs uncut =
    let same : count + 0 ≡ count = omega arith in
    ap (read_on count d) uncut.pieces ∙ ap (λ k. ended k xs d) same

-- a line that is taken, and one with a fault
pub read_rest_taken : (count : ℕ) (d now : Draft) (xs line behind : List ℕ) → IsCut xs line behind → line_taken (count + 1) d (words_of line) ≡ Ok now → read_rest count d xs ≡ read_rest (count + 1) now behind
read_rest_taken count d now xs line behind cut taken =
    read_rest_line count d xs line behind cut ∙ ap (λ r. r >>= (λ next. read_rest (count + 1) next behind)) taken

pub read_rest_refused : (count : ℕ) (d : Draft) (xs line behind : List ℕ) (f : SchemaFault) (whole : Result Schema SchemaFault) → IsCut xs line behind
    → Gives (Err f) (line_taken (count + 1) d (words_of line)) → read_rest count d xs ≡ whole → Gives (Err f) whole
read_rest_refused count d xs line behind f whole cut h g =
    gives_err f (line_taken (count + 1) d (words_of line)) whole
    (λ f k. sym g ∙ (read_rest_line count d xs line behind cut ∙ ap (λ r. r >>= (λ next. read_rest (count + 1) next behind)) k)) h

-- so many lines lead to a draft
pub record IsReached (count : ℕ) (d : Draft) : Type 0 where
  pub lines : List (List (List ℕ))
  pub counted : length lines ≡ count
  pub taken : lines_taken 1 empty_draft lines ≡ Ok d

pub reached_few : (count : ℕ) (d : Draft) → IsReached count d → count ≤ 16385
reached_few count d r = omega (arith, r.counted, lines_few r.lines d r.taken)

pub reached_more : (count : ℕ) (d now : Draft) (ws : List (List ℕ)) → IsReached count d → line_taken (count + 1) d ws ≡ Ok now → IsReached (count + 1) now
reached_more count d now ws r h =
    let place : 1 + length r.lines ≡ count + 1 = omega (arith, r.counted) in
    record {
      lines = r.lines ++ ws ∷ [];
      counted = omega (arith, length_push r.lines ws, r.counted);
      taken = lines_taken-push 1 empty_draft r.lines ws d now r.taken (ap (λ m. line_taken m d ws) place ∙ h);
    }
