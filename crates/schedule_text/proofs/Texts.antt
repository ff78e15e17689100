-- A text, line by line, as events, definitions and outputs.
use Rattle.std.proofs.Common.{◌≡◌, ℕ, suc, ◌+◌, true, false, cond, List, [], ◌∷◌, ◌++◌, Option, Some, None, Result, Ok, Err, refl, sym, ap, ap₂, ◌∙◌, add-one, append_assoc, codes}
use Rattle.std.specs.Option.{option_map_or}
use Rattle.std.proofs.lemmas.List.{append-nil}
use Rattle.schema_model.specs.Reading.{◌>>=◌}
use Rattle.hub_model.specs.declared.event.HubEvent.{HubEvent}
use Rattle.hub_model.specs.declared.event.HubOut.{HubOut}
use Rattle.text_model.specs.declared.schedule.Word.TheVariants as word
use Rattle.text_model.specs.Events.{event_of_line}
use Rattle.text_model.specs.Lines.{behind_lines, is_word, lines_in, words_of}
use Rattle.text_model.specs.OutLines.{out_of, outs_from}
use Rattle.room_model.specs.declared.definition.RoomDef.{RoomDef}
use Rattle.text_model.specs.DefLines.{next_def}
use Rattle.text_model.specs.Schedules.{Fault, Parts, at_end, events_from, is_opened, room_word, rooms_from}
use Rattle.text_words.specs.Cuts.{IsCut}
use Rattle.schedule_text.specs.Tells.{behind_some}

pub some_none : {A : Type 0} (r : Result (List A) Fault) → behind_some [] r ≡ r
some_none (Ok ys) = refl
some_none (Err f) = refl

pub some_more : {A : Type 0} (xs : List A) (x : A) (r : Result (List A) Fault) → behind_some xs (r >>= (λ ys. Ok (x ∷ ys))) ≡ behind_some (xs ++ x ∷ []) r
some_more xs x (Ok ys) = ap Ok (sym (append_assoc xs (x ∷ []) ys))
some_more xs x (Err f) = refl

pub some_end : {A : Type 0} (xs : List A) (n : ℕ) (ls : List (List ℕ)) (rest : List ℕ) → behind_some xs (at_end n ls rest []) ≡ at_end n ls rest xs
some_end xs n [] [] = ap Ok (append-nil xs)
some_end xs n [] (b ∷ rest) = refl
some_end xs n (l ∷ ls) rest = refl

-- ---- events

-- what a line is to events from it on
module _ (n : ℕ) (text line behind : List ℕ) (cut : IsCut text line behind) where
  rest : List ℕ
  rest = behind_lines behind

  events_cut : events_from n (lines_in text) (behind_lines text) ≡ events_from n (line ∷ lines_in behind) (behind_lines behind)
  events_cut = ap₂ (events_from n) cut.lines cut.rest

  outs_cut : outs_from n (lines_in text) (behind_lines text) ≡ outs_from n (line ∷ lines_in behind) (behind_lines behind)
  outs_cut = ap₂ (outs_from n) cut.lines cut.rest

  pub events_end : (es : List HubEvent) → is_word (codes "end") line ≡ true → behind_some es (events_from n (lines_in text) (behind_lines text)) ≡ at_end (n + 1) (lines_in behind) (behind_lines behind) es
  events_end es is =
      ap (behind_some es)
      (events_cut ∙ ap (λ b. cond b (at_end (suc n) (lines_in behind) (behind_lines behind) []) (option_map_or (λ e. events_from (suc n) (lines_in behind) (behind_lines behind) >>= (λ es. Ok (e ∷ es))) (event_of_line line) (Err (n, word.Event)))) is)
      ∙ (some_end es (suc n) (lines_in behind) (behind_lines behind) ∙ ap (λ k. at_end k (lines_in behind) (behind_lines behind) es) (sym (add-one n)))

  event_tried : is_word (codes "end") line ≡ false
      → events_from n (lines_in text) (behind_lines text) ≡ option_map_or (λ e. events_from (suc n) (lines_in behind) (behind_lines behind) >>= (λ es. Ok (e ∷ es))) (event_of_line line) (Err (n, word.Event))
  event_tried other = events_cut ∙ ap (λ b. cond b (at_end (suc n) (lines_in behind) (behind_lines behind) [])
      (option_map_or (λ e. events_from (suc n) (lines_in behind) (behind_lines behind) >>= (λ es. Ok (e ∷ es))) (event_of_line line) (Err (n, word.Event)))) other

  pub events_more : (es : List HubEvent) (e : HubEvent) → is_word (codes "end") line ≡ false → event_of_line line ≡ Some e
      → behind_some es (events_from n (lines_in text) (behind_lines text)) ≡ behind_some (es ++ e ∷ []) (events_from (n + 1) (lines_in behind) (behind_lines behind))
  events_more es e other is =
      ap (behind_some es) (event_tried other ∙ ap (λ o. option_map_or (λ e. events_from (suc n) (lines_in behind) (behind_lines behind) >>= (λ es. Ok (e ∷ es))) o (Err (n, word.Event))) is)
      ∙ (some_more es e (events_from (suc n) (lines_in behind) (behind_lines behind)) ∙ ap (λ k. behind_some (es ++ e ∷ []) (events_from k (lines_in behind) (behind_lines behind))) (sym (add-one n)))

  pub events_stop : (es : List HubEvent) → is_word (codes "end") line ≡ false → event_of_line line ≡ None → behind_some es (events_from n (lines_in text) (behind_lines text)) ≡ Err (n, word.Event)
  events_stop es other is =
      ap (behind_some es) (event_tried other ∙ ap (λ o. option_map_or (λ e. events_from (suc n) (lines_in behind) (behind_lines behind) >>= (λ es. Ok (e ∷ es))) o (Err (n, word.Event))) is)

  -- ---- outputs

  pub outs_end : (os : List (ℕ × HubOut)) → is_word (codes "end") line ≡ true → behind_some os (outs_from n (lines_in text) (behind_lines text)) ≡ at_end (n + 1) (lines_in behind) (behind_lines behind) os
  outs_end os is =
      ap (behind_some os)
      (outs_cut ∙ ap (λ b. cond b (at_end (suc n) (lines_in behind) (behind_lines behind) [])
      (option_map_or (λ o. outs_from (suc n) (lines_in behind) (behind_lines behind) >>= (λ os. Ok ((n, o) ∷ os))) (out_of (words_of line)) (Err (n, word.Output)))) is)
      ∙ (some_end os (suc n) (lines_in behind) (behind_lines behind) ∙ ap (λ k. at_end k (lines_in behind) (behind_lines behind) os) (sym (add-one n)))

  out_tried : is_word (codes "end") line ≡ false
      → outs_from n (lines_in text) (behind_lines text) ≡ option_map_or (λ o. outs_from (suc n) (lines_in behind) (behind_lines behind) >>= (λ os. Ok ((n, o) ∷ os))) (out_of (words_of line)) (Err (n, word.Output))
  out_tried other = outs_cut ∙ ap (λ b. cond b (at_end (suc n) (lines_in behind) (behind_lines behind) [])
      (option_map_or (λ o. outs_from (suc n) (lines_in behind) (behind_lines behind) >>= (λ os. Ok ((n, o) ∷ os))) (out_of (words_of line)) (Err (n, word.Output)))) other

  pub outs_more : (os : List (ℕ × HubOut)) (o : HubOut) → is_word (codes "end") line ≡ false → out_of (words_of line) ≡ Some o
      → behind_some os (outs_from n (lines_in text) (behind_lines text)) ≡ behind_some (os ++ (n, o) ∷ []) (outs_from (n + 1) (lines_in behind) (behind_lines behind))
  outs_more os o other is =
      ap (behind_some os) (out_tried other ∙ ap (λ p. option_map_or (λ o. outs_from (suc n) (lines_in behind) (behind_lines behind) >>= (λ os. Ok ((n, o) ∷ os))) p (Err (n, word.Output))) is)
      ∙ (some_more os (n, o) (outs_from (suc n) (lines_in behind) (behind_lines behind)) ∙ ap (λ k. behind_some (os ++ (n, o) ∷ []) (outs_from k (lines_in behind) (behind_lines behind))) (sym (add-one n)))

  pub outs_stop : (os : List (ℕ × HubOut)) → is_word (codes "end") line ≡ false → out_of (words_of line) ≡ None → behind_some os (outs_from n (lines_in text) (behind_lines text)) ≡ Err (n, word.Output)
  outs_stop os other is =
      ap (behind_some os) (out_tried other ∙ ap (λ p. option_map_or (λ o. outs_from (suc n) (lines_in behind) (behind_lines behind) >>= (λ os. Ok ((n, o) ∷ os))) p (Err (n, word.Output))) is)

  -- ---- definitions

  abbrev opened : List RoomDef → Result Parts Fault
  opened defs = events_from (suc n) (lines_in behind) (behind_lines behind) >>= (λ es. Ok (record { defs = defs; events = es }))

  abbrev tried : List RoomDef → Option RoomDef → Result Parts Fault
  tried defs o = option_map_or (λ d. rooms_from (suc n) (defs ++ d ∷ []) (lines_in behind) (behind_lines behind)) o (Err (n, room_word defs line))

  rooms_cut : (defs : List RoomDef) → rooms_from n defs (lines_in text) (behind_lines text) ≡ cond (is_opened defs line) (opened defs) (tried defs (next_def defs (words_of line)))
  rooms_cut defs = ap₂ (rooms_from n defs) cut.lines cut.rest

  pub rooms_end : (defs : List RoomDef) → is_opened defs line ≡ true
      → rooms_from n defs (lines_in text) (behind_lines text) ≡ (events_from (n + 1) (lines_in behind) (behind_lines behind) >>= (λ es. Ok (record { defs = defs; events = es })))
  rooms_end defs is =
      rooms_cut defs ∙ (ap (λ b. cond b (opened defs) (tried defs (next_def defs (words_of line)))) is
      ∙ ap (λ k. events_from k (lines_in behind) (behind_lines behind) >>= (λ es. Ok (record { defs = defs; events = es }))) (sym (add-one n)))

  pub rooms_more : (defs : List RoomDef) (d : RoomDef) → is_opened defs line ≡ false → next_def defs (words_of line) ≡ Some d
      → rooms_from n defs (lines_in text) (behind_lines text) ≡ rooms_from (n + 1) (defs ++ d ∷ []) (lines_in behind) (behind_lines behind)
  rooms_more defs d other is =
      rooms_cut defs ∙ (ap (λ b. cond b (opened defs) (tried defs (next_def defs (words_of line)))) other
      ∙ (ap (tried defs) is ∙ ap (λ k. rooms_from k (defs ++ d ∷ []) (lines_in behind) (behind_lines behind)) (sym (add-one n))))

  pub rooms_stop : (defs : List RoomDef) → is_opened defs line ≡ false → next_def defs (words_of line) ≡ None → rooms_from n defs (lines_in text) (behind_lines text) ≡ Err (n, room_word defs line)
  rooms_stop defs other is = rooms_cut defs ∙ (ap (λ b. cond b (opened defs) (tried defs (next_def defs (words_of line)))) other ∙ ap (tried defs) is)
