-- A text is read as a schedule exactly where it is that schedule's one text.
use Rattle.std.proofs.Common.{◌≡◌, ℕ, suc, ◌≤◌, Bool, true, false, not, ◌&&◌, ◌||◌, cond, List, [], ◌∷◌, ◌++◌, length, map, Option, Some, None, Result, Ok, Err, refl, sym, ap, ◌∙◌, subst, arith, append_assoc, append-nil, bytes_eq, codes, leb, le-leb, leb-true, ltb, lt-ltb, ltb-true, length-append}
use Rattle.std.specs.List.{flat_map, list_all, list_any}
use Rattle.std.specs.Option.{option_map_or}
use Rattle.std.proofs.lemmas.Bool.{and_parts, and_from, false_from_ne_true, not-true, true≢false}
use Rattle.std.proofs.lemmas.Grind.{flat_map-append}
use Rattle.std.proofs.lemmas.List.{map-append}
use Rattle.lists.proofs.Passing.{all_append}
use Rattle.state_model.specs.Sound.{keys_differ}
use Rattle.schema_model.specs.Classes.{Schema}
use Rattle.schema_model.specs.Reading.{◌>>=◌}
use Rattle.room_model.specs.declared.definition.RoomDef.{RoomDef}
use Rattle.hub_model.specs.declared.event.HubEvent.{HubEvent}
use Rattle.text_model.specs.declared.fault.SchemaFault.{SchemaFault}
use Rattle.text_model.specs.declared.schedule.Schedule.{Schedule}
use Rattle.text_model.specs.declared.schedule.Word.TheVariants as word
use Rattle.text_model.specs.DefLines.{def_of, def_words, has_name, is_named_def, most_defs, next_def}
use Rattle.text_model.specs.Events.{event_of, event_of_line, event_words, is_event}
use Rattle.text_model.specs.Lines.{behind_lines, is_word, lines_in, pieces_of, words_of}
use Rattle.text_model.specs.Marks.{is_id, line, lines, spaced}
use Rattle.text_model.specs.Schedules.{Fault, IsScheduleText, Parts, are_named_defs, at_end, behind, behind_schema, events_from, heading_from, is_opened, is_root_form, is_root_line, is_schedule, process_of, read_schedule_text, room_word, rooms_from, schedule_lines, schedule_text, schema_of_lines, schema_part, with_schema}
use Rattle.text_model.specs.SchemaLines.{RootLine, SchemaLine, class_lines, class_name, field_line, is_spelled, line_words, lines_of}
use Rattle.schema_model.specs.declared.class.Class.{Class}
use Rattle.schema_model.specs.declared.class.FieldDecl.{FieldDecl}
use Rattle.text_model.specs.SchemaReading.{empty_draft, ended, line_form, lines_taken}
use Rattle.text_model.proofs.Choices.{choose_if, chosen_if, pass, passed}
use Rattle.text_model.proofs.DefLaws.{def_is, def_plain, def_read}
use Rattle.text_model.proofs.EventLaws.{event_is, event_read}
use Rattle.text_model.proofs.Keys.{keys_apart, keys_push}
use Rattle.text_model.proofs.LineForms.{form_read, is_line_form}
use Rattle.text_model.proofs.LinePlain.{form_plain}
use Rattle.text_model.proofs.LineTaken.{bound_from}
use Rattle.text_model.proofs.NamesPlain.{id_plain}
use Rattle.text_model.proofs.SchemaLaw.{lines_are_schema, schema_lines_formed, schema_lines_plain, schema_lines_read}
use Rattle.text_model.proofs.Spaced.{prefix_of, prefix_of_push, is_line, is_plain, last_of, last_of_push, pieces_of-lines, spaced-words_of, text_of_lines, words_of-lines, words_of_line}
use Rattle.text_model.proofs.WordLaws.{word_is}
use Rattle.text_model.proofs.WordsPlain.{event_plain}

-- ---- results

pub end_of : {A : Type 0} (n : ℕ) (ls : List (List ℕ)) (rest : List ℕ) (x y : A) → at_end n ls rest x ≡ Ok y → (ls ≡ []) × (rest ≡ []) × (x ≡ y)
end_of n [] [] x y h = (refl, refl, (cc))
end_of n [] (b ∷ bs) x y h = absurd (cc)
end_of n (l ∷ ls) rest x y h = absurd (cc)

-- ---- events

abbrev pub event_lines : List HubEvent → List (List (List ℕ))
event_lines es = map event_words es ++ (codes "end" ∷ []) ∷ []

record EventsRead (ls : List (List ℕ)) (rest : List ℕ) (es : List HubEvent) : Type 0 where
  nothing_left : rest ≡ []
  lines : ls ≡ map spaced (event_lines es)
  fits : list_all is_event es ≡ true

pub line_is : (l : List ℕ) (ws : List (List ℕ)) → words_of l ≡ ws → l ≡ spaced ws
line_is l ws h = sym (spaced-words_of l) ∙ ap spaced h

events_read : (n : ℕ) (ls : List (List ℕ)) (rest : List ℕ) (es : List HubEvent) → events_from n ls rest ≡ Ok es → EventsRead ls rest es
events_read n [] rest es h = absurd (cc)
events_read n (l ∷ ls) rest es h = by_end (is_word (codes "end") l) refl h (λ es. events_read (suc n) ls rest es)
  where
    by_event : (o : Option HubEvent) → event_of_line l ≡ o → option_map_or (λ e. events_from (suc n) ls rest >>= (λ es. Ok (e ∷ es))) o (Err (n, word.Event)) ≡ Ok es
        → ((es : List HubEvent) → events_from (suc n) ls rest ≡ Ok es → EventsRead ls rest es) → EventsRead (l ∷ ls) rest es
    by_event None is k rest_of = absurd (cc)
    by_event (Some e) is k rest_of =
        let b = bound_from (events_from (suc n) ls rest) (λ es. Ok (e ∷ es)) es k in
        let r = rest_of b.0 b.1 in
        let a = event_read (words_of l) e is in
        let all : e ∷ b.0 ≡ es = (let q = b.2 in cc) in
        record {
          nothing_left = r.nothing_left;
          lines = (λ i. line_is l (event_words e) a.words i ∷ r.lines i) ∙ ap (λ es. map spaced (event_lines es)) all;
          fits = ap (list_all is_event) (sym all) ∙ and_from (is_event e) (list_all is_event b.0) a.fits r.fits;
        }

    by_end : (t : Bool) → is_word (codes "end") l ≡ t → cond t (at_end (suc n) ls rest []) (option_map_or (λ e. events_from (suc n) ls rest >>= (λ es. Ok (e ∷ es))) (event_of_line l) (Err (n, word.Event))) ≡ Ok es
        → ((es : List HubEvent) → events_from (suc n) ls rest ≡ Ok es → EventsRead ls rest es) → EventsRead (l ∷ ls) rest es
    by_end true is k rest_of =
        let e = end_of (suc n) ls rest [] es k in
        record {
          nothing_left = e.1;
          lines = (λ i. word_is (codes "end") l is i ∷ e.0 i) ∙ ap (λ es. map spaced (event_lines es)) e.2;
          fits = ap (list_all is_event) (sym e.2);
        }
    by_end false other k rest_of = by_event (event_of_line l) refl k rest_of

-- the line of an event
line_event : (e : HubEvent) → is_event e ≡ true → event_of_line (spaced (event_words e)) ≡ Some e
line_event e h = ap event_of (words_of_line (event_words e) (event_plain e h)) ∙ event_is e h

no_end : (l : List ℕ) (e : HubEvent) → event_of_line l ≡ Some e → is_word (codes "end") l ≡ false
no_end l e is = false_from_ne_true (is_word (codes "end") l) (λ t. absurd (let both : None ≡ Some e = sym (ap event_of_line (word_is (codes "end") l t)) ∙ is in cc))

events_is : (n : ℕ) (es : List HubEvent) → list_all is_event es ≡ true → events_from n (map spaced (event_lines es)) [] ≡ Ok es
events_is n [] h = refl
events_is n (e ∷ es) h =
    let p = and_parts (is_event e) (list_all is_event es) h in
    let own = line_event e p.0 in
    rw (no_end (spaced (event_words e)) e own, own, events_is (suc n) es p.1) refl

events_plain : (es : List HubEvent) → list_all is_event es ≡ true → list_all is_line (event_lines es) ≡ true
events_plain [] h = refl
events_plain (e ∷ es) h =
    let p = and_parts (is_event e) (list_all is_event es) h in
    and_from (is_line (event_words e)) _ (event_plain e p.0) (events_plain es p.1)

-- ---- definitions

abbrev names_of : List RoomDef → List (List ℕ)
names_of ds = map (λ (d : RoomDef). d.name) ds

-- few, and of different names
record AreKept (ds : List RoomDef) : Type 0 where
  few : length ds ≤ most_defs
  differ : keys_differ (names_of ds) ≡ true

abbrev pub room_lines : List RoomDef → List HubEvent → List (List (List ℕ))
room_lines ds es = map def_words ds ++ (codes "events" ∷ []) ∷ event_lines es

record RoomsRead (before : List RoomDef) (ls : List (List ℕ)) (rest : List ℕ) (parts : Parts) : Type 0 where
  more : List RoomDef
  defs : before ++ more ≡ parts.defs
  nothing_left : rest ≡ []
  lines : ls ≡ map spaced (room_lines more parts.events)
  named : list_all is_named_def more ≡ true
  kept : AreKept (before ++ more)
  some : 1 ≤ length (before ++ more)
  fits : list_all is_event parts.events ≡ true

has_name_of : (ds : List RoomDef) (name : List ℕ) → has_name ds name ≡ list_any (bytes_eq name) (names_of ds)
has_name_of [] name = refl
has_name_of (d ∷ ds) name = ap (λ b. bytes_eq name d.name || b) (has_name_of ds name)

kept_push : (ds : List RoomDef) (d : RoomDef) → AreKept ds → (ltb (length ds) most_defs && not (has_name ds d.name)) ≡ true → AreKept (ds ++ d ∷ [])
kept_push ds d kept test =
    let p = and_parts (ltb (length ds) most_defs) (not (has_name ds d.name)) test in
    record {
      few = omega (arith, length-append ds (d ∷ []), ltb-true (length ds) most_defs p.0);
      differ = ap keys_differ (map-append (λ (d : RoomDef). d.name) ds (d ∷ [])) ∙ keys_push (names_of ds) d.name kept.differ (ap not (sym (has_name_of ds d.name)) ∙ p.1);
    }

opened_is : (ds : List RoomDef) (l : List ℕ) → is_opened ds l ≡ true → (l ≡ codes "events") × (1 ≤ length ds)
opened_is [] l h = absurd (true≢false (sym h))
opened_is (d ∷ ds) l h = (word_is (codes "events") l h, omega arith)

rooms_read : (n : ℕ) (before : List RoomDef) (ls : List (List ℕ)) (rest : List ℕ) (parts : Parts) → AreKept before → rooms_from n before ls rest ≡ Ok parts → RoomsRead before ls rest parts
rooms_read n before [] rest parts kept h = absurd (cc)
rooms_read n before (l ∷ ls) rest parts kept h = by_open (is_opened before l) refl h (λ d kept. rooms_read (suc n) (before ++ d ∷ []) ls rest parts kept)
  where
    by_def : (o : Option RoomDef) → next_def before (words_of l) ≡ o → option_map_or (λ d. rooms_from (suc n) (before ++ d ∷ []) ls rest) o (Err (n, room_word before l)) ≡ Ok parts
        → ((d : RoomDef) → AreKept (before ++ d ∷ []) → rooms_from (suc n) (before ++ d ∷ []) ls rest ≡ Ok parts → RoomsRead (before ++ d ∷ []) ls rest parts) → RoomsRead before (l ∷ ls) rest parts
    by_def None is k rest_of = absurd (cc)
    by_def (Some d) is k rest_of =
        let p = passed (λ (d : RoomDef). ltb (length before) most_defs && not (has_name before d.name)) (def_of (words_of l)) d is in
        let a = def_read (words_of l) d p.0 in
        let r = rest_of d (kept_push before d kept p.1) k in
        let same : before ++ d ∷ r.more ≡ (before ++ d ∷ []) ++ r.more = sym (append_assoc before (d ∷ []) r.more) in
        record {
          more = d ∷ r.more;
          defs = same ∙ r.defs;
          nothing_left = r.nothing_left;
          lines = λ i. line_is l (def_words d) a.words i ∷ r.lines i;
          named = and_from (is_named_def d) (list_all is_named_def r.more) a.fits r.named;
          kept = subst AreKept (sym same) r.kept;
          some = subst (λ ds. 1 ≤ length ds) (sym same) r.some;
          fits = r.fits;
        }

    by_open : (t : Bool) → is_opened before l ≡ t → cond t (events_from (suc n) ls rest >>= (λ es. Ok (record { defs = before; events = es })))
        (option_map_or (λ d. rooms_from (suc n) (before ++ d ∷ []) ls rest) (next_def before (words_of l)) (Err (n, room_word before l))) ≡ Ok parts
        → ((d : RoomDef) → AreKept (before ++ d ∷ []) → rooms_from (suc n) (before ++ d ∷ []) ls rest ≡ Ok parts → RoomsRead (before ++ d ∷ []) ls rest parts) → RoomsRead before (l ∷ ls) rest parts
    by_open true is k rest_of =
        let b = bound_from (events_from (suc n) ls rest) (λ es. Ok (record { defs = before; events = es })) parts k in
        let e = events_read (suc n) ls rest b.0 b.1 in
        let all : record { defs = before; events = b.0 } ≡ parts = (let q = b.2 in cc) in
        let o = opened_is before l is in
        let nil = append-nil before in
        record {
          more = [];
          defs = nil ∙ ap (λ (p : Parts). p.defs) all;
          nothing_left = e.nothing_left;
          lines = (λ i. o.0 i ∷ e.lines i) ∙ ap (λ (p : Parts). map spaced (room_lines [] p.events)) all;
          named = refl;
          kept = subst AreKept (sym nil) kept;
          some = subst (λ ds. 1 ≤ length ds) (sym nil) o.1;
          fits = ap (λ (p : Parts). list_all is_event p.events) (sym all) ∙ e.fits;
        }
    by_open false other k rest_of = by_def (next_def before (words_of l)) refl k rest_of

-- the line of a definition
line_def : (d : RoomDef) → is_named_def d ≡ true → def_of (words_of (spaced (def_words d))) ≡ Some d
line_def d h = ap def_of (words_of_line (def_words d) (def_plain d h)) ∙ def_is d h

no_events : (ds : List RoomDef) (l : List ℕ) (d : RoomDef) → def_of (words_of l) ≡ Some d → is_opened ds l ≡ false
no_events [] l d is = refl
no_events (x ∷ ds) l d is = false_from_ne_true (is_word (codes "events") l) (λ t. absurd (let both : None ≡ Some d = sym (ap (λ l. def_of (words_of l)) (word_is (codes "events") l t)) ∙ is in cc))

may_follow : (before : List RoomDef) (d : RoomDef) (ds : List RoomDef) → AreKept (before ++ d ∷ ds) → (ltb (length before) most_defs && not (has_name before d.name)) ≡ true
may_follow before d ds kept =
    and_from (ltb (length before) most_defs) (not (has_name before d.name)) (lt-ltb (length before) most_defs (omega (arith, length-append before (d ∷ ds), kept.few)))
    (ap not (has_name_of before d.name) ∙ keys_apart (names_of before) d.name (names_of ds) (ap keys_differ (sym (map-append (λ (d : RoomDef). d.name) before (d ∷ ds))) ∙ kept.differ))

opened_now : (ds : List RoomDef) → 1 ≤ length ds → is_opened ds (codes "events") ≡ true
opened_now [] h = absurd (omega arith)
opened_now (d ∷ ds) h = refl

rooms_is : (n : ℕ) (before more : List RoomDef) (es : List HubEvent) → AreKept (before ++ more) → 1 ≤ length (before ++ more) → list_all is_named_def more ≡ true → list_all is_event es ≡ true
    → rooms_from n before (map spaced (room_lines more es)) [] ≡ Ok (record { defs = before ++ more; events = es })
rooms_is n before [] es kept some named fits =
    let nil = append-nil before in
    rw (opened_now before (subst (λ ds. 1 ≤ length ds) nil some), events_is (suc n) es fits) (ap (λ ds. Ok (record { defs = ds; events = es })) (sym nil))
rooms_is n before (d ∷ ds) es kept some named fits =
    let p = and_parts (is_named_def d) (list_all is_named_def ds) named in
    let own = line_def d p.0 in
    let next : next_def before (words_of (spaced (def_words d))) ≡ Some d = pass (λ (d : RoomDef). ltb (length before) most_defs && not (has_name before d.name)) (def_of (words_of (spaced (def_words d)))) d own (may_follow before d ds kept) in
    let same : (before ++ d ∷ []) ++ ds ≡ before ++ d ∷ ds = append_assoc before (d ∷ []) ds in
    rw (no_events before (spaced (def_words d)) d own, next)
    (rooms_is (suc n) (before ++ d ∷ []) ds es (subst AreKept (sym same) kept) (subst (λ ds. 1 ≤ length ds) (sym same) some) p.1 fits ∙ ap (λ ds. Ok (record { defs = ds; events = es })) same)

rooms_plain : (ds : List RoomDef) (es : List HubEvent) → list_all is_named_def ds ≡ true → list_all is_event es ≡ true → list_all is_line (room_lines ds es) ≡ true
rooms_plain [] es named fits = and_from (is_line (codes "events" ∷ [])) _ refl (events_plain es fits)
rooms_plain (d ∷ ds) es named fits =
    let p = and_parts (is_named_def d) (list_all is_named_def ds) named in
    and_from (is_line (def_words d)) _ (def_plain d p.0) (rooms_plain ds es p.1 fits)

-- ---- the heading

record HeadingRead (schema : Schema) (ls : List (List ℕ)) (rest : List ℕ) (s : Schedule) : Type 0 where
  schema_is : s.schema ≡ schema
  nothing_left : rest ≡ []
  lines : ls ≡ map spaced (schedule_lines s)
  process : is_id s.process ≡ true
  defs : are_named_defs s.defs ≡ true
  fits : list_all is_event s.events ≡ true

process_read : (ws : List (List ℕ)) (id : List ℕ) → process_of ws ≡ Some id → (ws ≡ codes "process" ∷ id ∷ []) × (is_id id ≡ true)
process_read [] id h = absurd (cc)
process_read (w ∷ []) id h = absurd (cc)
process_read (w ∷ x ∷ []) id h =
    let c = chosen_if (is_word (codes "process") w && is_id x) x id h in
    let p = and_parts (is_word (codes "process") w) (is_id x) c.0 in
    ((λ i. word_is (codes "process") w p.0 i ∷ c.1 i ∷ []), ap is_id (sym c.1) ∙ p.1)
process_read (w ∷ x ∷ y ∷ ws) id h = absurd (cc)

nothing_kept : AreKept []
nothing_kept = record { few = omega arith; differ = refl }

named_all : (ds : List RoomDef) → list_all is_named_def ds ≡ true → AreKept ds → 1 ≤ length ds → are_named_defs ds ≡ true
named_all ds named kept some =
    and_from (list_all is_named_def ds) _ named (and_from (leb 1 (length ds)) _ (le-leb 1 (length ds) some) (and_from (leb (length ds) most_defs) _ (le-leb (length ds) most_defs kept.few) kept.differ))

heading_read : (n : ℕ) (schema : Schema) (ls : List (List ℕ)) (rest : List ℕ) (s : Schedule) → heading_from n schema ls rest ≡ Ok s → HeadingRead schema ls rest s
heading_read n schema [] rest s h = absurd (cc)
heading_read n schema (l ∷ ls) rest s h = by_process (process_of (words_of l)) refl h
  where
    made : List ℕ → Parts → Schedule
    made id parts = record { schema = schema; process = id; defs = parts.defs; events = parts.events }

    by_process : (o : Option (List ℕ)) → process_of (words_of l) ≡ o
        → option_map_or (λ id. rooms_from (suc n) [] ls rest >>= (λ parts. Ok (record { schema = schema; process = id; defs = parts.defs; events = parts.events }))) o (Err (n, word.Process)) ≡ Ok s
        → HeadingRead schema (l ∷ ls) rest s
    by_process None is k = absurd (cc)
    by_process (Some id) is k =
        let b = bound_from (rooms_from (suc n) [] ls rest) (λ parts. Ok (record { schema = schema; process = id; defs = parts.defs; events = parts.events })) s k in
        let r = rooms_read (suc n) [] ls rest b.0 nothing_kept b.1 in
        let p = process_read (words_of l) id is in
        let all : record { schema = schema; process = id; defs = (b.0).defs; events = (b.0).events } ≡ s = (let q = b.2 in cc) in
        let lines : l ∷ ls ≡ map spaced ((codes "process" ∷ id ∷ []) ∷ room_lines (b.0).defs (b.0).events) =
        (λ i. line_is l (codes "process" ∷ id ∷ []) p.0 i ∷ r.lines i) ∙ ap (λ ds. map spaced ((codes "process" ∷ id ∷ []) ∷ room_lines ds (b.0).events)) r.defs in
        record {
          schema_is = sym (ap (λ (s : Schedule). s.schema) all);
          nothing_left = r.nothing_left;
          lines = lines ∙ ap (λ (s : Schedule). map spaced (schedule_lines s)) all;
          process = ap (λ (s : Schedule). is_id s.process) (sym all) ∙ p.1;
          defs = ap (λ (s : Schedule). are_named_defs s.defs) (sym all) ∙ (ap are_named_defs (sym r.defs) ∙ named_all r.more r.named r.kept r.some);
          fits = ap (λ (s : Schedule). list_all is_event s.events) (sym all) ∙ r.fits;
        }

-- a schedule that has a text, by its parts
record Written (s : Schedule) : Type 0 where
  spelled : is_spelled s.schema ≡ true
  process : is_id s.process ≡ true
  named : list_all is_named_def s.defs ≡ true
  kept : AreKept s.defs
  some : 1 ≤ length s.defs
  fits : list_all is_event s.events ≡ true

written_of : (s : Schedule) → is_schedule s ≡ true → Written s
written_of s h =
    let a = and_parts (is_spelled s.schema) (is_id s.process && (are_named_defs s.defs && list_all is_event s.events)) h in
    let b = and_parts (is_id s.process) (are_named_defs s.defs && list_all is_event s.events) a.1 in
    let c = and_parts (are_named_defs s.defs) (list_all is_event s.events) b.1 in
    let d = and_parts (list_all is_named_def s.defs) (leb 1 (length s.defs) && (leb (length s.defs) most_defs && keys_differ (names_of s.defs))) c.0 in
    let e = and_parts (leb 1 (length s.defs)) (leb (length s.defs) most_defs && keys_differ (names_of s.defs)) d.1 in
    let f = and_parts (leb (length s.defs) most_defs) (keys_differ (names_of s.defs)) e.1 in
    record {
      spelled = a.0;
      process = b.0;
      named = d.0;
      kept = record { few = leb-true (length s.defs) most_defs f.0; differ = f.1 };
      some = leb-true 1 (length s.defs) e.0;
      fits = c.1;
    }

process_plain : (id : List ℕ) → is_id id ≡ true → is_line (codes "process" ∷ id ∷ []) ≡ true
process_plain id h = and_from (is_plain id) true (id_plain id h) refl

schedule_plain : (s : Schedule) → Written s → list_all is_line (schedule_lines s) ≡ true
schedule_plain s w = and_from (is_line (codes "process" ∷ s.process ∷ [])) _ (process_plain s.process w.process) (rooms_plain s.defs s.events w.named w.fits)

heading_is : (n : ℕ) (s : Schedule) → Written s → heading_from n s.schema (map spaced (schedule_lines s)) [] ≡ Ok s
heading_is n s w =
    let process : process_of (words_of (spaced (codes "process" ∷ s.process ∷ []))) ≡ Some s.process =
    ap process_of (words_of_line (codes "process" ∷ s.process ∷ []) (process_plain s.process w.process)) ∙ choose_if (is_id s.process) s.process w.process in
    rw (process, rooms_is (suc n) [] s.defs s.events w.kept w.some w.named w.fits) refl

-- ---- the schema's lines

-- the form of no line but the last is a root's
abbrev not_root : SchemaLine → Bool
not_root f = not (is_root_form (Some f))

fields_not_root : (cs : List Class) (fs : List FieldDecl) → list_all not_root (map (field_line cs) fs) ≡ true
fields_not_root cs [] = refl
fields_not_root cs (f ∷ fs) = fields_not_root cs fs

classes_not_root : (cs todo : List Class) → list_all not_root (flat_map (class_lines cs) todo) ≡ true
classes_not_root cs [] = refl
classes_not_root cs (c ∷ todo) = all_append not_root (map (field_line cs) c.own) (flat_map (class_lines cs) todo) (fields_not_root cs c.own) (classes_not_root cs todo)

-- lines as texts
abbrev pub texts_of : List SchemaLine → List (List ℕ)
texts_of fs = map spaced (map line_words fs)

root_line : (f : SchemaLine) → is_line_form f ≡ true → is_root_line (spaced (line_words f)) ≡ is_root_form (Some f)
root_line f h = ap (λ ws. is_root_form (line_form ws)) (words_of_line (line_words f) (form_plain f h)) ∙ ap is_root_form (form_read f h)

-- lines that are none of a root, the root's, and what stands behind it
pub record AreParted (fs : List SchemaLine) (r : SchemaLine) (rest : List (List ℕ)) : Type 0 where
  pub part : schema_part (texts_of (fs ++ r ∷ []) ++ rest) ≡ texts_of (fs ++ r ∷ [])
  pub others : behind_schema (texts_of (fs ++ r ∷ []) ++ rest) ≡ rest
  pub has_root : list_any is_root_line (texts_of (fs ++ r ∷ []) ++ rest) ≡ true

parted : (fs : List SchemaLine) (r : SchemaLine) (rest : List (List ℕ)) → list_all is_line_form (fs ++ r ∷ []) ≡ true → list_all not_root fs ≡ true → is_root_form (Some r) ≡ true → AreParted fs r rest
parted [] r rest formed others is =
    let own : is_root_line (spaced (line_words r)) ≡ true = root_line r (and_parts (is_line_form r) true formed).0 ∙ is in
    record { part = rw own refl; others = rw own refl; has_root = rw own refl }
parted (f ∷ fs) r rest formed others is =
    let p = and_parts (is_line_form f) (list_all is_line_form (fs ++ r ∷ [])) formed in
    let q = and_parts (not_root f) (list_all not_root fs) others in
    let own : is_root_line (spaced (line_words f)) ≡ false = root_line f p.0 ∙ not-true (is_root_form (Some f)) q.0 in
    let t = parted fs r rest p.1 q.1 is in
    record { part = rw own (ap (λ l. spaced (line_words f) ∷ l) t.part); others = rw own t.others; has_root = rw own t.has_root }

pub schema_parted : (s : Schema) (rest : List (List ℕ)) → is_spelled s ≡ true → AreParted (flat_map (class_lines s.classes) s.classes) (RootLine (class_name s.classes s.root)) rest
schema_parted s rest h = parted (flat_map (class_lines s.classes) s.classes) (RootLine (class_name s.classes s.root)) rest (schema_lines_formed s h) (classes_not_root s.classes s.classes) refl

-- ---- a schedule's text is read as it

pub schema_read : (s : Schema) → is_spelled s ≡ true → schema_of_lines (texts_of (lines_of s)) [] ≡ Ok s
schema_read s h =
    ap (λ ws. lines_taken 1 empty_draft ws >>= ended (length (texts_of (lines_of s))) []) (words_of-lines (map line_words (lines_of s)) (schema_lines_plain s h)) ∙ schema_lines_read s (length (texts_of (lines_of s))) h

-- the lines of it
abbrev all_lines : Schedule → List (List (List ℕ))
all_lines s = map line_words (lines_of s.schema) ++ schedule_lines s

text_is : (s : Schedule) → schedule_text s ≡ lines (all_lines s)
text_is s = sym (flat_map-append line (map line_words (lines_of s.schema)) (schedule_lines s))

lines_are_read : (s : Schedule) → Written s → with_schema (map spaced (all_lines s)) [] (λ n t ls. heading_from n t ls []) ≡ Ok s
lines_are_read s w =
    let own = texts_of (lines_of s.schema) in
    let rest = map spaced (schedule_lines s) in
    let p = schema_parted s.schema rest w.spelled in
    ap (λ ls. with_schema ls [] (λ n t ls. heading_from n t ls [])) (map-append spaced (map line_words (lines_of s.schema)) (schedule_lines s))
    ∙ rw (p.has_root, p.part, p.others, schema_read s.schema w.spelled) (heading_is (suc (length own)) s w)

pub schedule_is_read : (text : List ℕ) (s : Schedule) → IsScheduleText text s → read_schedule_text text ≡ Ok s
schedule_is_read text s h =
    let w = written_of s h.0 in
    let plain : list_all is_line (all_lines s) ≡ true = all_append is_line (map line_words (lines_of s.schema)) (schedule_lines s) (schema_lines_plain s.schema w.spelled) (schedule_plain s w) in
    let pieces : pieces_of text ≡ map spaced (all_lines s) ++ [] ∷ [] = ap pieces_of (h.1 ∙ text_is s) ∙ pieces_of-lines (all_lines s) plain in
    let prefix : lines_in text ≡ map spaced (all_lines s) = ap prefix_of pieces ∙ prefix_of_push (map spaced (all_lines s)) [] in
    let last : behind_lines text ≡ [] = ap last_of pieces ∙ last_of_push (map spaced (all_lines s)) [] in
    (λ i. with_schema (prefix i) (last i) (λ n t ls. heading_from n t ls (last i))) ∙ lines_are_read s w

-- ---- and nothing else is

-- what goes on behind a schema that was read
pub behind_of : {A : Type 0} (r : Result Schema SchemaFault) (f : Schema → Result A Fault) (y : A) → behind r f ≡ Ok y → (s : Schema) × (r ≡ Ok s) × (f s ≡ Ok y)
behind_of (Ok s) f y h = (s, refl, h)
behind_of (Err e) f y h = absurd (cc)

-- lines that have a root's are the schema's and those behind it
pub joined_again : (ls : List (List ℕ)) → list_any is_root_line ls ≡ true → ls ≡ schema_part ls ++ behind_schema ls
joined_again [] h = absurd (true≢false (sym h))
joined_again (l ∷ ls) h = by_root (is_root_line l) h (joined_again ls)
  where
    by_root : (t : Bool) → (t || list_any is_root_line ls) ≡ true → (list_any is_root_line ls ≡ true → ls ≡ schema_part ls ++ behind_schema ls) → l ∷ ls ≡ cond t (l ∷ []) (l ∷ schema_part ls) ++ cond t ls (behind_schema ls)
    by_root true k rest = refl
    by_root false k rest = ap (λ x. l ∷ x) (rest k)

none_goes_on : (n : ℕ) (schema : Schema) (rest : List ℕ) (s : Schedule) → heading_from n schema [] rest ≡ Ok s → ⊥
none_goes_on n schema rest s h = absurd (cc)

pub read_is_schedule : (text : List ℕ) (s : Schedule) → read_schedule_text text ≡ Ok s → IsScheduleText text s
read_is_schedule text s h = by_root (list_any is_root_line (lines_in text)) refl h
  where
    go_on : ℕ → Schema → List (List ℕ) → Result Schedule Fault
    go_on n t ls = heading_from n t ls (behind_lines text)

    by_root : (t : Bool) → list_any is_root_line (lines_in text) ≡ t
        → cond t (behind (schema_of_lines (schema_part (lines_in text)) []) (λ t. heading_from (suc (length (schema_part (lines_in text)))) t (behind_schema (lines_in text)) (behind_lines text)))
        (behind (schema_of_lines (lines_in text) (behind_lines text)) (λ t. heading_from (suc (length (lines_in text))) t [] (behind_lines text))) ≡ Ok s → IsScheduleText text s
    by_root false none k =
        let b = behind_of (schema_of_lines (lines_in text) (behind_lines text)) (λ t. heading_from (suc (length (lines_in text))) t [] (behind_lines text)) s k in
        absurd (none_goes_on (suc (length (lines_in text))) b.0 (behind_lines text) s b.2)
    by_root true has k =
        let part = schema_part (lines_in text) in
        let rest = behind_schema (lines_in text) in
        let b = behind_of (schema_of_lines part []) (λ t. heading_from (suc (length part)) t rest (behind_lines text)) s k in
        let own = lines_are_schema (map words_of part) (length part) [] b.0 b.1 in
        let g = heading_read (suc (length part)) b.0 rest (behind_lines text) s b.2 in
        let spelled : is_spelled s.schema ≡ true = ap is_spelled g.schema_is ∙ own.1 in
        let all : is_schedule s ≡ true = and_from (is_spelled s.schema) _ spelled (and_from (is_id s.process) _ g.process (and_from (are_named_defs s.defs) (list_all is_event s.events) g.defs g.fits)) in
        let head : map words_of part ≡ map line_words (lines_of s.schema) = own.2 ∙ ap (λ t. map line_words (lines_of t)) (sym g.schema_is) in
        let tail : map words_of rest ≡ schedule_lines s = ap (map words_of) g.lines ∙ words_of-lines (schedule_lines s) (schedule_plain s (written_of s all)) in
        let words : map words_of (lines_in text) ≡ all_lines s = ap (map words_of) (joined_again (lines_in text) has) ∙ (map-append words_of part rest ∙ (λ i. head i ++ tail i)) in
        (all, text_of_lines text g.nothing_left ∙ (ap lines words ∙ sym (text_is s)))
