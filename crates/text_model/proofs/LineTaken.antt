-- What a line that was taken adds to the lines of what was read, and that it keeps to the form.
use Rattle.std.proofs.Common.{◌≡◌, ℕ, suc, ◌<◌, Bool, true, false, not, ◌&&◌, cond, List, [], ◌∷◌, ◌++◌, length, map, pos, Option, Some, None, is_some, is_none, Result, Ok, Err, refl, sym, ap, ap₂, ◌∙◌, subst, arith, append_assoc, append-nil, eqb, ne_eqb, leb, leb-false, le-leb, ltb, lt-ltb, bytes_eq}
use Rattle.std.specs.List.{list_any}
use Rattle.std.specs.Option.{option_map}
use Rattle.std.proofs.lemmas.Bool.{and_parts, and_from, or_parts, true≢false}
use Rattle.std.proofs.lemmas.List.{map-append, length_push}
use Rattle.lists.proofs.Passing.{all_append}
use Rattle.schema_model.specs.Classes.{is_earlier}
use Rattle.schema_model.specs.Reading.{◌>>=◌}
use Rattle.state_model.specs.Sound.{keys_differ}
use Rattle.text_model.specs.Decimals.{decimal_below}
use Rattle.text_model.specs.Marks.{is_class_name, is_field_name, is_one_of}
use Rattle.text_model.proofs.DecimalLaw.{decimal_read}
use Rattle.text_model.proofs.Keys.{keys_push}
use Rattle.text_model.specs.declared.fault.SchemaFault.{SchemaFault}
use Rattle.text_model.specs.declared.fault.SchemaFault.TheVariants.{UnknownWord, TwiceClass, ParentLater, TooManyClasses, FractionalKind, BadTag, TwiceField, TooManyFields}
use Rattle.text_model.specs.declared.draft.Grouping.{Grouping}
use Rattle.text_model.specs.declared.draft.DraftField.{DraftField}
use Rattle.text_model.specs.declared.draft.DraftClass.{DraftClass}
use Rattle.text_model.specs.declared.draft.DraftRoot.{DraftRoot}
use Rattle.text_model.specs.SchemaLines.{fractional_words, is_item_word, is_tag, Tagging, Untagged, Default, Given, SchemaLine, ClassLine, FieldLine, RootLine, tagging_of, line_words}
use Rattle.text_model.specs.SchemaReading.{Draft, class_place, names_from, last_names, unless_any, parent_place, is_later, with_class, class_taken, tag_of, is_bad_tag, with_field, field_taken, form_taken, line_form, lines_taken}
use Rattle.text_model.proofs.NamesFound.{is_placed, draft_name, placed_name}
use Rattle.text_model.proofs.LineForms.{is_tagging, is_line_form, line_formed}
use Rattle.text_model.proofs.DraftTable.{names_next, last_names-push, more_fields, with_field-push, names_more}
use Rattle.text_model.proofs.DraftKept.{is_draft_field, IsClassBehind, AreClassesBehind, are_field_names, behind_push, behind_pop, behind_names, inherited_names}
use Rattle.text_model.proofs.DraftLines.{draft_field_line, draft_parent, draft_class_lines, lines_behind, draft_lines, lines_push}

-- ---- tests

-- where no test holds the answer is given
pub none_passed : {A : Type 0} (tests : List (Bool × SchemaFault)) (x y : A) → unless_any tests x ≡ Ok y
    → (list_any (λ (t : Bool × SchemaFault). t.0) tests ≡ false) × (x ≡ y)
none_passed [] x y h = (refl, (cc))
none_passed ((true, f) ∷ tests) x y h = absurd (cc)
none_passed ((false, f) ∷ tests) x y h = none_passed tests x y h

pub pass_none : {A : Type 0} (tests : List (Bool × SchemaFault)) (x : A) → list_any (λ (t : Bool × SchemaFault). t.0) tests ≡ false
    → unless_any tests x ≡ Ok x
pass_none [] x h = refl
pass_none ((true, f) ∷ tests) x h = absurd (true≢false h)
pass_none ((false, f) ∷ tests) x h = pass_none tests x h

-- ---- tags

-- a tag that isn't bad is one, and its tagging is the one it came from
pub tag_taken : (t : Tagging) → is_bad_tag t ≡ false → (is_tag (tag_of t) ≡ true) × (tagging_of (tag_of t) ≡ t)
tag_taken Untagged h = (refl, refl)
tag_taken Default h = (refl, refl)
tag_taken (Given w) h = from (decimal_below 256 w) refl h
  where
    from : (o : Option ℕ) → decimal_below 256 w ≡ o → is_none o ≡ false
        → (is_tag (option_map pos o) ≡ true) × (tagging_of (option_map pos o) ≡ Given w)
    from None e k = absurd (true≢false k)
    from (Some n) e k =
        let r = decimal_read 256 w n (omega arith) e in
        (lt-ltb n 256 r.1, ap Given (sym r.0))

-- ---- classes and fields that were read, before the root

abbrev pub unrooted : List DraftClass → Draft
unrooted classes = record { classes = classes; root = None }

-- these classes have these lines, and keep to the form
pub record AreRead (cs : List DraftClass) (fs : List SchemaLine) : Type 0 where
  pub lines : lines_behind [] cs ≡ fs
  pub kept : AreClassesBehind [] cs

-- a parent that was found has its name at its place, which is an earlier one
parent_found : (cs : List DraftClass) (parent : Option (List ℕ)) → is_later cs parent ≡ false
    → (draft_parent cs (parent_place cs parent) ≡ parent) × (is_earlier (length cs) (parent_place cs parent) ≡ true)
parent_found cs None h = (refl, refl)
parent_found cs (Some name) h = from (class_place cs name) refl h
  where
    from : (o : Option ℕ) → class_place cs name ≡ o → is_none o ≡ false → (draft_parent cs o ≡ Some name) × (is_earlier (length cs) o ≡ true)
    from None e k = absurd (true≢false k)
    from (Some i) e k =
        let r = placed_name 0 cs name i e in
        let same : i ≡ r.0 = omega (arith, r.1) in
        (ap (λ n. Some (draft_name cs n)) same ∙ ap Some r.3, ap (λ n. ltb n (length cs)) same ∙ lt-ltb r.0 (length cs) r.2)

-- a class's line has its name
class_named : (name : List ℕ) (parent : Option (List ℕ)) → is_line_form (ClassLine name parent) ≡ true → is_class_name name ≡ true
class_named name None h = h
class_named name (Some p) h = (and_parts (is_class_name name) (is_class_name p) h).0

-- the classes behind a class's line
pub class_step : (line : ℕ) (cs : List DraftClass) (fs : List SchemaLine) (name : List ℕ) (parent : Option (List ℕ)) (d : Draft) → AreRead cs fs
    → is_class_name name ≡ true
    → class_taken line (unrooted cs) name parent ≡ Ok d → (es : List DraftClass) × (d ≡ unrooted es) × AreRead es (fs ++ ClassLine name parent ∷ [])
class_step line cs fs name parent d r n h =
    let p = none_passed
    ((is_some (class_place cs name), TwiceClass line) ∷ (is_later cs parent, ParentLater line) ∷ (leb 256 (length cs), TooManyClasses line) ∷ [])
    (with_class (unrooted cs) name (parent_place cs parent)) d h in
    let twice = or_parts (is_some (class_place cs name)) _ p.0 in
    let later = or_parts (is_later cs parent) _ twice.1 in
    let many = or_parts (leb 256 (length cs)) false later.1 in
    let found = parent_found cs parent later.0 in
    let c : DraftClass = record { name = name; parent = parent_place cs parent; own = [] } in (
      cs ++ c ∷ [],
      sym p.1,
      record {
        lines = lines_push [] cs c ∙ ap₂ (λ a b. a ++ ClassLine name b ∷ []) r.lines found.0;
        kept = behind_push [] cs c r.kept (record {
          few = leb-false 256 (length cs) many.0;
          named = n;
          fresh = ap not (sym (is_placed 0 cs name) ∙ twice.0);
          earlier_parent = found.1;
          fields = refl;
          names = inherited_names (names_from [] cs) (parent_place cs parent) (behind_names [] cs refl r.kept);
        });
      },
    )

-- ---- fields

-- a class with a field more
field_kept : (cs : List DraftClass) (c : DraftClass) (f : DraftField) → IsClassBehind cs c → is_draft_field f ≡ true
    → list_any (bytes_eq f.name) (names_next (names_from [] cs) c) ≡ false → length (names_next (names_from [] cs) c) < 63
    → IsClassBehind cs (more_fields c (f ∷ []))
field_kept cs c f k h fresh few =
    let names = names_next (names_from [] cs) c in
    let differ = keys_push names f.name (and_parts (keys_differ names) (leb (length names) 63) k.names).0 (ap not fresh) in
    let short : leb (length (names ++ f.name ∷ [])) 63 ≡ true = le-leb (length (names ++ f.name ∷ [])) 63 (omega (arith, length_push names f.name)) in
    record {
      few = k.few;
      named = k.named;
      fresh = k.fresh;
      earlier_parent = k.earlier_parent;
      fields = all_append is_draft_field c.own (f ∷ []) k.fields (and_from (is_draft_field f) true h refl);
      names = ap are_field_names (names_more (names_from [] cs) c (f ∷ [])) ∙ and_from _ _ differ short;
    }

field_lines : (cs : List DraftClass) (c : DraftClass) (f : DraftField)
    → lines_behind [] (cs ++ more_fields c (f ∷ []) ∷ []) ≡ lines_behind [] (cs ++ c ∷ []) ++ draft_field_line f ∷ []
field_lines cs c f =
    let head = ClassLine c.name (draft_parent cs c.parent) in
    lines_push [] cs (more_fields c (f ∷ []))
    ∙ (ap (λ l. lines_behind [] cs ++ (head ∷ l)) (map-append draft_field_line c.own (f ∷ []))
    ∙ (sym (append_assoc (lines_behind [] cs) (draft_class_lines cs c) (draft_field_line f ∷ []))
    ∙ ap (λ l. l ++ draft_field_line f ∷ []) (sym (lines_push [] cs c))))

last_field_step : (line : ℕ) (cs : List DraftClass) (c : DraftClass) (fs : List SchemaLine) (name : List ℕ) (g : Grouping) (w : List ℕ) (t : Tagging) (d : Draft)
    → AreRead (cs ++ c ∷ []) fs
    → is_field_name name ≡ true → is_item_word w ≡ true → field_taken line (unrooted (cs ++ c ∷ [])) name g w t ≡ Ok d
    → (es : List DraftClass) × (d ≡ unrooted es) × AreRead es (fs ++ FieldLine name g w t ∷ [])
last_field_step line cs c fs name g w t d r n i h =
    let all = cs ++ c ∷ [] in
    let f : DraftField = record { name = name; grouping = g; word = w; tag = tag_of t; line = line } in
    let p = none_passed
    ((is_one_of fractional_words w, FractionalKind line) ∷ (is_bad_tag t, BadTag line) ∷ (list_any (bytes_eq name) (last_names all), TwiceField line)
    ∷ (leb 63 (length (last_names all)), TooManyFields line) ∷ [])
    (unrooted (with_field all f)) d h in
    let fractional = or_parts (is_one_of fractional_words w) _ p.0 in
    let bad = or_parts (is_bad_tag t) _ fractional.1 in
    let twice = or_parts (list_any (bytes_eq name) (last_names all)) _ bad.1 in
    let many = or_parts (leb 63 (length (last_names all))) false twice.1 in
    let last = last_names-push cs c in
    let tag = tag_taken t bad.0 in
    let two = behind_pop [] cs c r.kept in
    let fit : is_draft_field f ≡ true = and_from _ _ (and_from _ _ (and_from _ _ n (ap not fractional.0)) tag.0) i in
    let fresh : list_any (bytes_eq name) (names_next (names_from [] cs) c) ≡ false = ap (list_any (bytes_eq name)) (sym last) ∙ twice.0 in
    let few : length (names_next (names_from [] cs) c) < 63 = omega (arith, ap length last, leb-false 63 (length (last_names all)) many.0) in (
      cs ++ more_fields c (f ∷ []) ∷ [],
      sym p.1 ∙ ap unrooted (with_field-push cs c f),
      record {
        lines = field_lines cs c f ∙ ap₂ (λ a b. a ++ FieldLine name g w b ∷ []) r.lines tag.1;
        kept = behind_push [] cs (more_fields c (f ∷ [])) two.0 (field_kept cs c f two.1 fit fresh few);
      },
    )

-- some classes are the last one, and those before it
last_of_some : (cs : List DraftClass) → eqb (length cs) 0 ≡ false → (prefix : List DraftClass) × (c : DraftClass) × (cs ≡ prefix ++ c ∷ [])
last_of_some [] h = absurd (true≢false h)
last_of_some (c ∷ []) h = ([], c, refl)
last_of_some (c ∷ e ∷ cs) h =
    let r = last_of_some (e ∷ cs) (ne_eqb (length (e ∷ cs)) 0 (λ z. omega arith)) in
    (c ∷ r.0, r.1, ap (λ l. c ∷ l) r.2)

-- the classes behind a field's line
pub field_step : (line : ℕ) (cs : List DraftClass) (fs : List SchemaLine) (name : List ℕ) (g : Grouping) (w : List ℕ) (t : Tagging) (d : Draft)
    → AreRead cs fs
    → is_field_name name ≡ true → is_item_word w ≡ true
    → cond (eqb (length cs) 0) (Err (UnknownWord line)) (field_taken line (unrooted cs) name g w t) ≡ Ok d
    → (es : List DraftClass) × (d ≡ unrooted es) × AreRead es (fs ++ FieldLine name g w t ∷ [])
field_step line cs fs name g w t d r n i h = from (eqb (length cs) 0) refl h
  where
    from : (b : Bool) → eqb (length cs) 0 ≡ b → cond b (Err (UnknownWord line)) (field_taken line (unrooted cs) name g w t) ≡ Ok d
        → (es : List DraftClass) × (d ≡ unrooted es) × AreRead es (fs ++ FieldLine name g w t ∷ [])
    from true e k = absurd (cc)
    from false e k =
        let l = last_of_some cs e in
        last_field_step line l.0 l.1 fs name g w t d (subst (λ x. AreRead x fs) l.2 r) n i (ap (λ x. field_taken line (unrooted x) name g w t) (sym l.2) ∙ k)

-- ---- all lines

-- what was read of lines behind those of these classes
pub record IsRead (d : Draft) (fs : List SchemaLine) (ls : List (List (List ℕ))) : Type 0 where
  pub more : List SchemaLine
  pub words : ls ≡ map line_words more
  pub lines : draft_lines d ≡ fs ++ more
  pub kept : AreClassesBehind [] d.classes

-- one line, and what was read of those behind it
read_more : (d : Draft) (fs : List SchemaLine) (f : SchemaLine) (ws : List (List ℕ)) (ls : List (List (List ℕ))) → ws ≡ line_words f
    → IsRead d (fs ++ f ∷ []) ls → IsRead d fs (ws ∷ ls)
read_more d fs f ws ls e r = record {
  more = f ∷ r.more;
  words = ap₂ (λ a b. a ∷ b) e r.words;
  lines = r.lines ∙ append_assoc fs (f ∷ []) r.more;
  kept = r.kept;
}

-- behind the root no line is taken
root_last : (line : ℕ) (cs : List DraftClass) (root : DraftRoot) (ls : List (List (List ℕ))) (d : Draft)
    → lines_taken line (record { classes = cs; root = Some root }) ls ≡ Ok d
    → (ls ≡ []) × (d ≡ record { classes = cs; root = Some root })
root_last line cs root [] d h = (refl, (cc))
root_last line cs root (ws ∷ ls) d h = absurd (cc)

-- a step that ends well is one from a state that was reached
pub bound_from : {A B E : Type 0} (r : Result A E) (f : A → Result B E) (y : B) → r >>= f ≡ Ok y → (x : A) × (r ≡ Ok x) × (f x ≡ Ok y)
bound_from (Ok x) f y h = (x, refl, h)
bound_from (Err e) f y h = absurd (cc)

-- lines that were all taken are the lines of what was read
pub read_lines : (line : ℕ) (cs : List DraftClass) (fs : List SchemaLine) (ls : List (List (List ℕ))) (d : Draft) → AreRead cs fs
    → lines_taken line (unrooted cs) ls ≡ Ok d → IsRead d fs ls
read_lines line cs fs [] d r h =
    let e : unrooted cs ≡ d = cc in
    subst (λ x. IsRead x fs []) e (record { more = []; words = refl; lines = append-nil (lines_behind [] cs) ∙ (r.lines ∙ sym (append-nil fs)); kept = r.kept })
read_lines line cs fs (ws ∷ ls) d r h = from (line_form ws) refl h (λ es gs. read_lines (suc line) es gs ls d)
  where
    step : (f : SchemaLine) (next : Draft) → ws ≡ line_words f → lines_taken (suc line) next ls ≡ Ok d
        → ((es : List DraftClass) (gs : List SchemaLine) → AreRead es gs → lines_taken (suc line) (unrooted es) ls ≡ Ok d → IsRead d gs ls)
        → (es : List DraftClass) × (next ≡ unrooted es) × AreRead es (fs ++ f ∷ []) → IsRead d fs (ws ∷ ls)
    step f next e k rest s = read_more d fs f ws ls e (rest s.0 (fs ++ f ∷ []) s.2 (ap (λ x. lines_taken (suc line) x ls) (sym s.1) ∙ k))

    from : (o : Option SchemaLine) → line_form ws ≡ o → form_taken line (unrooted cs) o >>= (λ next. lines_taken (suc line) next ls) ≡ Ok d
        → ((es : List DraftClass) (gs : List SchemaLine) → AreRead es gs → lines_taken (suc line) (unrooted es) ls ≡ Ok d → IsRead d gs ls)
        → IsRead d fs (ws ∷ ls)
    from None e k rest = absurd (cc)
    from (Some (ClassLine name parent)) e k rest =
        let b = bound_from (class_taken line (unrooted cs) name parent) (λ next. lines_taken (suc line) next ls) d k in
        let f = line_formed ws (ClassLine name parent) e in
        step (ClassLine name parent) b.0 f.words b.2 rest (class_step line cs fs name parent b.0 r (class_named name parent f.form) b.1)
    from (Some (FieldLine name g w t)) e k rest =
        let b =
        bound_from (cond (eqb (length cs) 0) (Err (UnknownWord line)) (field_taken line (unrooted cs) name g w t)) (λ next. lines_taken (suc line) next ls) d k in
        let f = line_formed ws (FieldLine name g w t) e in
        let two = and_parts (is_field_name name) (is_item_word w) (and_parts (is_field_name name && is_item_word w) (is_tagging t) f.form).0 in
        step (FieldLine name g w t) b.0 f.words b.2 rest (field_step line cs fs name g w t b.0 r two.0 two.1 b.1)
    from (Some (RootLine name)) e k rest =
        let f = line_formed ws (RootLine name) e in
        let root : DraftRoot = record { name = name; line = line } in
        let l = root_last (suc line) cs root ls d k in
        let rooted : IsRead (record { classes = cs; root = Some root }) fs (ws ∷ []) =
        record { more = RootLine name ∷ []; words = ap (λ w. w ∷ []) f.words; lines = ap (λ l. l ++ RootLine name ∷ []) r.lines; kept = r.kept } in
        subst (λ x. IsRead d fs (ws ∷ x)) (sym l.0) (subst (λ x. IsRead x fs (ws ∷ [])) (sym l.1) rooted)
