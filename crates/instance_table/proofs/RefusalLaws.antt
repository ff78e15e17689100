-- Why a command is refused, by what nodes keep.
use Rattle.std.proofs.Common.{◌≡◌, ℕ, zero, suc, Bool, true, false, cond, not, ◌&&◌, ◌||◌, ◌==◌, List, [], ◌∷◌, ◌++◌, length, nat_le, nat_lt, ◌≤◌, Option, Some, None, is_some, Bor, option_copied, option_and_then, refl, sym, ap, ap₂, ◌∙◌, arith}
use Rattle.std.specs.Prelude.{slice_get}
use Rattle.std.specs.List.{flat_map, list_any, list_all, remove}
use Rattle.std.specs.Option.{option_eq, option_map, option_map_or}
use Rattle.std.proofs.lemmas.Bool.{and_parts}
use Rattle.std.proofs.lemmas.Bool.Decides.{nat_tests}
use Rattle.schema_model.specs.Classes.{Schema, home_field, item_of}
use Rattle.schema_model.specs.declared.class.FieldDecl.{FieldDecl}
use Rattle.schema_model.specs.declared.class.Item.{Item}
use Rattle.schema_model.specs.declared.class.Item.TheVariants as item
use Rattle.schema_model.specs.declared.place.Home.{Home}
use Rattle.schema_model.specs.declared.value.Value.{Value}
use Rattle.schema_model.specs.declared.value.Value.TheVariants as value
use Rattle.state_model.specs.declared.row.Row.{Row}
use Rattle.state_model.specs.declared.row.Row.TheVariants as row
use Rattle.state_model.specs.declared.row.RowEntry.{RowEntry}
use Rattle.state_model.specs.declared.place.Expected.TheVariants.{Item as AnItem}
use Rattle.state_model.specs.declared.command.Command.{Command}
use Rattle.state_model.specs.declared.command.Command.TheVariants as command
use Rattle.state_model.specs.declared.command.TableFault.{TableFault}
use Rattle.state_model.specs.declared.command.TableFault.TheVariants as fault
use Rattle.state_model.specs.Places.{is_filtered, item_expects, instance_class, holds_instances, home_tag}
use Rattle.state_model.specs.Reached.{is_among}
use Rattle.state_model.specs.Rows.{is_live, row_at, held_in, place_count, text_bytes_of}
use Rattle.state_model.specs.State.{State, next_item, rows_limit, places_limit, text_limit, last_number}
use Rattle.state_model.specs.Sound.{are_sound, differ, fits_place}
use Rattle.state_model.specs.Values.{held_by, is_link, same_value}
use Rattle.state_model.specs.Commands.{adds_place, causes_over, first_cause, gives_number, holder_of, is_duplicate, is_long_key, is_long_text, is_no_field, is_no_item, is_no_ref, is_past_range, is_present, is_wrong_type, makes_row, refusal_of, row_for, state_after, value_put, expected_for, with_change, with_new, made_row}
use Rattle.state_laws.proofs.Numbers.{live_row}
use Rattle.command_laws.specs.Accounts.{count_of}
use Rattle.command_laws.proofs.ListEdits.{list_all_removed}
use Rattle.state_laws.proofs.Counts.{count_among}
use Rattle.command_laws.proofs.SoundRows.{sound_rises, sound_row, sound_links}
use Rattle.plain_rows.specs.Links.{held_at}
use Rattle.instance_table.specs.declared.node.Node.{Node}
use Rattle.instance_table.specs.declared.body.Body.{Body}
use Rattle.instance_table.specs.declared.body.Body.TheVariants as body
use Rattle.instance_table.specs.Amounts.{is_text_full, limit_causes, link_causes, make_causes, value_causes}
use Rattle.instance_table.specs.Bodies.{next_in, row_of}
use Rattle.instance_table.specs.Changes.{link_in, value_named}
use Rattle.instance_table.specs.Nodes.{node_at, rows_in}
use Rattle.instance_table.specs.Table.{IsExact, IsTable, state_in}
use Rattle.instance_table.proofs.AmountLaws.{makes_none, text_full_is, text_made, within_limit}
use Rattle.instance_table.proofs.LetGoLaws.{body_at}
use Rattle.instance_table.proofs.NodeStates.{next_found, nodes_rise, row_by_body}
use Rattle.instance_table.proofs.StateLaws.{row_found, row_there}

-- ---- the named rows

-- a copy is there where the value is
pub some_copied : {A : Type 0} (o : Option (Bor A)) → is_some (option_copied o) ≡ is_some o
some_copied None = refl
some_copied (Some b) = refl

-- a row is live where its node is there
pub live_node : (es : List (ℕ × Node)) (n : ℕ) → is_live (rows_in es) n ≡ is_some (node_at es n)
live_node es n = live_row (rows_in es) n ∙ (ap is_some (row_found es n) ∙ mapped (node_at es n))
  where
    mapped : (o : Option Node) → is_some (option_map (λ (x : Node). row_of x.body) o) ≡ is_some o
    mapped None = refl
    mapped (Some x) = refl

-- the test of a node that isn't there
pub dead_where : (es : List (ℕ × Node)) (n : ℕ) (b : Bool) → is_some (node_at es n) ≡ not b → b ≡ not (is_live (rows_in es) n)
dead_where es n true h = ap not (sym (live_node es n ∙ h))
dead_where es n false h = ap not (sym (live_node es n ∙ h))

-- a number that a value holds, by its link
link_dead : (rows : List RowEntry) (v : Value) → list_any (λ n. not (is_live rows n)) (held_by v) ≡ option_map_or (λ n. not (is_live rows n)) (link_in (Some v)) false
link_dead rows (value.Whole z) = refl
link_dead rows (value.Str t) = refl
link_dead rows (value.Truth b) = refl
link_dead rows (value.Link n) = grind (arith, nat_tests)

-- the numbers that a command names are its row's and its link's
refs_by : (rows : List RowEntry) (c : Command) (r : ℕ) → holder_of c ≡ Some r → is_no_ref rows c ≡ (not (is_live rows r) || option_map_or (λ n. not (is_live rows n)) (link_in (value_named c)) false)
refs_by rows (command.Make class) r e = cc
refs_by rows (command.MakeFor home) r e = cc
refs_by rows (command.Put s f v) r e = let same : s ≡ r = cc in rw (← same, ← link_dead rows v) refl
refs_by rows (command.PutKey s k v) r e = let same : s ≡ r = cc in rw (← same, ← link_dead rows v) refl
refs_by rows (command.Push s v) r e = let same : s ≡ r = cc in rw (← same, ← link_dead rows v) refl
refs_by rows (command.SetAt s at v) r e = let same : s ≡ r = cc in rw (← same, ← link_dead rows v) refl
refs_by rows (command.Add s v) r e = let same : s ≡ r = cc in rw (← same, ← link_dead rows v) refl
refs_by rows (command.Del s v) r e = let same : s ≡ r = cc in rw (← same, ← link_dead rows v) refl
refs_by rows (command.Unset s f) r e = let same : s ≡ r = cc in rw (← same) refl
refs_by rows (command.DelKey s k) r e = let same : s ≡ r = cc in rw (← same) refl
refs_by rows (command.DelAt s at) r e = let same : s ≡ r = cc in rw (← same) refl
refs_by rows (command.Clear s) r e = let same : s ≡ r = cc in rw (← same) refl

-- the row that a command names isn't there
pub refs_gone : (rows : List RowEntry) (c : Command) (r : ℕ) → Some r ≡ holder_of c → None ≡ row_for rows c → true ≡ is_no_ref rows c
refs_gone rows c r names gone =
    let none : row_at rows r ≡ None = ap (option_and_then (row_at rows)) names ∙ sym gone in
    let dead : is_live rows r ≡ false = live_row rows r ∙ ap is_some none in
    sym (refs_by rows c r (sym names) ∙ ap (λ b. not b || option_map_or (λ n. not (is_live rows n)) (link_in (value_named c)) false) dead)

-- it is there, and then the link decides
pub refs_there : (rows : List RowEntry) (c : Command) (r : ℕ) (row : Row) → Some r ≡ holder_of c → Some row ≡ row_for rows c
    → option_map_or (λ n. not (is_live rows n)) (link_in (value_named c)) false ≡ is_no_ref rows c
refs_there rows c r row names there =
    let some : row_at rows r ≡ Some row = ap (option_and_then (row_at rows)) names ∙ sym there in
    let live : is_live rows r ≡ true = live_row rows r ∙ ap is_some some in
    sym (refs_by rows c r (sym names) ∙ ap (λ b. not b || option_map_or (λ n. not (is_live rows n)) (link_in (value_named c)) false) live)

-- the row that a command changes, by the node that was found
pub body_there : (es : List (ℕ × Node)) (c : Command) (who : ℕ) (o : Option Node) → Some who ≡ holder_of c → o ≡ node_at es who → option_map (λ (x : Node). row_of x.body) o ≡ row_for (rows_in es) c
body_there es c who o h e = sym (row_there es who o e) ∙ ap (option_and_then (row_at (rows_in es))) h

-- ---- who holds an instance

-- a row holds a number where it is a holder of the number's node
pub held_where : (schema : Schema) (es : List (ℕ × Node)) (holder who : ℕ) (r : Row) → are_sound schema (rows_in es) ≡ true → IsExact es → row_at (rows_in es) holder ≡ Some r
    → option_map_or (λ (n : Node). is_among holder n.holders) (node_at es who) false ≡ is_among who (held_in r)
held_where schema es holder who r sound exact there = from (node_at es who) refl (is_among who (held_in r)) refl
  where
    held : held_at (rows_in es) holder ≡ held_in r
    held = ap (λ o. option_map_or held_in o []) there

    from : (o : Option Node) → node_at es who ≡ o → (b : Bool) → is_among who (held_in r) ≡ b → option_map_or (λ (n : Node). is_among holder n.holders) o false ≡ is_among who (held_in r)
    from None e true t =
        let live = sound_links schema (rows_in es) sound holder who r there t in
        let dead : is_live (rows_in es) who ≡ false = live_node es who ∙ ap is_some e in
        cc
    from None e false t = sym t
    from (Some n) e b t =
        let counts : count_of holder n.holders ≡ count_of who (held_in r) = exact.counts who holder n e ∙ ap (count_of who) held in
        count_among holder n.holders ∙ (ap (λ k. not (k == 0)) counts ∙ sym (count_among who (held_in r)))

-- ---- instances of an array

-- a link stands among values where its number is held by them
pub link_among : (n : ℕ) (values : List Value) → list_any (same_value (value.Link n)) values ≡ is_among n (flat_map held_by values)
link_among n [] = refl
link_among n (value.Whole z ∷ vs) = link_among n vs
link_among n (value.Str t ∷ vs) = link_among n vs
link_among n (value.Truth b ∷ vs) = link_among n vs
link_among n (value.Link m ∷ vs) = grind (arith, nat_tests, link_among n vs)

-- where none passes, none at a place does
none_at : (p : Value → Bool) (values : List Value) (at : ℕ) → list_any p values ≡ false → option_map_or p (slice_get values at) false ≡ false
none_at p [] at h = refl
none_at p (v ∷ vs) zero h = grind (arith, nat_tests)
none_at p (v ∷ vs) (suc at) h = none_at p vs at (grind (arith, nat_tests))

-- a value that equals a link is that link
same_link : (n : ℕ) (v : Value) → same_value (value.Link n) v ≡ true → v ≡ value.Link n
same_link n (value.Whole z) h = cc
same_link n (value.Str t) h = cc
same_link n (value.Truth b) h = cc
same_link n (value.Link m) h = let same : m ≡ n = grind (arith, nat_tests) in ap value.Link same

-- a link that is the first of values that differ doesn't stand behind it
link_once : (n : ℕ) (v : Value) (vs : List Value) → differ (v ∷ vs) ≡ true → same_value (value.Link n) v ≡ true → list_any (same_value (value.Link n)) vs ≡ false
link_once n v vs d t =
    let is = ap (λ w. list_any (same_value w) vs) (same_link n v t) in
    grind (arith, nat_tests)

-- the same for one value more
elsewhere_on : (a r g s : Bool) → r ≡ (not g && s) → (a ≡ true → s ≡ false) → (s ≡ false → g ≡ false) → (a || r) ≡ (not g && (a || s))
elsewhere_on true r g s h once none = let apart : g ≡ false = none (once refl) in grind (arith, nat_tests)
elsewhere_on false r g s h once none = h

-- a link stands at another place where it stands among values that differ, and not at this place
pub link_elsewhere : (n : ℕ) (values : List Value) (at : ℕ) → differ values ≡ true
    → list_any (same_value (value.Link n)) (remove values at) ≡ (not (option_map_or (same_value (value.Link n)) (slice_get values at) false) && list_any (same_value (value.Link n)) values)
link_elsewhere n [] zero d = refl
link_elsewhere n [] (suc at) d = refl
link_elsewhere n (v ∷ vs) zero d = let once = link_once n v vs d in grind (arith, nat_tests)
link_elsewhere n (v ∷ vs) (suc at) d =
    let p = same_value (value.Link n) in
    let rest = (and_parts (not (list_any (same_value v) vs)) (differ vs) d).1 in
    elsewhere_on (p v) (list_any p (remove vs at)) (option_map_or p (slice_get vs at) false) (list_any p vs) (link_elsewhere n vs at rest) (link_once n v vs d) (none_at p vs at)

-- the items of a filtered array are instances
filtered_class : (schema : Schema) (home : Home) → is_filtered schema home ≡ true → (c : ℕ) × (item_expects schema home ≡ Some (AnItem (item.Class c)))
filtered_class schema home h = by_field (home_field schema home) (and_parts (is_some (home_tag schema home)) (holds_instances schema home) h).1
  where
    by_item : (i : Item) → is_some (instance_class i) ≡ true → (c : ℕ) × (i ≡ item.Class c)
    by_item (item.Scalar k) h = cc
    by_item (item.Class c) h = (c, refl)

    by_field : (o : Option FieldDecl) → is_some (option_and_then (λ (f : FieldDecl). instance_class (item_of f.shape)) o) ≡ true → (c : ℕ) × (option_map (λ (f : FieldDecl). AnItem (item_of f.shape)) o ≡ Some (AnItem (item.Class c)))
    by_field None h = cc
    by_field (Some f) h = let own = by_item (item_of f.shape) h in (own.0, ap (λ i. Some (AnItem i)) own.1)

-- a value that fits an instance is a link
fits_link : (schema : Schema) (rows : List RowEntry) (c : ℕ) (v : Value) → fits_place schema rows v (Some (AnItem (item.Class c))) ≡ true → is_link v ≡ true
fits_link schema rows c (value.Whole z) h = cc
fits_link schema rows c (value.Str t) h = cc
fits_link schema rows c (value.Truth b) h = cc
fits_link schema rows c (value.Link n) h = refl

-- a scalar equals no link
differs_from_link : (v w : Value) → is_link v ≡ false → is_link w ≡ true → same_value v w ≡ false
differs_from_link (value.Whole z) (value.Link n) h t = refl
differs_from_link (value.Str b) (value.Link n) h t = refl
differs_from_link (value.Truth b) (value.Link n) h t = refl
differs_from_link (value.Link m) w h t = cc
differs_from_link v (value.Whole z) h t = cc
differs_from_link v (value.Str b) h t = cc
differs_from_link v (value.Truth b) h t = cc

-- a scalar stands in no list of links
none_links : (v : Value) (values : List Value) → is_link v ≡ false → list_all is_link values ≡ true → list_any (same_value v) values ≡ false
none_links v [] h all = refl
none_links v (w ∷ ws) h all = grind (arith, nat_tests, differs_from_link v w h, none_links v ws h)

-- values that fit instances are links
all_links : (schema : Schema) (rows : List RowEntry) (c : ℕ) (values : List Value) → list_all (λ v. fits_place schema rows v (Some (AnItem (item.Class c)))) values ≡ true → list_all is_link values ≡ true
all_links schema rows c [] h = refl
all_links schema rows c (v ∷ vs) h = grind (arith, nat_tests, fits_link schema rows c v, all_links schema rows c vs)

-- the values of a filtered array of sound rows differ, and are links
pub filtered_values : (schema : Schema) (rows : List RowEntry) (holder : ℕ) (home : Home) (values : List Value) → are_sound schema rows ≡ true → row_at rows holder ≡ Some (row.Array home values) → is_filtered schema home ≡ true
    → (differ values ≡ true) × (list_all is_link values ≡ true)
filtered_values schema rows holder home values sound there filtered =
    let fits = (sound_row schema rows sound holder (row.Array home values) there).fits in
    let two = and_parts (not (is_filtered schema home) || differ values) (list_all (λ v. fits_place schema rows v (item_expects schema home)) values) fits in
    let class = filtered_class schema home filtered in
    let links = ap (λ o. list_all (λ v. fits_place schema rows v o) values) (sym class.1) ∙ two.1 in
    (ap (λ b. not b || differ values) (sym filtered) ∙ two.0, all_links schema rows class.0 values links)

-- ---- whether an instance stands in a filtered array already

-- what is asked of the array that a command changes: it is that of a row of sound rows, and filtered
pub record IsFilteredRow (schema : Schema) (es : List (ℕ × Node)) (holder : ℕ) (home : Home) (values : List Value) : Type 0 where
  pub sound : are_sound schema (rows_in es) ≡ true
  pub exact : IsExact es
  pub there : row_at (rows_in es) holder ≡ Some (row.Array home values)
  pub filtered : is_filtered schema home ≡ true

pub filtered_row : (schema : Schema) (es : List (ℕ × Node)) (holder : ℕ) (home : Home) (values : List Value) (b : Body) → are_sound schema (rows_in es) ≡ true → IsExact es
    → row_at (rows_in es) holder ≡ Some (row_of b) → b ≡ body.Array home values → is_filtered schema home ≡ true
    → IsFilteredRow schema es holder home values
filtered_row schema es holder home values b sound exact there is filtered = record { sound = sound; exact = exact; there = there ∙ ap (λ x. Some (row_of x)) is; filtered = filtered }

-- whether a row is a holder of an instance
abbrev pub holds_it : List (ℕ × Node) → ℕ → ℕ → Bool
holds_it es holder who = option_map_or (λ (n : Node). is_among holder n.holders) (node_at es who) false

-- a holder of an instance has it among its values
held_among : (schema : Schema) (es : List (ℕ × Node)) (holder who : ℕ) (home : Home) (values : List Value) → IsFilteredRow schema es holder home values → holds_it es holder who ≡ list_any (same_value (value.Link who)) values
held_among schema es holder who home values h = held_where schema es holder who (row.Array home values) h.sound h.exact h.there ∙ sym (link_among who values)

-- a pushed instance
pub pushed_link : (schema : Schema) (es : List (ℕ × Node)) (holder who r : ℕ) (home : Home) (values : List Value) (c : Command) (v : Value) (b : Body) → IsFilteredRow schema es holder home values
    → c ≡ command.Push r v → v ≡ value.Link who → b ≡ body.Array home values
    → holds_it es holder who ≡ is_duplicate schema c (Some (row_of b))
pushed_link schema es holder who r home values c v b h is link own =
    let p = list_any (same_value (value.Link who)) values in
    held_among schema es holder who home values h ∙ (sym (ap (λ f. f && p) h.filtered) ∙ sym (ap₂ (λ d x. is_duplicate schema d (Some (row_of x))) (is ∙ ap (command.Push r) link) own))

-- a pushed scalar
pub pushed_scalar : (schema : Schema) (es : List (ℕ × Node)) (holder r : ℕ) (home : Home) (values : List Value) (c : Command) (v : Value) (b : Body) → IsFilteredRow schema es holder home values
    → c ≡ command.Push r v → is_link v ≡ false → b ≡ body.Array home values
    → false ≡ is_duplicate schema c (Some (row_of b))
pushed_scalar schema es holder r home values c v b h is scalar own =
    let two = filtered_values schema (rows_in es) holder home values h.sound h.there h.filtered in
    let none = none_links v values scalar two.1 in
    sym (ap (λ f. is_filtered schema home && f) none ∙ ap (λ f. f && false) h.filtered) ∙ sym (ap₂ (λ d x. is_duplicate schema d (Some (row_of x))) is own)

-- a link at a place, by what the place links to
link_at : (n : ℕ) (o : Option Value) → option_map_or (same_value (value.Link n)) o false ≡ option_eq (λ a b. a == b) (link_in o) (Some n)
link_at n None = refl
link_at n (Some (value.Whole z)) = refl
link_at n (Some (value.Str t)) = refl
link_at n (Some (value.Truth b)) = refl
link_at n (Some (value.Link m)) = grind (arith, nat_tests)

-- an instance that is set where it doesn't stand
pub set_link : (schema : Schema) (es : List (ℕ × Node)) (holder who r at : ℕ) (home : Home) (values : List Value) (c : Command) (v : Value) (b : Body) (found : Option ℕ) (o : Option Value)
    → IsFilteredRow schema es holder home values → c ≡ command.SetAt r at v → v ≡ value.Link who → b ≡ body.Array home values
    → found ≡ link_in o → o ≡ slice_get values at → (not (option_eq (λ a b. a == b) found (Some who)) && holds_it es holder who) ≡ is_duplicate schema c (Some (row_of b))
set_link schema es holder who r at home values c v b found o h is link own told get =
    let p = same_value (value.Link who) in
    let two = filtered_values schema (rows_in es) holder home values h.sound h.there h.filtered in
    let here : option_eq (λ a b. a == b) found (Some who) ≡ option_map_or p (slice_get values at) false = ap (λ l. option_eq (λ a b. a == b) l (Some who)) (told ∙ ap link_in get) ∙ sym (link_at who (slice_get values at)) in
    ap₂ (λ f g. not f && g) here (held_among schema es holder who home values h)
    ∙ (sym (link_elsewhere who values at two.0)
    ∙ (sym (ap (λ f. f && list_any p (remove values at)) h.filtered) ∙ sym (ap₂ (λ d x. is_duplicate schema d (Some (row_of x))) (is ∙ ap (command.SetAt r at) link) own)))

-- a scalar that is set
pub set_scalar : (schema : Schema) (es : List (ℕ × Node)) (holder r at : ℕ) (home : Home) (values : List Value) (c : Command) (v : Value) (b : Body) → IsFilteredRow schema es holder home values
    → c ≡ command.SetAt r at v → is_link v ≡ false → b ≡ body.Array home values
    → false ≡ is_duplicate schema c (Some (row_of b))
set_scalar schema es holder r at home values c v b h is scalar own =
    let two = filtered_values schema (rows_in es) holder home values h.sound h.there h.filtered in
    let none = none_links v (remove values at) scalar (list_all_removed is_link values at two.1) in
    sym (ap (λ f. is_filtered schema home && f) none ∙ ap (λ f. f && false) h.filtered) ∙ sym (ap₂ (λ d x. is_duplicate schema d (Some (row_of x))) is own)

-- ---- causes in their order

-- a cause that doesn't hold isn't the first
skipped : (b : Bool) (f : TableFault) (cs : List (Bool × TableFault)) → b ≡ false → first_cause ((b, f) ∷ cs) ≡ first_cause cs
skipped b f cs h = ap (λ x. cond x (Some f) (first_cause cs)) h

-- the first of some is the first of these with others behind
first_among : (cs ds : List (Bool × TableFault)) (f : TableFault) → Some f ≡ first_cause cs → Some f ≡ first_cause (cs ++ ds)
first_among [] ds f h = cc
first_among (c ∷ cs) ds f h = by_test c.0 h (first_among cs ds f)
  where
    by_test : (b : Bool) → Some f ≡ cond b (Some c.1) (first_cause cs) → (Some f ≡ first_cause cs → Some f ≡ first_cause (cs ++ ds)) → Some f ≡ cond b (Some c.1) (first_cause (cs ++ ds))
    by_test true h more = h
    by_test false h more = more h

-- where none of some is the first, one of the others is
first_behind : (cs ds : List (Bool × TableFault)) → None ≡ first_cause cs → first_cause (cs ++ ds) ≡ first_cause ds
first_behind [] ds h = refl
first_behind (c ∷ cs) ds h = by_test c.0 h (first_behind cs ds)
  where
    by_test : (b : Bool) → None ≡ cond b (Some c.1) (first_cause cs) → (None ≡ first_cause cs → first_cause (cs ++ ds) ≡ first_cause ds) → cond b (Some c.1) (first_cause (cs ++ ds)) ≡ first_cause ds
    by_test true h more = cc
    by_test false h more = more h

-- where none of some is the first, the first of them doesn't hold
first_fails : (b : Bool) (f : TableFault) (cs : List (Bool × TableFault)) → None ≡ first_cause ((b, f) ∷ cs) → b ≡ false
first_fails true f cs h = cc
first_fails false f cs h = refl

-- ---- a command that changes a row

-- its holder and its row are there and of the shape that it needs
pub record Reaches (schema : Schema) (s : State) (c : Command) (r : Row) : Type 0 where
  pub named : is_no_ref s.rows c ≡ false
  pub field : is_no_field schema c (row_for s.rows c) ≡ false
  pub over : row_for s.rows c ≡ Some r

-- the causes behind those of values and links
abbrev last_causes : Schema → State → Command → Row → List (Bool × TableFault)
last_causes schema s c r =
    (makes_row c && nat_le rows_limit (length s.rows), fault.InstancesFull)
    ∷ (adds_place c (Some r) && nat_le places_limit (place_count s.rows), fault.PlacesFull)
    ∷ (nat_lt text_limit (text_bytes_of (state_after schema s c).rows), fault.TextFull)
    ∷ (is_long_text (value_put c) || is_long_key c, fault.TextTooLong)
    ∷ (makes_row c && nat_le last_number s.given, fault.RefsSpent)
    ∷ (gives_number c (Some r) && nat_lt last_number (option_map_or (next_item s) (holder_of c) 0), fault.NumbersSpent)
    ∷ (is_present c (Some r), fault.Present)
    ∷ []

-- the first cause is the first of values, of links and of limits
changed_first : (schema : Schema) (s : State) (c : Command) (r : Row) → Reaches schema s c r
    → refusal_of schema s c ≡ first_cause (value_causes schema s.rows c r ++ (link_causes schema s.rows c r ++ last_causes schema s c r))
changed_first schema s c r h =
    let rest = value_causes schema s.rows c r ++ (link_causes schema s.rows c r ++ last_causes schema s c r) in
    let field : is_no_field schema c (Some r) ≡ false = ap (is_no_field schema c) (sym h.over) ∙ h.field in
    ap (λ o. first_cause (causes_over schema s c o)) h.over
    ∙ (skipped (is_no_ref s.rows c) fault.NoRef ((is_no_field schema c (Some r), fault.NoField) ∷ rest) h.named
    ∙ skipped (is_no_field schema c (Some r)) fault.NoField rest field)

-- the same, as the calls tell it
pub reaches : (schema : Schema) (es : List (ℕ × Node)) (given : ℕ) (c : Command) (o : Option Row) (r : Row) → false ≡ is_no_ref (rows_in es) c → false ≡ is_no_field schema c o
    → o ≡ row_for (rows_in es) c → o ≡ Some r → Reaches schema (state_in es given) c r
reaches schema es given c o r named field told is = record { named = sym named; field = sym (field ∙ ap (is_no_field schema c) told); over = sym told ∙ is }

-- a cause in what the command puts
pub value_refused : (schema : Schema) (s : State) (c : Command) (r : Row) (f : TableFault) → Reaches schema s c r → Some f ≡ first_cause (value_causes schema s.rows c r) → Some f ≡ refusal_of schema s c
value_refused schema s c r f h first =
    first_among (value_causes schema s.rows c r) (link_causes schema s.rows c r ++ last_causes schema s c r) f first ∙ sym (changed_first schema s c r h)

-- a cause in the instance that it links to
pub link_refused : (schema : Schema) (s : State) (c : Command) (r : Row) (f : TableFault) → Reaches schema s c r → None ≡ first_cause (value_causes schema s.rows c r)
    → Some f ≡ first_cause (link_causes schema s.rows c r) → Some f ≡ refusal_of schema s c
link_refused schema s c r f h none first =
    first_among (link_causes schema s.rows c r) (last_causes schema s c r) f first
    ∙ (sym (first_behind (value_causes schema s.rows c r) (link_causes schema s.rows c r ++ last_causes schema s c r) none) ∙ sym (changed_first schema s c r h))

-- the order of the limits: rows, places, text, one text, reference numbers, item numbers, and whether the value is there
abbrev limit_order : Bool → Bool → Bool → Bool → Bool → Bool → Bool → Option TableFault
limit_order a b c d e f g =
    cond a (Some fault.InstancesFull) (cond b (Some fault.PlacesFull) (cond c (Some fault.TextFull) (cond d (Some fault.TextTooLong) (cond e (Some fault.RefsSpent) (cond f (Some fault.NumbersSpent) (cond g (Some fault.Present) None))))))

-- a cause in the limits
pub limit_refused : (schema : Schema) (es : List (ℕ × Node)) (given places text holder : ℕ) (c : Command) (b : Body) → IsTable schema es given places text → Reaches schema (state_in es given) c (row_of b)
    → Some holder ≡ holder_of c → Some b ≡ option_map (λ (n : Node). n.body) (option_and_then (node_at es) (holder_of c))
    → None ≡ first_cause (value_causes schema (rows_in es) c (row_of b)) → None ≡ first_cause (link_causes schema (rows_in es) c (row_of b))
    → first_cause (limit_causes c (row_of b) places text (next_in b)) ≡ refusal_of schema (state_in es given) c
limit_refused schema es given places text holder c b table h told found no_value no_link = sym (changed_first schema s c r h ∙ (first_behind values (links ++ last) no_value ∙ (first_behind links last no_link ∙ limits)))
  where
    s : State
    s = state_in es given

    r : Row
    r = row_of b

    names : holder_of c ≡ Some holder
    names = sym told

    at : body_at es holder ≡ Some b
    at = ap (λ o. option_map (λ (n : Node). n.body) (option_and_then (node_at es) o)) told ∙ sym found

    values : List (Bool × TableFault)
    values = value_causes schema s.rows c r

    links : List (Bool × TableFault)
    links = link_causes schema s.rows c r

    last : List (Bool × TableFault)
    last = last_causes schema s c r

    makes : makes_row c ≡ false
    makes = makes_none c holder names

    stands : row_at s.rows holder ≡ Some r
    stands = row_by_body es holder ∙ ap (option_map row_of) at

    field : is_no_field schema c (Some r) ≡ false
    field = ap (is_no_field schema c) (sym h.over) ∙ h.field

    item_there : is_no_item c (Some r) ≡ false
    item_there = first_fails (is_no_item c (Some r)) fault.NoItem
        ((is_wrong_type schema s.rows (value_put c) (expected_for schema c (Some r)), fault.WrongType) ∷ (is_past_range (value_put c) (expected_for schema c (Some r)), fault.OutOfRange) ∷ []) no_value

    full : nat_lt text_limit (text_bytes_of (state_after schema s c).rows) ≡ is_text_full c r text
    full = text_full_is schema s c holder r text table.kept names stands field item_there table.texts table.text_few

    next : option_map_or (next_item s) (holder_of c) 0 ≡ next_in b
    next = ap (λ o. option_map_or (next_item s) o 0) names ∙ next_found es given holder b (nodes_rise 0 es (sound_rises schema (rows_in es) table.kept.sound)) at

    places_are : (adds_place c (Some r) && nat_le places_limit (place_count s.rows)) ≡ (adds_place c (Some r) && nat_le places_limit places)
    places_are = ap (λ k. adds_place c (Some r) && nat_le places_limit k) (sym table.placed)

    numbers_are : (gives_number c (Some r) && nat_lt last_number (option_map_or (next_item s) (holder_of c) 0)) ≡ (gives_number c (Some r) && nat_lt last_number (next_in b))
    numbers_are = ap (λ k. gives_number c (Some r) && nat_lt last_number k) next

    none_made : (x : Bool) → (makes_row c && x) ≡ false
    none_made x = ap (λ y. y && x) makes

    limits : first_cause last ≡ first_cause (limit_causes c r places text (next_in b))
    limits =
        ap (λ x. limit_order x (adds_place c (Some r) && nat_le places_limit (place_count s.rows)) (nat_lt text_limit (text_bytes_of (state_after schema s c).rows))
        (is_long_text (value_put c) || is_long_key c) (makes_row c && nat_le last_number given) (gives_number c (Some r) && nat_lt last_number (option_map_or (next_item s) (holder_of c) 0)) (is_present c (Some r)))
        (none_made (nat_le rows_limit (length s.rows)))
        ∙ (ap₂ (λ x y. limit_order false x y (is_long_text (value_put c) || is_long_key c) (makes_row c && nat_le last_number given)
        (gives_number c (Some r) && nat_lt last_number (option_map_or (next_item s) (holder_of c) 0)) (is_present c (Some r))) places_are full
        ∙ ap₂ (λ x y. limit_order false (adds_place c (Some r) && nat_le places_limit places) (is_text_full c r text) (is_long_text (value_put c) || is_long_key c) x y (is_present c (Some r))) (none_made (nat_le last_number given)) numbers_are)

-- ---- a command that makes a row

-- as many rows as nodes
rows_counted : (es : List (ℕ × Node)) → length (rows_in es) ≡ length es
rows_counted [] = refl
rows_counted (e ∷ es) = ap suc (rows_counted es)

-- a command that is declared and needs no row makes one
makes_where : (schema : Schema) (c : Command) → is_no_field schema c None ≡ false → makes_row c ≡ true
makes_where schema (command.Make class) h = refl
makes_where schema (command.MakeFor home) h = refl
makes_where schema c h = cc

-- the order of the causes of a row that is made
made_order : (a b c d : Bool) → a ≡ false → c ≡ false
    → cond a (Some fault.NoField) (cond b (Some fault.InstancesFull) (cond c (Some fault.TextFull) (cond d (Some fault.RefsSpent) None))) ≡ cond b (Some fault.InstancesFull) (cond d (Some fault.RefsSpent) None)
made_order a b c d h k = ap₂ (λ x y. cond x (Some fault.NoField) (cond b (Some fault.InstancesFull) (cond y (Some fault.TextFull) (cond d (Some fault.RefsSpent) None)))) h k

-- the causes of a row that is made
made_first : (schema : Schema) (s : State) (c : Command) → makes_row c ≡ true → is_no_field schema c None ≡ false → nat_lt text_limit (text_bytes_of (state_after schema s c).rows) ≡ false
    → first_cause (causes_over schema s c None) ≡ first_cause (make_causes (length s.rows) s.given)
made_first schema s (command.Make class) m field few =
    made_order (is_no_field schema (command.Make class) None) (nat_le rows_limit (length s.rows)) (nat_lt text_limit (text_bytes_of (state_after schema s (command.Make class)).rows)) (nat_le last_number s.given) field few
made_first schema s (command.MakeFor home) m field few =
    made_order (is_no_field schema (command.MakeFor home) None) (nat_le rows_limit (length s.rows)) (nat_lt text_limit (text_bytes_of (state_after schema s (command.MakeFor home)).rows)) (nat_le last_number s.given) field few
made_first schema s c m field few = cc

-- a cause of a command that makes a row
pub make_refused : (schema : Schema) (es : List (ℕ × Node)) (given places text : ℕ) (c : Command) → IsTable schema es given places text → is_no_field schema c (row_for (rows_in es) c) ≡ false → row_for (rows_in es) c ≡ None
    → first_cause (make_causes (length es) given) ≡ refusal_of schema (state_in es given) c
make_refused schema es given places text c table field over =
    let s = state_in es given in
    let declared : is_no_field schema c None ≡ false = ap (is_no_field schema c) (sym over) ∙ field in
    let makes = makes_where schema c declared in
    let same = ap (λ b. text_bytes_of (cond b (with_new s (made_row schema c)) (with_change s c (holder_of c) (row_for s.rows c))).rows) makes ∙ text_made schema s c table.kept in
    let few : text_bytes_of s.rows ≤ text_limit = omega (arith, table.texts, table.text_few) in
    sym (ap (λ o. first_cause (causes_over schema s c o)) over
    ∙ (made_first schema s c makes declared (ap (nat_lt text_limit) same ∙ within_limit (text_bytes_of s.rows) few)
    ∙ ap (λ n. first_cause (make_causes n given)) (rows_counted es)))
