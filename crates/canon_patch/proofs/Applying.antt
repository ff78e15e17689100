-- Blocks done one after another to the rows at hand: what they mean against those rows is what they mean against the kinds known so far.
use Rattle.std.proofs.Common.{◌≡◌, ℕ, suc, ◌<◌, Bool, true, false, cond, ◌==◌, List, [], ◌∷◌, ◌++◌, take, drop, length, add-one, ◌+◌, get_or, map, Option, Some, None, is_some, refl, sym, ap, ◌∙◌, arith}
use Rattle.std.specs.List.{fold}
use Rattle.std.specs.Option.{option_map, option_map_or}
use Rattle.std.specs.Prelude.{option_and_then, if◌then◌else◌}
use Rattle.std.proofs.Math.Seq.{drop-cons, take-suc}
use Rattle.std.proofs.lemmas.Bool.Decides.{nat_tests}
use Rattle.lists.specs.Rising.{RisesFrom, IsAbove, find, put, remove}
use Rattle.lists.proofs.RisingLaws.{find_key, find-put, find-remove, put_found, put-last, remove_missing, same_rising, RisesFrom-put, RisesFrom-remove, IsAbove-take}
use Rattle.schema_model.specs.Classes.{Schema, home_field}
use Rattle.schema_model.specs.declared.class.FieldDecl.{FieldDecl}
use Rattle.schema_model.specs.declared.class.Shape.{Shape}
use Rattle.schema_model.specs.declared.class.Shape.TheVariants as shape
use Rattle.schema_model.specs.declared.place.Home.{Home}
use Rattle.state_model.specs.declared.place.Expected.{Expected}
use Rattle.state_model.specs.declared.place.Expected.TheVariants.{Item as AnItem, Collection as ACollection}
use Rattle.state_model.specs.Places.{collection_of}
use Rattle.state_model.specs.declared.row.Row.{Row}
use Rattle.state_model.specs.declared.row.Row.TheVariants as row
use Rattle.state_model.specs.declared.row.RowEntry.{RowEntry}
use Rattle.state_model.specs.Reached.{freed}
use Rattle.state_model.specs.Rows.{number_of, row_at, is_live, emptied, kinds_of, put_row}
use Rattle.state_laws.proofs.Numbers.{live_row}
use Rattle.wire_model.specs.declared.op.OpValue.{OpValue}
use Rattle.wire_model.specs.declared.op.OpValue.TheVariants as carried
use Rattle.wire_model.specs.declared.op.Op.{Op}
use Rattle.wire_model.specs.declared.op.Op.TheVariants as op
use Rattle.wire_model.specs.declared.op.OpKey.TheVariants.{Item}
use Rattle.wire_model.specs.declared.op.Block.{Block}
use Rattle.wire_model.specs.Edits.{Carried, Linked}
use Rattle.wire_model.specs.Effect.{Body, effect, opened, closed, edited_row, carried_by, with_linked, with_named, with_edits, apply_block, apply_edits}
use Rattle.wire_model.specs.Frame.{patch}
use Rattle.wire_model.specs.Grammar.{resolved, resolved_value, known_after, new_instance, new_collection, expects_at}
use Rattle.wire_model.specs.Resolved.{holder_kind, resolved_ops, known_behind, resolved_blocks, applied}
use Rattle.wire_ops.specs.PlainEdits.{plain_edit}
use Rattle.wire_ops.proofs.EffectLaws.{same_effect}
use Rattle.wire_laws.specs.PatchLaw.{Patchable}
use Rattle.wire_laws.proofs.EditedForm.{edited_kind}
use Rattle.wire_laws.proofs.LinkedRows.{linked_rises, named_rises}
use Rattle.wire_laws.proofs.OneBlock.{block_rises}
use Rattle.wire_laws.proofs.EncodedBlocks.{applied_leads}
use Rattle.wire_laws.proofs.EncodedKnown.{row_at-kinds_of, with_known, after_carried}
use Rattle.canon_patch.specs.Applying.{meant, with_link, with_links}

-- ---- the kinds of rows

-- the kinds of rows rise as they do
pub kinds_rise : (low : ℕ) (rows : List RowEntry) → RisesFrom number_of low rows → RisesFrom number_of low (kinds_of rows)
kinds_rise low [] r = tt
kinds_rise low (e ∷ es) r = (r.0, kinds_rise (suc e.who) es r.1)

-- a row that is put in is known by its kind
pub kinds_of-put_row : (n : ℕ) (r : Row) (rows : List RowEntry) → kinds_of (put_row n r rows) ≡ put_row n (emptied r) (kinds_of rows)
kinds_of-put_row n r [] = refl
kinds_of-put_row n r (e ∷ es) = grind (arith, nat_tests, kinds_of-put_row n r es)

one_entry : (a b : ℕ) (x y : Row) → a ≡ b → Some x ≡ Some y → let e : RowEntry = record { who = a; row = x } in let f : RowEntry = record { who = b; row = y } in Some e ≡ Some f
one_entry a b x y h k = cc

-- what a number's row is: the entry that is found
entry_at : (rows : List RowEntry) (n : ℕ) (r : Row) → row_at rows n ≡ Some r → find number_of n rows ≡ Some (record { who = n; row = r })
entry_at rows n r h =
    let go : (o : Option RowEntry) → find number_of n rows ≡ o → option_map (λ (e : RowEntry). e.row) o ≡ Some r → o ≡ Some (record { who = n; row = r }) = elim [
      | Some e ↦ λ f s. one_entry e.who n e.row r (find_key number_of n rows e f) s
      | None ↦ λ f s. cc
    ] in go (find number_of n rows) refl h

-- a row put in where it was changes nothing
pub put_same : (rows : List RowEntry) (n : ℕ) (r : Row) → RisesFrom number_of 0 rows → row_at rows n ≡ Some r → put_row n r rows ≡ rows
put_same rows n r rises h = put_found number_of 0 (record { who = n; row = r }) rows rises (entry_at rows n r h)

-- a row of the same kind, put in where one is, changes no kind
pub put_kind : (rows : List RowEntry) (n : ℕ) (a b : Row) → RisesFrom number_of 0 rows → row_at rows n ≡ Some a → emptied b ≡ emptied a → kinds_of (put_row n b rows) ≡ kinds_of rows
put_kind rows n a b rises h same =
    kinds_of-put_row n b rows
    ∙ (ap (λ r. put_row n r (kinds_of rows)) same
    ∙ put_same (kinds_of rows) n (emptied a) (kinds_rise 0 rows rises) (row_at-kinds_of rows n ∙ ap (option_map emptied) h))

-- a holder that is there is known by its kind, and one that isn't as an instance of the first class
pub kind_found : (rows : List RowEntry) (n m : ℕ) (e : RowEntry) → m ≡ n → find number_of m rows ≡ Some e → holder_kind (kinds_of rows) n ≡ emptied e.row
kind_found rows n m e same h = let h : find number_of n rows ≡ Some e = rw (← same) h in ap (λ o. option_map_or (λ r. r) o (row.Struct 0 [])) (row_at-kinds_of rows n ∙ ap (λ o. option_map emptied (option_map (λ (e : RowEntry). e.row) o)) h)

pub kind_missing : (rows : List RowEntry) (n m : ℕ) → m ≡ n → find number_of m rows ≡ None → holder_kind (kinds_of rows) n ≡ row.Struct 0 []
kind_missing rows n m same h = let h : find number_of n rows ≡ None = rw (← same) h in ap (λ o. option_map_or (λ r. r) o (row.Struct 0 [])) (row_at-kinds_of rows n ∙ ap (λ o. option_map emptied (option_map (λ (e : RowEntry). e.row) o)) h)

-- ---- the rows that operations link to

-- a row is added where none of its number is found
pub added : (rows : List RowEntry) (n m : ℕ) (r : Row) → m ≡ n → find number_of m rows ≡ None → put_row n r rows ≡ (if is_live rows n then rows else put_row n r rows)
added rows n m r same h = let h : find number_of n rows ≡ None = rw (← same) h in ap (λ b. if b then rows else put_row n r rows) (sym (live_row rows n ∙ ap (λ o. is_some (option_map (λ (e : RowEntry). e.row) o)) h))

pub kept : (rows : List RowEntry) (n m : ℕ) (r : Row) (e : RowEntry) → m ≡ n → find number_of m rows ≡ Some e → rows ≡ (if is_live rows n then rows else put_row n r rows)
kept rows n m r e same h = let h : find number_of n rows ≡ Some e = rw (← same) h in ap (λ b. if b then rows else put_row n r rows) (sym (live_row rows n ∙ ap (λ o. is_some (option_map (λ (e : RowEntry). e.row) o)) h))

-- a fresh row is added for a link where none is there
pub linked_fresh : (rows : List RowEntry) (n : ℕ) (fresh : Row) →
    (if is_live rows n then rows else put_row n fresh rows) ≡ with_linked (Linked n (option_map_or (λ r. r) (row_at (kinds_of rows) n) fresh)) rows
linked_fresh rows n fresh =
    let go : (o : Option Row) → row_at rows n ≡ o → cond (is_some o) rows (put_row n fresh rows) ≡ cond (is_some o) rows (put_row n (option_map_or (λ r. r) (option_map emptied o) fresh) rows) = elim [
      | Some r ↦ λ h. refl
      | None ↦ λ h. refl
    ] in rw (row_at-kinds_of rows n, live_row rows n) (go (row_at rows n) refl)

-- the kind of a linked row: the known one, or else a fresh one
linked_known : (rows : List RowEntry) (n : ℕ) (fresh : Row) → RisesFrom number_of 0 rows → emptied fresh ≡ fresh →
    kinds_of (with_linked (Linked n (option_map_or (λ r. r) (row_at (kinds_of rows) n) fresh)) rows)
    ≡ put_row n (option_map_or (λ r. r) (row_at (kinds_of rows) n) fresh) (kinds_of rows)
linked_known rows n fresh rises kind =
    let go : (o : Option Row) → row_at rows n ≡ o → (b : Bool) → is_live rows n ≡ b →
    kinds_of (cond b rows (put_row n (option_map_or (λ r. r) (option_map emptied o) fresh) rows)) ≡ put_row n (option_map_or (λ r. r) (option_map emptied o) fresh) (kinds_of rows) = elim [
      | Some a ↦ λ is. elim [
        | true ↦ λ live. sym (put_same (kinds_of rows) n (emptied a) (kinds_rise 0 rows rises) (row_at-kinds_of rows n ∙ ap (option_map emptied) is))
        | false ↦ λ live. let there = sym live ∙ (live_row rows n ∙ ap is_some is) in cc
      ]
      | None ↦ λ is. elim [
        | true ↦ λ live. let there = sym live ∙ (live_row rows n ∙ ap is_some is) in cc
        | false ↦ λ live. kinds_of-put_row n fresh rows ∙ ap (λ r. put_row n r (kinds_of rows)) kind
      ]
    ] in rw (row_at-kinds_of rows n) (go (row_at rows n) refl (is_live rows n) refl)

-- a fresh instance and a fresh collection have no places
instance_empty : (mark : Option ℕ) (expected : Option Expected) → emptied (new_instance mark expected) ≡ new_instance mark expected
instance_empty None expected = refl
instance_empty (Some class) expected = refl

shaped_empty : (home : Home) (shape : Shape) → let r = option_map_or (λ r. r) (collection_of home shape) (row.Array home []) in emptied r ≡ r
shaped_empty home (shape.One i) = refl
shaped_empty home (shape.Map i) = refl
shaped_empty home (shape.Array i) = refl
shaped_empty home (shape.Set i) = refl

collection_empty : (schema : Schema) (expected : Option Expected) → emptied (new_collection schema expected) ≡ new_collection schema expected
collection_empty schema None = refl
collection_empty schema (Some (AnItem i)) = refl
collection_empty schema (Some (ACollection home)) =
    let go : (o : Option FieldDecl) → let r = option_map_or (λ r. r) (option_and_then (λ (f : FieldDecl). collection_of home f.shape) o) (row.Array home []) in emptied r ≡ r = elim [
      | Some d ↦ shaped_empty home d.shape
      | None ↦ refl
    ] in go (home_field schema home)

-- the kinds of the rows with what a value leads to
value_known : (schema : Schema) (expected : Option Expected) (v : OpValue) (rows : List RowEntry) → RisesFrom number_of 0 rows →
    kinds_of (with_linked (resolved_value schema (kinds_of rows) expected v) rows) ≡ with_known (Some (resolved_value schema (kinds_of rows) expected v)) (kinds_of rows)
value_known schema expected (carried.Scalar kind v) rows rises = refl
value_known schema expected (carried.Struct n mark) rows rises = linked_known rows n (new_instance mark expected) rises (instance_empty mark expected)
value_known schema expected (carried.Coll n) rows rises = linked_known rows n (new_collection schema expected) rises (collection_empty schema expected)

-- what is added for a value that leads to an instance, and for one that leads to a collection
pub struct_linked : (schema : Schema) (rows : List RowEntry) (expected : Option Expected) (v : OpValue) (n : ℕ) (mark : Option ℕ) (fresh : Row) → v ≡ carried.Struct n mark → fresh ≡ new_instance mark expected →
    (if is_live rows n then rows else put_row n fresh rows) ≡ with_linked (resolved_value schema (kinds_of rows) expected v) rows
struct_linked schema rows expected v n mark fresh is made = rw (is, made) (linked_fresh rows n (new_instance mark expected))

pub coll_linked : (schema : Schema) (rows : List RowEntry) (expected : Option Expected) (v : OpValue) (n : ℕ) (fresh : Row) → v ≡ carried.Coll n → fresh ≡ new_collection schema expected →
    (if is_live rows n then rows else put_row n fresh rows) ≡ with_linked (resolved_value schema (kinds_of rows) expected v) rows
coll_linked schema rows expected v n fresh is made = rw (is, made) (linked_fresh rows n (new_collection schema expected))

-- after an operation the known kinds are those of the rows with its link
pub link_known : (schema : Schema) (holder : Row) (o : Op) (rows : List RowEntry) → RisesFrom number_of 0 rows →
    kinds_of (with_link schema holder o rows) ≡ known_after (resolved schema (kinds_of rows) holder o) (kinds_of rows)
link_known schema holder (op.Add k v) rows rises = value_known schema (expects_at schema holder k) v rows rises ∙ sym (after_carried (resolved schema (kinds_of rows) holder (op.Add k v)) (kinds_of rows))
link_known schema holder (op.Replace k v) rows rises = value_known schema (expects_at schema holder k) v rows rises ∙ sym (after_carried (resolved schema (kinds_of rows) holder (op.Replace k v)) (kinds_of rows))
link_known schema holder (op.DeleteAdd k v) rows rises = value_known schema (expects_at schema holder k) v rows rises ∙ sym (after_carried (resolved schema (kinds_of rows) holder (op.DeleteAdd k v)) (kinds_of rows))
link_known schema holder (op.AddByRef v) rows rises = value_known schema (expects_at schema holder (Item 0)) v rows rises ∙ sym (after_carried (resolved schema (kinds_of rows) holder (op.AddByRef v)) (kinds_of rows))
link_known schema holder (op.Delete k) rows rises = refl
link_known schema holder op.Clear rows rises = refl
link_known schema holder (op.DeleteByRef n) rows rises = refl

-- the rows with a link rise
pub link_rises : (schema : Schema) (holder : Row) (o : Op) (rows : List RowEntry) → RisesFrom number_of 0 rows → RisesFrom number_of 0 (with_link schema holder o rows)
link_rises schema holder o rows rises =
    let go : (c : Option Carried) → RisesFrom number_of 0 (option_map_or (λ v. with_linked v rows) c rows) = elim [ Some v ↦ linked_rises v rows rises | None ↦ rises ] in
    go (carried_by (resolved schema (kinds_of rows) holder o))

-- ---- operations, one behind another

-- behind operations the known kinds are those of the rows with their links
links_known : (schema : Schema) (holder : Row) (os : List Op) (rows : List RowEntry) → RisesFrom number_of 0 rows → kinds_of (with_links schema holder os rows) ≡ known_behind schema holder (kinds_of rows) os
links_known schema holder [] rows rises = refl
links_known schema holder (o ∷ os) rows rises =
    links_known schema holder os (with_link schema holder o rows) (link_rises schema holder o rows rises)
    ∙ ap (λ known. known_behind schema holder known os) (link_known schema holder o rows rises)

-- the rows that operations name, as they mean them
links_named : (schema : Schema) (holder : Row) (os : List Op) (rows : List RowEntry) → RisesFrom number_of 0 rows → with_links schema holder os rows ≡ with_named (resolved_ops schema holder (kinds_of rows) os) rows
links_named schema holder [] rows rises = refl
links_named schema holder (o ∷ os) rows rises =
    links_named schema holder os (with_link schema holder o rows) (link_rises schema holder o rows rises)
    ∙ ap (λ known. with_named (resolved_ops schema holder known os) (with_link schema holder o rows)) (link_known schema holder o rows rises)

-- what operations do to a holder, wherever their links lead to
ops_done : (schema : Schema) (holder : Row) (os : List Op) (known : List RowEntry) (body : Body) →
    fold (λ b e. effect e b) body (resolved_ops schema holder known os) ≡ fold (λ b e. effect e b) body (map plain_edit os)
ops_done schema holder [] known body = refl
ops_done schema holder (o ∷ os) known body =
    ap (λ b. fold (λ b e. effect e b) b (resolved_ops schema holder (known_after (resolved schema known holder o) known) os)) (sym (same_effect schema known holder o body))
    ∙ ops_done schema holder os (known_after (resolved schema known holder o) known) (effect (plain_edit o) body)

-- ---- a block

-- the rows with links rise
links_rise : (schema : Schema) (holder : Row) (os : List Op) (rows : List RowEntry) → RisesFrom number_of 0 rows → RisesFrom number_of 0 (with_links schema holder os rows)
links_rise schema holder [] rows rises = rises
links_rise schema holder (o ∷ os) rows rises = links_rise schema holder os (with_link schema holder o rows) (link_rises schema holder o rows rises)

twice : (b : Bool) (x : RowEntry) (o : Option RowEntry) → cond b (Some x) (cond b None o) ≡ cond b (Some x) o
twice true x o = refl
twice false x o = refl

-- a row put in where it was taken out
put_again : (rows : List RowEntry) (n : ℕ) (r : Row) → RisesFrom number_of 0 rows → put_row n r (remove number_of n rows) ≡ put_row n r rows
put_again rows n r rises =
    let x : RowEntry = record { who = n; row = r } in
    same_rising number_of 0 0 (put_row n r (remove number_of n rows)) (put_row n r rows)
    (RisesFrom-put number_of 0 x (remove number_of n rows) (RisesFrom-remove number_of 0 n rows rises) (omega arith)) (RisesFrom-put number_of 0 x rows rises (omega arith))
    (λ k. find-put number_of x (remove number_of n rows) k ∙ (ap (λ o. cond (n == k) (Some x) o) (find-remove number_of n rows k) ∙ (twice (n == k) x (find number_of k rows) ∙ sym (find-put number_of x rows k))))

-- the rows of a block's holder and links, where the holder isn't there
without_holder : (schema : Schema) (rows : List RowEntry) (b : Block) → RisesFrom number_of 0 rows → let named = with_links schema (holder_kind (kinds_of rows) b.holder) b.ops rows in
    find number_of b.holder named ≡ None → remove number_of b.holder named ≡ apply_block rows (meant schema rows b)
without_holder schema rows b rises missing =
    let kind = holder_kind (kinds_of rows) b.holder in
    let named = with_links schema kind b.ops rows in
    remove_missing number_of b.holder named missing
    ∙ (ap (λ o. with_edits (meant schema rows b) named o) (sym (ap (option_map (λ (e : RowEntry). e.row)) missing))
    ∙ ap (λ l. with_edits (meant schema rows b) l (row_at l b.holder)) (links_named schema kind b.ops rows rises))

-- and where it is there
with_holder : (schema : Schema) (rows : List RowEntry) (b : Block) (e : RowEntry) (r : Row) → RisesFrom number_of 0 rows → let named = with_links schema (holder_kind (kinds_of rows) b.holder) b.ops rows in
    find number_of b.holder named ≡ Some e → r ≡ edited_row (map plain_edit b.ops) e.row → put_row b.holder r (remove number_of b.holder named) ≡ apply_block rows (meant schema rows b)
with_holder schema rows b e r rises there is =
    let kind = holder_kind (kinds_of rows) b.holder in
    let named = with_links schema kind b.ops rows in
    let named_rises : RisesFrom number_of 0 named = links_rise schema kind b.ops rows rises in
    let done : edited_row (map plain_edit b.ops) e.row ≡ edited_row (meant schema rows b).edits e.row = ap closed (sym (ops_done schema kind b.ops (kinds_of rows) (opened e.row))) in
    put_again named b.holder r named_rises
    ∙ (ap (λ r. put_row b.holder r named) (is ∙ done)
    ∙ (ap (λ o. with_edits (meant schema rows b) named o) (sym (ap (option_map (λ (e : RowEntry). e.row)) there))
    ∙ ap (λ l. with_edits (meant schema rows b) l (row_at l b.holder)) (links_named schema kind b.ops rows rises)))

-- the same, of rows that were made step by step
pub block_without : (schema : Schema) (rows named after : List RowEntry) (b : Block) (kind : Row) (m : ℕ) → RisesFrom number_of 0 rows → kind ≡ holder_kind (kinds_of rows) b.holder
    → named ≡ with_links schema kind b.ops rows → m ≡ b.holder → find number_of m named ≡ None → after ≡ remove number_of m named → after ≡ apply_block rows (meant schema rows b)
block_without schema rows named after b kind m rises known is same missing done =
    let made : named ≡ with_links schema (holder_kind (kinds_of rows) b.holder) b.ops rows = is ∙ ap (λ k. with_links schema k b.ops rows) known in
    rw (done, same, made) (without_holder schema rows b rises (rw (same, made) at missing))

pub block_with : (schema : Schema) (rows named rest after : List RowEntry) (b : Block) (kind : Row) (m : ℕ) (e : RowEntry) (r : Row) → RisesFrom number_of 0 rows → kind ≡ holder_kind (kinds_of rows) b.holder
    → named ≡ with_links schema kind b.ops rows → m ≡ b.holder → find number_of m named ≡ Some e → rest ≡ remove number_of m named → r ≡ edited_row (map plain_edit b.ops) e.row → after ≡ put_row b.holder r rest
    → after ≡ apply_block rows (meant schema rows b)
block_with schema rows named rest after b kind m e r rises known is same there left edited done =
    let made : named ≡ with_links schema (holder_kind (kinds_of rows) b.holder) b.ops rows = is ∙ ap (λ k. with_links schema k b.ops rows) known in
    rw (done, left, same, made) (with_holder schema rows b e r rises (rw (same, made) at there) edited)

-- after a block the kinds of the rows are those known behind it
block_known : (schema : Schema) (rows : List RowEntry) (b : Block) → RisesFrom number_of 0 rows →
    kinds_of (apply_block rows (meant schema rows b)) ≡ known_behind schema (holder_kind (kinds_of rows) b.holder) (kinds_of rows) b.ops
block_known schema rows b rises =
    let kind = holder_kind (kinds_of rows) b.holder in
    let edits = resolved_ops schema kind (kinds_of rows) b.ops in
    let named = with_named edits rows in
    let named_rises : RisesFrom number_of 0 named = named_rises edits rows rises in
    let go : (o : Option Row) → row_at named b.holder ≡ o → kinds_of (with_edits (meant schema rows b) named o) ≡ kinds_of named = elim [
      | Some r ↦ λ is. put_kind named b.holder r (edited_row edits r) named_rises is (edited_kind edits r)
      | None ↦ λ is. refl
    ] in go (row_at named b.holder) refl ∙ (ap kinds_of (sym (links_named schema kind b.ops rows rises)) ∙ links_known schema kind b.ops rows rises)

-- ---- blocks, one behind another

-- the first block done, and those behind it
pub applied_next : (schema : Schema) (rows : List RowEntry) (b : Block) (bs : List Block) → RisesFrom number_of 0 rows → applied schema rows (b ∷ bs) ≡ applied schema (apply_block rows (meant schema rows b)) bs
applied_next schema rows b bs rises =
    ap (λ known. apply_edits (resolved_blocks schema known bs) (apply_block rows (meant schema rows b))) (sym (block_known schema rows b rises))

-- one block of a list done
pub applied_turn : (schema : Schema) (start rows after : List RowEntry) (blocks items : List Block) (i : ℕ) (b : Block) → RisesFrom number_of 0 rows → i < length items → b ≡ get_or items i b →
    applied schema rows (drop i items) ≡ applied schema start blocks → after ≡ apply_block rows (meant schema rows b) →
    (applied schema after (drop (i + 1) items) ≡ applied schema start blocks) × RisesFrom number_of 0 after
applied_turn schema start rows after blocks items i b rises below is so_far done =
    let next : drop i items ≡ b ∷ drop (i + 1) items = drop-cons items i b below ∙ (ap (λ x. x ∷ drop (suc i) items) (sym is) ∙ ap (λ n. b ∷ drop n items) (sym (add-one i))) in (
      ap (λ l. applied schema l (drop (i + 1) items)) done ∙ (sym (applied_next schema rows b (drop (i + 1) items) rises) ∙ (ap (applied schema rows) (sym next) ∙ so_far)),
      rw done (block_rises (meant schema rows b) rows rises),
    )

-- what the patch makes of the old rows is, freed, the new rows
pub patch_freed : (schema : Schema) (old after : List RowEntry) (blocks : List Block) → after ≡ applied schema old blocks → (new : List RowEntry) → Patchable schema old new → blocks ≡ patch schema old new → freed after ≡ new
patch_freed schema old after blocks is new patchable same = ap freed (is ∙ ap (applied schema old) same) ∙ applied_leads schema old new patchable

-- ---- rows as a tree

-- a copy of the next row goes last
pub put_next : (items tree : List RowEntry) (i : ℕ) (x y : RowEntry) → RisesFrom number_of 0 items → tree ≡ take i items → i < length items → x ≡ get_or items i x → y ≡ x → put number_of y tree ≡ take (i + 1) items
put_next items tree i x y rises so_far below is copied =
    let number : y.who ≡ (get_or items i x).who = ap number_of (copied ∙ is) in
    let above : IsAbove number_of y.who (take i items) = rw number (IsAbove-take number_of 0 items i x rises below) in
    ap (put number_of y) so_far
    ∙ (put-last number_of y (take i items) above
    ∙ (ap (λ e. take i items ++ e ∷ []) (copied ∙ is) ∙ (sym (take-suc items i x below) ∙ ap (λ n. take n items) (sym (add-one i)))))
