-- What operations that lead to shared rows keep of a client's rows.
use Rattle.std.proofs.Common.{◌≡◌, ℕ, Bool, true, false, cond, ◌==◌, zero, suc, List, [], ◌∷◌, ◌++◌, length, inl, inr, Option, Some, None, refl, sym, ap, subst, ◌∙◌}
use Rattle.std.specs.Prelude.{◌⊎◌}
use Rattle.std.specs.Option.{option_map_or}
use Rattle.std.proofs.lemmas.Bool.{eqb-true, or_right}
use Rattle.lists.specs.Rising.{RisesFrom}
use Rattle.schema_model.specs.Classes.{Schema}
use Rattle.state_model.specs.declared.row.Row.{Row}
use Rattle.state_model.specs.declared.row.Row.TheVariants.{Struct, Map, Array, Set}
use Rattle.state_model.specs.declared.row.RowEntry.{RowEntry}
use Rattle.state_model.specs.Rows.{number_of, numbers_of, row_at, is_live, held_in, emptied}
use Rattle.state_model.specs.Places.{same_kind}
use Rattle.state_model.specs.Reached.{is_among}
use Rattle.state_laws.proofs.Numbers.{live_at, at_live}
use Rattle.wire_model.specs.Edits.{Edit, EditBlock}
use Rattle.wire_model.specs.Effect.{apply_block, apply_edits, edited_row, with_named, with_edits}
use Rattle.wire_model.specs.Patch.{named_in, named_by_blocks, kind_in, row_edits, whole_edits, block_of, common_block, common_blocks, next_named, new_edits, new_blocks, patch_edits}
use Rattle.wire_laws.proofs.Forms.{IsFormed}
use Rattle.wire_laws.proofs.LinkedRows.{CarriesKinds, named_rises, named_rows, row_carries, whole_carries}
use Rattle.wire_laws.proofs.OneBlock.{block_rises, block_rows}
use Rattle.wire_laws.proofs.NamedNumbers.{named_held, whole_held}
use Rattle.wire_laws.proofs.EditedForm.{edited_kind, edited_formed, whole_formed}
use Rattle.wire_laws.proofs.CommonPhase.{AreAmong, blocks_for}
use Rattle.wire_laws.proofs.Leads.{among_self}
use Rattle.wire_laws.proofs.Origins.{IsFrom, Kept}
use Rattle.wire_laws.proofs.OriginLaws.{from_client, from_emptied, from_edited, from_whole}
use Rattle.wire_laws.proofs.EditedNames.{edited_names}
use Rattle.wire_laws.proofs.KindLaws.{kind_emptied, kind_of}
use Rattle.std.proofs.lemmas.Option.{same_Some}
use Rattle.state_laws.proofs.Fitting.{emptied_holds}
use Rattle.wire_laws.proofs.Bools.{in_either}
use Rattle.wire_laws.proofs.RowLaw.{emptied_formed}

-- the operations of a block lead to the goal's row of its holder
pub record LeadsTo (schema : Schema) (goal : List RowEntry) (b : EditBlock) : Type 0 where
  pub row : Row
  pub is_row : row_at goal b.holder ≡ Some row
  pub leads : ((x : Row) × (same_kind x row ≡ true) × (b.edits ≡ row_edits schema goal x row)) ⊎ (b.edits ≡ whole_edits schema goal row)

holds_none : (m : ℕ) (r : Row) → is_among m (held_in (emptied r)) ≡ false
holds_none m r = ap (is_among m) (emptied_holds r)

-- ---- the rows that a block's operations name

-- what stands under a number there: as it stood, or the goal's row without its places
pub named_stands : (goal now : List RowEntry) (es : List Edit) (n : ℕ) (r : Row) → RisesFrom number_of 0 now → CarriesKinds goal es → row_at (with_named es now) n ≡ Some r
    → (row_at now n ≡ Some r) ⊎ ((is_live now n ≡ false) × (is_among n (named_in es) ≡ true) × (r ≡ kind_in goal n))
named_stands goal now es n r rises carries is =
    let go : (b c : Bool) → is_live now n ≡ b → is_among n (named_in es) ≡ c → cond b (row_at now n) (cond c (Some (kind_in goal n)) None) ≡ Some r
    → (row_at now n ≡ Some r) ⊎ ((is_live now n ≡ false) × (is_among n (named_in es) ≡ true) × (r ≡ kind_in goal n)) = elim [
      | true ↦ λ c live named h. inl h
      | false ↦ elim [
        | true ↦ λ gone named h. inr (gone, named, same_Some r (kind_in goal n) (sym h))
        | false ↦ λ gone named h. cc
      ]
    ] in go (is_live now n) (is_among n (named_in es)) refl refl (sym (named_rows goal es now n rises carries) ∙ is)

-- what was there is there
named_live : (goal now : List RowEntry) (es : List Edit) (n : ℕ) → RisesFrom number_of 0 now → CarriesKinds goal es → is_live now n ≡ true → is_live (with_named es now) n ≡ true
named_live goal now es n rises carries live =
    let row = at_live now n live in
    live_at (with_named es now) n row.0 (named_rows goal es now n rises carries
    ∙ (ap (λ b. cond b (row_at now n) (cond (is_among n (named_in es)) (Some (kind_in goal n)) None)) live ∙ row.1))

-- and so is what is named
named_there : (goal now : List RowEntry) (es : List Edit) (n : ℕ) → RisesFrom number_of 0 now → CarriesKinds goal es → is_among n (named_in es) ≡ true → is_live (with_named es now) n ≡ true
named_there goal now es n rises carries named =
    let go : (b : Bool) → is_live now n ≡ b → is_live (with_named es now) n ≡ true = elim [
      | true ↦ λ live. named_live goal now es n rises carries live
      | false ↦ λ gone.
          live_at (with_named es now) n (kind_in goal n) (named_rows goal es now n rises carries
          ∙ (ap (λ b. cond b (row_at now n) (cond (is_among n (named_in es)) (Some (kind_in goal n)) None)) gone ∙ ap (λ c. cond c (Some (kind_in goal n)) None) named))
    ] in go (is_live now n) refl

pub emptied_twice : (r : Row) → emptied (emptied r) ≡ emptied r
emptied_twice (Struct class fields) = refl
emptied_twice (Map home items) = refl
emptied_twice (Array home values) = refl
emptied_twice (Set home items) = refl

-- rows in which named rows are there, without places, are kept
pub named_kept : (schema : Schema) (client goal now : List RowEntry) (es : List Edit) → Kept schema client goal now → CarriesKinds goal es
    → ((m : ℕ) → is_among m (named_in es) ≡ true → is_live goal m ≡ true) → Kept schema client goal (with_named es now)
named_kept schema client goal now es k carries names = record {
  rises = named_rises es now k.rises;
  formed = λ n r is. elim (stands n r is) [ inl h ↦ k.formed n r h | inr h ↦ subst (IsFormed schema) (sym (empty n r h).1) (emptied_formed schema (empty n r h).0) ];
  client_kind = λ n r a is client_is. elim (stands n r is) [
    | inl h ↦ k.client_kind n r a h client_is
    | inr h ↦ absurd (let e = k.stays n (live_at client n a client_is) in let f = h.0 in cc)
  ];
  goal_kind = λ n r b is goal_is. elim (stands n r is) [
    | inl h ↦ k.goal_kind n r b h goal_is
    | inr h ↦ ap emptied (h.2 ∙ kind_of goal n b goal_is) ∙ emptied_twice b
  ];
  there = λ n live. let row = at_live (with_named es now) n live in elim (stands n row.0 row.1) [
    | inl h ↦ k.there n (live_at now n row.0 h)
    | inr h ↦ or_right (is_live client n) (is_live goal n) (names n h.1)
  ];
  stays = λ n live. named_live goal now es n k.rises carries (k.stays n live);
  origin = λ n r is. elim (stands n r is) [
    | inl h ↦ k.origin n r h
    | inr h ↦ subst (IsFrom (row_at client n) (row_at goal n)) (sym (empty n r h).1) (from_emptied (row_at client n) (row_at goal n) (empty n r h).0)
  ];
  links = λ n m r is held. elim (stands n r is) [
    | inl h ↦ named_live goal now es m k.rises carries (k.links n m r h held)
    | inr h ↦ absurd (let none = holds_none m (empty n r h).0 in let e : is_among m (held_in (emptied (empty n r h).0)) ≡ true = ap (λ x. is_among m (held_in x)) (sym (empty n r h).1) ∙ held in cc)
  ];
}
  where
    stands : (n : ℕ) (r : Row) → row_at (with_named es now) n ≡ Some r → (row_at now n ≡ Some r) ⊎ ((is_live now n ≡ false) × (is_among n (named_in es) ≡ true) × (r ≡ kind_in goal n))
    stands n r is = named_stands goal now es n r k.rises carries is

    empty : (n : ℕ) (r : Row) → (is_live now n ≡ false) × (is_among n (named_in es) ≡ true) × (r ≡ kind_in goal n) → (b : Row) × (r ≡ emptied b)
    empty n r h = let b = at_live goal n (names n h.1) in (b.0, h.2 ∙ kind_of goal n b.0 b.1)

-- ---- one row in place of another

-- rows in which one row has others of its places are kept
replaced_kept : (schema : Schema) (client goal now next : List RowEntry) (holder : ℕ) (r x : Row) → Kept schema client goal now → row_at now holder ≡ Some r
    → IsFormed schema x → emptied x ≡ emptied r → IsFrom (row_at client holder) (row_at goal holder) x → ((m : ℕ) → is_among m (held_in x) ≡ true → is_live now m ≡ true)
    → RisesFrom number_of 0 next → ((n : ℕ) → row_at next n ≡ cond (holder == n) (Some x) (row_at now n)) → Kept schema client goal next
replaced_kept schema client goal now next holder r x k is formed kind origin links rises rows = record {
  rises = rises;
  formed = λ n y at. elim (stands n y at) [ inl h ↦ subst (IsFormed schema) (sym h.1) formed | inr h ↦ k.formed n y h ];
  client_kind = λ n y a at client_is. elim (stands n y at) [
    | inl h ↦ ap emptied h.1 ∙ (kind ∙ k.client_kind holder r a is (ap (row_at client) h.0 ∙ client_is))
    | inr h ↦ k.client_kind n y a h client_is
  ];
  goal_kind = λ n y b at goal_is. elim (stands n y at) [
    | inl h ↦ ap emptied h.1 ∙ (kind ∙ k.goal_kind holder r b is (ap (row_at goal) h.0 ∙ goal_is))
    | inr h ↦ k.goal_kind n y b h goal_is
  ];
  there = λ n live. let row = at_live next n live in elim (stands n row.0 row.1) [
    | inl h ↦ k.there n (live_at now n r (ap (row_at now) (sym h.0) ∙ is))
    | inr h ↦ k.there n (live_at now n row.0 h)
  ];
  stays = λ n live. still n (k.stays n live);
  origin = λ n y at. elim (stands n y at) [
    | inl h ↦ subst (λ m. IsFrom (row_at client m) (row_at goal m) y) h.0 (subst (IsFrom (row_at client holder) (row_at goal holder)) (sym h.1) origin)
    | inr h ↦ k.origin n y h
  ];
  links = λ n m y at held. elim (stands n y at) [
    | inl h ↦ still m (links m (ap (λ z. is_among m (held_in z)) (sym h.1) ∙ held))
    | inr h ↦ still m (k.links n m y h held)
  ];
}
  where
    stands : (n : ℕ) (y : Row) → row_at next n ≡ Some y → ((holder ≡ n) × (y ≡ x)) ⊎ (row_at now n ≡ Some y)
    stands n y at =
        let go : (b : Bool) → (holder == n) ≡ b → cond b (Some x) (row_at now n) ≡ Some y → ((holder ≡ n) × (y ≡ x)) ⊎ (row_at now n ≡ Some y) = elim [
          | true ↦ λ t h. inl (eqb-true holder n t, same_Some y x (sym h))
          | false ↦ λ t h. inr h
        ] in go (holder == n) refl (sym (rows n) ∙ at)

    still : (n : ℕ) → is_live now n ≡ true → is_live next n ≡ true
    still n live =
        let row = at_live now n live in
        let go : (b : Bool) → (holder == n) ≡ b → is_live next n ≡ true = elim [
          | true ↦ λ t. live_at next n x (rows n ∙ ap (λ b. cond b (Some x) (row_at now n)) t)
          | false ↦ λ t. live_at next n row.0 (rows n ∙ (ap (λ b. cond b (Some x) (row_at now n)) t ∙ row.1))
        ] in go (holder == n) refl

-- ---- blocks

-- the goal's rows are well formed, and hold rows that are there
pub record IsGoal (schema : Schema) (goal : List RowEntry) : Type 0 where
  pub formed : (n : ℕ) (b : Row) → row_at goal n ≡ Some b → IsFormed schema b
  pub links : (n m : ℕ) (b : Row) → row_at goal n ≡ Some b → is_among m (held_in b) ≡ true → is_live goal m ≡ true

-- the operations of a block carry the kinds of their links
pub carries_of : (schema : Schema) (goal : List RowEntry) (b : EditBlock) → LeadsTo schema goal b → CarriesKinds goal b.edits
carries_of schema goal b l =
    elim l.leads [
      | inl h ↦ subst (CarriesKinds goal) (sym h.2) (row_carries schema goal h.0 l.row)
      | inr h ↦ subst (CarriesKinds goal) (sym h) (whole_carries schema goal l.row)
    ]

pub names_of : (schema : Schema) (goal : List RowEntry) (b : EditBlock) → IsGoal schema goal → LeadsTo schema goal b → (m : ℕ) → is_among m (named_in b.edits) ≡ true → is_live goal m ≡ true
names_of schema goal b g l m named =
    g.links b.holder m l.row l.is_row (elim l.leads [
      | inl h ↦ named_held schema goal h.0 l.row m (ap (λ es. is_among m (named_in es)) (sym h.2) ∙ named)
      | inr h ↦ whole_held schema goal l.row m (ap (λ es. is_among m (named_in es)) (sym h) ∙ named)
    ])

formed_by : (schema : Schema) (goal : List RowEntry) (b : EditBlock) (r : Row) → IsGoal schema goal → (l : LeadsTo schema goal b) → emptied r ≡ emptied l.row → IsFormed schema r
    → IsFormed schema (edited_row b.edits r)
formed_by schema goal b r g l kind formed =
    let same = kind_emptied l.row r (sym kind) in
    let goal_formed = g.formed b.holder l.row l.is_row in
    let P : List Edit → Type 0 = λ es. IsFormed schema (edited_row es r) in
    elim l.leads [
      | inl h ↦ subst P (sym h.2) (edited_formed schema goal h.0 l.row r h.1 same goal_formed formed)
      | inr h ↦ subst P (sym h) (whole_formed schema goal l.row r same goal_formed formed)
    ]

origin_of : (schema : Schema) (goal : List RowEntry) (b : EditBlock) (r : Row) (a : Option Row) → (l : LeadsTo schema goal b) → emptied r ≡ emptied l.row → IsFrom a (Some l.row) r
    → IsFrom a (Some l.row) (edited_row b.edits r)
origin_of schema goal b r a l kind origin =
    let same = kind_emptied l.row r (sym kind) in
    let P : List Edit → Type 0 = λ es. IsFrom a (Some l.row) (edited_row es r) in
    elim l.leads [
      | inl h ↦ subst P (sym h.2) (from_edited schema goal h.0 l.row r a h.1 same origin)
      | inr h ↦ subst P (sym h) (from_whole schema goal l.row r a same origin)
    ]

-- a block keeps rows
pub block_kept : (schema : Schema) (client goal now : List RowEntry) (b : EditBlock) → IsGoal schema goal → Kept schema client goal now → LeadsTo schema goal b → Kept schema client goal (apply_block now b)
block_kept schema client goal now b g k l =
    let go : (o : Option Row) → row_at (with_named b.edits now) b.holder ≡ o → Kept schema client goal (apply_block now b) = elim [
      | None ↦ λ is. subst (Kept schema client goal) (sym (ap (with_edits b (with_named b.edits now)) is)) named
      | Some r ↦ λ is.
          replaced_kept schema client goal (with_named b.edits now) (apply_block now b) b.holder r (edited_row b.edits r) named is
          (formed_by schema goal b r g l (named.goal_kind b.holder r l.row is l.is_row) (named.formed b.holder r is)) (edited_kind b.edits r)
          (origin_by r is) (λ m held. links_by r m is held) (block_rises b now k.rises) (λ n. block_rows goal b now r n k.rises carries is)
    ] in go (row_at (with_named b.edits now) b.holder) refl
  where
    carries : CarriesKinds goal b.edits
    carries = carries_of schema goal b l

    named : Kept schema client goal (with_named b.edits now)
    named = named_kept schema client goal now b.edits k carries (names_of schema goal b g l)

    origin_by : (r : Row) → row_at (with_named b.edits now) b.holder ≡ Some r → IsFrom (row_at client b.holder) (row_at goal b.holder) (edited_row b.edits r)
    origin_by r is =
        let P : Option Row → Type 0 = λ o. IsFrom (row_at client b.holder) o (edited_row b.edits r) in
        let Q : Option Row → Type 0 = λ o. IsFrom (row_at client b.holder) o r in
        subst P (sym l.is_row) (origin_of schema goal b r (row_at client b.holder) l (named.goal_kind b.holder r l.row is l.is_row) (subst Q l.is_row (named.origin b.holder r is)))

    links_by : (r : Row) (m : ℕ) → row_at (with_named b.edits now) b.holder ≡ Some r → is_among m (held_in (edited_row b.edits r)) ≡ true → is_live (with_named b.edits now) m ≡ true
    links_by r m is held =
        in_either (is_among m (held_in r)) (is_among m (named_in b.edits)) (is_live (with_named b.edits now) m) (λ h. named.links b.holder m r is h)
        (λ h. named_there goal now b.edits m k.rises carries h) (edited_names b.edits r m held)

-- all of the blocks lead to the goal's rows
abbrev pub AllLead : Schema → List RowEntry → List EditBlock → Type 0
AllLead schema goal [] = Unit {0}
AllLead schema goal (b ∷ bs) = LeadsTo schema goal b × AllLead schema goal bs

pub blocks_kept : (schema : Schema) (client goal : List RowEntry) (bs : List EditBlock) (now : List RowEntry) → IsGoal schema goal → AllLead schema goal bs → Kept schema client goal now
    → Kept schema client goal (apply_edits bs now)
blocks_kept schema client goal [] now g l k = k
blocks_kept schema client goal (b ∷ bs) now g l k = blocks_kept schema client goal bs (apply_block now b) g l.1 (block_kept schema client goal now b g k l.0)

-- ---- the blocks of a patch

AllLead-append : (schema : Schema) (goal : List RowEntry) (bs cs : List EditBlock) → AllLead schema goal bs → AllLead schema goal cs → AllLead schema goal (bs ++ cs)
AllLead-append schema goal [] cs b c = c
AllLead-append schema goal (x ∷ bs) cs b c = (b.0, AllLead-append schema goal bs cs b.1 c)

pub common_leads : (schema : Schema) (old new es : List RowEntry) → ((n : ℕ) (a b : Row) → row_at old n ≡ Some a → row_at new n ≡ Some b → same_kind a b ≡ true) → AreAmong new es
    → AllLead schema new (blocks_for schema old new es)
common_leads schema old new [] kinds among = tt
common_leads schema old new (e ∷ es) kinds among =
    AllLead-append schema new (common_block schema new e (row_at old e.who)) (blocks_for schema old new es) (one_leads (row_at old e.who) refl) (common_leads schema old new es kinds among.1)
  where
    block_leads : (a : Row) (ds : List Edit) → row_at old e.who ≡ Some a → row_edits schema new a e.row ≡ ds → AllLead schema new (block_of e.who ds)
    block_leads a [] is same = tt
    block_leads a (d ∷ ds) is same = (record { row = e.row; is_row = among.0; leads = inl (a, kinds e.who a e.row is among.0, sym same) }, tt)

    one_leads : (o : Option Row) → row_at old e.who ≡ o → AllLead schema new (common_block schema new e o)
    one_leads None is = tt
    one_leads (Some a) is = block_leads a (row_edits schema new a e.row) is refl

pub whole_leads : (schema : Schema) (new : List RowEntry) (n : ℕ) (o : Option Row) → row_at new n ≡ o → AllLead schema new (block_of n (option_map_or (whole_edits schema new) o []))
whole_leads schema new n None is = tt
whole_leads schema new n (Some b) is = block_leads (whole_edits schema new b) refl
  where
    block_leads : (ds : List Edit) → whole_edits schema new b ≡ ds → AllLead schema new (block_of n ds)
    block_leads [] same = tt
    block_leads (d ∷ ds) same = (record { row = b; is_row = is; leads = inr (sym same) }, tt)

next_leads : (schema : Schema) (new : List RowEntry) (fuel : ℕ) (done : List ℕ) → ((done named : List ℕ) → AllLead schema new (new_blocks fuel schema new done named)) → (o : Option (ℕ × List ℕ))
    → AllLead schema new (option_map_or (λ (next : ℕ × List ℕ). block_of next.0 (new_edits schema new next.0)
    ++ new_blocks fuel schema new (next.0 ∷ done) (next.1 ++ named_in (new_edits schema new next.0))) o [])
next_leads schema new fuel done law None = tt
next_leads schema new fuel done law (Some p) =
    AllLead-append schema new (block_of p.0 (new_edits schema new p.0)) (new_blocks fuel schema new (p.0 ∷ done) (p.1 ++ named_in (new_edits schema new p.0)))
    (whole_leads schema new p.0 (row_at new p.0) refl) (law (p.0 ∷ done) (p.1 ++ named_in (new_edits schema new p.0)))

new_leads : (schema : Schema) (new : List RowEntry) (fuel : ℕ) (done named : List ℕ) → AllLead schema new (new_blocks fuel schema new done named)
new_leads schema new zero done named = tt
new_leads schema new (suc fuel) done named = next_leads schema new fuel done (new_leads schema new fuel) (next_named done named)

-- all blocks of a patch lead to the new rows
pub patch_leads_all : (schema : Schema) (old new : List RowEntry) → RisesFrom number_of 0 new
    → ((n : ℕ) (a b : Row) → row_at old n ≡ Some a → row_at new n ≡ Some b → same_kind a b ≡ true) → AllLead schema new (patch_edits schema old new)
patch_leads_all schema old new rises kinds =
    AllLead-append schema new (common_blocks schema old new) (new_blocks (length new) schema new (numbers_of old) (named_by_blocks (common_blocks schema old new)))
    (common_leads schema old new new kinds (among_self new 0 rises)) (new_leads schema new (length new) (numbers_of old) (named_by_blocks (common_blocks schema old new)))

-- a client's rows, to begin with, are kept
pub kept_at_first : (schema : Schema) (client goal : List RowEntry) → RisesFrom number_of 0 client → IsGoal schema client
    → ((n : ℕ) (a b : Row) → row_at client n ≡ Some a → row_at goal n ≡ Some b → emptied a ≡ emptied b) → Kept schema client goal client
kept_at_first schema client goal rises is kinds = record {
  rises = rises;
  formed = is.formed;
  client_kind = λ n r a at client_is. ap emptied (same_Some r a (sym at ∙ client_is));
  goal_kind = λ n r b at goal_is. kinds n r b at goal_is;
  there = λ n live. rw live refl;
  stays = λ n live. live;
  origin = λ n r at. subst (λ o. IsFrom o (row_at goal n) r) (sym at) (from_client (row_at goal n) r);
  links = is.links;
}
