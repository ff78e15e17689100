use Rattle.std.proofs.Common.{◌≡◌, ◌-◌, ◌+◌, ◌<◌, [], ◌∷◌, ◌++◌, arith, sym, ap, ◌∙◌, refl, length, set}
use Rattle.std.proofs.Math.Seq.{map-set_same}
use Rattle.std.proofs.lemmas.Grind.{common_steps}
use Rattle.std.proofs.lemmas.List.{map-append, set-get_or}
use Rattle.std.specs.Prelude.{List, Option}
use Rattle.text_model.specs.SchemaReading.{Draft, with_field}
use Rattle.text_model.specs.declared.draft.DraftClass.{DraftClass}
use Rattle.text_model.specs.declared.draft.DraftRoot.{DraftRoot}
use Rattle.text_words.specs.Words.{bytes_of}
use Rattle.schema_reader.proofs.Drafts.{indexed_field, indexed_kept, last_inside, with_field-set}
use Rattle.schema_reader.proofs.draft.Draft.push_field.Goals as goal

pub index_mut-names-requires : goal.index_mut-names-requires
index_mut-names-requires c =
    let some : 0 < length c.self.inside.classes.items = omega (arith, ap (λ d. length d.classes) c.self.view_is, c.requires.some) in
    let inside = last_inside _ _ _ (c.len-last.result - 1) c.self.invariant some (omega (arith, c.len-last.ensures, c.self.inside.classes.ok.0)) in
    omega (arith, inside, c.self.inside.names.ok.0)

pub invariant_of-self : goal.invariant_of-self
invariant_of-self c =
    indexed_kept _ _ _ _ _ c.self.invariant refl (map-set_same (λ v. bytes_of v.items) c.self.inside.names.items _ _ c.index_mut-names.result.now (ap bytes_of c.reserve.ensures.items ∙ ap (λ v. bytes_of v.items) c.index_mut-names.ensures.value))

pub invariant_of-self-in_err-push : goal.invariant_of-self-in_err-push
invariant_of-self-in_err-push c =
    let old = c.index_mut.result.now in
    let cs = c.self.inside.classes.items in
    let i = c.len-last.result - 1 in
    let same = ap (λ o. set cs i (record { name = old.name; parent = old.parent; own = o })) c.in_err-push.ensures ∙ (ap (set cs i) c.index_mut.ensures.value ∙ set-get_or cs i old) in
    indexed_kept _ _ _ _ _ c.self.invariant same (map-set_same (λ v. bytes_of v.items) c.self.inside.names.items _ _ c.index_mut-names.result.now (ap bytes_of c.reserve.ensures.items ∙ ap (λ v. bytes_of v.items) c.index_mut-names.ensures.value))

pub invariant_of-self-2 : goal.invariant_of-self-2
invariant_of-self-2 c =
    let old = c.index_mut.result.now in
    let cs = c.self.inside.classes.items in
    let i = c.len-last.result - 1 in
    let some : 0 < length cs = omega (arith, ap (λ d. length d.classes) c.self.view_is, c.requires.some) in
    let last : i + 1 ≡ length cs = omega (arith, c.len-last.ensures, c.self.inside.classes.ok.0) in
    let items : c.push-2.new.self.items ≡ c.index_mut-names.result.now.items ++ c.args.name ∷ [] = grind (arith, common_steps) in
    let names : bytes_of c.push-2.new.self.items ≡ bytes_of c.index_mut-names.result.now.items ++ c.args.field.name ∷ [] =
    ap bytes_of items
    ∙ (map-append (λ w. w.now) c.index_mut-names.result.now.items (c.args.name ∷ []) ∙ ap (λ t. bytes_of c.index_mut-names.result.now.items ++ t ∷ []) (sym c.requires.named)) in
    let more = ap (λ o. set cs i (record { name = old.name; parent = old.parent; own = o })) c.in_ok-push.ensures ∙ sym (with_field-set cs c.args.field old i last c.index_mut.ensures.value) in
    indexed_field cs _ c.args.field _ _ _ i c.index_mut-names.result.now c.push-2.new.self c.self.invariant last more refl c.index_mut-names.ensures.value names

pub returns : goal.returns
returns c =
    let old = c.index_mut.result.now in
    let cs = c.self.inside.classes.items in
    let i = c.len-last.result - 1 in
    let some : 0 < length cs = omega (arith, ap (λ d. length d.classes) c.self.view_is, c.requires.some) in
    let last : i + 1 ≡ length cs = omega (arith, c.len-last.ensures, c.self.inside.classes.ok.0) in
    let more = ap (λ o. set cs i (record { name = old.name; parent = old.parent; own = o })) c.in_ok-push.ensures ∙ sym (with_field-set cs c.args.field old i last c.index_mut.ensures.value) in
    let now = λ (t : List DraftClass) (r : Option DraftRoot). let d : Draft = record { classes = t; root = r } in d in
    ap (λ t. now t c.self.inside.root) more ∙ ap (λ d. now (with_field d.classes c.args.field) d.root) c.self.view_is
