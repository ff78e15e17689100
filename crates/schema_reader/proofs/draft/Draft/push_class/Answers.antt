use Rattle.std.proofs.Common.{◌≡◌, ◌<◌, [], ◌∷◌, ◌++◌, arith, sym, ap, ◌∙◌, refl, length}
use Rattle.std.specs.Prelude.{None, Some}
use Rattle.std.specs.Map.{update}
use Rattle.std.specs.Str.{bytes_eq}
use Rattle.schema_reader.specs.Indexes.{place_in}
use Rattle.std.proofs.lemmas.Grind.{common_steps}
use Rattle.text_model.specs.SchemaReading.{class_place, names_from, names_inherited}
use Rattle.schema_reader.proofs.Drafts.{indexed_class}
use Rattle.schema_reader.proofs.draft.Draft.push_class.Goals as goal

pub invariant_of-self-2 : goal.invariant_of-self-2
invariant_of-self-2 c =
    let view = ap (λ d. d.classes) c.self.view_is in
    let cs = c.self.inside.classes.items in
    let room : length cs < 256 = omega (arith, ap length view, c.requires.room) in
    let fresh : class_place cs c.args.name.now ≡ None = ap (λ t. class_place t c.args.name.now) view ∙ c.requires.fresh in
    let classes : c.push-2.new.self.items ≡ cs ++ record { name = c.args.name.now; parent = c.args.parent; own = [] } ∷ [] = grind (arith, common_steps) in
    let names : c.push.new.self.items ≡ c.self.inside.names.items ++ c.in_ok-names.names ∷ [] = grind (arith, common_steps) in
    indexed_class cs _ (record { name = c.args.name.now; parent = c.args.parent; own = [] }) _ _ _ _ c.in_ok-names.names c.self.invariant room fresh classes names refl
    (c.in_ok-names.ensures ∙ ap (λ t. names_inherited (names_from [] t) c.args.parent) (sym view))
    (λ q. c.in_ok-add_place.ensures.ok q ∙ ap (λ k. update bytes_eq (place_in c.self.inside.places) c.args.name.now (Some k) q) (omega (arith, c.len-place.ensures, c.self.inside.classes.ok.0)))
