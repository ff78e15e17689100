use Rattle.std.proofs.Common.{◌≡◌, ◌<◌, ◌+◌, ◌∷◌, [], ◌++◌, ◌∙◌, arith, length, sym, ap, drop, map, take}
use Rattle.std.specs.List.{flat_map}
use Rattle.std.proofs.lemmas.Grind.{common_steps}
use Rattle.std.proofs.lemmas.Result.{err_from_is_err_and}
use Rattle.text_model.specs.SchemaReading.{class_of, unknown_field}
use Rattle.text_model.specs.declared.draft.DraftClass.{DraftClass}
use Rattle.schema_reader.proofs.GivesLaws.{first_known, gives_before, map_more, unknown_at, unknown_more}
use Rattle.schema_reader.proofs.resolve.resolve_classes.Goals as goal

pub returns-in_err-class : goal.returns-in_err-class
returns-in_err-class c =
    let u = λ (x : DraftClass). flat_map (unknown_field c.args.draft.now.classes) x.own in
    let fields = c.args.classes.now in
    let i = c.loop-class.class-index in
    let item = c.class-item.result in
    let inside : i < length fields = omega arith in
    let more = flat_map u (drop (i + 1) fields) in
    let here = unknown_at u fields i item inside c.loop-class.invariant.known ∙ ap (λ f. u f ++ more) (sym c.class-item.is) in
    let p = err_from_is_err_and c.from_residual.result c.from_residual.ensures.1 in
    rw (p.1, p.2) (gives_before _ (u item) _ more _ _ here c.in_err-class.ensures)

pub loop-class-preserved : goal.loop-class-preserved
loop-class-preserved c =
    let u = λ (x : DraftClass). flat_map (unknown_field c.args.draft.now.classes) x.own in
    let f = class_of c.args.draft.now.classes in
    let fields = c.args.classes.now in
    let i = c.loop-class.class-index in
    let item = c.class-item.result in
    let inside : i < length fields = omega arith in
    let known = first_known (u item) (f item) c.in_ok-class.class c.in_ok-class.ensures in
    let pushed : c.push.new.self ≡ c.loop-class.out ++ c.in_ok-class.class ∷ [] = grind (arith, common_steps) in
    record {
      out =
          pushed
          ∙ (ap (λ t. t ++ c.in_ok-class.class ∷ []) c.loop-class.invariant.out
          ∙ sym (map_more f fields i item inside ∙ ap (λ y. map f (take i fields) ++ y ∷ []) (sym (ap f c.class-item.is) ∙ known.1)));
      known = unknown_more u fields i item inside c.loop-class.invariant.known (sym (ap u c.class-item.is) ∙ known.0);
    }
