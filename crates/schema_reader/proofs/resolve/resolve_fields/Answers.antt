use Rattle.std.proofs.Common.{◌≡◌, ◌<◌, ◌+◌, ◌∷◌, [], ◌++◌, ◌∙◌, arith, length, sym, ap, drop, map, take}
use Rattle.std.specs.List.{flat_map}
use Rattle.std.proofs.lemmas.Grind.{common_steps}
use Rattle.std.proofs.lemmas.Result.{err_from_is_err_and}
use Rattle.text_model.specs.SchemaReading.{field_of, unknown_field}
use Rattle.schema_reader.proofs.GivesLaws.{first_known, gives_before, map_more, unknown_at, unknown_more}
use Rattle.schema_reader.proofs.resolve.resolve_fields.Goals as goal

pub returns-in_err-field : goal.returns-in_err-field
returns-in_err-field c =
    let u = unknown_field c.args.draft.now.classes in
    let fields = c.args.fields.now in
    let i = c.loop-field.field-index in
    let item = c.field-item.result in
    let inside : i < length fields = omega arith in
    let more = flat_map u (drop (i + 1) fields) in
    let here = unknown_at u fields i item inside c.loop-field.invariant.known ∙ ap (λ f. u f ++ more) (sym c.field-item.is) in
    let p = err_from_is_err_and c.from_residual.result c.from_residual.ensures.1 in
    rw (p.1, p.2) (gives_before _ (u item) _ more _ _ here c.in_err-field.ensures)

pub loop-field-preserved : goal.loop-field-preserved
loop-field-preserved c =
    let u = unknown_field c.args.draft.now.classes in
    let f = field_of c.args.draft.now.classes in
    let fields = c.args.fields.now in
    let i = c.loop-field.field-index in
    let item = c.field-item.result in
    let inside : i < length fields = omega arith in
    let known = first_known (u item) (f item) c.in_ok-field.field c.in_ok-field.ensures in
    let pushed : c.push.new.self ≡ c.loop-field.out ++ c.in_ok-field.field ∷ [] = grind (arith, common_steps) in
    record {
      out =
          pushed
          ∙ (ap (λ t. t ++ c.in_ok-field.field ∷ []) c.loop-field.invariant.out
          ∙ sym (map_more f fields i item inside ∙ ap (λ y. map f (take i fields) ++ y ∷ []) (sym (ap f c.field-item.is) ∙ known.1)));
      known = unknown_more u fields i item inside c.loop-field.invariant.known (sym (ap u c.field-item.is) ∙ known.0);
    }
