use Rattle.std.proofs.Common.{ap, ◌∙◌, length, ◌-◌}
use Rattle.std.specs.Prelude.{slice_get}
use Rattle.std.specs.List.{list_any}
use Rattle.std.specs.Str.{bytes_eq}
use Rattle.text_model.specs.SchemaReading.{last_names}
use Rattle.text_words.specs.Words.{bytes_of}
use Rattle.schema_reader.proofs.Drafts.{any_bytes, last_names-found}
use Rattle.schema_reader.proofs.draft.Draft.has_field.Goals as goal

pub returns-in-Some : goal.returns-in-Some
returns-in-Some c =
    let there = c.in-Some.ensures.value ∙ ap (λ t. slice_get t (length t - 1)) c.deref.ensures.value in
    let found = last_names-found _ _ _ c.in-Some.names.now c.self.invariant there in
    let test = list_any (bytes_eq c.args.name.now) in
    c.is_one_of.ensures
    ∙ (any_bytes c.args.name.now c.deref-in-Some.result.now
    ∙ (ap (λ ws. test (bytes_of ws)) c.deref-in-Some.ensures.value ∙ (ap test found ∙ ap (λ d. test (last_names d.classes)) c.self.view_is)))
