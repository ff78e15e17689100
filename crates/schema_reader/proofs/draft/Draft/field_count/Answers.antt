use Rattle.std.proofs.Common.{ap, ◌∙◌, length, ◌-◌, arith}
use Rattle.std.specs.Prelude.{slice_get}
use Rattle.std.proofs.lemmas.List.{length-map}
use Rattle.text_model.specs.SchemaReading.{last_names}
use Rattle.schema_reader.proofs.Drafts.{last_names-found}
use Rattle.schema_reader.proofs.draft.Draft.field_count.Goals as goal

pub returns-in-Some : goal.returns-in-Some
returns-in-Some c =
    let there = c.in-Some.ensures.value ∙ ap (λ t. slice_get t (length t - 1)) c.deref.ensures.value in
    let found = last_names-found _ _ _ c.in-Some.names.now c.self.invariant there in
    omega (arith, c.len.ensures, c.in-Some.names.now.ok.0, length-map c.in-Some.names.now.items (λ w. w.now), ap length found, ap (λ d. length (last_names d.classes)) c.self.view_is)
