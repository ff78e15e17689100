-- What a schema declares of a place whose field was found.
use Rattle.std.proofs.Common.{◌≡◌, ◌&&◌, Some, ap}
use Rattle.std.specs.Prelude.{is_some, option_and_then}
use Rattle.schema_model.specs.Classes.{Schema, home_field, item_of}
use Rattle.schema_model.specs.declared.class.FieldDecl.{FieldDecl}
use Rattle.schema_model.specs.declared.place.Home.{Home}
use Rattle.state_model.specs.Places.{instance_class, is_filtered}

-- an array of a home that is declared
pub filtered_found : (schema : Schema) (home : Home) (f : FieldDecl) → home_field schema home ≡ Some f →
    is_filtered schema home ≡ (is_some f.tag && is_some (instance_class (item_of f.shape)))
filtered_found schema home f h =
    ap (λ o. is_some (option_and_then (λ (g : FieldDecl). g.tag) o) && is_some (option_and_then (λ (g : FieldDecl). instance_class (item_of g.shape)) o)) h
