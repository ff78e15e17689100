-- What a text that was read says of its schema, by the laws of the text.
use Rattle.std.proofs.Common.{◌≡◌, ℕ, true, ◌&&◌, List, map, Result, Ok, Err, refl, sym, ◌∙◌}
use Rattle.std.specs.Prelude.{IfOk}
use Rattle.std.specs.List.{list_all}
use Rattle.std.proofs.lemmas.Bool.{and_parts}
use Rattle.schema_model.specs.Classes.{Schema, is_kept}
use Rattle.schema_model.specs.declared.class.Class.{Class}
use Rattle.state_model.specs.Sound.{keys_differ}
use Rattle.text_model.specs.declared.fault.SchemaFault.{SchemaFault}
use Rattle.text_model.specs.declared.fault.SchemaFault.TheVariants.{UnknownWord, UnknownClass, TwiceClass, TwiceField, TooManyFields, TooManyClasses, BadTag, NoRoot, FractionalKind, ParentLater, Memory}
use Rattle.text_model.specs.SchemaLines.{IsSchemaText, is_class, is_spelled, schema_text}
use Rattle.text_model.specs.SchemaReading.{read_schema_text}
use Rattle.text_model.proofs.SchemaLaw.{schema_is_read, read_is_schema}
use Rattle.schema_reader.specs.Gives.{GivesSchema, IsGiven}

-- what is answered is the schema whose text it is
pub found : (text : List ℕ) (r : Result Schema SchemaFault) → GivesSchema r (read_schema_text text) → IfOk r (λ s. IsSchemaText text s)
found text (Ok s) h = read_is_schema text s h
found text (Err f) h = tt

-- what is read keeps the limits
pub read_is_kept : (text : List ℕ) (s : Schema) → read_schema_text text ≡ Ok s → is_kept s ≡ true
read_is_kept text s h =
    let spelled = (read_is_schema text s h).0 in
    let all = and_parts (is_kept s && list_all (is_class s.classes) s.classes && keys_differ (map (λ (c : Class). c.name) s.classes)) _ spelled in
    let names = and_parts (is_kept s && list_all (is_class s.classes) s.classes) _ all.0 in
    (and_parts (is_kept s) _ names.0).0

-- a schema's text gets no other answer
same_schema : (s x : Schema) (r : Result Schema SchemaFault) → r ≡ Ok s → r ≡ Ok x → x ≡ s
same_schema s x r a b = let e : Ok x ≡ Ok s = sym b ∙ a in cc

no_fault : {A : Type 0} (s : Schema) (f : SchemaFault) (r : Result Schema SchemaFault) → r ≡ Ok s → r ≡ Err f → A
no_fault s f r a b = absurd (let e : Ok s ≡ Err f = sym a ∙ b in cc)

pub only : (text : List ℕ) (r : Result Schema SchemaFault) → GivesSchema r (read_schema_text text) → (s : Schema) → IsSchemaText text s → IsGiven s r
only text (Ok x) h s is = same_schema s x (read_schema_text text) (schema_is_read text s is) h
only text (Err Memory) h s is = refl
only text (Err (UnknownWord n)) h s is = no_fault s (UnknownWord n) (read_schema_text text) (schema_is_read text s is) h
only text (Err (UnknownClass n)) h s is = no_fault s (UnknownClass n) (read_schema_text text) (schema_is_read text s is) h
only text (Err (TwiceClass n)) h s is = no_fault s (TwiceClass n) (read_schema_text text) (schema_is_read text s is) h
only text (Err (TwiceField n)) h s is = no_fault s (TwiceField n) (read_schema_text text) (schema_is_read text s is) h
only text (Err (TooManyFields n)) h s is = no_fault s (TooManyFields n) (read_schema_text text) (schema_is_read text s is) h
only text (Err (TooManyClasses n)) h s is = no_fault s (TooManyClasses n) (read_schema_text text) (schema_is_read text s is) h
only text (Err (BadTag n)) h s is = no_fault s (BadTag n) (read_schema_text text) (schema_is_read text s is) h
only text (Err (NoRoot n)) h s is = no_fault s (NoRoot n) (read_schema_text text) (schema_is_read text s is) h
only text (Err (FractionalKind n)) h s is = no_fault s (FractionalKind n) (read_schema_text text) (schema_is_read text s is) h
only text (Err (ParentLater n)) h s is = no_fault s (ParentLater n) (read_schema_text text) (schema_is_read text s is) h

-- what is written of a schema that a text spells is read as it
pub written_again : {E : Type 0} (s : Schema) (r : Result (List ℕ) E) → IfOk r (λ bytes. bytes ≡ schema_text s)
    → is_spelled s ≡ true → IfOk r (λ bytes. read_schema_text bytes ≡ Ok s)
written_again s (Ok bytes) h spelled = schema_is_read bytes s (spelled, h)
written_again s (Err f) h spelled = tt
