-- The forms of lines, by the bytes of their words.
use Rattle.std.specs.Prelude.{◌≡◌, true}
use Rattle.std.specs.Option.{option_map}
use Rattle.text_model.specs.Marks.{is_class_name, is_field_name}
use Rattle.text_model.specs.SchemaLines.{is_item_word, SchemaLine, ClassLine, FieldLine, RootLine, Tagging, Untagged as NoTag, Default as DefaultTag, Given as GivenTag}
use Rattle.schema_reader.specs.declared.form.Form.{Form}
use Rattle.schema_reader.specs.declared.form.Form.TheVariants.{Class, Field, Root}
use Rattle.schema_reader.specs.declared.form.TagMark.{TagMark}
use Rattle.schema_reader.specs.declared.form.TagMark.TheVariants.{Untagged, Default, Given}

abbrev pub tagging_of_mark : TagMark → Tagging
tagging_of_mark Untagged = NoTag
tagging_of_mark Default = DefaultTag
tagging_of_mark (Given w) = GivenTag w.now

abbrev pub form_line : Form → SchemaLine
form_line (Class name parent) = ClassLine name.now (option_map (λ p. p.now) parent)
form_line (Field name grouping word mark) = FieldLine name.now grouping word.now (tagging_of_mark mark)
form_line (Root name) = RootLine name.now

-- the names and the item of a line are such
abbrev pub IsFormed : SchemaLine → Type 0
IsFormed (ClassLine name parent) = is_class_name name ≡ true
IsFormed (FieldLine name grouping word tagging) = (is_field_name name ≡ true) × (is_item_word word ≡ true)
IsFormed (RootLine name) = is_class_name name ≡ true
