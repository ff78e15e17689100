use Rattle.std.proofs.Common.{◌≡◌, ◌∙◌, false, sym, ap, Some, rules, subst, take}
use Rattle.std.specs.Prelude.{Result, None, is_some}
use Rattle.std.specs.Option.{option_map}
use Rattle.text_model.specs.Lines.{words_of}
use Rattle.text_model.specs.SchemaReading.{Draft}
use Rattle.text_model.specs.declared.fault.SchemaFault.{SchemaFault}
use Rattle.schema_reader.specs.Forms.{form_line}
use Rattle.schema_reader.specs.Gives.{Gives, taken}
use Rattle.text_words.specs.Words.{bytes_of}
use Rattle.schema_reader.proofs.LineForms.{first_words_form, line_formed, line_taken_form}
use Rattle.schema_reader.proofs.take.take_line.Goals as goal

pub take_form-requires : goal.take_form-requires
take_form-requires c =
    let words : bytes_of c.in_ok-words.words.items ≡ take 7 (words_of c.args.text.now) = search rules in
    let form = first_words_form (words_of c.args.text.now) _ (option_map form_line c.line_form.result) (ap bytes_of c.deref.ensures.value ∙ words) c.line_form.ensures in
    line_formed (words_of c.args.text.now) (form_line c.in-Some.form) (sym form ∙ ap (option_map form_line) c.in-Some.is)

pub returns-in-Some : goal.returns-in-Some
returns-in-Some c =
    let words : bytes_of c.in_ok-words.words.items ≡ take 7 (words_of c.args.text.now) = search rules in
    let form = first_words_form (words_of c.args.text.now) _ (option_map form_line c.line_form.result) (ap bytes_of c.deref.ensures.value ∙ words) c.line_form.ensures in
    let open_root : is_some c.args.draft.now.root ≡ false = search rules in
    let e = line_taken_form c.args.line c.args.draft.now (words_of c.args.text.now) (Some (form_line c.in-Some.form)) open_root (sym form ∙ ap (option_map form_line) c.in-Some.is) in
    subst (λ (t : Result Draft SchemaFault). Gives (taken c.take_form.result c.take_form.new.draft) t) (sym e) c.take_form.ensures

pub returns : goal.returns
returns c =
    let words : bytes_of c.in_ok-words.words.items ≡ take 7 (words_of c.args.text.now) = search rules in
    let form = first_words_form (words_of c.args.text.now) _ (option_map form_line c.line_form.result) (ap bytes_of c.deref.ensures.value ∙ words) c.line_form.ensures in
    let open_root : is_some c.args.draft.now.root ≡ false = search rules in
    line_taken_form c.args.line c.args.draft.now (words_of c.args.text.now) None open_root (sym form ∙ ap (option_map form_line) c.in-None.is)
