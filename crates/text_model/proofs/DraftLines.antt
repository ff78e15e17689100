-- The lines of what was read.
use Rattle.std.proofs.Common.{◌≡◌, ℕ, List, [], ◌∷◌, ◌++◌, map, Option, Some, None, sym, ap, ◌∙◌, append_assoc, append-nil}
use Rattle.text_model.specs.declared.draft.DraftField.{DraftField}
use Rattle.text_model.specs.declared.draft.DraftClass.{DraftClass}
use Rattle.text_model.specs.declared.draft.DraftRoot.{DraftRoot}
use Rattle.text_model.specs.SchemaLines.{SchemaLine, ClassLine, FieldLine, RootLine, tagging_of}
use Rattle.text_model.specs.SchemaReading.{Draft}
use Rattle.text_model.proofs.NamesFound.{draft_name}

abbrev pub draft_field_line : DraftField → SchemaLine
draft_field_line f = FieldLine f.name f.grouping f.word (tagging_of f.tag)

-- the name of a parent, which is one of the earlier classes
abbrev pub draft_parent : List DraftClass → Option ℕ → Option (List ℕ)
draft_parent earlier None = None
draft_parent earlier (Some n) = Some (draft_name earlier n)

abbrev pub draft_class_lines : List DraftClass → DraftClass → List SchemaLine
draft_class_lines earlier c = ClassLine c.name (draft_parent earlier c.parent) ∷ map draft_field_line c.own

abbrev pub lines_behind : List DraftClass → List DraftClass → List SchemaLine
lines_behind earlier [] = []
lines_behind earlier (c ∷ cs) = draft_class_lines earlier c ++ lines_behind (earlier ++ c ∷ []) cs

abbrev pub root_lines : Option DraftRoot → List SchemaLine
root_lines None = []
root_lines (Some r) = RootLine r.name ∷ []

abbrev pub draft_lines : Draft → List SchemaLine
draft_lines d = lines_behind [] d.classes ++ root_lines d.root

-- the lines with those of one class more
pub lines_push : (earlier cs : List DraftClass) (c : DraftClass)
    → lines_behind earlier (cs ++ c ∷ []) ≡ lines_behind earlier cs ++ draft_class_lines (earlier ++ cs) c
lines_push earlier [] c = append-nil (draft_class_lines earlier c) ∙ ap (λ l. draft_class_lines l c) (sym (append-nil earlier))
lines_push earlier (e ∷ cs) c =
    let place = ap (λ l. lines_behind (earlier ++ e ∷ []) cs ++ draft_class_lines l c) (append_assoc earlier (e ∷ []) cs) in
    ap (λ l. draft_class_lines earlier e ++ l) (lines_push (earlier ++ e ∷ []) cs c ∙ place)
    ∙ sym (append_assoc (draft_class_lines earlier e) (lines_behind (earlier ++ e ∷ []) cs) (draft_class_lines (earlier ++ (e ∷ cs)) c))
