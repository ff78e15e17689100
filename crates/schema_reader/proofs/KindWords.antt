-- A word that no kind has.
use Rattle.std.proofs.Common.{◌≡◌, ℕ, Bool, true, false, cond, not, ◌||◌, List, [], ◌∷◌, map, Some, is_none, refl, ap, ◌∙◌}
use Rattle.std.specs.List.{find, list_any}
use Rattle.std.specs.Str.{bytes_eq}
use Rattle.lists.proofs.SameBytes.{bytes_eq_sym}
use Rattle.schema_model.specs.declared.scalar.ScalarKind.{ScalarKind}
use Rattle.text_model.specs.Marks.{all_kinds, is_one_of, kind_words, scalar_word}
use Rattle.text_model.specs.SchemaLines.{kind_of_word}

none_found : (w : List ℕ) (ks : List ScalarKind)
    → is_none (find (λ k. bytes_eq (scalar_word k) w) ks) ≡ not (list_any (bytes_eq w) (map scalar_word ks))
none_found w [] = refl
none_found w (k ∷ ks) =
    let rest = find (λ k. bytes_eq (scalar_word k) w) ks in
    let go : (b : Bool) → is_none (cond b (Some k) rest) ≡ not (b || list_any (bytes_eq w) (map scalar_word ks))
    = elim [ true ↦ refl | false ↦ none_found w ks ] in
    go (bytes_eq (scalar_word k) w) ∙ ap (λ b. not (b || list_any (bytes_eq w) (map scalar_word ks))) (bytes_eq_sym (scalar_word k) w)

pub no_kind_word : (w : List ℕ) → is_none (kind_of_word w) ≡ not (is_one_of kind_words w)
no_kind_word w = none_found w all_kinds
