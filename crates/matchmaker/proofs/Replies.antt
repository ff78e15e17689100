-- Texts of replies.
use Rattle.std.proofs.Common.{◌≡◌, ℕ, false, List, [], ◌∷◌, ◌++◌, ap, ◌∙◌, refl, append_assoc, rules, String, Global, string_bytes}
use Rattle.std.specs.List.{flat_map}
use Rattle.serde_json.specs.Data.{string}
use Rattle.serde_json.specs.View.{view}
use Rattle.serde_json.specs.Written.{compact_text, has_float}
use Rattle.serde_json.specs.declared.value.Value as value
use Rattle.serde_json.specs.declared.value.Value.{the_lemmas}
use Rattle.json.specs.Print.{escape_byte, quoted}
use Rattle.hub_model.specs.Replies.{json_byte, json_text}

-- ---- texts in quotes

same_byte : (b : ℕ) → escape_byte b ≡ json_byte b
unfolding escape_byte
same_byte b = refl

same_escapes : (t : List ℕ) → flat_map escape_byte t ≡ flat_map json_byte t
same_escapes [] = refl
same_escapes (b ∷ t) = rw (same_byte b, same_escapes t) refl

view_text : (s : String Global) → view (value.String s) ≡ string (string_bytes s)
view_text s = search (rules, the_lemmas)

-- what is written for a value that is a text
pub written_text : (s : String Global) (t : List ℕ) → (has_float (view (value.String s)) ≡ false → t ≡ compact_text (view (value.String s))) → t ≡ quoted (string_bytes s)
written_text s t h = let w : has_float (string (string_bytes s)) ≡ false → t ≡ compact_text (string (string_bytes s)) = rw (view_text s) at h in w refl

pub quoted_is : (t : List ℕ) → quoted t ≡ json_text t
quoted_is t = rw (same_escapes t) refl

-- ---- members

six : (a b c d e f z : List ℕ) → (a ++ (b ++ (c ++ (d ++ (e ++ f))))) ++ z ≡ a ++ (b ++ (c ++ (d ++ (e ++ (f ++ z)))))
six a b c d e f z = simp append_assoc

-- two texts of members, each of six pieces, as one
pub joined_members : (a b c d e f g h i j k l s t : List ℕ) → s ≡ a ++ (b ++ (c ++ (d ++ (e ++ f)))) → t ≡ g ++ (h ++ (i ++ (j ++ (k ++ l))))
    → s ++ 44 ∷ (t ++ 125 ∷ []) ≡ a ++ (b ++ (c ++ (d ++ (e ++ (f ++ 44 ∷ (g ++ (h ++ (i ++ (j ++ (k ++ (l ++ 125 ∷ [])))))))))))
joined_members a b c d e f g h i j k l s t is_s is_t =
    ap (λ u. u ++ 44 ∷ (t ++ 125 ∷ [])) is_s ∙ (six a b c d e f (44 ∷ (t ++ 125 ∷ []))
    ∙ ap (λ u. a ++ (b ++ (c ++ (d ++ (e ++ (f ++ 44 ∷ u)))))) (ap (λ u. u ++ 125 ∷ []) is_t ∙ six g h i j k l (125 ∷ [])))

-- a text of three texts, where each is another's
pub with_three : (f : List ℕ → List ℕ → List ℕ → List ℕ) (a b c d e g : List ℕ) → a ≡ d → b ≡ e → c ≡ g → f a b c ≡ f d e g
with_three f a b c d e g p q r = ap (λ x. f x b c) p ∙ (ap (λ x. f d x c) q ∙ ap (λ x. f d e x) r)
