use Rattle.std.proofs.Common.{◌≡◌, ℕ, false, Option, Some, None, eqb, refl, arith}
use Rattle.std.specs.Option.{option_eq}
use Rattle.std.proofs.lemmas.Bool.Decides.{nat_tests}
use Rattle.std.proofs.lemmas.Map.Text.{btree_map_updates_text}
use Rattle.trees.specs.Texts.{text_hash, under, is_found}
use Rattle.trees.proofs.text_index.TextIndex.remove.Goals as goal

-- another number has the hash, or none
missed : (u : Option ℕ) (n : ℕ) → false ≡ option_eq eqb u (Some n) → is_found n u ≡ false
missed None n h = refl
missed (Some m) n h = grind (arith, nat_tests, h)

pub returns-else-eq : goal.returns-else-eq
returns-else-eq c =
    let apart : is_found c.args.number (under c.args.self.now (text_hash c.args.text.now)) ≡ false =
    missed (under c.args.self.now (text_hash c.args.text.now)) c.args.number (rw (← c.requires, ← c.under.ensures) c.if-eq.ensures) in
    let text = btree_map_updates_text c.args.text.now c.args.self.now.others c.remove-else-eq.new.self None c.remove-else-eq.ensures.updates in
    record { hashes = λ h. grind (arith, nat_tests, apart); others = λ q. grind (arith, nat_tests, apart, text q) }
