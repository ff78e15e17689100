use Rattle.std.proofs.Common.{◌≡◌, ℕ, false, Option, Some, None, unwrap_or, ap, ◌∙◌, arith}
use Rattle.std.specs.String.{string_bytes}
use Rattle.std.proofs.lemmas.Bool.Decides.{nat_tests}
use Rattle.std.proofs.lemmas.Grind.{common_steps}
use Rattle.std.proofs.lemmas.Map.Text.{btree_map_updates_text}
use Rattle.trees.specs.Texts.{under, is_free}
use Rattle.trees.proofs.text_index.TextIndex.put.Goals as goal

-- another number has the hash
taken : (u : Option ℕ) (n first : ℕ) → first ≡ unwrap_or u n → (first ≡ n → ⊥) → is_free n u ≡ false
taken None n first is apart = absurd (apart is)
taken (Some m) n first is apart = grind (arith, nat_tests)

pub returns-in_ok-insert-clause-ok : goal.returns-in_ok-insert-clause-ok
returns-in_ok-insert-clause-ok c =
    let first : c.or_insert-first.result.now ≡ unwrap_or (under c.args.self.now c.args.hash) c.args.number = c.or_insert-first.ensures.value ∙ ap (λ o. unwrap_or o c.args.number) c.in_ok-self.ensures.value in
    let apart = taken (under c.args.self.now c.args.hash) c.args.number c.or_insert-first.result.now first c.if-first-number.true in
    let text = btree_map_updates_text (string_bytes c.in_ok-text.text) c.args.self.now.others c.insert.new.self (Some c.args.number) c.in_ok-insert.ensures.updates in
    record {
      hashes = λ h. grind (arith, common_steps, c.requires, apart);
      others = λ q. grind (arith, nat_tests, c.requires, apart, text q, c.in_ok-text.ensures.ok);
    }
