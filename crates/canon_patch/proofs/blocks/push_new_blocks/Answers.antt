use Rattle.std.proofs.Common.{rules, ◌≡◌, ℕ, suc, ◌+◌, ◌-◌, ◌<◌, ◌≤◌, ◌++◌, ◌||◌, Some, length, drop, refl, ap, arith}
use Rattle.std.specs.Prelude.{is_some}
use Rattle.std.proofs.lemmas.List.{length-append}
use Rattle.state_model.specs.Rows.{row_at}
use Rattle.state_model.specs.Reached.{is_among}
use Rattle.canon_patch.specs.Names.{named_by_ops}
use Rattle.canon_patch.specs.NewRows.{new_encoded, next_new}
use Rattle.canon_patch.proofs.LeadingRows.{fresh_short}
use Rattle.canon_patch.proofs.NewRows.{new_encoded_last, new_encoded_none, new_encoded_turn}
use Rattle.canon_patch.proofs.blocks.push_new_blocks.Goals as goal

-- nothing that is named is left
pub returns-in_default : goal.returns-in_default
returns-in_default c =
    let left = length c.args.to.now.rows.now - c.loop.counter in
    let names = drop c.loop.at c.loop.names.items in
    let is_done : ℕ → _ = λ k. is_some (row_at c.args.old.now k) || is_among k c.loop.done in
    new_encoded_last (length c.args.to.now.rows.now) c.args.to.now.schema.now c.args.old.now c.args.to.now.rows.now c.args.names.items _ _
    (new_encoded left c.args.to.now.schema.now c.args.to.now.rows.now is_done names) c.loop.invariant.encoded
    (new_encoded_none left c.args.to.now.schema.now c.args.to.now.rows.now is_done names (search rules))

pub loop-preserved : goal.loop-preserved
loop-preserved c =
    let left = length c.args.to.now.rows.now - (c.loop.counter + 1) in
    let is_done : ℕ → _ = λ k. is_some (row_at c.args.old.now k) || is_among k c.loop.done in
    let below : c.loop.counter < length c.args.to.now.rows.now = omega (arith, ap length c.as_slice-end.ensures.value) in
    let within : c.in-Some.behind ≤ length c.loop.names.items = search rules in
    let next : Some (c.in-Some.who, drop c.in-Some.behind c.loop.names.items) ≡ next_new is_done (drop c.loop.at c.loop.names.items) =
    rw c.as_slice.ensures.value at c.in-Some.ensures.next in
    let named : c.push_names.new.names.items ≡ c.loop.names.items ++ named_by_ops c.in_ok-ops.ops = search rules in
    let one : length c.args.to.now.rows.now - c.loop.counter ≡ suc left = omega arith in
    record {
      within = omega (arith, within, ap length named, length-append c.loop.names.items (named_by_ops c.in_ok-ops.ops));
      encoded =
          new_encoded_turn left c.args.to.now.schema.now c.args.to.now.rows.now (λ k. is_some (row_at c.args.old.now k)) c.loop.done c.add_number.new.numbers
          c.loop.names.items c.push_names.new.names.items c.loop.at c.in-Some.behind c.in-Some.who c.in_ok-ops.ops _ _ _
          (rw one at c.loop.invariant.encoded) next within (search rules) (search rules) named (search rules);
    }

-- each new row had its turn
pub returns : goal.returns
returns c =
    let is_done : ℕ → _ = λ k. is_some (row_at c.args.old.now k) || is_among k c.loop.done in
    let none : length c.args.to.now.rows.now - c.loop.counter ≡ 0 = omega (arith, ap length c.as_slice-end.ensures.value) in
    new_encoded_last (length c.args.to.now.rows.now) c.args.to.now.schema.now c.args.old.now c.args.to.now.rows.now c.args.names.items _ _
    (new_encoded (length c.args.to.now.rows.now - c.loop.counter) c.args.to.now.schema.now c.args.to.now.rows.now is_done (drop c.loop.at c.loop.names.items))
    c.loop.invariant.encoded (rw none refl)

-- the new row is short: it wasn't there
pub new_ops-requires : goal.new_ops-requires
new_ops-requires c = fresh_short c.args.to.now.schema.now c.args.old.now c.args.to.now.rows.now c.in-Some.who c.requires (c.in-Some.ensures.fresh (c.in-Some.who, c.in-Some.behind) refl)
