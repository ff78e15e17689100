use Rattle.std.proofs.Common.{ℕ, ◌≡◌, ◌∙◌, ◌+◌, None, Some, [], ◌∷◌, ◌++◌, Option, append_assoc, drop, sym, ap, ap₂}
use Rattle.std.specs.Option.{option_map, option_to_list}
use Rattle.state_model.specs.declared.row.Row.{Row}
use Rattle.state_model.specs.declared.row.RowEntry.{RowEntry}
use Rattle.trees.specs.Slots.{entries_in}
use Rattle.instance_table.specs.declared.node.Node.{Node}
use Rattle.instance_table.proofs.NodeLaws.{entries_behind, entries_rise}
use Rattle.instance_table.proofs.StateLaws.{rows_before, rows_push}
use Rattle.instance_table.proofs.nodes.copy_rows.Goals as goal
use Rattle.instance_table.proofs.nodes.copy_rows.Goals.{in-Some+in_ok-copy_row+in_ok-push, in_default}

-- the entries of a slot and of those behind it
own : (n : ℕ) (o : Option Node) (node : Node) → o ≡ Some node → option_to_list {X = ℕ × Node} (option_map (λ (x : Node). (n, x)) o) ≡ (n, node) ∷ []
own n o node is = cc

none : (n : ℕ) (o : Option Node) → o ≡ None → option_to_list {X = ℕ × Node} (option_map (λ (x : Node). (n, x)) o) ≡ []
none n o is = cc

pub push-requires : goal.push-requires
push-requires c =
    let slots = c.args.slots.now in
    let done = c.loop-slot.invariant.0 in
    let slot = c.slot-item.result in
    let e : ℕ × Node = (slot.number, c.in-Some.node) in
    let left = entries_in (drop (c.loop-slot.slot-index + 1) slots) in
    let here = entries_behind slots c.loop-slot.slot-index slot c.loop-slot-test.true c.slot-item.is ∙ ap (λ l. l ++ left) (own slot.number slot.item c.in-Some.node c.in-Some.is) in
    let split : entries_in slots ≡ done ++ e ∷ left = c.loop-slot.invariant.1 ∙ ap (λ es. done ++ es) here in
    rw c.loop-slot.invariant.2 (rows_before (entries_in slots) done e left (entries_rise 0 slots c.requires) split)

pub loop-slot-preserved : goal.loop-slot-preserved
loop-slot-preserved c =
    let slots = c.args.slots.now in
    let done = c.loop-slot.invariant.0 in
    let slot = c.slot-item.result in
    let left = entries_in (drop (c.loop-slot.slot-index + 1) slots) in
    let next = entries_behind slots c.loop-slot.slot-index slot c.loop-slot-test.true c.slot-item.is in
    elim c.match-slot.branch [
      | in-Some+in_ok-copy_row+in_ok-push w ↦
          let e : ℕ × Node = (slot.number, w.in-Some.node) in
          let here = next ∙ ap (λ l. l ++ left) (own slot.number slot.item w.in-Some.node w.in-Some.is) in (
            done ++ e ∷ [],
            c.loop-slot.invariant.1 ∙ (ap (λ es. done ++ es) here ∙ sym (append_assoc done (e ∷ []) left)),
            w.rows-is ∙ (w.in_ok-push.ensures ∙ (ap₂ (λ l (r : Row). let x : RowEntry = record { who = slot.number; row = r } in l ++ x ∷ []) c.loop-slot.invariant.2 w.in_ok-copy_row.ensures ∙ sym (rows_push e done))),
          )
      | in_default w ↦ (
        done,
        c.loop-slot.invariant.1 ∙ ap (λ es. done ++ es) (next ∙ ap (λ l. l ++ left) (none slot.number slot.item w.in_default.is)),
        w.rows-is ∙ c.loop-slot.invariant.2,
      )
    ]
