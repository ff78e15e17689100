use Rattle.std.proofs.Common.{◌∙◌, sym}
use Rattle.std.proofs.lemmas.Option.{IfSome_then}
use Rattle.lists.proofs.RisingLaws.{remove_missing}
use Rattle.wire_ops.proofs.IndexLaws.{again_index}
use Rattle.wire_ops.proofs.ItemLaws.{number_of, put_value-missing, put_value-again}
use Rattle.wire_ops.proofs.items.Items.put_value.Goals.{in-Some+in_ok-put, in_default}
use Rattle.wire_ops.proofs.items.Items.put_value.Goals as goal

pub returns : goal.returns
returns c =
    elim c.match-remove.branch [
      | in-Some+in_ok-put w ↦
          let again = put_value-again 0 c.args.number c.args.value w.in-Some.old c.self.inside.items c.remove.ensures.rises (sym c.remove.ensures.found ∙ w.in-Some.is) in
          rw (w.self-inside-is, w.in_ok-put.ensures.ok, c.remove.ensures.rest, ← c.self.view_is) again
      | in_default w ↦
          let missing = sym c.remove.ensures.found ∙ w.in_default.is in
          let unchanged = remove_missing number_of c.args.number c.self.inside.items missing in
          let same = unchanged ∙ sym (put_value-missing c.args.number c.args.value c.self.inside.items missing) in
          rw (w.self-inside-is, c.remove.ensures.rest, ← c.self.view_is) same
    ]

pub invariant_of-self-2 : goal.invariant_of-self-2
invariant_of-self-2 c =
    elim c.match-remove.branch [
      | in-Some+in_ok-put w ↦
          let found = sym c.remove.ensures.found ∙ w.in-Some.is in
          rw (c.take-index.ensures.value, w.self-inside-is, w.in_ok-put.ensures.ok, c.remove.ensures.rest)
          (IfSome_then c.self.inside.index c.self.invariant (λ i index. again_index c.args.number c.args.value w.in-Some.old c.self.inside.items i found index))
      | in_default w ↦
          let missing = sym c.remove.ensures.found ∙ w.in_default.is in
          let unchanged = remove_missing number_of c.args.number c.self.inside.items missing in
          rw (c.take-index.ensures.value, w.self-inside-is, c.remove.ensures.rest, unchanged) c.self.invariant
    ]
