use Rattle.std.proofs.Common.{◌≡◌, false, Option, Some, None, is_some, refl, sym, ◌∙◌}
use Rattle.trees.specs.Texts.{IsWith}
use Rattle.wire_ops.proofs.IndexLaws.{add_index}
use Rattle.wire_ops.proofs.items.index_with.Goals as goal

none_if : {T : Type 0} (o : Option T) → is_some o ≡ false → o ≡ None
none_if None h = refl
none_if (Some x) h = cc

pub returns : goal.returns
returns c =
    let is = rw c.in-Some.is at c.requires.index in
    let absent = sym c.number_of.ensures ∙ none_if c.number_of.result (sym c.is_some.ensures ∙ c.if-is_some.false) in
    let more : IsWith c.in-Some.index c.put.new.self c.args.item.now.key c.args.item.now.number = rw (← c.as_str-2.ensures) c.in_ok-put.ensures.ok in
    add_index c.args.items.now c.in-Some.index c.put.new.self c.args.item.now c.requires.new absent is more
