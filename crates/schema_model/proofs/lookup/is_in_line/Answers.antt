use Rattle.std.proofs.Common.{◌≡◌, ◌∙◌, ◌==◌, true, false, sym, ap}
use Rattle.schema_model.proofs.KindLines.{is_in, is_here, is_above, height_up}
use Rattle.schema_model.proofs.lookup.is_in_line.Goals as goal

pub returns-then-eq : goal.returns-then-eq
returns-then-eq c =
    let same : (c.in-Some.class == c.args.sup) ≡ true = cc in
    sym (c.loop-line.invariant ∙ ap (λ line. is_in c.args.classes.now line c.args.sup) c.in-Some.is ∙ is_here c.args.classes.now c.in-Some.class c.args.sup c.requires same)

pub loop-line-smaller : goal.loop-line-smaller
loop-line-smaller c = rw (c.in-Some.is, c.parent_of-line.ensures) (height_up c.args.classes.now c.in-Some.class c.requires)

pub loop-line-preserved : goal.loop-line-preserved
loop-line-preserved c =
    let other : (c.in-Some.class == c.args.sup) ≡ false = cc in
    c.loop-line.invariant ∙ ap (λ line. is_in c.args.classes.now line c.args.sup) c.in-Some.is ∙ is_above c.args.classes.now c.in-Some.class c.args.sup c.requires other
    ∙ ap (λ line. is_in c.args.classes.now line c.args.sup) (sym c.parent_of-line.ensures)

pub returns : goal.returns
returns c = sym (c.loop-line.invariant ∙ ap (λ line. is_in c.args.classes.now line c.args.sup) c.in_default.is)
