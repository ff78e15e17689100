use Rattle.std.proofs.Common.{rules, ◌≡◌, ◌∙◌, ◌<◌, ◌-◌, ℕ, suc, [], Some, None, length, slice_get, map, arith, sym, ap}
use Rattle.schema_model.specs.Classes.{inherited, fields_from}
use Rattle.schema_model.proofs.FieldTables.{count_up, no_fields, height_falls, own_part, inherited_part, declared_by}
use Rattle.schema_model.proofs.lookup.find_declared.Goals as goal

pub overflow_sub-inherited : goal.overflow_sub-inherited
overflow_sub-inherited c =
    let found : slice_get c.args.classes.now c.loop-class.number ≡ Some c.in-Some.class.now = search rules in
    let up = count_up c.args.classes.now (Some c.loop-class.number) c.in-Some.class.now c.requires.earlier found in
    omega arith

-- the field is an own one
pub returns-then-inherited-index : goal.returns-then-inherited-index
returns-then-inherited-index c =
    let found : slice_get c.args.classes.now c.loop-class.number ≡ Some c.in-Some.class.now = search rules in
    let up = count_up c.args.classes.now (Some c.loop-class.number) c.in-Some.class.now c.requires.earlier found in
    let parents : length (inherited (fields_from [] c.args.classes.now) c.in-Some.class.now.parent) ≡ c.loop-class.count - c.len.result = omega arith in
    let own = own_part c.args.classes.now c.loop-class.number c.in-Some.class.now c.args.index c.requires.earlier found (omega arith) in
    c.own_field.ensures
    ∙ sym (c.loop-class.invariant.1 ∙ own ∙ ap (λ (n : ℕ). slice_get (map (declared_by c.loop-class.number) c.in-Some.class.now.own) (c.args.index - n)) parents)

-- there are inherited fields, so there is a parent
pub returns-in_err-number : goal.returns-in_err-number
returns-in_err-number c =
    let found : slice_get c.args.classes.now c.loop-class.number ≡ Some c.in-Some.class.now = search rules in
    let up = count_up c.args.classes.now (Some c.loop-class.number) c.in-Some.class.now c.requires.earlier found in
    let none : length (inherited (fields_from [] c.args.classes.now) c.in-Some.class.now.parent) ≡ 0 = ap (λ p. length (inherited (fields_from [] c.args.classes.now) p)) c.in_err-number.was in
    absurd (omega arith)

pub loop-class-smaller : goal.loop-class-smaller
loop-class-smaller c =
    let found : slice_get c.args.classes.now c.loop-class.number ≡ Some c.in-Some.class.now = search rules in
    let falls = height_falls c.args.classes.now (Some c.loop-class.number) c.in-Some.class.now c.requires.earlier found in
    let fell : suc c.in_ok-number.number < suc c.loop-class.number = rw c.in_ok-number.was at falls in
    omega arith

pub loop-class-preserved : goal.loop-class-preserved
loop-class-preserved c =
    let found : slice_get c.args.classes.now c.loop-class.number ≡ Some c.in-Some.class.now = search rules in
    let up = count_up c.args.classes.now (Some c.loop-class.number) c.in-Some.class.now c.requires.earlier found in
    let parent = ap (inherited (fields_from [] c.args.classes.now)) c.in_ok-number.was in
    let parents : length (inherited (fields_from [] c.args.classes.now) c.in-Some.class.now.parent) ≡ c.loop-class.count - c.len.result = omega arith in
    let part = inherited_part c.args.classes.now c.loop-class.number c.in-Some.class.now c.args.index c.requires.earlier found (omega arith) in
    (sym parents ∙ ap length parent, c.loop-class.invariant.1 ∙ part ∙ ap (λ fs. slice_get fs c.args.index) parent)

-- a class that there isn't has no fields
pub returns : goal.returns
returns c =
    let found : slice_get c.args.classes.now c.loop-class.number ≡ None = search rules in
    sym (c.loop-class.invariant.1 ∙ ap (λ fs. slice_get fs c.args.index) (no_fields c.args.classes.now c.loop-class.number found))
