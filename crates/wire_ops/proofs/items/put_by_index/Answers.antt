use Rattle.std.proofs.Common.{◌≡◌, ℕ, true, false, eqb, Option, Some, None, Result, Ok, Err, OnOk, refl, sym, ap, ◌∙◌, arith}
use Rattle.std.specs.Option.{option_eq}
use Rattle.std.proofs.lemmas.Bool.Decides.{nat_tests}
use Rattle.lists.specs.Rising.{put}
use Rattle.state_model.specs.declared.row.MapItem.{MapItem}
use Rattle.trees.specs.Texts.{is_found, IsWith, IsIndexOf}
use Rattle.wire_model.specs.Effect.{put_named}
use Rattle.wire_ops.specs.Index.{key_texts, without_item}
use Rattle.wire_ops.proofs.ItemLaws.{number_of}
use Rattle.wire_ops.proofs.IndexLaws.{put_own, put_other}
use Rattle.wire_ops.proofs.items.put_by_index.Goals as goal

is_number : (o : Option ℕ) (n : ℕ) → true ≡ option_eq eqb o (Some n) → o ≡ Some n
is_number None n h = cc
is_number (Some m) n h = grind (arith, nat_tests, h)

is_other : (o : Option ℕ) (n : ℕ) → false ≡ option_eq eqb o (Some n) → is_found n o ≡ false
is_other None n h = refl
is_other (Some m) n h = sym h

on_ok : {T E A B : Type 0} (r : Result T E) → OnOk r A → (A → B) → OnOk r B
on_ok (Ok x) a f = f a
on_ok (Err e) a f = tt

own : (c : goal.Joined-old) → (c.put.new.self ≡ put_named c.args.number c.args.key.now c.args.value c.args.items.now) × IsIndexOf (key_texts c.put.new.self) c.args.index.now
own c =
    let x : MapItem = record { number = c.args.number; key = c.args.key.now; value = c.args.value } in
    let made : c.put.new.self ≡ put number_of x c.args.items.now = rw c.in_ok-copy.ensures at c.in_ok-old.ensures.ok in
    let led = sym c.number_of-owner.ensures ∙ is_number c.number_of-owner.result c.args.number c.if-eq.ensures in
    rw made (put_own c.args.number c.args.key.now c.args.value c.args.items.now c.args.index.now c.in_ok-old.ensures.rises c.requires led)

pub returns-then-eq-clause-items : goal.returns-then-eq-clause-items
returns-then-eq-clause-items c = (own c).0

pub returns-then-eq-clause-index : goal.returns-then-eq-clause-index
returns-then-eq-clause-index c = (own c).1

other : (c : goal.After-put-2) → IsWith c.forget.new.index c.put-2.new.self c.as_str-2.result.now c.args.number →
    (c.take_owner.new.items ≡ put_named c.args.number c.args.key.now c.args.value c.args.items.now) × IsIndexOf (key_texts c.take_owner.new.items) c.put-2.new.self
other c more =
    let x : MapItem = record { number = c.args.number; key = c.args.key.now; value = c.args.value } in
    let put_in : c.put.new.self ≡ put number_of x c.args.items.now = rw c.in_ok-copy.ensures at c.in_ok-old.ensures.ok in
    let made : c.take_owner.new.items ≡ without_item c.number_of-owner.result (put number_of x c.args.items.now) = c.take_owner.ensures.items ∙ ap (without_item c.number_of-owner.result) put_in in
    let with_key : IsWith c.forget.new.index c.put-2.new.self c.args.key.now c.args.number = rw (← c.as_str-2.ensures) more in
    put_other c.args.number c.args.key.now c.args.value c.args.items.now c.args.index.now c.in_ok-old.ensures.rises c.requires
    c.number_of-owner.result c.in_ok-old.old c.take_owner.new.items c.take_owner.new.index c.forget.new.index c.put-2.new.self
    (sym c.number_of-owner.ensures) (is_other c.number_of-owner.result c.args.number c.if-eq.ensures) (sym c.in_ok-old.ensures.replaced) made c.take_owner.ensures.index c.forget.ensures with_key

pub returns-clause-items : goal.returns-clause-items
returns-clause-items c = on_ok c.put-2.result c.put-2.ensures.ok (λ more. (other c more).0)

pub returns-clause-index : goal.returns-clause-index
returns-clause-index c = on_ok c.put-2.result c.put-2.ensures.ok (λ more. (other c more).1)
