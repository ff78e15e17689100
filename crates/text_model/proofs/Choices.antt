-- What is made of values that may be missing: what it was made of.
use Rattle.std.proofs.Common.{◌≡◌, Bool, true, false, Option, Some, None, refl, sym, ap, ◌∙◌}
use Rattle.text_model.specs.Lines.{both, passing, some_if, three}

pub chosen_if : {A : Type 0} (test : Bool) (x y : A) → some_if test x ≡ Some y → (test ≡ true) × (x ≡ y)
chosen_if true x y h = (refl, (cc))
chosen_if false x y h = absurd (cc)

pub choose_if : {A : Type 0} (test : Bool) (x : A) → test ≡ true → some_if test x ≡ Some x
choose_if test x h = ap (λ b. some_if b x) h

pub passed : {A : Type 0} (test : A → Bool) (o : Option A) (x : A) → passing test o ≡ Some x → (o ≡ Some x) × (test x ≡ true)
passed test None x h = absurd (cc)
passed test (Some y) x h =
    let c = chosen_if (test y) y x h in
    (ap Some c.1, sym (ap test c.1) ∙ c.0)

pub pass : {A : Type 0} (test : A → Bool) (o : Option A) (x : A) → o ≡ Some x → test x ≡ true → passing test o ≡ Some x
pass test o x is h = ap (passing test) is ∙ choose_if (test x) x h

pub both_of : {A B C : Type 0} (f : A → B → C) (a : Option A) (b : Option B) (y : C) → both f a b ≡ Some y → (x : A) × (z : B) × (a ≡ Some x) × (b ≡ Some z) × (f x z ≡ y)
both_of f (Some x) (Some z) y h = (x, z, refl, refl, (cc))
both_of f (Some x) None y h = absurd (cc)
both_of f None b y h = absurd (cc)

pub both_is : {A B C : Type 0} (f : A → B → C) (a : Option A) (b : Option B) (x : A) (z : B) → a ≡ Some x → b ≡ Some z → both f a b ≡ Some (f x z)
both_is f a b x z p q = (λ i. both f (p i) (q i))

pub three_of_them : {A B C D : Type 0} (f : A → B → C → D) (a : Option A) (b : Option B) (c : Option C) (y : D) → three f a b c ≡ Some y → (x : A) × (z : B) × (w : C) × (a ≡ Some x) × (b ≡ Some z) × (c ≡ Some w) × (f x z w ≡ y)
three_of_them f (Some x) (Some z) (Some w) y h = (x, z, w, refl, refl, refl, (cc))
three_of_them f (Some x) (Some z) None y h = absurd (cc)
three_of_them f (Some x) None c y h = absurd (cc)
three_of_them f None b c y h = absurd (cc)

pub three_is : {A B C D : Type 0} (f : A → B → C → D) (a : Option A) (b : Option B) (c : Option C) (x : A) (z : B) (w : C) → a ≡ Some x → b ≡ Some z → c ≡ Some w → three f a b c ≡ Some (f x z w)
three_is f a b c x z w p q r = (λ i. three f (p i) (q i) (r i))
