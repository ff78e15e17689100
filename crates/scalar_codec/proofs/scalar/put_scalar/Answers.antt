-- What each kind of a fixed width leaves in `out` is read again.
use Rattle.std.proofs.Common.{◌≡◌, ℕ, ◌++◌, List, length, OnOk, Result, Ok, true, ap, rules}
use Rattle.schema_model.specs.declared.scalar.ScalarKind.{ScalarKind}
use Rattle.schema_model.specs.declared.value.Value.{Value}
use Rattle.schema_model.specs.Spelling.{spelling}
use Rattle.schema_model.specs.Reading.{read_scalar}
use Rattle.schema_model.specs.Fits.{fits, is_worded}
use Rattle.schema_model.proofs.ScalarAgain.{scalar_again}
use Rattle.scalar_codec.proofs.Grown.{grown_again}
use Rattle.scalar_codec.proofs.scalar.put_scalar.Goals as goal

-- a list that grew by the bytes of a value
again_in : {T E : Type 0} (r : Result T E) (before after : List ℕ) (k : ScalarKind) (v : Value) → fits k v ≡ true → is_worded v ≡ true
    → OnOk r (after ≡ before ++ spelling k v)
    → OnOk r ((more : List ℕ) → read_scalar (after ++ more) (length before) k ≡ Ok (v, length after))
again_in r before after k v fit good grown =
    grown_again r (λ bytes at. read_scalar bytes at k) before after (spelling k v) v (λ more. scalar_again k v before more fit good) grown

pub returns-in-I8-Whole-clause-again : goal.returns-in-I8-Whole-clause-again
returns-in-I8-Whole-clause-again c =
    again_in c.put_fixed-in-I8-Whole.result c.args.out.now.items c.put_fixed-in-I8-Whole.new.out.items c.args.kind c.args.value.now c.requires
    (ap is_worded c.in-I8-Whole.is-1) (search rules)

pub returns-in-U8-Whole-clause-again : goal.returns-in-U8-Whole-clause-again
returns-in-U8-Whole-clause-again c =
    again_in c.put_fixed-in-U8-Whole.result c.args.out.now.items c.put_fixed-in-U8-Whole.new.out.items c.args.kind c.args.value.now c.requires
    (ap is_worded c.in-U8-Whole.is-1) (search rules)

pub returns-in-I16-Whole-clause-again : goal.returns-in-I16-Whole-clause-again
returns-in-I16-Whole-clause-again c =
    again_in c.put_fixed-in-I16-Whole.result c.args.out.now.items c.put_fixed-in-I16-Whole.new.out.items c.args.kind c.args.value.now c.requires
    (ap is_worded c.in-I16-Whole.is-1) (search rules)

pub returns-in-U16-Whole-clause-again : goal.returns-in-U16-Whole-clause-again
returns-in-U16-Whole-clause-again c =
    again_in c.put_fixed-in-U16-Whole.result c.args.out.now.items c.put_fixed-in-U16-Whole.new.out.items c.args.kind c.args.value.now c.requires
    (ap is_worded c.in-U16-Whole.is-1) (search rules)

pub returns-in-I32-Whole-clause-again : goal.returns-in-I32-Whole-clause-again
returns-in-I32-Whole-clause-again c =
    again_in c.put_fixed-in-I32-Whole.result c.args.out.now.items c.put_fixed-in-I32-Whole.new.out.items c.args.kind c.args.value.now c.requires
    (ap is_worded c.in-I32-Whole.is-1) (search rules)

pub returns-in-U32-Whole-clause-again : goal.returns-in-U32-Whole-clause-again
returns-in-U32-Whole-clause-again c =
    again_in c.put_fixed-in-U32-Whole.result c.args.out.now.items c.put_fixed-in-U32-Whole.new.out.items c.args.kind c.args.value.now c.requires
    (ap is_worded c.in-U32-Whole.is-1) (search rules)
