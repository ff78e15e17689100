-- What reading a word or a line gives, where memory may run out. Ours.
use Rattle.std.specs.Prelude.{◌≡◌, Option, Some, None, Result, Ok, Err}
use Rattle.schedule_text.specs.declared.fault.LineFault.{LineFault}
use Rattle.schedule_text.specs.declared.fault.LineFault.TheVariants.{NotOfForm, Memory}

-- what the bytes stand for, unless memory runs out; it isn't of the form exactly where they stand for nothing
abbrev pub Reads : {A : Type 0} → Result A LineFault → Option A → Type 0
Reads (Ok x) there = there ≡ Some x
Reads (Err NotOfForm) there = there ≡ None
Reads (Err Memory) there = Unit {0}

-- the same of what it is taken for
abbrev pub ReadsAs : {A B : Type 0} → (A → B) → Result A LineFault → Option B → Type 0
ReadsAs f (Ok x) there = there ≡ Some (f x)
ReadsAs f (Err NotOfForm) there = there ≡ None
ReadsAs f (Err Memory) there = Unit {0}
