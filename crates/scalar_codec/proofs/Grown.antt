-- A list that grew by bytes that are read again is read again.
use Rattle.std.proofs.Common.{◌≡◌, ℕ, ◌+◌, ◌++◌, List, length, OnOk, Result, Ok, Err, append_assoc, length-append}

-- what is read again behind a list, whatever follows, is read at the end of the list that grew by it
pub grown_again : {T E A F : Type 0} (r : Result T E) (read : List ℕ → ℕ → Result (A × ℕ) F) (before after bytes : List ℕ) (found : A)
    → ((more : List ℕ) → read (before ++ (bytes ++ more)) (length before) ≡ Ok (found, length before + length bytes))
    → OnOk r (after ≡ before ++ bytes) → OnOk r ((more : List ℕ) → read (after ++ more) (length before) ≡ Ok (found, length after))
grown_again (Ok x) read before after bytes found again grown = λ more.
    rw (grown, append_assoc before bytes more, length-append before bytes) (again more)
grown_again (Err e) read before after bytes found again grown = grown
