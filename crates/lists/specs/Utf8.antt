-- Bytes that are a text.
use Rattle.std.specs.Prelude.{◌≡◌, ℕ, List, true, false, Result, Ok, Err}
use Rattle.std.specs.Str.{is_utf8}
use Rattle.lists.specs.declared.text.TextFault.{TextFault}
use Rattle.lists.specs.declared.text.TextFault.TheVariants.{NotUtf8, Memory}

-- a text of these bytes, the refusal exactly where they aren't UTF-8, or out of memory where they are
abbrev pub GivesText : Result (List ℕ) TextFault → List ℕ → Type 0
GivesText (Ok text) bytes = (is_utf8 bytes ≡ true) × (text ≡ bytes)
GivesText (Err NotUtf8) bytes = is_utf8 bytes ≡ false
GivesText (Err Memory) bytes = is_utf8 bytes ≡ true
