-- What rooms share: texts, numbers and sets under keys, and which rooms hear a channel. Ours.
use Rattle.std.specs.Prelude.{ℕ, ◌+ℤ◌, ◌^◌, Bool, true, false, not, List, [], ◌∷◌, ◌++◌, filter, length, ℤ, pos, Option, Some, None, if◌then◌else◌, nat_lt, Result, Ok, Err}
use Rattle.std.specs.List.{list_any}
use Rattle.std.specs.Str.{bytes_eq}
use Rattle.schema_model.specs.Fits.{in_signed}
use Rattle.text_model.specs.Decimals.{signed_text}
use Rattle.script_model.specs.declared.fault.PresenceFault.{PresenceFault}
use Rattle.script_model.specs.declared.fault.PresenceFault.TheVariants.{WrongKind, OutOfRange}

-- what is stored under a key; the texts of a set differ and rise by their bytes
pub data Stored : Type 0 where
  words : List ℕ → Stored
  number : ℤ → Stored
  texts : List (List ℕ) → Stored

-- what each key has, and the rooms that subscribed to each channel, in the order in which they first did
pub record PresenceData : Type 0 where
  pub stored : List ℕ → Option Stored
  pub rooms : List ℕ → List (List ℕ)

abbrev pub no_presence : PresenceData
no_presence = record { stored = λ key. None; rooms = λ channel. [] }

-- a function with another value at a key
abbrev pub with_at : {A : Type 0} → List ℕ → A → (List ℕ → A) → List ℕ → A
with_at key x f other = if bytes_eq key other then x else f other

abbrev pub stored_at : List ℕ → Option Stored → PresenceData → PresenceData
stored_at key x p = record { stored = with_at key x p.stored; rooms = p.rooms }

-- ---- texts

abbrev pub set : List ℕ → List ℕ → PresenceData → PresenceData
set key t p = stored_at key (Some (words t)) p

abbrev pub del : List ℕ → PresenceData → PresenceData
del key p = stored_at key None p

-- what is stored as a text, a number as its decimal
abbrev pub as_words : Option Stored → Result (Option (List ℕ)) PresenceFault
as_words None = Ok None
as_words (Some (words t)) = Ok (Some t)
as_words (Some (number z)) = Ok (Some (signed_text z))
as_words (Some (texts ts)) = Err WrongKind

abbrev pub get : List ℕ → PresenceData → Result (Option (List ℕ)) PresenceFault
get key p = as_words (p.stored key)

-- ---- numbers

-- what is stored as a number, 0 where nothing is
abbrev pub as_number : Option Stored → Result ℤ PresenceFault
as_number None = Ok (pos 0)
as_number (Some (number z)) = Ok z
as_number (Some (words t)) = Err WrongKind
as_number (Some (texts ts)) = Err WrongKind

-- a number of 64 bits with a sign
abbrev pub in_range : ℤ → Result ℤ PresenceFault
in_range z = if in_signed (2 ^ 63) z then Ok z else Err OutOfRange

-- the sum, or why there is none
abbrev pub raised_number : Result ℤ PresenceFault → ℤ → Result ℤ PresenceFault
raised_number (Ok z) by = in_range (z +ℤ by)
raised_number (Err e) by = Err e

abbrev pub incr : List ℕ → ℤ → PresenceData → Result ℤ PresenceFault
incr key by p = raised_number (as_number (p.stored key)) by

-- the presence behind it; a refusal leaves it as it was
abbrev pub number_kept : List ℕ → Result ℤ PresenceFault → PresenceData → PresenceData
number_kept key (Ok z) p = stored_at key (Some (number z)) p
number_kept key (Err e) p = p

abbrev pub raised : List ℕ → ℤ → PresenceData → PresenceData
raised key by p = number_kept key (incr key by p) p

-- ---- sets

-- what is stored as a set, an empty one where nothing is
abbrev pub as_texts : Option Stored → Result (List (List ℕ)) PresenceFault
as_texts None = Ok []
as_texts (Some (texts ts)) = Ok ts
as_texts (Some (words t)) = Err WrongKind
as_texts (Some (number z)) = Err WrongKind

-- a text comes before another by its bytes
abbrev pub is_before : List ℕ → List ℕ → Bool
is_before [] [] = false
is_before [] (b ∷ ys) = true
is_before (a ∷ xs) [] = false
is_before (a ∷ xs) (b ∷ ys) = if nat_lt a b then true else if nat_lt b a then false else is_before xs ys

-- texts with one more, in its place
abbrev pub with_text : List ℕ → List (List ℕ) → List (List ℕ)
with_text t [] = t ∷ []
with_text t (u ∷ us) = if bytes_eq t u then u ∷ us else if is_before t u then t ∷ u ∷ us else u ∷ with_text t us

abbrev pub without_text : List ℕ → List (List ℕ) → List (List ℕ)
without_text t ts = filter (λ u. not (bytes_eq t u)) ts

abbrev pub smembers : List ℕ → PresenceData → Result (List (List ℕ)) PresenceFault
smembers key p = as_texts (p.stored key)

-- how many there are
abbrev pub counted : Result (List (List ℕ)) PresenceFault → Result ℕ PresenceFault
counted (Ok ts) = Ok (length ts)
counted (Err e) = Err e

abbrev pub scard : List ℕ → PresenceData → Result ℕ PresenceFault
scard key p = counted (smembers key p)

-- the presence with another set, unless something else is stored
abbrev pub set_kept : List ℕ → (List (List ℕ) → List (List ℕ)) → Result (List (List ℕ)) PresenceFault → PresenceData → PresenceData
set_kept key f (Ok ts) p = stored_at key (Some (texts (f ts))) p
set_kept key f (Err e) p = p

abbrev pub sadd : List ℕ → List ℕ → PresenceData → PresenceData
sadd key t p = set_kept key (with_text t) (smembers key p) p

-- a key under which nothing is stored stays so
abbrev pub removed_from : List ℕ → List ℕ → Option Stored → PresenceData → PresenceData
removed_from key t None p = p
removed_from key t (Some s) p = set_kept key (without_text t) (as_texts (Some s)) p

abbrev pub srem : List ℕ → List ℕ → PresenceData → PresenceData
srem key t p = removed_from key t (p.stored key) p

-- ---- channels

-- a room that is among them already stays where it is
abbrev pub with_room : List ℕ → List (List ℕ) → List (List ℕ)
with_room room rooms = if list_any (bytes_eq room) rooms then rooms else rooms ++ room ∷ []

abbrev pub subscribed : List ℕ → List ℕ → PresenceData → PresenceData
subscribed channel room p = record { stored = p.stored; rooms = with_at channel (with_room room (p.rooms channel)) p.rooms }

-- without a room, in every channel
abbrev pub without_room : List ℕ → PresenceData → PresenceData
without_room room p = record { stored = p.stored; rooms = λ channel. filter (λ r. not (bytes_eq room r)) (p.rooms channel) }
