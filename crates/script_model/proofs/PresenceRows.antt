-- Examples: what is stored, counted and heard, and each refusal; worked out by hand.
use Rattle.std.specs.Prelude.{◌≡◌, ℕ, zero, suc, ◌^◌, ◌-◌, List, [], ◌∷◌, ℤ, pos, negsuc, Option, Some, None, Result, Ok, Err, codes, refl}
use Rattle.std.specs.Fmt.{digits}
use Rattle.script_model.specs.declared.fault.PresenceFault.TheVariants.{WrongKind, OutOfRange}
use Rattle.script_model.specs.Presence.{PresenceData, del, get, incr, no_presence, raised, sadd, scard, set, smembers, srem, subscribed, without_room}

abbrev pub key : List ℕ
key = codes "k"

abbrev pub two : PresenceData
two = raised key (pos 2) no_presence

raised_by_two : incr key (pos 2) no_presence ≡ Ok (pos 2)
raised_by_two = refl

decimal_of_number : get key two ≡ Ok (Some (codes "2"))
unfolding digits
decimal_of_number = refl

below_zero : get key (raised key (negsuc 4) two) ≡ Ok (Some (codes "-3"))
unfolding digits
below_zero = refl

number_is_no_set : smembers key two ≡ Err WrongKind
number_is_no_set = refl

number_has_no_count : scard key two ≡ Err WrongKind
number_has_no_count = refl

refused_set_is_kept : get key (sadd key (codes "a") two) ≡ Ok (Some (codes "2"))
unfolding digits
refused_set_is_kept = refl

past_the_greatest : incr key (pos (2 ^ 63 - 1)) two ≡ Err OutOfRange
past_the_greatest = refl

up_to_the_greatest : incr key (pos (2 ^ 63 - 3)) two ≡ Ok (pos (2 ^ 63 - 1))
up_to_the_greatest = refl

refused_sum_is_kept : get key (raised key (pos (2 ^ 63 - 1)) two) ≡ Ok (Some (codes "2"))
unfolding digits
refused_sum_is_kept = refl

absent : get (codes "other") two ≡ Ok None
absent = refl

forgotten : get key (del key two) ≡ Ok None
forgotten = refl

text_replaces_number : get key (set key (codes "t") two) ≡ Ok (Some (codes "t"))
text_replaces_number = refl

text_is_no_number : incr key (pos 1) (set key (codes "7") no_presence) ≡ Err WrongKind
text_is_no_number = refl

-- ---- sets

abbrev pub both : PresenceData
both = sadd (codes "s") (codes "a") (sadd (codes "s") (codes "b") no_presence)

rising : smembers (codes "s") both ≡ Ok (codes "a" ∷ codes "b" ∷ [])
rising = refl

prefix_first : smembers (codes "s") (sadd (codes "s") (codes "") (sadd (codes "s") (codes "ab") both)) ≡ Ok (codes "" ∷ codes "a" ∷ codes "ab" ∷ codes "b" ∷ [])
prefix_first = refl

added_twice : scard (codes "s") (sadd (codes "s") (codes "a") both) ≡ Ok 2
added_twice = refl

taken_out : smembers (codes "s") (srem (codes "s") (codes "a") both) ≡ Ok (codes "b" ∷ [])
taken_out = refl

-- an emptied set is still one, and what isn't there is no set by being taken out of
emptied : get (codes "s") (srem (codes "s") (codes "b") (srem (codes "s") (codes "a") both)) ≡ Err WrongKind
emptied = refl

never_made : get (codes "s") (srem (codes "s") (codes "b") no_presence) ≡ Ok None
never_made = refl

absent_is_empty : scard (codes "s") no_presence ≡ Ok 0
absent_is_empty = refl

-- ---- channels

abbrev pub heard : PresenceData
heard = subscribed (codes "c") (codes "room00001") (subscribed (codes "c") (codes "room00002") (subscribed (codes "c") (codes "room00001") no_presence))

each_room_once : heard.rooms (codes "c") ≡ codes "room00001" ∷ codes "room00002" ∷ []
each_room_once = refl

other_channel : heard.rooms (codes "d") ≡ []
other_channel = refl

dropped : (without_room (codes "room00001") heard).rooms (codes "c") ≡ codes "room00002" ∷ []
dropped = refl
