-- Examples: what each entry sends at each standing, and where it leads; worked out by hand.
use Rattle.std.specs.Prelude.{◌≡◌, ℕ, true, false, List, [], ◌∷◌, ◌++◌, map, None, pos, codes, refl}
use Rattle.std.specs.List.{repeat}
use Rattle.schema_model.specs.Classes.{Schema}
use Rattle.schema_model.specs.declared.class.Shape.TheVariants as shape
use Rattle.schema_model.specs.declared.class.Item.TheVariants as item
use Rattle.schema_model.specs.declared.scalar.ScalarKind.TheVariants as kind
use Rattle.schema_model.specs.declared.value.Value.TheVariants as value
use Rattle.state_model.specs.declared.row.Row.TheVariants.{Struct}
use Rattle.state_model.specs.declared.row.RowEntry.{RowEntry}
use Rattle.frame_model.proofs.Opened.{reading}
use Rattle.life_model.specs.Entries.{Entry, Asked, Opened, Framed, Told, Ticked, Dropped, Kicked, Lapsed, Sending, Frame, Closing}
use Rattle.life_model.specs.Sent.{Standing, Reserved, Joining, Due, Live, Kept, Gone, sent_for, sent}

-- one class of one number
abbrev schema : Schema
schema = record {
  classes = record { name = codes "State"; parent = None; own = record { name = codes "x"; shape = shape.One (item.Scalar kind.Number); tag = None } ∷ [] } ∷ [];
  root = 0;
}

-- the root alone, and with a number
abbrev root : List RowEntry
root = record { who = 0; row = Struct 0 [] } ∷ []

abbrev number : ℕ → List RowEntry
number n = record { who = 0; row = Struct 0 (record { field = 0; value = value.Whole (pos n) } ∷ []) } ∷ []

-- an entry at each standing; two messages wait where any do
abbrev waiting : List (List ℕ)
waiting = (13 ∷ 1 ∷ []) ∷ (13 ∷ 2 ∷ []) ∷ []

abbrev at_each : Entry → List (Standing × List Sending)
at_each e = map (λ s. sent_for schema s e) (Reserved ∷ Joining waiting ∷ Due waiting ∷ Live (number 5) (number 5) ∷ Kept ∷ Gone ∷ [])

-- a standing that sends nothing
abbrev still : Standing → Standing × List Sending
still s = (s, [])

-- JOIN_ROOM with the token, where a reservation or a kept seat is taken
abbrev join : List ℕ → Standing × List Sending
join token = (Joining [], Frame (0x0a ∷ 0x09 ∷ (token ++ 0x06 ∷ codes "schema")) ∷ [])

opened : at_each (Opened (codes "token0001"))
    ≡ join (codes "token0001") ∷ still (Joining waiting) ∷ still (Due waiting) ∷ still (Live (number 5) (number 5)) ∷ join (codes "token0001") ∷ still Gone ∷ []
opened = refl

-- the acknowledgement leads on from joining alone
acknowledged : at_each (Framed (0x0a ∷ []))
    ≡ still Reserved ∷ still (Due waiting) ∷ still (Due waiting) ∷ still (Live (number 5) (number 5)) ∷ still Kept ∷ still Gone ∷ []
acknowledged = refl

-- a leave closes the connection
abbrev closed : ℕ → Standing × List Sending
closed code = (Gone, Closing code ∷ [])

left : at_each (Framed (0x0c ∷ [])) ≡ still Reserved ∷ closed 4000 ∷ closed 4000 ∷ closed 4000 ∷ still Kept ∷ still Gone ∷ []
left = refl

-- a frame that can't be read is answered with ERROR 4217
abbrev refused : Standing → Standing × List Sending
refused s = (s, Frame (0x0b ∷ 0xcd ∷ 0x79 ∷ 0x10 ∷ 0xaf ∷ codes "invalid payload") ∷ [])

unread : map (λ bytes. at_each (Framed bytes)) ([] ∷ (0x0e ∷ []) ∷ (0x0a ∷ 0 ∷ []) ∷ (0x0d ∷ []) ∷ (0x0d ∷ 5 ∷ 0xc1 ∷ []) ∷ [])
    ≡ repeat 5 ((still Reserved ∷ refused (Joining waiting) ∷ refused (Due waiting) ∷ refused (Live (number 5) (number 5)) ∷ still Kept ∷ still Gone ∷ []) ∷ [])
unfolding reading
unread = refl

-- a data frame that is read sends nothing to its sender
data_frames : map (λ bytes. at_each (Framed bytes)) ((0x0d ∷ 5 ∷ 0xc0 ∷ []) ∷ (0x0d ∷ 5 ∷ []) ∷ (0x11 ∷ 0xa1 ∷ 0x61 ∷ 0xc1 ∷ []) ∷ [])
    ≡ repeat 3 ((still Reserved ∷ still (Joining waiting) ∷ still (Due waiting) ∷ still (Live (number 5) (number 5)) ∷ still Kept ∷ still Gone ∷ []) ∷ [])
unfolding reading
data_frames = refl

-- a message waits for the full state, and is sent at once behind it
told : at_each (Told (13 ∷ 3 ∷ []))
    ≡ still Reserved ∷ still (Joining ((13 ∷ 1 ∷ []) ∷ (13 ∷ 2 ∷ []) ∷ (13 ∷ 3 ∷ []) ∷ [])) ∷ still (Due ((13 ∷ 1 ∷ []) ∷ (13 ∷ 2 ∷ []) ∷ (13 ∷ 3 ∷ []) ∷ []))
    ∷ (Live (number 5) (number 5), Frame (13 ∷ 3 ∷ []) ∷ []) ∷ still Kept ∷ still Gone ∷ []
told = refl

-- the 256th message waits, the 257th doesn't
queue_is_full : map (λ n. sent_for schema (Joining (repeat n ([] ∷ []))) (Told (13 ∷ []))) (255 ∷ 256 ∷ [])
    ≡ still (Joining (repeat 255 ([] ∷ []) ++ (13 ∷ []) ∷ [])) ∷ still (Joining (repeat 256 ([] ∷ []))) ∷ []
queue_is_full = refl

-- the full state comes first, then what waited for it; a patch goes from the last tick to this one
ticked : at_each (Ticked (number 6) (number 6))
    ≡ still Reserved ∷ still (Joining waiting)
    ∷ (Live (number 6) (number 6), Frame (0x0e ∷ 0x80 ∷ 0x06 ∷ []) ∷ Frame (13 ∷ 1 ∷ []) ∷ Frame (13 ∷ 2 ∷ []) ∷ [])
    ∷ (Live (number 6) (number 6), Frame (0x0f ∷ 0x00 ∷ 0x06 ∷ []) ∷ []) ∷ still Kept ∷ still Gone ∷ []
ticked = refl

-- a full state is sent also where nothing is set, a patch only where it has an operation
unchanged : sent_for schema (Due []) (Ticked root root) ∷ sent_for schema (Live (number 5) (number 5)) (Ticked (number 5) (number 5)) ∷ []
    ≡ (Live root root, Frame (0x0e ∷ []) ∷ []) ∷ still (Live (number 5) (number 5)) ∷ []
unchanged = refl

-- a lost connection leaves a kept seat, without what waited, or nothing
dropped : map (λ kept. at_each (Dropped kept)) (true ∷ false ∷ [])
    ≡ (still Reserved ∷ still Kept ∷ still Kept ∷ still Kept ∷ still Kept ∷ still Gone ∷ [])
    ∷ (still Reserved ∷ still Gone ∷ still Gone ∷ still Gone ∷ still Kept ∷ still Gone ∷ []) ∷ []
dropped = refl

-- a kick closes the connection, where there is one
kicked : at_each (Kicked 4003) ≡ still Gone ∷ closed 4003 ∷ closed 4003 ∷ closed 4003 ∷ still Gone ∷ still Gone ∷ []
kicked = refl

-- reservations and kept seats lapse
lapsed : at_each Lapsed ≡ still Gone ∷ still (Joining waiting) ∷ still (Due waiting) ∷ still (Live (number 5) (number 5)) ∷ still Gone ∷ still Gone ∷ []
lapsed = refl

-- a request sends nothing over the connection
asked : at_each (Asked [] [] []) ≡ still Reserved ∷ still (Joining waiting) ∷ still (Due waiting) ∷ still (Live (number 5) (number 5)) ∷ still Kept ∷ still Gone ∷ []
asked = refl

-- a seat that is kept and taken again begins with JOIN_ROOM and a full state
returned : sent schema (Opened (codes "token0001") ∷ Framed (0x0a ∷ []) ∷ Ticked (number 5) (number 5) ∷ Dropped true ∷ Ticked (number 6) (number 6)
    ∷ Opened (codes "token0002") ∷ Told (13 ∷ 1 ∷ []) ∷ Framed (0x0a ∷ []) ∷ Ticked (number 7) (number 7) ∷ [])
    ≡ Frame (0x0a ∷ 0x09 ∷ (codes "token0001" ++ 0x06 ∷ codes "schema")) ∷ Frame (0x0e ∷ 0x80 ∷ 0x05 ∷ [])
    ∷ Frame (0x0a ∷ 0x09 ∷ (codes "token0002" ++ 0x06 ∷ codes "schema")) ∷ Frame (0x0e ∷ 0x80 ∷ 0x07 ∷ []) ∷ Frame (13 ∷ 1 ∷ []) ∷ []
returned = refl
