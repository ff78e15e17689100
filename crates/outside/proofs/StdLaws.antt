-- What the calls of std's readers and writers say of the bytes that they tell.
use Rattle.std.proofs.Common.{◌≡◌, ℕ, zero, suc, ◌<◌, List, [], ◌++◌, length, take, Option, Some, None, refl, sym, ap, ◌∙◌, arith, append-nil}
use Rattle.std.specs.Prelude.{IfSome}
use Rattle.std.specs.Io.KnownBytes as std
use Rattle.outside.specs.Streams.{Hands, Keeps, Takes}

pub keeps_self : (a : Option (List ℕ)) → Keeps a a
keeps_self None = tt
keeps_self (Some xs) = refl

-- nothing was read, and then nothing more
pub keeps_more : (a b c : Option (List ℕ)) → Keeps a b → std.Keeps b c → Keeps a c
keeps_more None b c h k = tt
keeps_more (Some xs) (Some ys) (Some zs) h k = ap Some k ∙ h
keeps_more (Some xs) (Some ys) None h k = absurd k
keeps_more (Some xs) None c h k = absurd (cc)

-- a piece is empty only at the end, or without room
piece_some : (xs ys zs : List ℕ) (count : ℕ) (buffer : List ℕ) → ys ≡ xs → ys ≡ take count buffer ++ zs
    → (count ≡ 0 → 0 < length buffer → zs ≡ []) → 0 < length xs → 0 < length buffer → 0 < count
piece_some xs ys zs zero buffer same parts end some room =
    let none : zs ≡ [] = end refl room in
    absurd (omega (arith, ap length same, ap length parts, ap length none))
piece_some xs ys zs (suc n) buffer same parts end some room = omega arith

-- nothing was read, and then a piece
pub consumes_hands : (a b c : Option (List ℕ)) (count : ℕ) (buffer : List ℕ) → Keeps a b
    → std.Consumes b c (take count buffer) → (count ≡ 0 → 0 < length buffer → std.IsAtEnd c)
    → IfSome a (λ bytes. Hands bytes c count buffer)
consumes_hands None b c count buffer h k e = tt
consumes_hands (Some xs) (Some ys) (Some zs) count buffer h k e =
    let same : ys ≡ xs = cc in
    record { parts = (zs, refl, sym same ∙ k); some = piece_some xs ys zs count buffer same k e }
consumes_hands (Some xs) (Some ys) None count buffer h k e = absurd k
consumes_hands (Some xs) None c count buffer h k e = absurd (cc)

-- nothing was written, and then nothing more
pub takes_kept : (a b c : Option (List ℕ)) (bytes : List ℕ) → Takes a b bytes → std.Keeps b c → Takes a c bytes
takes_kept None b c bytes h k = tt
takes_kept (Some xs) (Some ys) (Some zs) bytes h k = ap Some k ∙ h
takes_kept (Some xs) (Some ys) None bytes h k = absurd k
takes_kept (Some xs) None c bytes h k = absurd (cc)

-- nothing was written, and then a piece
pub appends_takes : (a b c : Option (List ℕ)) (bytes : List ℕ) → Takes a b [] → std.Appends b c bytes → Takes a c bytes
appends_takes None b c bytes h k = tt
appends_takes (Some xs) (Some ys) (Some zs) bytes h k =
    let same : ys ≡ xs = let e : Some ys ≡ Some xs = h ∙ ap Some (append-nil xs) in cc in
    ap Some (k ∙ ap (λ l. l ++ bytes) same)
appends_takes (Some xs) (Some ys) None bytes h k = absurd k
appends_takes (Some xs) None c bytes h k = absurd (cc)
