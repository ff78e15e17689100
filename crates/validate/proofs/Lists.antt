-- Arrays and objects, an item or a member at a time.
use Rattle.std.proofs.Common.{◌≡◌, ℕ, ◌-◌, ◌<◌, ◌≤◌, List, length, Option, Some, None, refl, ap, ◌∙◌, ◌⊎◌, inl, inr, arith}
use Rattle.json.specs.Token.{Token}
use Rattle.json.specs.Json.{after_end_array, items, members, read_key, skip_value, value}
use Rattle.json.specs.Reads.{skip_items, skip_members}
use Rattle.json.proofs.Grammar.{items_end, items_fail, left, left_none, members_end, members_fail, members_no_key, read_key-shorter, skip_item, skip_member, skip_value-shorter}

-- what the items of ts leave is what those of us leave, in turns enough for us
abbrev pub ItemsLead : ℕ → List Token → List Token → Type 0
ItemsLead d ts us = (n : ℕ) × (length us ≤ n) × (skip_items d ts ≡ left (items (value d) n us))

-- us begin with no bracket that closes, and r is what their first item leaves
abbrev pub IsItem : ℕ → List Token → Option (List Token) → Type 0
IsItem d us r = (after_end_array us ≡ None) × (skip_value d us ≡ r)

-- what this item tells of the items of ts
abbrev pub ItemsAfter : ℕ → List Token → List Token → Option (List Token) → Type 0
ItemsAfter d ts us None = skip_items d ts ≡ None
ItemsAfter d ts us (Some vs) = ItemsLead d ts vs × (length vs < length us)

pub items_all : (d : ℕ) (ts : List Token) → ItemsLead d ts ts
items_all d ts = (length ts, omega arith, refl)

pub items_after : (d : ℕ) (ts us : List Token) (r : Option (List Token)) → ItemsLead d ts us → IsItem d us r → ItemsAfter d ts us r
items_after d ts us None l e = l.2 ∙ ap left (items_fail (value d) l.0 us e.0 (left_none _ e.1))
items_after d ts us (Some vs) l e =
    let less = skip_value-shorter d us vs e.1 in
    ((l.0 - 1, omega (arith, less, l.1), l.2 ∙ skip_item (value d) l.0 us vs (omega (arith, less, l.1)) e.0 e.1), less)

pub items_close : (d : ℕ) (ts us vs : List Token) → ItemsLead d ts us → after_end_array us ≡ Some vs → skip_items d ts ≡ Some vs
items_close d ts us vs l e = l.2 ∙ ap left (items_end (value d) l.0 us vs l.1 e)

-- the same three of members
abbrev pub MembersLead : ℕ → List Token → List Token → Type 0
MembersLead d ts us = (n : ℕ) × (length us ≤ n) × (skip_members d ts ≡ left (members (value d) n us))

abbrev pub IsMember : ℕ → List Token → Option (List Token) → Type 0
IsMember d us r = ((read_key us ≡ None) × (None ≡ r)) ⊎ ((k : List ℕ) × (vs : List Token) × (read_key us ≡ Some (Some k, vs)) × (skip_value d vs ≡ r))

abbrev pub MembersAfter : ℕ → List Token → List Token → Option (List Token) → Type 0
MembersAfter d ts us None = skip_members d ts ≡ None
MembersAfter d ts us (Some vs) = MembersLead d ts vs × (length vs < length us)

pub members_all : (d : ℕ) (ts : List Token) → MembersLead d ts ts
members_all d ts = (length ts, omega arith, refl)

pub members_after : (d : ℕ) (ts us : List Token) (r : Option (List Token)) → MembersLead d ts us → IsMember d us r → MembersAfter d ts us r
members_after d ts us None l (inl m) = l.2 ∙ ap left (members_no_key (value d) l.0 us m.0)
members_after d ts us None l (inr m) = l.2 ∙ ap left (members_fail (value d) l.0 m.0 us m.1 m.2 (left_none _ m.3))
members_after d ts us (Some vs) l (inl m) = let never : ⊥ = cc m.1 in absurd never
members_after d ts us (Some vs) l (inr m) =
    let less : length vs < length us = omega (arith, read_key-shorter us (Some m.0) m.1 m.2, skip_value-shorter d m.1 vs m.3) in
    ((l.0 - 1, omega (arith, less, l.1), l.2 ∙ skip_member (value d) l.0 us m.1 vs m.0 (omega (arith, less, l.1)) m.2 m.3), less)

pub members_close : (d : ℕ) (ts us vs : List Token) → MembersLead d ts us → read_key us ≡ Some (None, vs) → skip_members d ts ≡ Some vs
members_close d ts us vs l e = l.2 ∙ ap left (members_end (value d) l.0 us vs l.1 e)
