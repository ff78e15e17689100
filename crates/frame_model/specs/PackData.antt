-- What a MessagePack value is, and what a `Pack` stands for.
use Rattle.std.specs.Prelude.{ℕ, ℤ, Bool, List, [], ◌∷◌, map}
use Rattle.frame_model.specs.declared.pack.Pack.{Pack, fold-Pack}
use Rattle.frame_model.specs.declared.pack.Packs.{Packs, fold-Packs}
use Rattle.frame_model.specs.declared.pack.PackPairs.{PackPairs, fold-PackPairs}
use Rattle.frame_model.specs.declared.pack.Pack.TheOpen.{Pack-F, PackPairs-F, Packs-F}

mutual
  -- nothing, a truth, a whole number, a text by its UTF-8 bytes, bytes, a list, a map in the order of its bytes
  pub data PackData : Type 0 where
    nil : PackData
    truth : Bool → PackData
    whole : ℤ → PackData
    text : List ℕ → PackData
    binary : List ℕ → PackData
    list : PackItems → PackData
    dict : PackMembers → PackData

  pub data PackItems : Type 0 where
    no_items : PackItems
    item : PackData → PackItems → PackItems

  pub data PackMembers : Type 0 where
    no_members : PackMembers
    member : List ℕ → PackData → PackMembers → PackMembers

abbrev pub items_of : List PackData → PackItems
items_of [] = no_items
items_of (d ∷ ds) = item d (items_of ds)

abbrev pub members_of : List (List ℕ × PackData) → PackMembers
members_of [] = no_members
members_of (m ∷ ms) = member m.0 m.1 (members_of ms)

-- one level, with what it holds already seen as its data
abbrev pub pack_step : Pack-F PackData PackMembers PackItems → PackData
pack_step Pack-F.Nil = nil
pack_step (Pack-F.Truth b) = truth b
pack_step (Pack-F.Int z) = whole z
pack_step (Pack-F.Str t) = text t
pack_step (Pack-F.Bin b) = binary b
pack_step (Pack-F.List ds) = list ds
pack_step (Pack-F.Map ms) = dict ms

abbrev pub pairs_step : PackPairs-F PackData PackMembers PackItems → PackMembers
pairs_step p = members_of p.items.items

abbrev pub items_step : Packs-F PackData PackMembers PackItems → PackItems
items_step p = items_of p.items.items

-- the value that a `Pack` is
abbrev pub data_of : Pack → PackData
data_of = fold-Pack PackData PackMembers PackItems pack_step pairs_step items_step

-- the values that `Packs` hold, and the pairs that `PackPairs` hold
abbrev pub items_data : Packs → PackItems
items_data = fold-Packs PackData PackMembers PackItems pack_step pairs_step items_step

abbrev pub members_data : PackPairs → PackMembers
members_data = fold-PackPairs PackData PackMembers PackItems pack_step pairs_step items_step

-- of lists of them
abbrev pub items_view : List Pack → PackItems
items_view ps = items_of (map data_of ps)

abbrev pub members_view : List (List ℕ × Pack) → PackMembers
members_view ms = members_of (map (λ m. (m.0, data_of m.1)) ms)

-- one more at the end
abbrev pub items_more : PackItems → PackData → PackItems
items_more no_items x = item x no_items
items_more (item d ds) x = item d (items_more ds x)

abbrev pub members_more : PackMembers → List ℕ → PackData → PackMembers
members_more no_members q x = member q x no_members
members_more (member k d ms) q x = member k d (members_more ms q x)
