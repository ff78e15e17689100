-- Values and pairs one behind another, as data.
use Rattle.std.proofs.Common.{◌≡◌, ℕ, List, [], ◌∷◌, ◌++◌, Vec, Global, refl, ap, rules}
use Rattle.frame_model.specs.PackData.{data_of, dict, item, items_data, items_more, items_view, list, member, members_data, members_more, members_view}
use Rattle.frame_model.specs.declared.pack.Pack.{Pack, List as PackList, Map as PackMap}
use Rattle.frame_model.specs.declared.pack.Packs.{Packs, roll-Packs, the_lemmas}
use Rattle.frame_model.specs.declared.pack.PackPairs.{PackPairs, roll-PackPairs}

pub items_view-more : (ps : List Pack) (p : Pack) → items_view (ps ++ p ∷ []) ≡ items_more (items_view ps) (data_of p)
items_view-more [] p = refl
items_view-more (q ∷ ps) p = ap (item (data_of q)) (items_view-more ps p)

pub members_view-more : (ms : List (List ℕ × Pack)) (m : List ℕ × Pack) → members_view (ms ++ m ∷ []) ≡ members_more (members_view ms) m.0 (data_of m.1)
members_view-more [] m = refl
members_view-more (q ∷ ms) m = ap (member q.0 (data_of q.1)) (members_view-more ms m)

pub items_data-is : (v : Vec Pack Global) → items_data (roll-Packs (record { items = v })) ≡ items_view v.items
items_data-is v = search (rules, the_lemmas)

pub members_data-is : (v : Vec (List ℕ × Pack) Global) → members_data (roll-PackPairs (record { items = v })) ≡ members_view v.items
members_data-is v = search (rules, the_lemmas)

pub data_of-List : (p : Packs) → data_of (PackList p) ≡ list (items_data p)
data_of-List p = search (rules, the_lemmas)

pub data_of-Map : (p : PackPairs) → data_of (PackMap p) ≡ dict (members_data p)
data_of-Map p = search (rules, the_lemmas)
