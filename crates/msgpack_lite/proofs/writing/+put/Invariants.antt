use Rattle.std.proofs.Common.{◌≡◌, ℕ, ◌+◌, ◌*◌, ◌≤◌, true, List, ◌++◌, drop}
use Rattle.frame_model.specs.PackData.{data_of, items_data, items_view, members_data, members_view}
use Rattle.frame_model.specs.Packs.{depth, dict_head, items_are_texts, items_bytes, items_depth, items_have_bytes, items_len, list_head, members_are_texts, members_bytes, members_depth, members_have_bytes, members_len}
use Rattle.msgpack_lite.proofs.writing.+put.Given as goal

abbrev pub decreases-put_pack : goal.decreases-put_pack
decreases-put_pack l = 2 * depth (data_of l.pack.now)

abbrev pub decreases-put_list : goal.decreases-put_list
decreases-put_list l = 2 * items_depth (items_data l.items.now) + 1

abbrev pub decreases-put_dict : goal.decreases-put_dict
decreases-put_dict l = 2 * members_depth (members_data l.pairs.now) + 1

-- what is left comes behind what was written, has bytes, and is no deeper than all; where its texts are UTF-8, all are
abbrev pub invariant-put_list-loop-item : goal.invariant-put_list-loop-item
invariant-put_list-loop-item l =
    (done : List ℕ) × (l.out.items ≡ l.fn.out.items ++ done)
    × (done ++ items_bytes (items_view (drop l.item-index l.items)) ≡ list_head (items_len (items_data l.fn.items)) ++ items_bytes (items_data l.fn.items))
    × (items_have_bytes (items_view (drop l.item-index l.items)) ≡ true)
    × (items_depth (items_view (drop l.item-index l.items)) ≤ items_depth (items_data l.fn.items))
    × (items_are_texts (items_view (drop l.item-index l.items)) ≡ true → items_are_texts (items_data l.fn.items) ≡ true)

abbrev pub invariant-put_dict-loop-pair : goal.invariant-put_dict-loop-pair
invariant-put_dict-loop-pair l =
    (done : List ℕ) × (l.out.items ≡ l.fn.out.items ++ done)
    × (done ++ members_bytes (members_view (drop l.pair-index l.pairs)) ≡ dict_head (members_len (members_data l.fn.pairs)) ++ members_bytes (members_data l.fn.pairs))
    × (members_have_bytes (members_view (drop l.pair-index l.pairs)) ≡ true)
    × (members_depth (members_view (drop l.pair-index l.pairs)) ≤ members_depth (members_data l.fn.pairs))
    × (members_are_texts (members_view (drop l.pair-index l.pairs)) ≡ true → members_are_texts (members_data l.fn.pairs) ≡ true)
