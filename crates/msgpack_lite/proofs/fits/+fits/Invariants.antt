use Rattle.std.proofs.Common.{◌≡◌, ◌+◌, ◌*◌, ◌≤◌, drop}
use Rattle.frame_model.specs.PackData.{data_of, items_data, items_view, members_data, members_view}
use Rattle.frame_model.specs.Packs.{depth, items_depth, items_have_bytes, members_depth, members_have_bytes}
use Rattle.msgpack_lite.proofs.fits.+fits.Given as goal

abbrev pub decreases-has_bytes : goal.decreases-has_bytes
decreases-has_bytes l = 2 * depth (data_of l.pack.now)

abbrev pub decreases-list_has_bytes : goal.decreases-list_has_bytes
decreases-list_has_bytes l = 2 * items_depth (items_data l.items.now) + 1

abbrev pub decreases-map_has_bytes : goal.decreases-map_has_bytes
decreases-map_has_bytes l = 2 * members_depth (members_data l.pairs.now) + 1

-- what is left has bytes where all have, and is no deeper than all
abbrev pub invariant-list_has_bytes-loop-item : goal.invariant-list_has_bytes-loop-item
invariant-list_has_bytes-loop-item l =
    (items_have_bytes (items_view (drop l.item-index l.items)) ≡ items_have_bytes (items_data l.fn.items))
    × (items_depth (items_view (drop l.item-index l.items)) ≤ items_depth (items_data l.fn.items))

abbrev pub invariant-map_has_bytes-loop-pair : goal.invariant-map_has_bytes-loop-pair
invariant-map_has_bytes-loop-pair l =
    (members_have_bytes (members_view (drop l.pair-index l.pairs)) ≡ members_have_bytes (members_data l.fn.pairs))
    × (members_depth (members_view (drop l.pair-index l.pairs)) ≤ members_depth (members_data l.fn.pairs))
