use Rattle.std.proofs.Common.{◌≡◌, ◌+◌, ◌-◌, ◌*◌, ◌≤◌, length}
use Rattle.frame_model.specs.Packs.{items_at, members_at, pack_at}
use Rattle.msgpack_lite.specs.Ends.{end_of}
use Rattle.msgpack_lite.proofs.EndLaws.{ends_at, members_ends_at}
use Rattle.msgpack_lite.proofs.ends.+end.Given as goal

abbrev pub decreases-end_at : goal.decreases-end_at
decreases-end_at l = 3 * l.levels + 2

abbrev pub decreases-end_by_form : goal.decreases-end_by_form
decreases-end_by_form l = 3 * l.levels + 1

abbrev pub decreases-items_end : goal.decreases-items_end
decreases-items_end l = 3 * l.levels + 3

abbrev pub decreases-members_end : goal.decreases-members_end
decreases-members_end l = 3 * l.levels + 3

-- the place after all values is that after those that are left
abbrev pub invariant-items_end-items : goal.invariant-items_end-items
invariant-items_end-items l =
    (l.at ≤ length l.fn.bytes)
    × (end_of (items_at (pack_at l.fn.levels l.fn.bytes) l.fn.count l.fn.start) ≡ ends_at (pack_at l.fn.levels l.fn.bytes) (l.fn.count - l.counter) l.at)

abbrev pub invariant-members_end-members : goal.invariant-members_end-members
invariant-members_end-members l =
    (l.at ≤ length l.fn.bytes)
    × (end_of (members_at (pack_at l.fn.levels l.fn.bytes) l.fn.bytes l.fn.count l.fn.start) ≡ members_ends_at (pack_at l.fn.levels l.fn.bytes) l.fn.bytes (l.fn.count - l.counter) l.at)
