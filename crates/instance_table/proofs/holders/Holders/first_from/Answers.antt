use Rattle.std.proofs.Common.{◌∙◌, ℕ, Bool, ltb, ap, of_calls, rules}
use Rattle.std.specs.List.{prefix_len}
use Rattle.std.proofs.lemmas.List.Sorted.{IsPartitionPoint-from_clause, IsPartitionedBy-ltb}
use Rattle.instance_table.proofs.HolderLaws.{ascends_up, point_is}
use Rattle.instance_table.specs.Holders.{AscendsFrom}
use Rattle.instance_table.proofs.holders.Holders.first_from.Goals as goal

pub returns-clause-value : goal.returns-clause-value
returns-clause-value c =
    let ns = c.deref.result.now in
    let up : AscendsFrom 0 ns = rw c.deref.ensures.value c.self.invariant in
    let test : ℕ → Bool = λ n. ltb n c.args.holder in
    let point = IsPartitionPoint-from_clause test ns c.partition_point.result c.partition_point.ensures.partitioned
    (IsPartitionedBy-ltb (λ n. n) ns c.args.holder (ascends_up 0 ns up)) (λ a r f k. search (rules, of_calls)) in
    point_is test ns c.partition_point.result c.partition_point.ensures.bound point ∙ ap (prefix_len test) (c.deref.ensures.value ∙ c.self.view_is)
