use Rattle.std.proofs.Common.{arith}
use Rattle.std.proofs.lemmas.List.Sorted.{IsNonDecreasingBy-from_sort}
use Rattle.instance_table.proofs.HolderLaws.{ascends_from}
use Rattle.instance_table.proofs.roomy_list.RoomyList.sort.Goals as goal

pub returns-clause-rises : goal.returns-clause-rises
returns-clause-rises c =
    let ns = c.sort_unstable.new.self.items in
    ascends_from 0 ns (λ j d l. omega arith) (IsNonDecreasingBy-from_sort (λ n. n) ns c.sort_unstable.ensures.sorted)
