use Rattle.hub_core.proofs.tell.tell_answer.Goals as goal

pub returns-in-NoSeat : goal.returns-in-NoSeat
returns-in-NoSeat c = rw c.in-NoSeat.is c.refuse_opening.ensures
