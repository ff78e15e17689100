use Rattle.lists.specs.Rising.{IsAbove}
use Rattle.state_model.specs.Rows.{number_of}
use Rattle.state_model.proofs.Rises.{still_rises}
use Rattle.state_model.proofs.rows.Rows.push.Goals as goal

pub invariant_of-self : goal.invariant_of-self
invariant_of-self c =
    let above : IsAbove number_of (number_of c.args.entry) c.self.inside.entries = rw c.self.view_is c.requires in
    still_rises number_of c.self.inside.entries _ c.args.entry _ c.self.invariant above c.push.ensures
