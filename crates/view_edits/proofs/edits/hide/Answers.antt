use Rattle.live_state.specs.Live.{rows_of}
use Rattle.view_edits.proofs.There.{removed_there}
use Rattle.view_edits.proofs.edits.hide.Goals as goal

pub returns-clause-there : goal.returns-clause-there
returns-clause-there g c h = removed_there (rows_of c.args.live.now) c.as_slice.result.now c.args.members.now c.remove_all.new.self c.remove_all.ensures h
