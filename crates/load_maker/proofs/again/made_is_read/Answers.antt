use Rattle.load_maker.proofs.Fitting.{made_read}
use Rattle.load_maker.proofs.again.made_is_read.Goals as goal

pub returns : goal.returns
returns c = made_read
