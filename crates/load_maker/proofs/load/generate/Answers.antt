use Rattle.load_maker.proofs.Fitting.{fits}
use Rattle.load_maker.proofs.load.generate.Goals as goal

pub returns-clause-fits : goal.returns-clause-fits
returns-clause-fits c = fits c.args.seed c.args.rounds c.made.result c.requires c.made.ensures
