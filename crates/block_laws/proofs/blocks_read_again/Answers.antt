use Rattle.block_laws.proofs.BlocksRead.{blocks_read_again}
use Rattle.block_laws.proofs.blocks_read_again.Goals as goal

pub returns : goal.returns
returns c = blocks_read_again
