use Rattle.intake.proofs.Blocks.{reads_longer}
use Rattle.intake.proofs.inputs.read_block.Goals as goal

pub returns-clause-content : goal.returns-clause-content
returns-clause-content g c = reads_longer _ _ _ _ _ c.read.ensures.count c.read.ensures.content
