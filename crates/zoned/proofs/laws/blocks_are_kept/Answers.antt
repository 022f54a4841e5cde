use Rattle.zoned.proofs.KeptRuns.{blocks_kept}
use Rattle.zoned.proofs.laws.blocks_are_kept.Goals as goal

pub returns : goal.returns
returns c = blocks_kept
