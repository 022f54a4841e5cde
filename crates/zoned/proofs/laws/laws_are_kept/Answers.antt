use Rattle.zoned.proofs.KeptRuns.{laws_kept}
use Rattle.zoned.proofs.laws.laws_are_kept.Goals as goal

pub returns : goal.returns
returns c = laws_kept
