use Rattle.zoned.proofs.KeptRuns.{mark_kept}
use Rattle.zoned.proofs.laws.mark_is_kept.Goals as goal

pub returns : goal.returns
returns c = mark_kept
