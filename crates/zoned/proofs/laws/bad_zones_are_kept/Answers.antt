use Rattle.zoned.proofs.KeptRuns.{bad_kept}
use Rattle.zoned.proofs.laws.bad_zones_are_kept.Goals as goal

pub returns : goal.returns
returns c = bad_kept
