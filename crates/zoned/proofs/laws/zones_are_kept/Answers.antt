use Rattle.zoned.proofs.KeptRuns.{zones_kept}
use Rattle.zoned.proofs.laws.zones_are_kept.Goals as goal

pub returns : goal.returns
returns c = zones_kept
