use Rattle.std.proofs.Common.{rules}
use Rattle.std.proofs.lemmas.List.Sums.{count_by_more_yes, count_by_more_no}
use Rattle.std.proofs.lemmas.List.{take_all}
use Rattle.drives.proofs.table.ZoneTable.open_zones.Goals as goal

pub loop-zone-preserved : goal.loop-zone-preserved
loop-zone-preserved c = search (rules, count_by_more_yes, count_by_more_no)

pub returns : goal.returns
returns c = search (rules, take_all)
