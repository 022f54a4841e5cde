use Rattle.std.proofs.Common.{sym}
use Rattle.drives.proofs.Passing.{table_taken, named_zone}
use Rattle.drives.proofs.table.ZoneTable.take.Goals as goal

pub index-requires : goal.index-requires
index-requires c = named_zone c.args.self.now c.args.zone.0 c.args.request c.in-Ok.next (sym c.in-Ok.ensures)

pub index_mut-requires : goal.index_mut-requires
index_mut-requires c = named_zone c.args.self.now c.args.zone.0 c.args.request c.in-Ok.next (sym c.in-Ok.ensures)

pub invariant_of-self : goal.invariant_of-self
invariant_of-self c =
    let t = c.args.self.now in
    let k = table_taken t c.args.zone.0 c.args.request c.in-Ok.next c.index.result.now (sym c.in-Ok.ensures) c.index.ensures in
    rw c.passed-answer.ensures (record { all_zones = t.all_zones; possible = k.lawful.states; few_open = k.lawful.few_open })

pub returns-in-Ok-clause-outcome : goal.returns-in-Ok-clause-outcome
returns-in-Ok-clause-outcome c =
    rw c.passed-answer.ensures (table_taken c.args.self.now c.args.zone.0 c.args.request c.in-Ok.next c.index.result.now (sym c.in-Ok.ensures) c.index.ensures).outcome
