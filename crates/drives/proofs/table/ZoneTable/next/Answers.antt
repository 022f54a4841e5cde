use Rattle.std.proofs.Common.{◌&&◌, sym, ap, ◌∙◌}
use Rattle.std.proofs.lemmas.Bool.{not-false, not-true}
use Rattle.zoned.specs.declared.conditions.ZoneState.{ZoneState}
use Rattle.zoned.specs.Limits.{is_conventional}
use Rattle.zoned.specs.Rules.{outside}
use Rattle.drives.specs.Machine.{machine, crowded, is_opening}
use Rattle.drives.specs.Requests.{asked, operation, place}
use Rattle.drives.specs.Shapes.{lawful_table}
use Rattle.drives.specs.Table.{table_of}
use Rattle.drives.proofs.Passing.{asked_below, next_ruled, outside_ruled, read_pointer, read_state}
use Rattle.drives.proofs.table.ZoneTable.next.Goals as goal

pub returns-then-not-has : goal.returns-then-not-has
returns-then-not-has c =
    let r = (table_of c.args.self.now).told in
    sym (outside_ruled r c.args.zone.0 c.args.request (not-false (outside r.counts (asked c.args.zone.0 c.args.request)) (sym c.if-not-has.ensures)))

pub next_state-requires : goal.next_state-requires
next_state-requires c =
    let t = c.args.self.now in
    let h = not-true (outside t.geometry.counts (asked c.args.zone.0 c.args.request)) (sym c.if-not-has.ensures) in
    read_pointer t c.args.zone.0 c.index.result.now (asked_below t.geometry.counts c.args.zone.0 c.args.request h) c.index.ensures

pub returns : goal.returns
returns c =
    let t = c.args.self.now in
    let r = (table_of t).told in
    let z = c.args.zone.0 in
    let q = c.args.request in
    let h = not-true (outside t.geometry.counts (asked z q)) (sym c.if-not-has.ensures) in
    let e = read_state t z c.index.result.now (asked_below t.geometry.counts z q h) c.index.ensures in
    let sort = is_conventional r.counts z in
    c.next_state.ensures
    ∙ ap (λ full. machine sort r.counts.blocks full c.index.result.now.state.condition c.index.result.now.state.pointer (operation q) (place q)) c.is_crowded.ensures
    ∙ ap (λ (s : ZoneState). machine sort r.counts.blocks (is_opening (operation q) && crowded r) s.condition s.pointer (operation q) (place q)) (sym e)
    ∙ next_ruled r z q (lawful_table t) h
