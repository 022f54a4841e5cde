use Rattle.std.proofs.Common.{Ok, vec_items, refl, ap, ◌∙◌, arith}
use Rattle.std.proofs.lemmas.Bool.{cond-true, lt-ltb}
use Rattle.drives.specs.Shapes.{lawful_table}
use Rattle.drives.proofs.Passing.{same_states, trip_given}
use Rattle.drives.proofs.table.ZoneTable.set_trip.Goals as goal

pub invariant_of-self-2 : goal.invariant_of-self-2
invariant_of-self-2 c =
    let t = c.args.self.now in
    let e = same_states (vec_items t.zones) c.args.zone.0 c.in-Some.found.now c.args.trip c.in-Some.ensures.value in
    let l = lawful_table t in
    rw e (record { all_zones = t.all_zones; possible = l.states; few_open = l.few_open })

pub returns-clause-outcome : goal.returns-clause-outcome
returns-clause-outcome c =
    let t = c.args.self.now in
    cond-true _ _ _ (lt-ltb c.args.zone.0 t.geometry.counts.zones (omega (arith, t.all_zones, c.in-Some.ensures.variant.0 refl)))
    ∙ ap (λ u. (Ok tt, u)) (trip_given t.geometry.counts (vec_items t.zones) t.misused c.args.zone.0 c.in-Some.found.now c.args.trip c.in-Some.ensures.value)
