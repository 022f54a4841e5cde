use Rattle.std.proofs.Common.{false, length, map, ap, ◌∙◌, ap₂, arith}
use Rattle.std.proofs.lemmas.List.{length-map}
use Rattle.drives.specs.Zones.{state_of, trip_on}
use Rattle.drives.proofs.Fresh.{fresh_lawful, new_by_state, new_by_trip}
use Rattle.drives.proofs.table.ZoneTable.new.Goals as goal

pub invariant_of-result : goal.invariant_of-result
invariant_of-result c =
    let n = c.args.geometry.counts in
    let l = fresh_lawful n c.args.geometry.limits in
    let e = ap (map state_of) c.in_ok-zones.ensures ∙ new_by_state n in
    record { all_zones = omega (arith, c.in_ok-zones.zones.ok.0, length-map c.in_ok-zones.zones.items state_of, ap length e, l.all_zones); possible = rw e l.states; few_open = rw e l.few_open }

pub returns-clause-zones : goal.returns-clause-zones
returns-clause-zones c =
    let n = c.args.geometry.counts in
    ap₂ (λ ss us. record { told = record { counts = n; zones = ss }; trips = us; misused = false })
    (ap (map state_of) c.in_ok-zones.ensures ∙ new_by_state n) (ap (map trip_on) c.in_ok-zones.ensures ∙ new_by_trip n c.args.geometry.limits)
