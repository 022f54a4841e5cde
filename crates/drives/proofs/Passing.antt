-- The zone machine gives what the zone rules say, and the zones of a drive become what they say.
use Rattle.std.proofs.Common.{◌≡◌, ℕ, ◌+◌, ◌<◌, ◌≤◌, Bool, true, false, cond, not, ◌&&◌, eqb, leb, List, [], ◌∷◌, length, count_by, vec_items, get_or, map, replicate, set, Some, None, Ok, Err, Option, Result, sym, refl, ap, ◌∙◌, arith}
use Rattle.std.proofs.Math.Bool.{or-false}
use Rattle.std.proofs.lemmas.Bool.Decides.{nat_tests}
use Rattle.std.proofs.lemmas.List.{length-replicate, map-set, set-get_or, get_or-map}
use Rattle.std.proofs.lemmas.List.Sums.{sum_by-cons}
use Rattle.zoned.specs.declared.commands.Action.TheVariants as Act
use Rattle.zoned.specs.declared.commands.Operation.{Operation}
use Rattle.zoned.specs.declared.commands.Operation.TheVariants as Op
use Rattle.zoned.specs.declared.conditions.Bad.{Bad}
use Rattle.zoned.specs.declared.conditions.Condition.{Condition}
use Rattle.zoned.specs.declared.conditions.ZoneState.{ZoneState}
use Rattle.zoned.specs.declared.counts.Counts.{Counts}
use Rattle.zoned.specs.declared.refusals.DeviceRefusal.{DeviceRefusal}
use Rattle.zoned.specs.declared.refusals.DeviceRefusal.TheVariants.{OutOfRange, OffPointer, WrongCondition, OpenLimit, Unwritten, Fault}
use Rattle.zoned.specs.Commands.{Command, write, zone_of, operation_of}
use Rattle.zoned.specs.Limits.{is_conventional}
use Rattle.zoned.specs.Report.{Report, Lawful, zone_at, no_zone, possible, open_count}
use Rattle.zoned.specs.Rules.{turned_away, outside, shut, takes, opens, when, moved, judged, answer, report_after}
use Rattle.zoned.specs.Conditions.{is_open}
use Rattle.zoned.proofs.Bounds.{pointer_within}
use Rattle.zoned.proofs.Steps.{lawful_after}
use Rattle.drives.specs.declared.table.ZoneTable.{ZoneTable}
use Rattle.drives.specs.Shapes.{lawful_table}
use Rattle.drives.specs.declared.machine.Request.{Request}
use Rattle.drives.specs.declared.machine.Request.TheVariants.{Manage, Write, Read}
use Rattle.drives.specs.declared.trips.Trip.{Trip}
use Rattle.drives.specs.declared.zones.DriveZone.{DriveZone}
use Rattle.drives.specs.Drives.{with_trip}
use Rattle.drives.specs.Machine.{machine, next, crowded, is_opening}
use Rattle.drives.specs.Requests.{asked, operation, place}
use Rattle.drives.specs.Table.{Table, table_of, tabled, machined, ruled, trip_at, table_with, table_outcome}
use Rattle.drives.specs.Zones.{no_trip, due, state_of, trip_on, zone_passed}

-- ---- the machine is the table of the rules

-- a write off the pointer, a read at or past it
abbrev off : Bool → ℕ → Operation → ℕ → Bool
off sort q Op.Open p = false
off sort q Op.Close p = false
off sort q Op.Finish p = false
off sort q Op.Reset p = false
off sort q Op.Write p = not sort && not (eqb p q)
off sort q Op.Read p = false

abbrev beyond : Bool → ℕ → Operation → ℕ → Bool
beyond sort q Op.Open p = false
beyond sort q Op.Close p = false
beyond sort q Op.Finish p = false
beyond sort q Op.Reset p = false
beyond sort q Op.Write p = false
beyond sort q Op.Read p = not sort && leb q p

-- why a zone does not take an operation at a place that it has
abbrev barred : Bool → Bool → Condition → ℕ → Operation → ℕ → Option DeviceRefusal
barred sort full k q o p =
    when (shut k o) Fault
    (when (not (takes k o)) WrongCondition
    (when (opens k o && full) OpenLimit
    (when (off sort q o p) OffPointer
    (when (beyond sort q o p) Unwritten
    None))))

abbrev state : Condition → ℕ → ZoneState
state k q = record { condition = k; pointer = q }

machine_is : (sort : Bool) (n : ℕ) (full : Bool) (k : Condition) (q : ℕ) (o : Operation) (p : ℕ) → possible sort n k q ≡ true
    → machine sort n (is_opening o && full) k q o p ≡ machined (barred sort full k q o p) (moved n (state k q) o)
machine_is sort n full k q o p h = grind (arith, nat_tests)

turned_asked : (r : Report) (z : ℕ) (q : Request) → outside r.counts (asked z q) ≡ false
    → turned_away r (asked z q) ≡ barred (is_conventional r.counts z) (crowded r) (zone_at r z).condition (zone_at r z).pointer (operation q) (place q)
unfolding turned_away
turned_asked r z (Manage Act.Open) h = rw h refl
turned_asked r z (Manage Act.Close) h = rw h refl
turned_asked r z (Manage Act.Finish) h = rw h refl
turned_asked r z (Manage Act.Reset) h = rw h refl
turned_asked r z (Write p n) h = rw h refl
turned_asked r z (Read p n) h = rw h refl

pub asked_below : (c : Counts) (z : ℕ) (q : Request) → outside c (asked z q) ≡ false → z < c.zones
asked_below c z q h = grind (arith, nat_tests)

-- the machine does what the rules say
pub next_ruled : (r : Report) (z : ℕ) (q : Request) → Lawful r → outside r.counts (asked z q) ≡ false → next r z q ≡ ruled r z q
next_ruled r z q l h =
    machine_is (is_conventional r.counts z) r.counts.blocks (crowded r) (zone_at r z).condition (zone_at r z).pointer (operation q) (place q) (l.states z (asked_below r.counts z q h))
    ∙ ap (λ t. machined t (moved r.counts.blocks (zone_at r z) (operation q))) (sym (turned_asked r z q h))

-- a zone, a place or a length that the drive has not goes before everything else
pub outside_ruled : (r : Report) (z : ℕ) (q : Request) → outside r.counts (asked z q) ≡ true → ruled r z q ≡ Err OutOfRange
unfolding turned_away
outside_ruled r z q h = rw h refl

-- ---- a command that passes, and one that is turned away

machined_ok : (t : Option DeviceRefusal) (s u : ZoneState) → machined t s ≡ Ok u → (t ≡ None) × (s ≡ u)
machined_ok t s u h = (grind arith, grind arith)

machined_err : (t : Option DeviceRefusal) (s : ZoneState) (e : DeviceRefusal) → machined t s ≡ Err e → t ≡ Some e
machined_err t s e h = grind arith

pub asked_inside : (r : Report) (z : ℕ) (q : Request) (s : ZoneState) → ruled r z q ≡ Ok s → outside r.counts (asked z q) ≡ false
unfolding turned_away
asked_inside r z q s h = grind arith

-- what a command that passes leaves of the zones, of which x is the one that it names
pub record Taken (n : Counts) (zs : List DriveZone) (m : Bool) (c : Command) (z : ℕ) (after : Result Unit DeviceRefusal × DriveZone) : Type 0 where
  pub lawful : Lawful (tabled n (set zs z after.1) m).told
  pub outcome : table_outcome (tabled n zs m) c ≡ (after.0, tabled n (set zs z after.1) m)

module _ (n : Counts) (zs : List DriveZone) (m : Bool) (c : Command) (s : ZoneState) (x : DriveZone)
    (l : Lawful (tabled n zs m).told) (e : turned_away (tabled n zs m).told c ≡ None)
    (k : moved n.blocks x.state (operation_of c) ≡ s)
    (there : zone_at (tabled n zs m).told (zone_of c) ≡ x.state) (tripped : trip_at (map trip_on zs) (zone_of c) ≡ x.trip) where
  abbrev told : Report
  told = (tabled n zs m).told

  left : (f : Option Bad) → ◌≡◌ {A = Result (Unit {0}) DeviceRefusal × Table} (answer (judged None f), table_with (tabled n zs m) c (judged None f)) ((zone_passed x (operation_of c) s f).0, tabled n (set zs (zone_of c) (zone_passed x (operation_of c) s f).1) m)
  left (Some b) = rw (there, tripped, or-false m, map-set state_of, map-set trip_on) refl
  left None = rw (there, tripped, or-false m, map-set state_of, map-set trip_on, k) refl

  lawful_left : (f : Option Bad) → Lawful (report_after told c (judged None f)) → Lawful (tabled n (set zs (zone_of c) (zone_passed x (operation_of c) s f).1) m).told
  lawful_left (Some b) h = rw map-set (rw there at h)
  lawful_left None h = rw map-set (rw (there, k) at h)

  taken : Taken n zs m c (zone_of c) (zone_passed x (operation_of c) s (due x.trip))
  taken = record {
    lawful = lawful_left (due x.trip) (rw (e) at (lawful_after told c (due x.trip) l));
    outcome = rw (e, tripped) (left (due x.trip));
  }

module _ (n : Counts) (zs : List DriveZone) (m : Bool) (z : ℕ) (x : DriveZone) (i : z < length zs) (e : x ≡ get_or zs z x) where
  pub state_there : zone_at (tabled n zs m).told z ≡ x.state
  state_there = get_or-map state_of zs z x no_zone i ∙ ap state_of (sym e)

  trip_there : trip_at (map trip_on zs) z ≡ x.trip
  trip_there = get_or-map trip_on zs z x no_trip i ∙ ap trip_on (sym e)

  pub asked_taken : (q : Request) (s : ZoneState) → Lawful (tabled n zs m).told → ruled (tabled n zs m).told z q ≡ Ok s → Taken n zs m (asked z q) z (zone_passed x (operation q) s (due x.trip))
  asked_taken q s l h = at q (machined_ok _ _ s h)
    where
      at : (q : Request) → (turned_away (tabled n zs m).told (asked z q) ≡ None) × (moved n.blocks (zone_at (tabled n zs m).told z) (operation q) ≡ s)
          → Taken n zs m (asked z q) z (zone_passed x (operation q) s (due x.trip))
      at (Manage a) p = taken n zs m (asked z (Manage a)) s x l p.0 (rw state_there at p.1) state_there trip_there
      at (Write w k) p = taken n zs m (asked z (Write w k)) s x l p.0 (rw state_there at p.1) state_there trip_there
      at (Read w k) p = taken n zs m (asked z (Read w k)) s x l p.0 (rw state_there at p.1) state_there trip_there

-- of a write the zones see only how many bytes there are
pub write_alike : (t : Table) (z p : ℕ) (b : List ℕ) → table_outcome t (write z p b) ≡ table_outcome t (write z p (replicate (length b) 0))
unfolding turned_away
write_alike t z p b = grind (arith, length-replicate)

-- ---- the zones of a drive

pub named_zone : (t : ZoneTable) (z : ℕ) (q : Request) (s : ZoneState) → ruled (table_of t).told z q ≡ Ok s → z < t.zones.len
named_zone t z q s h =
    let i = asked_below t.geometry.counts z q (asked_inside (table_of t).told z q s h) in
    omega (arith, t.all_zones)

pub table_taken : (t : ZoneTable) (z : ℕ) (q : Request) (s : ZoneState) (x : DriveZone) → ruled (table_of t).told z q ≡ Ok s → x ≡ get_or (vec_items t.zones) z x
    → Taken t.geometry.counts (vec_items t.zones) t.misused (asked z q) z (zone_passed x (operation q) s (due x.trip))
table_taken t z q s x h e =
    let i = named_zone t z q s h in
    let j : z < length (vec_items t.zones) = omega (arith, t.zones.ok.0) in
    asked_taken t.geometry.counts (vec_items t.zones) t.misused z x j e q s (lawful_table t) h

-- a zone's state as it is read
pub read_pointer : (t : ZoneTable) (z : ℕ) (x : DriveZone) → z < t.geometry.counts.zones → x ≡ get_or (vec_items t.zones) z x → x.state.pointer ≤ t.geometry.counts.blocks
read_pointer t z x h e =
    let j : z < length (vec_items t.zones) = omega (arith, t.zones.ok.0, t.all_zones) in
    rw (← state_there t.geometry.counts (vec_items t.zones) t.misused z x j e) (pointer_within (table_of t).told (lawful_table t) z h)

pub read_state : (t : ZoneTable) (z : ℕ) (x : DriveZone) → z < t.geometry.counts.zones → x ≡ get_or (vec_items t.zones) z x → zone_at (table_of t).told z ≡ x.state
read_state t z x h e =
    let j : z < length (vec_items t.zones) = omega (arith, t.zones.ok.0, t.all_zones) in
    state_there t.geometry.counts (vec_items t.zones) t.misused z x j e

-- the open zones, counted among zones with trips
pub open_among : (zs : List DriveZone) → count_by (λ (z : DriveZone). is_open z.state.condition) zs ≡ open_count (map state_of zs)
open_among [] = refl
open_among (z ∷ zs) = sum_by-cons (λ (z : DriveZone). cond (is_open z.state.condition) 1 0) z zs ∙ ap (λ n. cond (is_open z.state.condition) 1 0 + n) (open_among zs) ∙ sym (sum_by-cons (λ (s : ZoneState). cond (is_open s.condition) 1 0) z.state (map state_of zs))

-- a zone that is given a trip keeps its state
pub same_states : (zs : List DriveZone) (z : ℕ) (x : DriveZone) (t : Trip) → x ≡ get_or zs z x → map state_of (set zs z (record { state = x.state; trip = t })) ≡ map state_of zs
same_states zs z x t e = map-set state_of zs z _ ∙ ap (λ y. set (map state_of zs) z (state_of y)) e ∙ sym (map-set state_of zs z (get_or zs z x)) ∙ ap (map state_of) (set-get_or zs z x)

pub trip_given : (n : Counts) (zs : List DriveZone) (m : Bool) (z : ℕ) (x : DriveZone) (t : Trip) → x ≡ get_or zs z x → with_trip (tabled n zs m) z t ≡ tabled n (set zs z (record { state = x.state; trip = t })) m
trip_given n zs m z x t e = rw (same_states zs z x t e, map-set trip_on) refl
