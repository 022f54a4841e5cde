-- What a trip does, in commands.
use Rattle.std.specs.Prelude.{◌≡◌, ℕ, ◌+◌, Bool, true, false, cond, ◌&&◌, List, [], ◌∷◌, Some, None, Option, ◌==◌}
use Rattle.zoned.specs.declared.conditions.Bad.{Bad}
use Rattle.zoned.specs.declared.counts.Counts.{Counts}
use Rattle.zoned.specs.Commands.{Command, zone_of}
use Rattle.zoned.specs.Rules.{Verdict, turned, faulted, accepted}
use Rattle.drives.specs.declared.trips.Trip.{Trip}
use Rattle.drives.specs.Drives.{new_table}
use Rattle.drives.specs.Table.{Table, table_verdict, table_after, trip_at, plan_of}

-- the command passed the checks
abbrev pub passes : Verdict → Bool
passes (turned e) = false
passes (faulted b) = true
passes accepted = true

-- how many of these commands pass the checks at zone z
abbrev pub passing : Table → List Command → ℕ → ℕ
passing t [] z = 0
passing t (c ∷ cs) z = cond (zone_of c == z && passes (table_verdict t c)) 1 0 + passing (table_after t c) cs z

-- the fault that a command meets where k have passed at its zone since the trip was set
abbrev pub due_after : Trip → ℕ → Option Bad
due_after trip k = cond (trip.count == k + 1) (Some trip.into) None

-- a command faults exactly where it is the one that makes up the count of its zone's trip, counted among the commands that pass there
abbrev pub TripsCount : Type 0
TripsCount = (t : Table) (before : List Command) (c : Command) → plan_of t before c ≡ due_after (trip_at t.trips (zone_of c)) (passing t before (zone_of c))

-- nothing else faults: a new drive, which has no trip, never does
abbrev pub NewIsFaultless : Type 0
NewIsFaultless = (n : Counts) (before : List Command) (c : Command) → plan_of (new_table n) before c ≡ None
