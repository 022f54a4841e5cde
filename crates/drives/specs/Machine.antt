-- The zone machine, as a table of condition and operation.
use Rattle.std.specs.Prelude.{ℕ, ◌+◌, Bool, true, false, cond, ◌&&◌, ◌||◌, Ok, Err, Result, ◌==◌, nat_le, nat_lt}
use Rattle.zoned.specs.declared.commands.Operation.{Operation}
use Rattle.zoned.specs.declared.commands.Operation.TheVariants as Op
use Rattle.zoned.specs.declared.conditions.Condition.{Condition}
use Rattle.zoned.specs.declared.conditions.Condition.TheVariants.{Plain, Empty, Open, Closed, ReadOnly, Full, Offline}
use Rattle.zoned.specs.declared.conditions.ZoneState.{ZoneState}
use Rattle.zoned.specs.declared.refusals.DeviceRefusal.{DeviceRefusal}
use Rattle.zoned.specs.declared.refusals.DeviceRefusal.TheVariants.{OffPointer, WrongCondition, OpenLimit, Unwritten, Fault}
use Rattle.zoned.specs.Limits.{is_conventional}
use Rattle.zoned.specs.Report.{Report, zone_at, open_count}
use Rattle.zoned.specs.Rules.{filled}
use Rattle.drives.specs.declared.machine.Request.{Request}
use Rattle.drives.specs.Requests.{operation, place}

-- a zone in this condition, with this pointer
abbrev pub at : Condition → ℕ → Result ZoneState DeviceRefusal
at k q = Ok (record { condition = k; pointer = q })

-- a conventional zone is read at any place, and a sequential one below its pointer
abbrev read_at : Bool → Condition → ℕ → ℕ → Result ZoneState DeviceRefusal
read_at sort k q p = cond (sort || nat_lt p q) (at k q) (Err Unwritten)

-- What an operation at place p makes of a zone of n blocks in condition k with pointer q. sort: the zone is conventional; full: as many
-- zones are open as may be.
abbrev pub machine : Bool → ℕ → Bool → Condition → ℕ → Operation → ℕ → Result ZoneState DeviceRefusal
machine sort n full Plain q Op.Open p = Err WrongCondition
machine sort n full Plain q Op.Close p = Err WrongCondition
machine sort n full Plain q Op.Finish p = Err WrongCondition
machine sort n full Plain q Op.Reset p = Err WrongCondition
machine sort n full Plain q Op.Write p = at Plain q
machine sort n full Plain q Op.Read p = read_at sort Plain q p
machine sort n full Empty q Op.Open p = cond full (Err OpenLimit) (at Open q)
machine sort n full Empty q Op.Close p = Err WrongCondition
machine sort n full Empty q Op.Finish p = at Full n
machine sort n full Empty q Op.Reset p = at Empty 0
machine sort n full Empty q Op.Write p = Err WrongCondition
machine sort n full Empty q Op.Read p = read_at sort Empty q p
machine sort n full Open q Op.Open p = at Open q
machine sort n full Open q Op.Close p = cond (q == 0) (at Empty q) (at Closed q)
machine sort n full Open q Op.Finish p = at Full n
machine sort n full Open q Op.Reset p = at Empty 0
machine sort n full Open q Op.Write p = cond (p == q) (Ok (filled n (q + 1))) (Err OffPointer)
machine sort n full Open q Op.Read p = read_at sort Open q p
machine sort n full Closed q Op.Open p = cond full (Err OpenLimit) (at Open q)
machine sort n full Closed q Op.Close p = Err WrongCondition
machine sort n full Closed q Op.Finish p = at Full n
machine sort n full Closed q Op.Reset p = at Empty 0
machine sort n full Closed q Op.Write p = Err WrongCondition
machine sort n full Closed q Op.Read p = read_at sort Closed q p
machine sort n full ReadOnly q Op.Open p = Err Fault
machine sort n full ReadOnly q Op.Close p = Err Fault
machine sort n full ReadOnly q Op.Finish p = Err Fault
machine sort n full ReadOnly q Op.Reset p = Err Fault
machine sort n full ReadOnly q Op.Write p = Err Fault
machine sort n full ReadOnly q Op.Read p = read_at sort ReadOnly q p
machine sort n full Full q Op.Open p = Err WrongCondition
machine sort n full Full q Op.Close p = Err WrongCondition
machine sort n full Full q Op.Finish p = Err WrongCondition
machine sort n full Full q Op.Reset p = at Empty 0
machine sort n full Full q Op.Write p = Err WrongCondition
machine sort n full Full q Op.Read p = read_at sort Full q p
machine sort n full Offline q o p = Err Fault

-- as many zones are open as may be
abbrev pub crowded : Report → Bool
crowded r = nat_le r.counts.open_limit (open_count r.zones)

abbrev pub is_opening : Operation → Bool
is_opening Op.Open = true
is_opening Op.Close = false
is_opening Op.Finish = false
is_opening Op.Reset = false
is_opening Op.Write = false
is_opening Op.Read = false

-- the machine at a zone of a drive; only an opening asks how many zones are open
abbrev pub next : Report → ℕ → Request → Result ZoneState DeviceRefusal
next r z q = machine (is_conventional r.counts z) r.counts.blocks (is_opening (operation q) && crowded r) (zone_at r z).condition (zone_at r z).pointer (operation q) (place q)
