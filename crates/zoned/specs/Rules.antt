-- The zone rules: which commands a device turns away, and what each command changes.
use Rattle.std.specs.Prelude.{◌≡◌, ℕ, ◌+◌, ◌<◌, Bool, true, false, cond, not, ◌&&◌, ◌||◌, List, [], ◌∷◌, length, Some, None, Ok, Err, Option, Result, ◌==◌, nat_le, slice_index_or, slice_set}
use Rattle.zoned.specs.declared.counts.Counts.{Counts}
use Rattle.zoned.specs.declared.conditions.Condition.{Condition}
use Rattle.zoned.specs.declared.conditions.Condition.TheVariants.{Plain, Empty, Open, Closed, ReadOnly, Full, Offline}
use Rattle.zoned.specs.declared.conditions.Bad.{Bad}
use Rattle.zoned.specs.declared.conditions.ZoneState.{ZoneState}
use Rattle.zoned.specs.declared.commands.Operation.{Operation}
use Rattle.zoned.specs.declared.commands.Operation.TheVariants as Op
use Rattle.zoned.specs.declared.refusals.DeviceRefusal.{DeviceRefusal}
use Rattle.zoned.specs.declared.refusals.DeviceRefusal.TheVariants.{OutOfRange, OffPointer, WrongCondition, OpenLimit, Unwritten, Fault}
use Rattle.zoned.specs.Codes.{bad_condition, device_number}
use Rattle.zoned.specs.Commands.{Command, manage, write, read, zone_of, operation_of}
use Rattle.zoned.specs.Conditions.{is_open}
use Rattle.zoned.specs.Limits.{is_conventional, between}
use Rattle.zoned.specs.Report.{Report, zone_at, open_count}

-- ---- what a device is

-- the bytes of each block, by zone and then by place
abbrev pub Blocks : Type 0
Blocks = List (List (List ℕ))

-- all that can be seen of a device
pub record Meaning : Type 0 where
  pub told : Report
  pub blocks : Blocks
  pub misused : Bool

-- The one open choice of a device. After these commands, the latest last, would this one fault in the medium if it passes the checks, and
-- into which condition?
abbrev pub Plan : Type 0
Plan = List Command → Command → Option Bad

pub record State : Type 0 where
  pub meaning : Meaning
  pub plan : Plan

abbrev pub block_at : Blocks → ℕ → ℕ → List ℕ
block_at bs z p = slice_index_or (slice_index_or bs z []) p []

abbrev pub with_block : Blocks → ℕ → ℕ → List ℕ → Blocks
with_block bs z p b = slice_set bs z (slice_set (slice_index_or bs z []) p b)

abbrev pub with_zone : Report → ℕ → ZoneState → Report
with_zone r z s = record { counts = r.counts; zones = slice_set r.zones z s }

-- there are blocks for each zone and place, of the bytes that they should have
pub record Shaped (m : Meaning) : Type 0 where
  pub by_zone : length m.blocks ≡ m.told.counts.zones
  pub by_place : (z : ℕ) → z < m.told.counts.zones → length (slice_index_or m.blocks z []) ≡ m.told.counts.blocks
  pub by_byte : (z p : ℕ) → z < m.told.counts.zones → p < m.told.counts.blocks → length (block_at m.blocks z p) ≡ m.told.counts.bytes

-- ---- why a command is turned away

-- it names a zone, a place or a length that the drive has not
abbrev pub outside : Counts → Command → Bool
outside c (manage a z) = nat_le c.zones z
outside c (write z p b) = nat_le c.zones z || (nat_le c.blocks p || not (length b == c.bytes))
outside c (read z p n) = nat_le c.zones z || (nat_le c.blocks p || not (n == c.bytes))

-- a bad zone is shut to it: an offline one to all, a read-only one to all but reads
abbrev pub shut : Condition → Operation → Bool
shut Plain o = false
shut Empty o = false
shut Open o = false
shut Closed o = false
shut ReadOnly Op.Open = true
shut ReadOnly Op.Close = true
shut ReadOnly Op.Finish = true
shut ReadOnly Op.Reset = true
shut ReadOnly Op.Write = true
shut ReadOnly Op.Read = false
shut Full o = false
shut Offline o = true

-- the conditions in which a zone takes an operation; only a conventional zone is plain, and it has nothing to open, close, finish or reset
abbrev pub takes : Condition → Operation → Bool
takes Plain Op.Open = false
takes Plain Op.Close = false
takes Plain Op.Finish = false
takes Plain Op.Reset = false
takes Plain Op.Write = true
takes Plain Op.Read = true
takes Empty Op.Open = true
takes Empty Op.Close = false
takes Empty Op.Finish = true
takes Empty Op.Reset = true
takes Empty Op.Write = false
takes Empty Op.Read = true
takes Open o = true
takes Closed Op.Open = true
takes Closed Op.Close = false
takes Closed Op.Finish = true
takes Closed Op.Reset = true
takes Closed Op.Write = false
takes Closed Op.Read = true
takes ReadOnly Op.Open = false
takes ReadOnly Op.Close = false
takes ReadOnly Op.Finish = false
takes ReadOnly Op.Reset = false
takes ReadOnly Op.Write = false
takes ReadOnly Op.Read = true
takes Full Op.Open = false
takes Full Op.Close = false
takes Full Op.Finish = false
takes Full Op.Reset = true
takes Full Op.Write = false
takes Full Op.Read = true
takes Offline o = false

-- it opens a zone that is not open
abbrev pub opens : Condition → Operation → Bool
opens k Op.Open = not (is_open k)
opens k Op.Close = false
opens k Op.Finish = false
opens k Op.Reset = false
opens k Op.Write = false
opens k Op.Read = false

-- it writes a sequential zone elsewhere than at the pointer
abbrev pub off_pointer : Report → Command → Bool
off_pointer r (manage a z) = false
off_pointer r (write z p b) = not (is_conventional r.counts z) && not (p == (zone_at r z).pointer)
off_pointer r (read z p n) = false

-- it reads a sequential zone at or past the pointer
abbrev pub unwritten : Report → Command → Bool
unwritten r (manage a z) = false
unwritten r (write z p b) = false
unwritten r (read z p n) = not (is_conventional r.counts z) && nat_le (zone_at r z).pointer p

abbrev pub when : Bool → DeviceRefusal → Option DeviceRefusal → Option DeviceRefusal
when true r o = Some r
when false r o = o

-- the first reason that holds
unfoldable pub turned_away : Report → Command → Option DeviceRefusal
turned_away r c =
    when (outside r.counts c) OutOfRange
    (when (shut (zone_at r (zone_of c)).condition (operation_of c)) Fault
    (when (not (takes (zone_at r (zone_of c)).condition (operation_of c))) WrongCondition
    (when (opens (zone_at r (zone_of c)).condition (operation_of c) && nat_le r.counts.open_limit (open_count r.zones)) OpenLimit
    (when (off_pointer r c) OffPointer
    (when (unwritten r c) Unwritten
    None)))))

-- ---- what a command changes

-- how a command ends: turned away, faulted in the medium, or accepted
pub data Verdict : Type 0 where
  turned : DeviceRefusal → Verdict
  faulted : Bad → Verdict
  accepted : Verdict

-- from why it is turned away, if it is, and the fault that it meets if it passes
abbrev pub judged : Option DeviceRefusal → Option Bad → Verdict
judged (Some r) f = turned r
judged None (Some b) = faulted b
judged None None = accepted

abbrev pub verdict : State → Command → Verdict
verdict s c = judged (turned_away s.meaning.told c) (s.plan [] c)

abbrev pub answer : Verdict → Result Unit DeviceRefusal
answer (turned r) = Err r
answer (faulted b) = Err Fault
answer accepted = Ok tt

-- a sequential zone of n blocks whose pointer has come to p
abbrev pub filled : ℕ → ℕ → ZoneState
filled n p = record { condition = cond (p == n) Full Open; pointer = p }

-- a zone of n blocks after a write; only a conventional zone is plain, and it has no pointer to move
abbrev pub advanced : ℕ → Condition → ℕ → ZoneState
advanced n Plain p = record { condition = Plain; pointer = p }
advanced n Empty p = filled n (p + 1)
advanced n Open p = filled n (p + 1)
advanced n Closed p = filled n (p + 1)
advanced n ReadOnly p = filled n (p + 1)
advanced n Full p = filled n (p + 1)
advanced n Offline p = filled n (p + 1)

-- a zone of n blocks after an operation that it accepted
abbrev pub moved : ℕ → ZoneState → Operation → ZoneState
moved n s Op.Open = record { condition = Open; pointer = s.pointer }
moved n s Op.Close = record { condition = cond (s.pointer == 0) Empty Closed; pointer = s.pointer }
moved n s Op.Finish = record { condition = Full; pointer = n }
moved n s Op.Reset = record { condition = Empty; pointer = 0 }
moved n s Op.Write = advanced n s.condition s.pointer
moved n s Op.Read = s

-- the condition after a fault: that of the plan, but offline after a read
abbrev pub fault_condition : Operation → Bad → Condition
fault_condition Op.Open b = bad_condition b
fault_condition Op.Close b = bad_condition b
fault_condition Op.Finish b = bad_condition b
fault_condition Op.Reset b = bad_condition b
fault_condition Op.Write b = bad_condition b
fault_condition Op.Read b = Offline

-- a zone after a fault keeps its pointer
abbrev pub broken : ZoneState → Operation → Bad → ZoneState
broken s o b = record { condition = fault_condition o b; pointer = s.pointer }

abbrev pub report_after : Report → Command → Verdict → Report
report_after r c (turned e) = r
report_after r c (faulted b) = with_zone r (zone_of c) (broken (zone_at r (zone_of c)) (operation_of c) b)
report_after r c accepted = with_zone r (zone_of c) (moved r.counts.blocks (zone_at r (zone_of c)) (operation_of c))

-- only an accepted write changes a block, the one written, to its bytes
abbrev pub stored : Blocks → Command → Blocks
stored bs (manage a z) = bs
stored bs (write z p b) = with_block bs z p b
stored bs (read z p n) = bs

abbrev pub blocks_after : Blocks → Command → Verdict → Blocks
blocks_after bs c (turned e) = bs
blocks_after bs c (faulted b) = bs
blocks_after bs c accepted = stored bs c

-- numbers 21 to 25, and nothing else, are misuse
abbrev pub misuse : Verdict → Bool
misuse (turned e) = between 21 25 (device_number e)
misuse (faulted b) = false
misuse accepted = false

abbrev pub meaning_after : Meaning → Command → Verdict → Meaning
meaning_after m c v = record {
  told = report_after m.told c v;
  blocks = blocks_after m.blocks c v;
  misused = m.misused || misuse v;
}

-- the device after a command
abbrev pub after : State → Command → State
after s c = record { meaning = meaning_after s.meaning c (verdict s c); plan = λ before. s.plan (c ∷ before) }

-- a command's answer, and the device after it
abbrev pub outcome : State → Command → Result Unit DeviceRefusal × State
outcome s c = (answer (verdict s c), after s c)

-- a read's buffer: the block where the read is accepted, else as it was found
abbrev pub fetched : List ℕ → List ℕ → Verdict → List ℕ
fetched block found (turned e) = found
fetched block found (faulted b) = found
fetched block found accepted = block

abbrev pub buffer_after : State → ℕ → ℕ → List ℕ → List ℕ
buffer_after s z p found = fetched (block_at s.meaning.blocks z p) found (verdict s (read z p (length found)))
