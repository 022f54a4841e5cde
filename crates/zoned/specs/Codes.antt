-- The number of each case: conditions and actions by their codes in ZBC and NVMe, refusals by ours.
use Rattle.std.specs.Prelude.{ℕ}
use Rattle.zoned.specs.declared.conditions.Condition.{Condition}
use Rattle.zoned.specs.declared.conditions.Condition.TheVariants.{Plain, Empty, Open, Closed, ReadOnly, Full, Offline}
use Rattle.zoned.specs.declared.conditions.Bad.{Bad}
use Rattle.zoned.specs.declared.conditions.Bad.TheVariants as BadAs
use Rattle.zoned.specs.declared.commands.Action.{Action}
use Rattle.zoned.specs.declared.commands.Action.TheVariants as Act
use Rattle.zoned.specs.declared.refusals.InputRefusal.{InputRefusal}
use Rattle.zoned.specs.declared.refusals.InputRefusal.TheVariants as Input
use Rattle.zoned.specs.declared.refusals.DeviceRefusal.{DeviceRefusal}
use Rattle.zoned.specs.declared.refusals.DeviceRefusal.TheVariants.{OutOfRange, OffPointer, WrongCondition, OpenLimit, Unwritten, Fault}

abbrev pub condition_code : Condition → ℕ
condition_code Plain = 0x00
condition_code Empty = 0x01
condition_code Open = 0x03
condition_code Closed = 0x04
condition_code ReadOnly = 0x0d
condition_code Full = 0x0e
condition_code Offline = 0x0f

-- the condition that a fault leaves
abbrev pub bad_condition : Bad → Condition
bad_condition BadAs.ReadOnly = ReadOnly
bad_condition BadAs.Offline = Offline

abbrev pub action_code : Action → ℕ
action_code Act.Close = 0x01
action_code Act.Finish = 0x02
action_code Act.Open = 0x03
action_code Act.Reset = 0x04

abbrev pub input_number : InputRefusal → ℕ
input_number Input.Geometry = 1
input_number Input.Length = 3
input_number Input.Zone = 4

abbrev pub device_number : DeviceRefusal → ℕ
device_number OutOfRange = 21
device_number OffPointer = 22
device_number WrongCondition = 23
device_number OpenLimit = 24
device_number Unwritten = 25
device_number Fault = 26
