-- The commands that a device takes.
use Rattle.std.specs.Prelude.{ℕ, List}
use Rattle.zoned.specs.declared.commands.Action.{Action}
use Rattle.zoned.specs.declared.commands.Action.TheVariants as Act
use Rattle.zoned.specs.declared.commands.Operation.{Operation}
use Rattle.zoned.specs.declared.commands.Operation.TheVariants as Op

-- an action on a zone; a write of bytes at a zone and a place; a read there into a buffer of some length
pub data Command : Type 0 where
  manage : Action → ℕ → Command
  write : ℕ → ℕ → List ℕ → Command
  read : ℕ → ℕ → ℕ → Command

-- the zone that a command names
abbrev pub zone_of : Command → ℕ
zone_of (manage a z) = z
zone_of (write z p b) = z
zone_of (read z p n) = z

abbrev pub action_operation : Action → Operation
action_operation Act.Open = Op.Open
action_operation Act.Close = Op.Close
action_operation Act.Finish = Op.Finish
action_operation Act.Reset = Op.Reset

-- what a command does
abbrev pub operation_of : Command → Operation
operation_of (manage a z) = action_operation a
operation_of (write z p b) = Op.Write
operation_of (read z p n) = Op.Read
