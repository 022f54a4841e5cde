-- What a request is of a command.
use Rattle.std.specs.Prelude.{ℕ, replicate}
use Rattle.zoned.specs.declared.commands.Operation.{Operation}
use Rattle.zoned.specs.declared.commands.Operation.TheVariants as Op
use Rattle.zoned.specs.Commands.{Command, manage, write, read, action_operation}
use Rattle.drives.specs.declared.machine.Request.{Request}
use Rattle.drives.specs.declared.machine.Request.TheVariants.{Manage, Write, Read}

abbrev pub operation : Request → Operation
operation (Manage a) = action_operation a
operation (Write p n) = Op.Write
operation (Read p n) = Op.Read

-- the place that it names; 0 where it names none
abbrev pub place : Request → ℕ
place (Manage a) = 0
place (Write p n) = p.0
place (Read p n) = p.0

-- the command that makes this request of zone z; of what is written only the length counts
abbrev pub asked : ℕ → Request → Command
asked z (Manage a) = manage a z
asked z (Write p n) = write z p.0 (replicate n 0)
asked z (Read p n) = read z p.0 n
