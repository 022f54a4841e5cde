-- Runs: lists of commands, sent one after the other.
use Rattle.std.specs.Prelude.{◌≡◌, ℕ, ◌≤◌, cond, ◌&&◌, ◌⊎◌, List, [], ◌∷◌, Err, ◌==◌}
use Rattle.zoned.specs.declared.conditions.Bad.{Bad}
use Rattle.zoned.specs.declared.commands.Operation.TheVariants as Op
use Rattle.zoned.specs.declared.refusals.DeviceRefusal.{DeviceRefusal}
use Rattle.zoned.specs.Codes.{device_number}
use Rattle.zoned.specs.Commands.{Command, manage, write, read, zone_of, operation_of}
use Rattle.zoned.specs.Rules.{State, Verdict, turned, faulted, accepted, verdict, answer, after}

-- the device after these commands
abbrev pub run : State → List Command → State
run s [] = s
run s (c ∷ cs) = run (after s c) cs

-- P holds of some command of the run and of the device that it was sent to
abbrev pub Occurs : (State → Command → Type 0) → State → List Command → Type 0
Occurs P s [] = ⊥
Occurs P s (c ∷ cs) = P s c ⊎ Occurs P (after s c) cs

-- the command is answered a number from 21 to 25
pub record Misuses (s : State) (c : Command) : Type 0 where
  pub refusal : DeviceRefusal
  pub answered : answer (verdict s c) ≡ Err refusal
  pub from_21 : 21 ≤ device_number refusal
  pub to_25 : device_number refusal ≤ 25

-- the command names this zone
abbrev pub Names : ℕ → State → Command → Type 0
Names z s c = zone_of c ≡ z

-- the command is an accepted write to this block
pub record Writes (z p : ℕ) (s : State) (c : Command) : Type 0 where
  pub bytes : List ℕ
  pub is_write : c ≡ write z p bytes
  pub is_accepted : verdict s c ≡ accepted

-- the command is a read of this zone that faulted
pub record ReadFaults (z : ℕ) (s : State) (c : Command) : Type 0 where
  pub names : zone_of c ≡ z
  pub reads : operation_of c ≡ Op.Read
  pub bad : Bad
  pub faults : verdict s c ≡ faulted bad

-- the bytes of a block after a command that was accepted
abbrev pub overwritten : Command → ℕ → ℕ → List ℕ → List ℕ
overwritten (manage a y) z p had = had
overwritten (write y q b) z p had = cond (y == z && q == p) b had
overwritten (read y q n) z p had = had

abbrev pub rewritten : Command → Verdict → ℕ → ℕ → List ℕ → List ℕ
rewritten c (turned e) z p had = had
rewritten c (faulted b) z p had = had
rewritten c accepted z p had = overwritten c z p had

-- the bytes of the last accepted write to a block in the run, or else those that it had
abbrev pub last_written : State → List Command → ℕ → ℕ → List ℕ → List ℕ
last_written s [] z p had = had
last_written s (c ∷ cs) z p had = last_written (after s c) cs z p (rewritten c (verdict s c) z p had)
