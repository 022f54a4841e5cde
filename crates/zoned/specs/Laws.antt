-- The laws of runs: what holds after every list of commands, whichever of them are turned away and whichever fault.
use Rattle.std.specs.Prelude.{◌≡◌, ℕ, true, ◌⊎◌, List, Decides}
use Rattle.zoned.specs.declared.conditions.Condition.TheVariants.{ReadOnly, Offline}
use Rattle.zoned.specs.Commands.{Command}
use Rattle.zoned.specs.Conditions.{is_bad}
use Rattle.zoned.specs.Report.{Lawful, zone_at}
use Rattle.zoned.specs.Rules.{State, Shaped, block_at}
use Rattle.zoned.specs.Runs.{run, Occurs, Misuses, Names, Writes, ReadFaults, last_written}

-- the device keeps the reporter laws, and has a block of the right bytes for each zone and place
pub record Sound (s : State) : Type 0 where
  pub lawful : Lawful s.meaning.told
  pub shaped : Shaped s.meaning

-- From a sound device every list of commands leads to a sound device of the same geometry. What was sent so far is such a list, so this
-- holds after each command.
abbrev pub LawsKept : Type 0
LawsKept = (s : State) (cs : List Command) → Sound s → Sound (run s cs) × ((run s cs).meaning.told.counts ≡ s.meaning.told.counts)

-- the misuse mark is up exactly where it was up before, or some command was answered 21 to 25: so it never falls, and nothing else raises it
abbrev pub MarkKept : Type 0
MarkKept = (s : State) (cs : List Command) → Decides (run s cs).meaning.misused ((s.meaning.misused ≡ true) ⊎ Occurs Misuses s cs)

-- a block holds what the last accepted write to it wrote, and where there was none, what it held
pub record BlockKept (s : State) (cs : List Command) (z p : ℕ) : Type 0 where
  pub holds_last : block_at (run s cs).meaning.blocks z p ≡ last_written s cs z p (block_at s.meaning.blocks z p)
  pub holds_old : (Occurs (Writes z p) s cs → ⊥) → block_at (run s cs).meaning.blocks z p ≡ block_at s.meaning.blocks z p

abbrev pub BlocksKept : Type 0
BlocksKept = (s : State) (cs : List Command) (z p : ℕ) → Sound s → BlockKept s cs z p

-- the condition and the pointer of a zone stay as they are while no command names it
abbrev pub ZonesKept : Type 0
ZonesKept = (s : State) (cs : List Command) (z : ℕ) → (Occurs (Names z) s cs → ⊥) → zone_at (run s cs).meaning.told z ≡ zone_at s.meaning.told z

-- what became of a bad zone: nothing, or the fault of a read took it from read-only to offline
pub record WentOffline (s : State) (cs : List Command) (z : ℕ) : Type 0 where
  pub was : (zone_at s.meaning.told z).condition ≡ ReadOnly
  pub is_now : zone_at (run s cs).meaning.told z ≡ record { condition = Offline; pointer = (zone_at s.meaning.told z).pointer }
  pub by_a_read : Occurs (ReadFaults z) s cs

abbrev pub BadKept : Type 0
BadKept = (s : State) (cs : List Command) (z : ℕ) → is_bad (zone_at s.meaning.told z).condition ≡ true
    → (zone_at (run s cs).meaning.told z ≡ zone_at s.meaning.told z) ⊎ WentOffline s cs z
