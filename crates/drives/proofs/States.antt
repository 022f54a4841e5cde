-- From the zones of a drive to the whole drive.
use Rattle.std.proofs.Common.{◌≡◌, ℕ, false, Ok, Err, Result, sym, ap, ◌∙◌, arith}
use Rattle.std.proofs.lemmas.Bool.Decides.{nat_tests}
use Rattle.zoned.specs.declared.commands.Action.{Action}
use Rattle.zoned.specs.declared.counts.Counts.{Counts}
use Rattle.zoned.specs.declared.refusals.DeviceRefusal.{DeviceRefusal}
use Rattle.zoned.specs.Commands.{Command, manage, read}
use Rattle.zoned.specs.Rules.{Blocks, Verdict, accepted, answer, outcome, outside, blocks_after, stored}
use Rattle.zoned.proofs.Steps.{judged_by}
use Rattle.drives.specs.Areas.{HasBlock}
use Rattle.drives.specs.Drives.{drive}
use Rattle.drives.specs.Table.{Table, table_outcome, table_verdict, trip_at}
use Rattle.drives.specs.Zones.{due}

-- a drive does what its zones do, and keeps or stores the bytes
pub drive_outcome : (t u : Table) (bs : Blocks) (c : Command) (r : Result Unit DeviceRefusal) → table_outcome t c ≡ (r, u)
    → outcome (drive t bs) c ≡ (r, drive u (blocks_after bs c (table_verdict t c)))
drive_outcome t u bs c r e = ap (λ (x : Result Unit DeviceRefusal × Table). (x.0, drive x.1 (blocks_after bs c (table_verdict t c)))) e

-- how a command ends, from its answer
pub ok_verdict : (v : Verdict) → answer v ≡ Ok tt → v ≡ accepted
ok_verdict v e = grind arith

err_blocks : (bs : Blocks) (c : Command) (v : Verdict) (e : DeviceRefusal) → answer v ≡ Err e → blocks_after bs c v ≡ bs
err_blocks bs c v e h = grind arith

-- the blocks after a command, where they are what the verdict leaves
pub drive_written : (t u : Table) (bs cs : Blocks) (c : Command) (r : Result Unit DeviceRefusal) → table_outcome t c ≡ (r, u) → cs ≡ blocks_after bs c (table_verdict t c)
    → outcome (drive t bs) c ≡ (r, drive u cs)
drive_written t u bs cs c r e b = drive_outcome t u bs c r e ∙ ap (λ x. (r, drive u x)) (sym b)

-- a command that is turned away or faults keeps the blocks
pub kept_blocks : (t u : Table) (bs : Blocks) (c : Command) (e : DeviceRefusal) → table_outcome t c ≡ (Err e, u) → blocks_after bs c (table_verdict t c) ≡ bs
kept_blocks t u bs c e h = err_blocks bs c (table_verdict t c) e (ap (λ x. x.0) h)

-- a command that is accepted stores its bytes
pub stored_blocks : (t u : Table) (bs : Blocks) (c : Command) → table_outcome t c ≡ (Ok tt, u) → blocks_after bs c (table_verdict t c) ≡ stored bs c
stored_blocks t u bs c h = ap (blocks_after bs c) (ok_verdict (table_verdict t c) (ap (λ x. x.0) h))

managed_blocks : (bs : Blocks) (a : Action) (z : ℕ) (v : Verdict) → blocks_after bs (manage a z) v ≡ bs
managed_blocks bs a z v = grind arith

pub managed_outcome : (t u : Table) (bs : Blocks) (a : Action) (z : ℕ) (r : Result Unit DeviceRefusal) → table_outcome t (manage a z) ≡ (r, u) → outcome (drive t bs) (manage a z) ≡ (r, drive u bs)
managed_outcome t u bs a z r e = drive_written t u bs bs (manage a z) r e (sym (managed_blocks bs a z (table_verdict t (manage a z))))

-- a command that is accepted names a block of the drive
pub accepted_inside : (t u : Table) (c : Command) → table_outcome t c ≡ (Ok tt, u) → outside t.told.counts c ≡ false
accepted_inside t u c h =
    judged_by t.told c (due (trip_at t.trips _)) (λ v. answer v ≡ Ok tt → outside t.told.counts c ≡ false)
    (λ e q. absurd (let z : ◌≡◌ {A = ℕ} 0 1 = cc in omega arith))
    (λ w b q. w.inside)
    (λ w q. w.inside)
    (ap (λ x. x.0) h)

pub named : (c : Counts) (z p k : ℕ) → outside c (read z p k) ≡ false → HasBlock c.zones c z p k
named c z p k h = record { zone = grind (arith, nat_tests); place = grind (arith, nat_tests); bytes = grind (arith, nat_tests) }
