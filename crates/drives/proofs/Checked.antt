-- What a check of counts and areas shows where it refuses them.
use Rattle.std.proofs.Common.{◌≡◌, Bool, false, cond, ◌&&◌, [], Ok, Err, Result, arith}
use Rattle.std.proofs.lemmas.Bool.{cond-false}
use Rattle.zoned.specs.declared.counts.Counts.{Counts}
use Rattle.zoned.specs.declared.refusals.InputRefusal.{InputRefusal}
use Rattle.zoned.specs.declared.refusals.InputRefusal.TheVariants as Input
use Rattle.zoned.specs.Limits.{within, none}
use Rattle.zoned.specs.Rules.{Blocks}
use Rattle.drives.specs.declared.kind.DriveKind.{DriveKind}
use Rattle.drives.specs.Drives.{areas_checked, taken, held}
use Rattle.drives.specs.Kinds.{first_zones}

-- over the tests alone
two : (t fit : Bool) (e : InputRefusal) → ◌≡◌ {A = Result (Unit {0}) InputRefusal} (cond t (cond fit (Ok tt) (Err Input.Length)) (Err Input.Geometry)) (Err e) → (t && fit) ≡ false
two t fit e h = grind arith

pub none_taken : (c : Counts) (fit : Bool) (e : InputRefusal) → areas_checked c fit ≡ Err e → taken c fit ≡ none
none_taken c fit e h = cond-false (within c && fit) c none (two (within c) fit e h)

pub none_held : (c : Counts) (fit : Bool) (bs : Blocks) (e : InputRefusal) → areas_checked c fit ≡ Err e → held c fit bs ≡ []
none_held c fit bs e h = cond-false (within c && fit) bs [] (two (within c) fit e h)

pub none_first : (k : DriveKind) → first_zones k none ≡ 0
none_first k = grind arith
