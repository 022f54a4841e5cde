-- One command: what it has shown where it passes the checks, and what it keeps of the device.
use Rattle.std.proofs.Common.{◌≡◌, ℕ, ◌+◌, ◌<◌, ◌≤◌, Bool, true, false, cond, ◌&&◌, eqb, leb, ◌⊎◌, List, [], ◌∷◌, length, get_or, Some, None, Decides, Option, refl, ap, ◌∙◌, inl, inr, arith}
use Rattle.std.proofs.lemmas.List.{length-set, get_or-set_same, get_or-set_other, set_past, get_or_past, set-get_or}
use Rattle.std.proofs.lemmas.List.Sums.{sum_by-set}
use Rattle.std.proofs.lemmas.Bool.{cases_eq, cases_lt}
use Rattle.std.proofs.lemmas.Bool.Decides.{nat_tests}
use Rattle.zoned.specs.declared.counts.Counts.{Counts}
use Rattle.zoned.specs.declared.conditions.Condition.{Condition}
use Rattle.zoned.specs.declared.conditions.Condition.TheVariants.{ReadOnly}
use Rattle.zoned.specs.declared.conditions.Bad.{Bad}
use Rattle.zoned.specs.declared.conditions.ZoneState.{ZoneState}
use Rattle.zoned.specs.declared.commands.Operation.{Operation}
use Rattle.zoned.specs.declared.commands.Operation.TheVariants as Op
use Rattle.zoned.specs.declared.refusals.DeviceRefusal.{DeviceRefusal}
use Rattle.zoned.specs.Commands.{Command, manage, write, read, zone_of, operation_of}
use Rattle.zoned.specs.Conditions.{is_open, is_bad}
use Rattle.zoned.specs.Limits.{fits, is_conventional}
use Rattle.zoned.specs.Report.{Report, Lawful, zone_at, no_zone, open_count, possible, possible_at}
use Rattle.zoned.specs.Rules.{Blocks, Meaning, State, Shaped, block_at, with_block, with_zone, outside, shut, takes, opens, off_pointer, unwritten, turned_away}
use Rattle.zoned.specs.Rules.{Verdict, turned, faulted, accepted, judged, verdict, answer, moved, broken, report_after, stored, blocks_after, misuse, after}
use Rattle.zoned.specs.Runs.{run, Misuses, overwritten, rewritten}
use Rattle.zoned.specs.Laws.{WentOffline}

-- ---- what passes the checks

-- what a command that is not turned away has shown
pub record Passed (r : Report) (c : Command) : Type 0 where
  pub inside : outside r.counts c ≡ false
  pub not_shut : shut (zone_at r (zone_of c)).condition (operation_of c) ≡ false
  pub taken : takes (zone_at r (zone_of c)).condition (operation_of c) ≡ true
  pub few_open : (opens (zone_at r (zone_of c)).condition (operation_of c) && leb r.counts.open_limit (open_count r.zones)) ≡ false
  pub at_pointer : off_pointer r c ≡ false
  pub is_written : unwritten r c ≡ false

pub passed : (r : Report) (c : Command) → turned_away r c ≡ None → Passed r c
unfolding turned_away
passed r c e = grind arith

-- a command ends in one of three ways, and in two of them it has passed
pub judged_by : (r : Report) (c : Command) (f : Option Bad) (P : Verdict → Type 0)
    → ((e : DeviceRefusal) → P (turned e)) → (Passed r c → (b : Bad) → P (faulted b)) → (Passed r c → P accepted) → P (judged (turned_away r c) f)
judged_by r c f P t b a = at (turned_away r c) refl f
  where
    at : (o : Option DeviceRefusal) → turned_away r c ≡ o → (g : Option Bad) → P (judged o g)
    at (Some e) q g = t e
    at None q (Some k) = b (passed r c q) k
    at None q None = a (passed r c q)

pub inside_zone : (n : Counts) (c : Command) → outside n c ≡ false → zone_of c < n.zones
inside_zone n c e = grind (arith, nat_tests)

-- ---- the laws of reporters

-- a drive that has a zone has blocks in it
some_blocks : (n : Counts) (z : ℕ) → fits n ≡ true → z < n.zones → 0 < n.blocks
some_blocks n z e h = grind (arith, nat_tests)

-- what a zone adds to the number of open ones
abbrev pub opened : ZoneState → ℕ
opened s = cond (is_open s.condition) 1 0

-- A zone of n blocks, conventional or not, may go from one state into another while a zones of at most l are open: the new state is a
-- possible one, and not too many zones are open then.
pub record MayGo (t : Bool) (n a l : ℕ) (from to : ZoneState) : Type 0 where
  pub is_possible : possible t n to.condition to.pointer ≡ true
  pub few_open : a + opened to ≤ l + opened from

-- by each condition and operation: into what a fault makes of it, and into what an accepted command does
broken_may : (t : Bool) (n a l : ℕ) (s : ZoneState) (o : Operation) (b : Bad) → possible t n s.condition s.pointer ≡ true → a ≤ l
    → MayGo t n a l s (broken s o b)
broken_may t n a l s o b e h = grind (arith, nat_tests)

moved_may : (t : Bool) (n a l : ℕ) (s : ZoneState) (o : Operation) → possible t n s.condition s.pointer ≡ true → a ≤ l
    → 0 < n → takes s.condition o ≡ true → (opens s.condition o && leb l a) ≡ false → MayGo t n a l s (moved n s o)
moved_may t n a l s o e h k f g = grind (arith, nat_tests)

pub with_zone_lawful : (r : Report) (z : ℕ) (s : ZoneState) → Lawful r → z < r.counts.zones
    → MayGo (is_conventional r.counts z) r.counts.blocks (open_count r.zones) r.counts.open_limit (zone_at r z) s → Lawful (with_zone r z s)
with_zone_lawful r z s l h m =
    let inside : z < length r.zones = omega arith in
    record {
      limits = l.limits;
      all_zones = length-set r.zones z s ∙ l.all_zones;
      states = λ y k. grind (arith, get_or-set_same, get_or-set_other, cases_eq y z, l.states y k);
      few_open = omega (arith, sum_by-set opened r.zones z s no_zone inside);
    }

pub lawful_after : (r : Report) (c : Command) (f : Option Bad) → Lawful r → Lawful (report_after r c (judged (turned_away r c) f))
lawful_after r c f l =
    judged_by r c f (λ v. Lawful (report_after r c v)) (λ e. l)
    (λ w b. with_zone_lawful r (zone_of c) _ l (here w) (broken_may _ _ _ _ _ (operation_of c) b (was w) l.few_open))
    (λ w. with_zone_lawful r (zone_of c) _ l (here w)
    (moved_may _ _ _ _ _ (operation_of c) (was w) l.few_open (some_blocks r.counts (zone_of c) l.limits (here w)) w.taken w.few_open))
  where
    here : Passed r c → zone_of c < r.counts.zones
    here w = inside_zone r.counts c w.inside

    was : Passed r c → possible_at r.counts (zone_of c) (zone_at r (zone_of c)) ≡ true
    was w = l.states (zone_of c) (here w)

pub counts_after : (r : Report) (c : Command) (v : Verdict) → (report_after r c v).counts ≡ r.counts
counts_after r c v = grind arith

-- ---- the blocks

zones_after : (bs : Blocks) (c : Command) (v : Verdict) → length (blocks_after bs c v) ≡ length bs
zones_after bs c v = grind (arith, length-set)

put_places : (bs : Blocks) (z p : ℕ) (b : List ℕ) (y : ℕ) → length (get_or (with_block bs z p b) y []) ≡ length (get_or bs y [])
put_places bs z p b y = grind (arith, get_or-set_same, get_or-set_other, length-set, set_past, cases_eq y z, cases_lt z (length bs))

places_after : (bs : Blocks) (c : Command) (v : Verdict) (z : ℕ) → length (get_or (blocks_after bs c v) z []) ≡ length (get_or bs z [])
places_after bs c v z = grind (arith, put_places)

put_block : (bs : Blocks) (z p : ℕ) (b : List ℕ) (y q : ℕ) → z < length bs → p < length (get_or bs z [])
    → block_at (with_block bs z p b) y q ≡ cond (eqb z y && eqb p q) b (block_at bs y q)
put_block bs z p b y q h k = grind (arith, nat_tests, get_or-set_same, get_or-set_other, cases_eq y z, cases_eq q p)

-- a write that passes names a block of the drive, and has its length
put_stored : (m : Meaning) (c : Command) (z p : ℕ) → Shaped m → outside m.told.counts c ≡ false
    → block_at (stored m.blocks c) z p ≡ overwritten c z p (block_at m.blocks z p)
put_stored m (manage a y) z p h e = refl
put_stored m (write y q b) z p h e =
    let i : y < m.told.counts.zones = grind (arith, nat_tests) in
    let j : q < m.told.counts.blocks = grind (arith, nat_tests) in
    put_block m.blocks y q b z p (omega arith) (omega (arith, h.by_place y i))
put_stored m (read y q n) z p h e = refl

put_bytes : (n : Counts) (c : Command) (z p : ℕ) (had : List ℕ) → outside n c ≡ false → length had ≡ n.bytes → length (overwritten c z p had) ≡ n.bytes
put_bytes n c z p had e h = grind (arith, nat_tests)

-- a block after a command, and its length
pub block_after : (s : State) (c : Command) (z p : ℕ) → Shaped s.meaning
    → block_at (after s c).meaning.blocks z p ≡ rewritten c (verdict s c) z p (block_at s.meaning.blocks z p)
block_after s c z p h =
    let bs = s.meaning.blocks in
    judged_by s.meaning.told c (s.plan [] c) (λ v. block_at (blocks_after bs c v) z p ≡ rewritten c v z p (block_at bs z p))
    (λ e. refl) (λ w b. refl) (λ w. put_stored s.meaning c z p h w.inside)

bytes_after : (s : State) (c : Command) (z p : ℕ) (had : List ℕ) → length had ≡ s.meaning.told.counts.bytes
    → length (rewritten c (verdict s c) z p had) ≡ s.meaning.told.counts.bytes
bytes_after s c z p had h =
    let n = s.meaning.told.counts in
    judged_by s.meaning.told c (s.plan [] c) (λ v. length (rewritten c v z p had) ≡ n.bytes)
    (λ e. h) (λ w b. h) (λ w. put_bytes n c z p had w.inside h)

pub shaped_after : (s : State) (c : Command) → Shaped s.meaning → Shaped (after s c).meaning
shaped_after s c h =
    let v = verdict s c in
    let bs = s.meaning.blocks in
    let e = counts_after s.meaning.told c v in
    record {
      by_zone = rw e (zones_after bs c v ∙ h.by_zone);
      by_place = rw e (λ z k. places_after bs c v z ∙ h.by_place z k);
      by_byte = rw e (λ z p k l. ap length (block_after s c z p h) ∙ bytes_after s c z p (block_at bs z p) (h.by_byte z p k l));
    }

-- ---- the zones

pub other_zone : (r : Report) (c : Command) (v : Verdict) (z : ℕ) → (zone_of c ≡ z → ⊥) → zone_at (report_after r c v) z ≡ zone_at r z
other_zone r c v z n = grind (arith, get_or-set_other)

-- all that a bad zone takes: a read-only one, a read
bad_takes : (k : Condition) (o : Operation) → is_bad k ≡ true → takes k o ≡ true → (k ≡ ReadOnly) × (o ≡ Op.Read)
bad_takes k o e f = grind arith

-- a zone that the drive has not would be told as offline
told_inside : (r : Report) (z : ℕ) → (zone_at r z).condition ≡ ReadOnly → z < length r.zones
told_inside r z e = grind (arith, get_or_past, cases_lt z (length r.zones))

-- what a run makes of a bad zone
abbrev pub BadThen : State → List Command → ℕ → Type 0
BadThen s cs z = (zone_at (run s cs).meaning.told z ≡ zone_at s.meaning.told z) ⊎ WentOffline s cs z

bad_own : (s : State) (c : Command) → is_bad (zone_at s.meaning.told (zone_of c)).condition ≡ true → BadThen s (c ∷ []) (zone_of c)
bad_own s c h =
    judged_by r c (s.plan [] c) (λ v. verdict s c ≡ v → BadThen s (c ∷ []) (zone_of c))
    (λ e q. inl (grind arith))
    (λ w b q. let k = only w in let i = told_inside r (zone_of c) k.0 in
    inr (record { was = k.0; is_now = grind (arith, get_or-set_same); by_a_read = inl (record { names = refl; reads = k.1; bad = b; faults = q }) }))
    (λ w q. let k = only w in inl (grind (arith, set-get_or)))
    refl
  where
    r : Report
    r = s.meaning.told

    only : Passed r c → ((zone_at r (zone_of c)).condition ≡ ReadOnly) × (operation_of c ≡ Op.Read)
    only w = bad_takes (zone_at r (zone_of c)).condition (operation_of c) h w.taken

pub bad_after : (s : State) (c : Command) (z : ℕ) → is_bad (zone_at s.meaning.told z).condition ≡ true → BadThen s (c ∷ []) z
bad_after s c z h = at (cases_eq (zone_of c) z)
  where
    at : (zone_of c ≡ z) ⊎ (zone_of c ≡ z → ⊥) → BadThen s (c ∷ []) z
    at (inl e) = rw (← e) (bad_own s c (rw e h))
    at (inr n) = inl (other_zone s.meaning.told c (verdict s c) z n)

-- ---- the mark

pub misuses : (s : State) (c : Command) → Decides (misuse (verdict s c)) (Misuses s c)
misuses s c = at (verdict s c) refl
  where
    at : (v : Verdict) → verdict s c ≡ v → Decides (misuse v) (Misuses s c)
    at (turned e) q = (λ h. record { refusal = e; answered = ap answer q; from_21 = grind (arith, nat_tests); to_25 = grind (arith, nat_tests) }, λ m. grind (arith, nat_tests))
    at (faulted b) q = (λ h. grind arith, λ m. grind arith)
    at accepted q = (λ h. grind arith, λ m. grind arith)
