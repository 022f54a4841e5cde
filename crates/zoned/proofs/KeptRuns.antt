-- The laws of runs, command after command.
use Rattle.std.proofs.Common.{◌≡◌, ℕ, true, ◌&&◌, eqb, List, [], ◌∷◌, refl, ap, ◌∙◌, inl, inr, ⊎_elim, arith}
use mathlib.Core.Logic.{⊎_map}
use Rattle.std.proofs.lemmas.Bool.{cond_both}
use Rattle.std.proofs.lemmas.Bool.Decides.{nat_tests}
use Rattle.zoned.specs.Commands.{Command, manage, write, read}
use Rattle.zoned.specs.Conditions.{is_bad}
use Rattle.zoned.specs.Report.{zone_at}
use Rattle.zoned.specs.Rules.{State, Verdict, turned, faulted, accepted, verdict, after, block_at}
use Rattle.zoned.specs.Runs.{run, Occurs, Writes, rewritten, last_written}
use Rattle.zoned.specs.Laws.{Sound, LawsKept, MarkKept, BlocksKept, ZonesKept, BadKept}
use Rattle.zoned.proofs.Steps.{lawful_after, counts_after, block_after, shaped_after, other_zone, BadThen, bad_after, misuses}

pub sound_after : (s : State) (c : Command) → Sound s → Sound (after s c)
sound_after s c h = record { lawful = lawful_after s.meaning.told c (s.plan [] c) h.lawful; shaped = shaped_after s c h.shaped }

pub laws_kept : LawsKept
laws_kept s [] h = (h, refl)
laws_kept s (c ∷ cs) h = let k = laws_kept (after s c) cs (sound_after s c h) in (k.0, k.1 ∙ counts_after s.meaning.told c (verdict s c))

pub mark_kept : MarkKept
mark_kept s [] = (inl, ⊎_elim (λ e. e) (λ n. absurd n))
mark_kept s (c ∷ cs) =
    let more = mark_kept (after s c) cs in
    let here = misuses s c in
    grind arith

last_is : (s : State) (cs : List Command) (z p : ℕ) → Sound s → block_at (run s cs).meaning.blocks z p ≡ last_written s cs z p (block_at s.meaning.blocks z p)
last_is s [] z p h = refl
last_is s (c ∷ cs) z p h = last_is (after s c) cs z p (sound_after s c h) ∙ ap (last_written (after s c) cs z p) (block_after s c z p h.shaped)

-- a block changes by an accepted write to it alone
not_rewritten : (s : State) (c : Command) (z p : ℕ) (had : List ℕ) → (Writes z p s c → ⊥) → rewritten c (verdict s c) z p had ≡ had
not_rewritten s c z p had n = at c (verdict s c) refl n
  where
    at : (x : Command) (v : Verdict) → verdict s x ≡ v → (Writes z p s x → ⊥) → rewritten x v z p had ≡ had
    at x (turned e) q m = refl
    at x (faulted b) q m = refl
    at (manage a y) accepted q m = refl
    at (write y r b) accepted q m =
        cond_both (eqb y z && eqb r p) b had (λ x. x ≡ had) (λ t. absurd (m (record { bytes = b; is_write = grind (arith, nat_tests); is_accepted = q }))) (λ t. refl)
    at (read y r k) accepted q m = refl

not_written : (s : State) (cs : List Command) (z p : ℕ) (had : List ℕ) → (Occurs (Writes z p) s cs → ⊥) → last_written s cs z p had ≡ had
not_written s [] z p had n = refl
not_written s (c ∷ cs) z p had n = not_written (after s c) cs z p (rewritten c (verdict s c) z p had) (λ o. n (inr o)) ∙ not_rewritten s c z p had (λ w. n (inl w))

pub blocks_kept : BlocksKept
blocks_kept s cs z p h = record { holds_last = last_is s cs z p h; holds_old = λ n. last_is s cs z p h ∙ not_written s cs z p (block_at s.meaning.blocks z p) n }

pub zones_kept : ZonesKept
zones_kept s [] z n = refl
zones_kept s (c ∷ cs) z n = zones_kept (after s c) cs z (λ o. n (inr o)) ∙ other_zone s.meaning.told c (verdict s c) z (λ e. n (inl e))

-- a zone goes offline once: the run after that finds it no longer read-only
pub bad_kept : BadKept
bad_kept s [] z h = inl refl
bad_kept s (c ∷ cs) z h = at (bad_after s c z h) (bad_kept (after s c) cs z)
  where
    at : BadThen s (c ∷ []) z → (is_bad (zone_at (after s c).meaning.told z).condition ≡ true → BadThen (after s c) cs z) → BadThen s (c ∷ cs) z
    at (inl e) more = ⊎_map (λ f. f ∙ e) (λ w. record { was = (cc); is_now = (cc); by_a_read = inr w.by_a_read }) (more (rw e h))
    at (inr w) more =
        inr (⊎_elim
        (λ f. record { was = w.was; is_now = f ∙ w.is_now; by_a_read = ⊎_elim inl (λ n. absurd n) w.by_a_read })
        (λ v. grind arith)
        (more (rw w.is_now refl)))
