-- Areas of zeros hold blocks of zeros.
use Rattle.std.proofs.Common.{◌≡◌, ℕ, zero, suc, ◌+◌, ◌-◌, ◌*◌, ◌≤◌, Bool, true, false, cond, ◌&&◌, List, [], ◌∷◌, ◌++◌, replicate, refl, ap, ◌∙◌, ap₂, suc-mul, arith}
use Rattle.std.proofs.lemmas.List.{take-replicate, drop-replicate, length-replicate, replicate-append-replicate}
use Rattle.std.proofs.lemmas.Bool.Decides.{nat_tests}
use Rattle.std.proofs.lemmas.Bool.{cond-true, and_from, eq-eqb, or_left}
use Rattle.drives.specs.Areas.{pieces, blocks_in}
use Rattle.drives.specs.Drives.{taken, held, is_area, split_blocks, split_fits}
use Rattle.drives.specs.declared.kind.DriveKind.{DriveKind}
use Rattle.drives.specs.Kinds.{first_zones}
use Rattle.zoned.specs.declared.counts.Counts.{Counts}
use Rattle.zoned.specs.Limits.{within, fits, is_none, kept, none, bytes_of}
use Rattle.zoned.specs.Rules.{Blocks}
use Rattle.setup.specs.Setup.{zero_blocks}

pieces-replicate : {A : Type 0} (k n : ℕ) (x : A) → pieces k n (replicate (k * n) x) ≡ replicate k (replicate n x)
pieces-replicate zero n x = refl
pieces-replicate (suc k) n x =
    let e = suc-mul k n in
    let m : suc k * n - n ≡ k * n = omega arith in
    ap₂ (λ u v. u ∷ pieces k n v) (take-replicate n (suc k * n) x (omega arith)) (drop-replicate n (suc k * n) x ∙ ap (λ j. replicate j x) m)
    ∙ ap (λ v. replicate n x ∷ v) (pieces-replicate k n x)

-- an area of zeros of k zones
pub zeros_in : (k n b : ℕ) → blocks_in k n b (replicate (k * n * b) 0) ≡ replicate k (replicate n (replicate b 0))
zeros_in k n b = ap (pieces k n) (pieces-replicate (k * n) b 0) ∙ pieces-replicate k n (replicate b 0)

-- ---- what is made of areas that fit wherever the counts are within the limits

pick : (t fit : Bool) → (t ≡ true → fit ≡ true) → (t && fit) ≡ t
pick true fit h = h refl
pick false fit h = refl

first_within : (k : DriveKind) (c : Counts) → fits c ≡ true → first_zones k c ≤ c.zones
first_within k c e = grind (arith, nat_tests)

pub made_counts : (c : Counts) (fit : Bool) → (within c ≡ true → fit ≡ true) → taken c fit ≡ kept c
made_counts c fit h = ap (λ t. cond t c none) (pick (within c) fit h)

pub made_blocks : (c : Counts) (fit : Bool) (bs : Blocks) → (within c ≡ true → fit ≡ true) → (within c ≡ true → bs ≡ zero_blocks c) → held c fit bs ≡ zero_blocks (kept c)
made_blocks c fit bs h k = ap (λ t. cond t bs []) (pick (within c) fit h) ∙ at (within c) k
  where
    at : (t : Bool) → (t ≡ true → bs ≡ zero_blocks c) → cond t bs [] ≡ zero_blocks (cond t c none)
    at true g = g refl
    at false g = refl

-- ---- areas of zeros

pub kept_within : (c : Counts) → within c ≡ true → kept c ≡ c
kept_within c h = cond-true (within c) c none h

is_zero_area : (c : Counts) (k : ℕ) → is_area c k (replicate (bytes_of c k) 0) ≡ true
is_zero_area c k = eq-eqb _ _ (length-replicate (bytes_of c k) 0)

-- n stands for the counts kept
pub split_zeros : (k : DriveKind) (c n : Counts) (xs ys : List ℕ) → n ≡ kept c → xs ≡ replicate (bytes_of n (first_zones k n)) 0 → ys ≡ replicate (bytes_of n (n.zones - first_zones k n)) 0
    → (taken c (split_fits c (first_zones k c) xs ys) ≡ kept c) × (held c (split_fits c (first_zones k c) xs ys) (split_blocks c (first_zones k c) xs ys) ≡ zero_blocks (kept c))
split_zeros k c n xs ys e f g =
    (made_counts c (split_fits c i xs ys) fit, made_blocks c (split_fits c i xs ys) (split_blocks c i xs ys) fit zeros)
  where
    i : ℕ
    i = first_zones k c

    first : within c ≡ true → xs ≡ replicate (bytes_of c i) 0
    first h = f ∙ ap (λ m. replicate (bytes_of m (first_zones k m)) 0) (e ∙ kept_within c h)

    second : within c ≡ true → ys ≡ replicate (bytes_of c (c.zones - i)) 0
    second h = g ∙ ap (λ m. replicate (bytes_of m (m.zones - first_zones k m)) 0) (e ∙ kept_within c h)

    fit : within c ≡ true → split_fits c i xs ys ≡ true
    fit h = and_from _ _ (ap (is_area c i) (first h) ∙ is_zero_area c i) (ap (is_area c (c.zones - i)) (second h) ∙ is_zero_area c (c.zones - i))

    zeros : within c ≡ true → split_blocks c i xs ys ≡ zero_blocks c
    zeros h =
        let m : i + (c.zones - i) ≡ c.zones = omega (arith, first_within k c (or_left (within c) (is_none c) h)) in
        ap₂ (split_blocks c i) (first h) (second h)
        ∙ ap₂ (λ u v. u ++ v) (zeros_in i c.blocks c.bytes) (zeros_in (c.zones - i) c.blocks c.bytes)
        ∙ replicate-append-replicate i (c.zones - i) (replicate c.blocks (replicate c.bytes 0))
        ∙ ap (λ j. replicate j (replicate c.blocks (replicate c.bytes 0))) m
