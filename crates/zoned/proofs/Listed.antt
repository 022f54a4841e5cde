-- The listing, zone after zone.
use Rattle.std.proofs.Common.{◌≡◌, ℕ, zero, suc, ◌+◌, ◌*◌, ◌<◌, ◌≤◌, ◌≢◌, ◌⊎◌, List, [], ◌∷◌, length, get_or, set, sym, refl, ap, ◌∙◌, inl, inr, suc-mul, zero-add, arith}
use Rattle.std.proofs.lemmas.List.{length-set, get_or-set_same, get_or-set_other}
use Rattle.std.proofs.lemmas.Bool.{cases_lt, cases_eq}
use Rattle.zoned.specs.declared.conditions.ZoneState.{ZoneState}
use Rattle.zoned.specs.Codes.{condition_code}
use Rattle.zoned.specs.Report.{Report, zone_at, no_zone}
use Rattle.zoned.specs.Listing.{listed_from, listing, listed_at}

pub length-listed : (a : ℕ) (ss : List ZoneState) → length (listed_from a ss) ≡ length ss * 3
length-listed a [] = refl
length-listed a (s ∷ ss) = let e = length-listed (a + 1) ss in let f = suc-mul (length ss) 3 in omega arith

-- the three bytes of a zone, where they stand
pub record ToldAt (a : ℕ) (ss : List ZoneState) (k : ℕ) : Type 0 where
  pub number : get_or (listed_from a ss) (k * 3) 0 ≡ a + k
  pub code : get_or (listed_from a ss) (k * 3 + 1) 0 ≡ condition_code (get_or ss k no_zone).condition
  pub pointer : get_or (listed_from a ss) (k * 3 + 2) 0 ≡ (get_or ss k no_zone).pointer

pub told_at : (a : ℕ) (ss : List ZoneState) (k : ℕ) → k < length ss → ToldAt a ss k
told_at a [] k h = absurd (omega arith)
told_at a (s ∷ ss) zero h = record { number = omega arith; code = refl; pointer = refl }
told_at a (s ∷ ss) (suc k) h =
    let t = told_at (a + 1) ss k (omega arith) in
    let n : suc k * 3 ≡ suc (suc (suc (k * 3))) = omega arith in
    let o : suc k * 3 + 1 ≡ suc (suc (suc (k * 3 + 1))) = omega arith in
    let p : suc k * 3 + 2 ≡ suc (suc (suc (k * 3 + 2))) = omega arith in
    let m : a + 1 + k ≡ a + suc k = omega arith in
    record {
      number = ap (λ i. get_or (listed_from a (s ∷ ss)) i 0) n ∙ t.number ∙ m;
      code = ap (λ i. get_or (listed_from a (s ∷ ss)) i 0) o ∙ t.code;
      pointer = ap (λ i. get_or (listed_from a (s ∷ ss)) i 0) p ∙ t.pointer;
    }

-- the slice has the listing's bytes so far
abbrev pub SoFar : Report → List ℕ → ℕ → Type 0
SoFar r out z = (k : ℕ) → k < z * 3 → get_or out k 0 ≡ get_or (listing r) k 0

pub one_zone_more : (r : Report) (out : List ℕ) (z : ℕ) → z < length r.zones → z * 3 + 3 ≤ length out → SoFar r out z → SoFar r (listed_at r z out) (z + 1)
one_zone_more r out z h room far k l = at (cases_lt k (z * 3)) (cases_eq k (z * 3)) (cases_eq k (z * 3 + 1)) (cases_eq k (z * 3 + 2))
  where
    t : ToldAt 0 r.zones z
    t = told_at 0 r.zones z h

    code : ℕ
    code = condition_code (zone_at r z).condition

    one : List ℕ
    one = set out (z * 3) z

    two : List ℕ
    two = set one (z * 3 + 1) code

    at : (k < z * 3) ⊎ (z * 3 ≤ k) → (k ≡ z * 3) ⊎ (k ≡ z * 3 → ⊥) → (k ≡ z * 3 + 1) ⊎ (k ≡ z * 3 + 1 → ⊥) → (k ≡ z * 3 + 2) ⊎ (k ≡ z * 3 + 2 → ⊥) → get_or (listed_at r z out) k 0 ≡ get_or (listing r) k 0
    at (inl b) x y w =
        let n0 : k ≢ z * 3 = omega arith in
        let n1 : k ≢ z * 3 + 1 = omega arith in
        let n2 : k ≢ z * 3 + 2 = omega arith in
        get_or-set_other two (z * 3 + 2) k (zone_at r z).pointer 0 n2 ∙ get_or-set_other one (z * 3 + 1) k code 0 n1 ∙ get_or-set_other out (z * 3) k z 0 n0 ∙ far k b
    at (inr b) (inl x) y w =
        let n1 : k ≢ z * 3 + 1 = omega arith in
        let n2 : k ≢ z * 3 + 2 = omega arith in
        get_or-set_other two (z * 3 + 2) k (zone_at r z).pointer 0 n2 ∙ get_or-set_other one (z * 3 + 1) k code 0 n1
        ∙ ap (λ i. get_or one i 0) x ∙ get_or-set_same out (z * 3) z 0 (omega arith) ∙ sym (ap (λ i. get_or (listing r) i 0) x ∙ t.number ∙ zero-add z)
    at (inr b) (inr x) (inl y) w =
        let n2 : k ≢ z * 3 + 2 = omega arith in
        let l1 : z * 3 + 1 < length one = omega (arith, length-set out (z * 3) z) in
        get_or-set_other two (z * 3 + 2) k (zone_at r z).pointer 0 n2 ∙ ap (λ i. get_or two i 0) y ∙ get_or-set_same one (z * 3 + 1) code 0 l1
        ∙ sym (ap (λ i. get_or (listing r) i 0) y ∙ t.code)
    at (inr b) (inr x) (inr y) (inl w) =
        let l2 : z * 3 + 2 < length two = omega (arith, length-set one (z * 3 + 1) code, length-set out (z * 3) z) in
        ap (λ i. get_or (listed_at r z out) i 0) w ∙ get_or-set_same two (z * 3 + 2) (zone_at r z).pointer 0 l2 ∙ sym (ap (λ i. get_or (listing r) i 0) w ∙ t.pointer)
    at (inr b) (inr x) (inr y) (inr w) = absurd (omega arith)
