-- Where a text is cut, and what its fields and its lines then are.
use Rattle.std.proofs.Common.{◌≡◌, ℕ, zero, suc, ◌+◌, ◌<◌, Bool, true, false, cond, eqb, List, [], ◌∷◌, length, get_or, take, drop, Some, None, Option, sym, refl, ap, ◌∙◌, subst, add-one, arith}
use Rattle.std.specs.List.{AllWithin, HoldsAt}
use Rattle.std.specs.Option.{MatchOption, option_map}
use Rattle.std.proofs.lemmas.Bool.{cond-true, cond-false, cond_both, ne_eqb}
use Rattle.std.proofs.lemmas.Bool.Decides.{nat_tests}
use Rattle.text.specs.Fields.{none_left}
use Rattle.text.specs.Pieces.{before, cut_at, onto, fields, ended_lines, ends_ended, all_ended}

-- the bytes below n are not the mark
abbrev Unmarked : ℕ → List ℕ → ℕ → Type 0
Unmarked m xs n = (k : ℕ) → k < n → get_or xs k 0 ≡ m → ⊥

cut_suc : (m : ℕ) (xs : List ℕ) (i : ℕ) → i < length xs → Unmarked m xs i → get_or xs i 0 ≡ m → cut_at m xs ≡ Some (take i xs, drop (suc i) xs)
cut_suc m [] i l none is = absurd (omega arith)
cut_suc m (x ∷ xs) zero l none is = grind (arith, nat_tests)
cut_suc m (x ∷ xs) (suc i) l none is =
    let rest = cut_suc m xs i (omega arith) (λ k h. none (suc k) (omega arith)) is in
    let other = none 0 (omega arith) in
    grind (arith, nat_tests)

cut_none : (m : ℕ) (xs : List ℕ) → Unmarked m xs (length xs) → cut_at m xs ≡ None
cut_none m [] none = refl
cut_none m (x ∷ xs) none =
    let rest = cut_none m xs (λ k h. none (suc k) (omega arith)) in
    let other = none 0 (omega arith) in
    grind (arith, nat_tests)

-- the mark is first met at i, or not at all
abbrev pub FirstMark : ℕ → List ℕ → Option ℕ → Type 0
FirstMark m xs first =
    MatchOption first (AllWithin (λ x. x ≡ m → ⊥) xs 0 (length xs)) (λ i. (i < length xs) × HoldsAt (λ x. x ≡ m) xs i × AllWithin (λ x. x ≡ m → ⊥) xs 0 i)

pub cut_first : (m : ℕ) (xs : List ℕ) (first : Option ℕ) → FirstMark m xs first → cut_at m xs ≡ option_map (λ i. (take i xs, drop (i + 1) xs)) first
cut_first m xs None none = cut_none m xs (λ k h. none k 0 (omega arith) h)
cut_first m xs (Some i) at = rw add-one (cut_suc m xs i at.0 (λ k h. at.2 k 0 (omega arith) h) (at.1 0))

-- F takes a text apart at each mark, and `whole` is what it makes of a text with no mark
module _ (m : ℕ) (F whole : List ℕ → List (List ℕ))
    (none : F [] ≡ whole [])
    (more : (x : ℕ) (xs : List ℕ) → F (x ∷ xs) ≡ cond (eqb x m) ([] ∷ F xs) (onto x (F xs)))
    (grown : (x : ℕ) (xs : List ℕ) → onto x (whole xs) ≡ whole (x ∷ xs)) where
  abbrev ApartAt : List ℕ → Option (List ℕ × List ℕ) → Type 0
  ApartAt xs None = F xs ≡ whole xs
  ApartAt xs (Some p) = F xs ≡ p.0 ∷ F p.1

  later : (x : ℕ) (xs : List ℕ) (o : Option (List ℕ × List ℕ)) → F (x ∷ xs) ≡ onto x (F xs) → ApartAt xs o → ApartAt (x ∷ xs) (option_map (before x) o)
  later x xs None e h = e ∙ ap (onto x) h ∙ grown x xs
  later x xs (Some p) e h = e ∙ ap (onto x) h

  pub apart : (xs : List ℕ) → ApartAt xs (cut_at m xs)
  apart [] = none
  apart (x ∷ xs) =
      cond_both (eqb x m) (Some ([], xs)) (option_map (before x) (cut_at m xs)) (ApartAt (x ∷ xs))
      (λ t. more x xs ∙ cond-true (eqb x m) ([] ∷ F xs) (onto x (F xs)) t)
      (λ t. later x xs (cut_at m xs) (more x xs ∙ cond-false (eqb x m) ([] ∷ F xs) (onto x (F xs)) t) (apart xs))

  pub apart_some : (xs p q : List ℕ) → Some (p, q) ≡ cut_at m xs → F xs ≡ p ∷ F q
  apart_some xs p q e = subst (ApartAt xs) (sym e) (apart xs)

  pub apart_none : (xs : List ℕ) → None ≡ cut_at m xs → F xs ≡ whole xs
  apart_none xs e = subst (ApartAt xs) (sym e) (apart xs)

pub next_field_is : (xs p q : List ℕ) → Some (p, q) ≡ cut_at 32 xs → fields xs ≡ p ∷ fields q
next_field_is = apart_some 32 fields (λ xs. xs ∷ []) refl (λ x xs. refl) (λ x xs. refl)

pub last_field_is : (xs : List ℕ) → None ≡ cut_at 32 xs → fields xs ≡ xs ∷ []
last_field_is = apart_none 32 fields (λ xs. xs ∷ []) refl (λ x xs. refl) (λ x xs. refl)

pub next_line_is : (xs p q : List ℕ) → Some (p, q) ≡ cut_at 10 xs → ended_lines xs ≡ p ∷ ended_lines q
next_line_is = apart_some 10 ended_lines (λ xs. []) refl (λ x xs. refl) (λ x xs. refl)

pub no_line : (xs : List ℕ) → None ≡ cut_at 10 xs → ended_lines xs ≡ []
no_line = apart_none 10 ended_lines (λ xs. []) refl (λ x xs. refl) (λ x xs. refl)

-- a line has a field
pub field_left : (xs : List ℕ) → None ≡ none_left (fields xs)
field_left [] = refl
field_left (x ∷ xs) = grown (eqb x 32) (fields xs) (field_left xs)
  where
    grown : (t : Bool) (ws : List (List ℕ)) → None ≡ none_left ws → None ≡ none_left (cond t ([] ∷ ws) (onto x ws))
    grown true ws h = refl
    grown false [] h = h
    grown false (w ∷ ws) h = refl

-- what stands after the first byte 10 is shorter, and ends as the text does
abbrev Ends : List ℕ → Option (List ℕ × List ℕ) → Type 0
Ends xs None = ends_ended false xs ≡ false
Ends xs (Some p) = (ends_ended false xs ≡ all_ended p.1) × (length p.1 < length xs)

ends_later : (x : ℕ) (xs : List ℕ) (o : Option (List ℕ × List ℕ)) → eqb x 10 ≡ false → Ends xs o → Ends (x ∷ xs) (option_map (before x) o)
ends_later x xs None t h = ap (λ b. ends_ended b xs) t ∙ h
ends_later x xs (Some p) t h = (ap (λ b. ends_ended b xs) t ∙ h.0, omega arith)

ends : (xs : List ℕ) → Ends xs (cut_at 10 xs)
ends [] = refl
ends (x ∷ xs) =
    cond_both (eqb x 10) (Some ([], xs)) (option_map (before x) (cut_at 10 xs)) (Ends (x ∷ xs))
    (λ t. (ap (λ b. ends_ended b xs) t, omega arith))
    (λ t. ends_later x xs (cut_at 10 xs) t (ends xs))

pub next_line_less : (xs p q : List ℕ) → Some (p, q) ≡ cut_at 10 xs → length q < length xs
next_line_less xs p q e = (subst (Ends xs) (sym e) (ends xs)).1

pub next_line_ends : (xs p q : List ℕ) → Some (p, q) ≡ cut_at 10 xs → all_ended xs ≡ all_ended q
next_line_ends [] p q e = let z : ◌≡◌ {A = ℕ} 0 1 = cc in absurd (omega arith)
next_line_ends (x ∷ xs) p q e = (subst (Ends (x ∷ xs)) (sym e) (ends (x ∷ xs))).0

pub no_line_ends : (xs : List ℕ) → None ≡ cut_at 10 xs → all_ended xs ≡ eqb (length xs) 0
no_line_ends [] e = refl
no_line_ends (x ∷ xs) e = subst (Ends (x ∷ xs)) (sym e) (ends (x ∷ xs)) ∙ sym (ne_eqb (suc (length xs)) 0 (λ z. omega arith))
