-- The chain of the search, over the places below n, gives `first_below`.
use Rattle.std.proofs.Common.{◌≡◌, ℕ, zero, suc, ◌+◌, Bool, cond, List, [], ◌∷◌, ◌++◌, Some, None, Option, refl, ap, arith}
use Rattle.std.specs.List.{cons_option, filter_map, range_with_len, reduce}
use Rattle.std.proofs.lemmas.Bool.Decides.{nat_tests}
use Rattle.std.proofs.lemmas.List.{append-nil}
use Rattle.std.proofs.lemmas.List.Elements.{filter_map-append}
use Rattle.std.proofs.lemmas.List.Sums.{fold-append}
use Rattle.orders.specs.Orders.{better, first_below}

range_more : (a n k : ℕ) → a + n ≡ k → range_with_len a (suc n) ≡ range_with_len a n ++ (k ∷ [])
range_more a zero k e = ap (λ j. j ∷ []) (omega arith)
range_more a (suc n) k e = ap (λ xs. a ∷ xs) (range_more (a + 1) n k (omega arith))

module _ {I : Type 0} (p : I → I → Bool) where
  -- the one of the two that precedes the other
  abbrev pub kept : I → I → I
  kept best item = cond (p item best) item best

  reduce_more : (xs : List I) (m : Option I) → reduce kept (xs ++ cons_option m []) ≡ better p (reduce kept xs) m
  reduce_more [] None = refl
  reduce_more [] (Some x) = refl
  reduce_more (y ∷ xs) None = grind (arith, append-nil)
  reduce_more (y ∷ xs) (Some x) = grind (arith, fold-append, nat_tests)

  pub chain_is : (f : ℕ → Option I) (n : ℕ) → reduce kept (filter_map f (range_with_len 0 n)) ≡ first_below p f n
  chain_is f zero = refl
  chain_is f (suc n) =
      let below = range_with_len 0 n in
      cc (range_more 0 n n (omega arith), filter_map-append f below (n ∷ []), reduce_more (filter_map f below) (f n), chain_is f n)
