-- The search gives the item that precedes every other.
use Rattle.std.proofs.Common.{◌≡◌, ℕ, zero, suc, ◌<◌, Bool, true, false, cond, Some, None, Option, refl, arith}
use Rattle.orders.specs.Orders.{Ordered, Apart, First, IsFirst, better, first_below}

module _ {I : Type 0} (number : I → ℕ) (p : I → I → Bool) (o : Ordered number p) (f : ℕ → Option I) where
  -- the candidate at n is the first
  newest : (n : ℕ) (x : I) → f n ≡ Some x → ((k : ℕ) (y : I) → k < n → f k ≡ Some y → p x y ≡ true) → First p f (suc n) x
  newest n x e all = record {
    place = n;
    below = omega arith;
    is_there = e;
    before = λ k y l g. grind (arith, all);
  }

  -- the first so far is still the first
  still : (n : ℕ) (b : I) → First p f n b → ((y : I) → f n ≡ Some y → p b y ≡ true) → First p f (suc n) b
  still n b h last = record {
    place = h.place;
    below = omega (arith, h.below);
    is_there = h.is_there;
    before = λ k y l g. grind (arith, h.before, last);
  }

  chosen : (n : ℕ) (b x : I) (t : Bool) → Apart number f (suc n) → f n ≡ Some x → p x b ≡ t → First p f n b → IsFirst p f (suc n) (cond t (Some x) (Some b))
  chosen n b x true a e t h = newest n x e (λ k y l g. grind (arith, h.before, o.transitive))
  chosen n b x false a e t h = still n b h (λ y g. grind (arith, o.one_way))

  one_more : (n : ℕ) (r m : Option I) → Apart number f (suc n) → f n ≡ m → IsFirst p f n r → IsFirst p f (suc n) (better p r m)
  one_more n None None a e h = λ k l. grind (arith, h)
  one_more n None (Some x) a e h = newest n x e (λ k y l g. grind (arith, h))
  one_more n (Some b) None a e h = still n b h (λ y g. cc)
  one_more n (Some b) (Some x) a e h = chosen n b x (p x b) a e refl h

  pub first_is : (n : ℕ) → Apart number f n → IsFirst p f n (first_below p f n)
  first_is zero a = λ k l. absurd (omega arith)
  first_is (suc n) a =
      one_more n (first_below p f n) (f n) a refl (first_is n (λ j k x y h l. a j k x y (omega arith) (omega arith)))
