-- What precedes what: the laws of an order, and the item that it puts first.
use Rattle.std.specs.Prelude.{◌≡◌, ℕ, zero, suc, ◌<◌, Bool, true, false, cond, not, ◌⊎◌, Some, None, Option, ◌≢◌}

-- the laws of every order on numbered items
pub record Ordered {I : Type 0} (number : I → ℕ) (precedes : I → I → Bool) : Type 0 where
  pub not_itself : (x : I) → precedes x x ≡ false
  pub transitive : (x y z : I) → precedes x y ≡ true → precedes y z ≡ true → precedes x z ≡ true
  pub one_way : (x y : I) → (number x ≢ number y) → precedes x y ≡ not (precedes y x)

-- the one of two candidates that precedes the other; the first where neither does
abbrev pub better : {I : Type 0} → (I → I → Bool) → Option I → Option I → Option I
better p best None = best
better p None (Some x) = Some x
better p (Some b) (Some x) = cond (p x b) (Some x) (Some b)

-- the search over the candidates below n
abbrev pub first_below : {I : Type 0} → (I → I → Bool) → (ℕ → Option I) → ℕ → Option I
first_below p f zero = None
first_below p f (suc n) = better p (first_below p f n) (f n)

-- the candidates below n are differently numbered
abbrev pub Apart : {I : Type 0} → (I → ℕ) → (ℕ → Option I) → ℕ → Type 0
Apart {I} number f n = (j k : ℕ) (x y : I) → j < n → k < n → f j ≡ Some x → f k ≡ Some y → (j ≢ k) → number x ≢ number y

-- x is one of the candidates below n, and precedes every other
pub record First {I : Type 0} (p : I → I → Bool) (f : ℕ → Option I) (n : ℕ) (x : I) : Type 0 where
  pub place : ℕ
  pub below : place < n
  pub is_there : f place ≡ Some x
  pub before : (k : ℕ) (y : I) → k < n → f k ≡ Some y → (k ≡ place) ⊎ (p x y ≡ true)

-- what a search answers: no item where there is no candidate, else the first
abbrev pub IsFirst : {I : Type 0} → (I → I → Bool) → (ℕ → Option I) → ℕ → Option I → Type 0
IsFirst p f n None = (k : ℕ) → k < n → f k ≡ None
IsFirst p f n (Some x) = First p f n x
