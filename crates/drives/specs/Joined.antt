-- Blocks of two areas, one after the other.
use Rattle.std.specs.Prelude.{◌≡◌, ℕ, ◌-◌, ◌<◌, ◌≤◌, List, [], ◌++◌, length, get_or, set, slice_index_or, slice_set}
use Rattle.std.proofs.Common.{ap, ◌∙◌, arith}
use Rattle.std.proofs.lemmas.List.{get_or_append_left, get_or-append_right, set-append_left, set-append_right}
use Rattle.zoned.specs.Rules.{Blocks, block_at, with_block}

module _ (xs ys : Blocks) (n z p : ℕ) (l : length xs ≡ n) where
  pub block_first : z < n → block_at (xs ++ ys) z p ≡ block_at xs z p
  block_first h = let k : z < length xs = omega arith in ap (λ b. get_or b p []) (get_or_append_left xs ys [] z k)

  pub block_second : n ≤ z → block_at (xs ++ ys) z p ≡ block_at ys (z - n) p
  block_second h = ap (λ b. get_or b p []) (get_or-append_right xs ys n z [] l h)

  pub put_first : (b : List ℕ) → z < n → with_block (xs ++ ys) z p b ≡ with_block xs z p b ++ ys
  put_first b h = let k : z < length xs = omega arith in
      ap (λ u. set (xs ++ ys) z (slice_set u p b)) (get_or_append_left xs ys [] z k) ∙ set-append_left xs ys z (slice_set (slice_index_or xs z []) p b) k

  pub put_second : (b : List ℕ) → n ≤ z → with_block (xs ++ ys) z p b ≡ xs ++ with_block ys (z - n) p b
  put_second b h = ap (λ u. set (xs ++ ys) z (slice_set u p b)) (get_or-append_right xs ys n z [] l h) ∙ set-append_right xs ys n z (slice_set (slice_index_or ys (z - n) []) p b) l h
