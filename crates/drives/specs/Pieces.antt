-- An area cut into pieces: which piece stands where, and what a write to one changes.
use Rattle.std.specs.Prelude.{◌≡◌, ℕ, zero, suc, ◌+◌, ◌-◌, ◌*◌, ◌<◌, ◌≤◌, List, [], ◌∷◌, length, get_or, take, drop, slice_index_or, slice_set, refl}
use Rattle.std.proofs.Common.{sym, ap, ap₂, subst, ◌∙◌, suc-mul, zero-mul, mul_comm, mul-le-mul_right, arith, rules}
use Rattle.std.proofs.Math.Seq.{paste, take-set-lt}
use Rattle.std.proofs.lemmas.Nat.{mul-add-lt}
use Rattle.std.proofs.lemmas.List.{places, same_lists, length-take, length-drop, drop-drop, take-set-le, drop-set-lt, drop-set-add, get_or-take, get_or-drop}
use Rattle.zoned.specs.Rules.{block_at, with_block}
use Rattle.drives.specs.Areas.{pieces, blocks_in}

-- ---- numbers of blocks

-- the block of a zone and a place is one of the k * n blocks of an area
pub block_below : (k n z p : ℕ) → z < k → p < n → z * n + p < k * n
block_below k n z p h l = let e = mul-add-lt z n p k h l in omega (arith, mul_comm k n)

pub piece_within : (k n i : ℕ) → i < k → i * n + n ≤ k * n
piece_within k n i h = let e = mul-le-mul_right n h in omega (arith, suc-mul i n)

-- ---- pieces of any list

module _ {A : Type 0} (n : ℕ) where
  pub length-pieces : (k : ℕ) (xs : List A) → length (pieces k n xs) ≡ k
  length-pieces zero xs = refl
  length-pieces (suc k) xs = ap suc (length-pieces k (drop n xs))

  pub get_or-pieces : (k : ℕ) (xs : List A) (i : ℕ) → i < k → slice_index_or (pieces k n xs) i [] ≡ take n (drop (i * n) xs)
  get_or-pieces zero xs i h = absurd (omega arith)
  get_or-pieces (suc k) xs zero h = ap (λ m. take n (drop m xs)) (sym (zero-mul n))
  get_or-pieces (suc k) xs (suc i) h =
      let e : n + i * n ≡ suc i * n = omega (arith, suc-mul i n) in
      get_or-pieces k (drop n xs) i (omega arith) ∙ ap (take n) (drop-drop (i * n) n xs) ∙ ap (λ m. take n (drop m xs)) e

  -- an element of a piece is set where it stands in the whole
  pub pieces-set : (k : ℕ) (xs : List A) (i j : ℕ) (v : A) → i < k → j < n → pieces k n (slice_set xs (i * n + j) v) ≡ slice_set (pieces k n xs) i (slice_set (slice_index_or (pieces k n xs) i []) j v)
  pieces-set zero xs i j v h l = absurd (omega arith)
  pieces-set (suc k) xs zero j v h l =
      let e : zero * n + j ≡ j = omega (arith, zero-mul n) in
      ap (λ m. pieces (suc k) n (slice_set xs m v)) e ∙ ap₂ (λ u w. u ∷ pieces k n w) (take-set-lt n xs j v l) (drop-set-lt n xs j v l)
  pieces-set (suc k) xs (suc i) j v h l =
      let e : suc i * n + j ≡ n + (i * n + j) = omega (arith, suc-mul i n) in
      let m : n ≤ n + (i * n + j) = omega arith in
      ap (λ m. pieces (suc k) n (slice_set xs m v)) e
      ∙ ap₂ (λ u w. u ∷ pieces k n w) (take-set-le n xs (n + (i * n + j)) v m) (drop-set-add n xs (i * n + j) v)
      ∙ ap (λ w. take n xs ∷ w) (pieces-set k (drop n xs) i j v (omega arith) l)

-- ---- a write over one piece of bytes

drop-paste-add : (xs bs : List ℕ) (m at : ℕ) → m + (at + length bs) ≤ length xs
    → drop m (paste xs (m + at) bs (length bs)) ≡ paste (drop m xs) at bs (length bs)
drop-paste-add xs bs m at h = same_lists _ _ (search (rules, places)) (λ k d l. grind (arith, places))

take-paste-below : (xs bs : List ℕ) (m at : ℕ) → m + (at + length bs) ≤ length xs → take m (paste xs (m + at) bs (length bs)) ≡ take m xs
take-paste-below xs bs m at h = same_lists _ _ (search (rules, places)) (λ k d l. grind (arith, places))

take-paste-here : (xs bs : List ℕ) → length bs ≤ length xs → take (length bs) (paste xs 0 bs (length bs)) ≡ bs
take-paste-here xs bs h = same_lists _ _ (search (rules, places)) (λ k d l. grind (arith, places))

drop-paste-here : (xs bs : List ℕ) → length bs ≤ length xs → drop (length bs) (paste xs 0 bs (length bs)) ≡ drop (length bs) xs
drop-paste-here xs bs h = same_lists _ _ (search (rules, places)) (λ k d l. grind (arith, places))

paste-pieces : (k : ℕ) (xs bs : List ℕ) (i : ℕ) → i < k → k * length bs ≤ length xs
    → pieces k (length bs) (paste xs (i * length bs) bs (length bs)) ≡ slice_set (pieces k (length bs) xs) i bs
paste-pieces zero xs bs i h l = absurd (omega arith)
paste-pieces (suc k) xs bs zero h l =
    let b = length bs in
    let s : b ≤ length xs = omega (arith, suc-mul k b) in
    ap (λ m. pieces (suc k) b (paste xs m bs b)) (zero-mul b)
    ∙ ap₂ (λ u v. u ∷ pieces k b v) (take-paste-here xs bs s) (drop-paste-here xs bs s)
paste-pieces (suc k) xs bs (suc i) h l =
    let b = length bs in
    let e : suc i * b ≡ b + i * b = omega (arith, suc-mul i b) in
    let w = piece_within k b i (omega arith) in
    let s : b + (i * b + b) ≤ length xs = omega (arith, suc-mul k b) in
    let n : length (drop b xs) ≡ length xs - b = length-drop b xs in
    ap (λ m. pieces (suc k) b (paste xs m bs b)) e
    ∙ ap₂ (λ u v. u ∷ pieces k b v) (take-paste-below xs bs b (i * b) s) (drop-paste-add xs bs b (i * b) s)
    ∙ ap (λ v. take b xs ∷ v) (paste-pieces k (drop b xs) bs i (omega arith) (omega (arith, suc-mul k b)))

pieces-paste : (k b : ℕ) (xs bs : List ℕ) (i : ℕ) → length bs ≡ b → i < k → k * b ≤ length xs
    → pieces k b (paste xs (i * b) bs b) ≡ slice_set (pieces k b xs) i bs
pieces-paste k b xs bs i e h l =
    subst (λ n. pieces k n (paste xs (i * n) bs n) ≡ slice_set (pieces k n xs) i bs) e
    (paste-pieces k xs bs i h (subst (λ n. k * n ≤ length xs) (sym e) l))

-- ---- the blocks of an area of k zones of n blocks of b bytes

module _ (k n b : ℕ) (area : List ℕ) (whole : length area ≡ k * n * b) where
  -- the bytes of a block, in the area
  pub block_in : (z p : ℕ) → z < k → p < n → block_at (blocks_in k n b area) z p ≡ take b (drop ((z * n + p) * b) area)
  block_in z p h l =
      let ys = pieces (k * n) b area in
      ap (λ zone. get_or zone p []) (get_or-pieces n k ys z h)
      ∙ get_or-take n (drop (z * n) ys) p [] l ∙ get_or-drop (z * n) ys p []
      ∙ get_or-pieces b (k * n) area (z * n + p) (block_below k n z p h l)

  -- a write over a block's bytes sets that block, and no other
  pub block_put : (z p : ℕ) (bs : List ℕ) → z < k → p < n → length bs ≡ b → blocks_in k n b (paste area ((z * n + p) * b) bs b) ≡ with_block (blocks_in k n b area) z p bs
  block_put z p bs h l e =
      ap (pieces k n) (pieces-paste (k * n) b area bs (z * n + p) e (block_below k n z p h l) (omega arith))
      ∙ pieces-set n k (pieces (k * n) b area) z p bs h l

  pub places_in : (z : ℕ) → z < k → length (slice_index_or (blocks_in k n b area) z []) ≡ n
  places_in z h =
      let ys = pieces (k * n) b area in
      ap length (get_or-pieces n k ys z h) ∙ simp (length-take, length-drop, length-pieces) (omega (arith, piece_within k n z h))

  pub bytes_in : (z p : ℕ) → z < k → p < n → length (block_at (blocks_in k n b area) z p) ≡ b
  bytes_in z p h l =
      ap length (block_in z p h l) ∙ simp (length-take, length-drop) (omega (arith, piece_within (k * n) b (z * n + p) (block_below k n z p h l)))
