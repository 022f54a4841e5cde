-- Byte areas, and the blocks that they hold.
use Rattle.std.specs.Prelude.{◌≡◌, ℕ, zero, suc, ◌*◌, ◌<◌, List, [], ◌∷◌, take, drop, vec_items}
use Rattle.zoned.specs.declared.counts.Counts.{Counts}
use Rattle.zoned.specs.Rules.{Blocks}
use Rattle.drives.specs.declared.area.Area.{Area}

-- the first k pieces of a list, of n elements each
abbrev pub pieces : {A : Type 0} → ℕ → ℕ → List A → List (List A)
pieces zero n xs = []
pieces (suc k) n xs = take n xs ∷ pieces k n (drop n xs)

-- the blocks of an area: k zones one after the other, each of n blocks of b bytes
abbrev pub blocks_in : ℕ → ℕ → ℕ → List ℕ → Blocks
blocks_in k n b area = pieces k n (pieces (k * n) b area)

abbrev pub area_blocks : Area → Blocks
area_blocks a = blocks_in a.zones a.geometry.counts.blocks a.geometry.counts.bytes (vec_items a.cells)

-- among k zones of these counts there is a block of n bytes at this zone and place
pub record HasBlock (k : ℕ) (c : Counts) (z p n : ℕ) : Type 0 where
  pub zone : z < k
  pub place : p < c.blocks
  pub bytes : n ≡ c.bytes

-- as many zones, of the same geometry
pub record SameShape (a b : Area) : Type 0 where
  pub zones : b.zones ≡ a.zones
  pub counts : b.geometry.counts ≡ a.geometry.counts
