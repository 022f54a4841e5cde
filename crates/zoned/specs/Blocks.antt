-- Where a logical block lies.
use Rattle.std.specs.Prelude.{◌≡◌, ℕ, ◌+◌, ◌*◌, ◌/◌, ◌%◌, ◌<◌, cond, Some, None, Option, nat_lt}
use Rattle.zoned.specs.declared.counts.Counts.{Counts}
use Rattle.zoned.specs.declared.numbers.Chunk.{Chunk}
use Rattle.zoned.specs.declared.numbers.Place.{Place}
use Rattle.zoned.specs.Limits.{chunk_count}

-- chunk and place of a logical block
abbrev pub located : Counts → ℕ → Option (Chunk × Place)
located c b = cond (nat_lt b (chunk_count c * c.blocks)) (Some (record { 0 = b / c.blocks }, record { 0 = b % c.blocks })) None

-- block b is the one at this place of this chunk of the volume
pub record Located (c : Counts) (b chunk place : ℕ) : Type 0 where
  pub is_block : chunk * c.blocks + place ≡ b
  pub place_below : place < c.blocks
  pub chunk_below : chunk < chunk_count c
