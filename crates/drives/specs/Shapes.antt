-- A drive keeps the laws of reporters, and its blocks have its shape.
use Rattle.std.specs.Prelude.{◌≡◌, ℕ, ◌+◌, ◌-◌, ◌*◌, ◌<◌, ◌≤◌, true, ◌⊎◌, [], ◌++◌, length, vec_items, slice_index_or}
use Rattle.std.proofs.Common.{sym, refl, ap, ◌∙◌, inl, inr, arith}
use Rattle.std.proofs.lemmas.List.{length-append, length-map, get_or_append_left, get_or-append_right}
use Rattle.std.proofs.lemmas.Bool.{cases_lt}
use Rattle.std.proofs.lemmas.Bool.Decides.{nat_tests}
use Rattle.zoned.specs.declared.counts.Counts.{Counts}
use Rattle.zoned.specs.Limits.{fits}
use Rattle.zoned.specs.Report.{Lawful}
use Rattle.zoned.specs.Rules.{Blocks, Shaped, block_at}
use Rattle.drives.specs.declared.area.Area.{Area}
use Rattle.drives.specs.declared.drive.Drive.{Drive}
use Rattle.drives.specs.declared.table.ZoneTable.{ZoneTable}
use Rattle.drives.specs.Areas.{pieces, area_blocks}
use Rattle.drives.specs.Drives.{drive_state}
use Rattle.drives.specs.Table.{table_of}
use Rattle.drives.specs.Zones.{state_of}
use Rattle.drives.specs.Joined.{block_first, block_second}
use Rattle.drives.specs.Pieces.{length-pieces, places_in, bytes_in}

-- the conventional zones are not more than all
pub sorts_fit : (c : Counts) → fits c ≡ true → c.conventional ≤ c.zones
sorts_fit c e = grind (arith, nat_tests)

-- blocks of k zones of n blocks of b bytes
pub record Shape (bs : Blocks) (k n b : ℕ) : Type 0 where
  pub by_zone : length bs ≡ k
  pub by_place : (z : ℕ) → z < k → length (slice_index_or bs z []) ≡ n
  pub by_byte : (z p : ℕ) → z < k → p < n → length (block_at bs z p) ≡ b

pub zones_held : (a : Area) → length (area_blocks a) ≡ a.zones
zones_held a = length-pieces a.geometry.counts.blocks a.zones (pieces (a.zones * a.geometry.counts.blocks) a.geometry.counts.bytes (vec_items a.cells))

area_shape : (a : Area) (c : Counts) → a.geometry.counts ≡ c → Shape (area_blocks a) a.zones c.blocks c.bytes
area_shape a c e = rw (← e) (record {
  by_zone = zones_held a;
  by_place = places_in a.zones n.blocks n.bytes (vec_items a.cells) whole;
  by_byte = bytes_in a.zones n.blocks n.bytes (vec_items a.cells) whole;
})
  where
    n : Counts
    n = a.geometry.counts

    whole : length (vec_items a.cells) ≡ a.zones * n.blocks * n.bytes
    whole = sym a.cells.ok.0 ∙ a.whole

-- the same, under the names that a drive has for these numbers
pub area_shaped : (a : Area) (k n b : ℕ) → (a.zones ≡ k) × (a.geometry.counts.blocks ≡ n) × (a.geometry.counts.bytes ≡ b) → Shape (area_blocks a) k n b
area_shaped a k n b f = rw (← f.0, ← f.1, ← f.2) (area_shape a a.geometry.counts refl)

pub joined_shaped : (xs ys : Blocks) (k j n b : ℕ) → Shape xs k n b → Shape ys j n b → Shape (xs ++ ys) (k + j) n b
joined_shaped xs ys k j n b s t = record {
  by_zone = omega (arith, length-append xs ys);
  by_place = λ z h. place z h (cases_lt z k);
  by_byte = λ z p h l. byte z p h l (cases_lt z k);
}
  where
    place : (z : ℕ) → z < k + j → (z < k) ⊎ (k ≤ z) → length (slice_index_or (xs ++ ys) z []) ≡ n
    place z h (inl o) = ap length (get_or_append_left xs ys [] z (omega arith)) ∙ s.by_place z o
    place z h (inr o) = ap length (get_or-append_right xs ys k z [] s.by_zone o) ∙ t.by_place (z - k) (omega arith)

    byte : (z p : ℕ) → z < k + j → p < n → (z < k) ⊎ (k ≤ z) → length (block_at (xs ++ ys) z p) ≡ b
    byte z p h l (inl o) = ap length (block_first xs ys k z p s.by_zone o) ∙ s.by_byte z p o l
    byte z p h l (inr o) = ap length (block_second xs ys k z p s.by_zone o) ∙ t.by_byte (z - k) p (omega arith) l

pub drive_shaped : (d : Drive) → Shaped (drive_state d).meaning
drive_shaped d =
    let c = d.zones.geometry.counts in
    let j = joined_shaped (area_blocks d.first) (area_blocks d.rest) d.first.zones d.rest.zones c.blocks c.bytes (area_shape d.first c d.first_fits) (area_shape d.rest c d.rest_fits) in
    let e = d.all_zones in
    record { by_zone = rw e at j.by_zone; by_place = rw e at j.by_place; by_byte = rw e at j.by_byte }

-- the zones of a drive keep the reporter laws
pub lawful_table : (t : ZoneTable) → Lawful (table_of t).told
lawful_table t = record {
  limits = t.geometry.limits;
  all_zones = length-map (vec_items t.zones) state_of ∙ sym t.zones.ok.0 ∙ t.all_zones;
  states = t.possible;
  few_open = t.few_open;
}
