-- The two orders of victims and the two of free zones.
use Rattle.std.specs.Prelude.{Bool, nat_lt}
use Rattle.orders.specs.Items.{victim_number, zone_number}
use Rattle.orders.specs.Keyed.{by_key}
use Rattle.orders.specs.declared.items.FreeZone.{FreeZone}
use Rattle.orders.specs.declared.items.Victim.{Victim}

-- fewest blocks to write, then lowest chunk
abbrev pub fewest : Victim → Victim → Bool
fewest = by_key (λ v. v.blocks) victim_number

-- oldest stamp, then lowest chunk
abbrev pub oldest : Victim → Victim → Bool
oldest = by_key (λ v. v.stamp) victim_number

-- lowest zone
abbrev pub lowest : FreeZone → FreeZone → Bool
lowest a b = nat_lt (zone_number a) (zone_number b)

-- fewest resets, then lowest zone
abbrev pub worn : FreeZone → FreeZone → Bool
worn = by_key (λ f. f.resets) zone_number
