-- The numbers of the items.
use Rattle.std.specs.Prelude.{ℕ}
use Rattle.orders.specs.declared.items.FreeZone.{FreeZone}
use Rattle.orders.specs.declared.items.Victim.{Victim}

abbrev pub victim_number : Victim → ℕ
victim_number v = v.chunk.0

abbrev pub zone_number : FreeZone → ℕ
zone_number f = f.zone.0
