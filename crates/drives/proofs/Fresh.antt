-- New zones keep the laws.
use Rattle.std.specs.Prelude.{◌≡◌, ℕ, zero, suc, ◌+◌, ◌-◌, ◌<◌, ◌≤◌, true, false, cond, ◌⊎◌, List, [], ◌∷◌, ◌++◌, length, map, replicate, slice_index_or, refl}
use Rattle.std.proofs.Common.{ap, ap₂, ◌∙◌, inl, inr, arith}
use Rattle.std.proofs.lemmas.List.{append-nil, length-append, length-replicate, map-append, replicate-append-replicate, get_or_append_left, get_or-append_right, get_or-replicate}
use Rattle.std.proofs.Math.Bool.{and-true}
use Rattle.std.proofs.Math.Nat.{mul-zero, zero-mul}
use Rattle.std.proofs.lemmas.List.Folds.{sum_by-replicate}
use Rattle.std.proofs.lemmas.List.Sums.{sum_by-append}
use Rattle.std.proofs.lemmas.Bool.{cases_lt, lt-ltb, le-ltb}
use Rattle.zoned.specs.declared.conditions.ZoneState.{ZoneState}
use Rattle.zoned.specs.declared.counts.Counts.{Counts}
use Rattle.zoned.specs.Conditions.{is_open}
use Rattle.zoned.specs.Limits.{fits}
use Rattle.zoned.specs.Report.{Lawful, open_count, possible_at, no_zone}
use Rattle.drives.specs.Zones.{state_of, trip_on, no_trip}
use Rattle.drives.specs.Drives.{magnetic_blocks, magnetic_fits, split_blocks, split_fits, new_states, new_zones, untripped, new_table, plain_zone, empty_zone}
use Rattle.drives.specs.Shapes.{sorts_fit}

map-replicate : {X Y : Type 0} (f : X → Y) (n : ℕ) (x : X) → map f (replicate n x) ≡ replicate n (f x)
map-replicate f zero x = refl
map-replicate f (suc n) x = ap (λ ys. f x ∷ ys) (map-replicate f n x)

-- the states and the trips of new zones
pub new_by_state : (c : Counts) → map state_of (new_zones c) ≡ new_states c
new_by_state c = map-append state_of _ _ ∙ ap₂ (λ u v. u ++ v) (map-replicate state_of c.conventional (untripped plain_zone)) (map-replicate state_of (c.zones - c.conventional) (untripped empty_zone))

pub new_by_trip : (c : Counts) → fits c ≡ true → map trip_on (new_zones c) ≡ replicate c.zones no_trip
new_by_trip c e =
    let k = sorts_fit c e in
    let m : c.conventional + (c.zones - c.conventional) ≡ c.zones = omega arith in
    map-append trip_on _ _
    ∙ ap₂ (λ u v. u ++ v) (map-replicate trip_on c.conventional (untripped plain_zone)) (map-replicate trip_on (c.zones - c.conventional) (untripped empty_zone))
    ∙ replicate-append-replicate c.conventional (c.zones - c.conventional) no_trip ∙ ap (λ n. replicate n no_trip) m

none_open : (n : ℕ) (s : ZoneState) → is_open s.condition ≡ false → open_count (replicate n s) ≡ 0
none_open n s e = sum_by-replicate (λ (x : ZoneState). cond (is_open x.condition) 1 0) n s ∙ rw e (mul-zero n)

pub fresh_lawful : (c : Counts) → fits c ≡ true → Lawful (new_table c).told
fresh_lawful c e =
    let k = sorts_fit c e in
    let a = replicate c.conventional plain_zone in
    let b = replicate (c.zones - c.conventional) empty_zone in
    let la = length-replicate c.conventional plain_zone in
    let lb = length-replicate (c.zones - c.conventional) empty_zone in
    record {
      limits = e;
      all_zones = omega (arith, length-append a b);
      states = λ z h. state z h (cases_lt z c.conventional);
      few_open = omega (arith, sum_by-append opened a b, none_open c.conventional plain_zone refl, none_open (c.zones - c.conventional) empty_zone refl);
    }
  where
    opened : ZoneState → ℕ
    opened x = cond (is_open x.condition) 1 0

    state : (z : ℕ) → z < c.zones → (z < c.conventional) ⊎ (c.conventional ≤ z) → possible_at c z (slice_index_or (new_states c) z no_zone) ≡ true
    state z h (inl k) =
        let l : z < length (replicate c.conventional plain_zone) = omega (arith, length-replicate c.conventional plain_zone) in
        rw (get_or_append_left (replicate c.conventional plain_zone) (replicate (c.zones - c.conventional) empty_zone) no_zone z l, get_or-replicate c.conventional z plain_zone no_zone k, lt-ltb z c.conventional k) refl
    state z h (inr k) =
        let l : z - c.conventional < c.zones - c.conventional = omega arith in
        rw (get_or-append_right (replicate c.conventional plain_zone) (replicate (c.zones - c.conventional) empty_zone) c.conventional z no_zone (length-replicate c.conventional plain_zone) k, get_or-replicate (c.zones - c.conventional) (z - c.conventional) empty_zone no_zone l, le-ltb z c.conventional k) refl

-- ---- areas of which the second is that of no zone

module _ (c : Counts) (area rest : List ℕ) (e : rest ≡ []) where
  no_more : c.zones - c.zones ≡ 0
  no_more = omega arith

  pub all_fits : split_fits c c.zones area rest ≡ magnetic_fits c area
  all_fits = rw (e, no_more, zero-mul c.blocks, zero-mul c.bytes) (and-true (magnetic_fits c area))

  pub all_blocks : split_blocks c c.zones area rest ≡ magnetic_blocks c area
  all_blocks = rw (e, no_more) (append-nil (magnetic_blocks c area))
