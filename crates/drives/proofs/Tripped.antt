-- Trips count the commands that pass.
use Rattle.std.proofs.Common.{◌≡◌, ℕ, ◌+◌, ◌<◌, ◌≤◌, true, false, cond, ◌&&◌, eqb, ◌≢◌, ◌⊎◌, List, [], ◌∷◌, length, set, replicate, None, sym, refl, ap, ◌∙◌, inl, inr, zero-add, arith}
use Rattle.std.proofs.lemmas.List.{get_or-set_same, get_or-set_other, set_past, get_or_past, get_or-replicate, length-replicate}
use Rattle.std.proofs.lemmas.Bool.{and_right, cases_eq, cases_lt, eq-eqb, ne_eqb}
use Rattle.std.proofs.lemmas.Bool.Decides.{nat_tests}
use Rattle.zoned.specs.Commands.{zone_of}
use Rattle.zoned.specs.Rules.{Verdict, turned, faulted, accepted}
use Rattle.drives.specs.declared.trips.Trip.{Trip}
use Rattle.drives.specs.Drives.{new_table}
use Rattle.drives.specs.Table.{table_verdict, table_after, trip_at, trips_after}
use Rattle.drives.specs.Zones.{no_trip, worn}
use Rattle.drives.specs.Trips.{passes, passing, due_after, TripsCount, NewIsFaultless}

-- a trip of a zone that the drive has not is none, and stays so
worn_at : (ts : List Trip) (z : ℕ) → trip_at (set ts z (worn (trip_at ts z))) z ≡ worn (trip_at ts z)
worn_at ts z = at (cases_lt z (length ts))
  where
    at : (z < length ts) ⊎ (length ts ≤ z) → trip_at (set ts z (worn (trip_at ts z))) z ≡ worn (trip_at ts z)
    at (inl h) = get_or-set_same ts z (worn (trip_at ts z)) no_trip h
    at (inr h) = ap (λ us. trip_at us z) (set_past ts z (worn (trip_at ts z)) h) ∙ get_or_past ts z no_trip h ∙ sym (ap worn (get_or_past ts z no_trip h))

-- one command that passes at the zone wears the trip by one
worn_once : (trip : Trip) (k : ℕ) → due_after (worn trip) k ≡ due_after trip (1 + k)
worn_once trip k = grind (arith, nat_tests)

-- and other commands leave it
kept_trip : (trip : Trip) (k : ℕ) → due_after trip k ≡ due_after trip (0 + k)
kept_trip trip k = ap (due_after trip) (sym (zero-add k))

wears : (ts : List Trip) (y z : ℕ) (v : Verdict) (k : ℕ) → due_after (trip_at (trips_after ts y v) z) k ≡ due_after (trip_at ts z) (cond (eqb y z && passes v) 1 0 + k)
wears ts y z v k = at v (cases_eq y z)
  where
    passed : (y ≡ z) ⊎ (y ≡ z → ⊥) → due_after (trip_at (set ts y (worn (trip_at ts y))) z) k ≡ due_after (trip_at ts z) (cond (eqb y z && true) 1 0 + k)
    passed (inl e) = rw (← e, eq-eqb y y refl) (ap (λ trip. due_after trip k) (worn_at ts y) ∙ worn_once (trip_at ts y) k)
    passed (inr n) =
        let m : z ≢ y = λ e. n (sym e) in
        rw (ne_eqb y z n) (ap (λ trip. due_after trip k) (get_or-set_other ts y z (worn (trip_at ts y)) no_trip m) ∙ kept_trip (trip_at ts z) k)

    at : (v : Verdict) → (y ≡ z) ⊎ (y ≡ z → ⊥) → due_after (trip_at (trips_after ts y v) z) k ≡ due_after (trip_at ts z) (cond (eqb y z && passes v) 1 0 + k)
    at (turned r) e = rw (and_right (eqb y z) false refl) (kept_trip (trip_at ts z) k)
    at (faulted b) e = passed e
    at accepted e = passed e

pub trips_count : TripsCount
trips_count t [] c = refl
trips_count t (x ∷ xs) c = trips_count (table_after t x) xs c ∙ wears t.trips (zone_of x) (zone_of c) (table_verdict t x) (passing (table_after t x) xs (zone_of c))

no_trip_at : (k z : ℕ) → trip_at (replicate k no_trip) z ≡ no_trip
no_trip_at k z = at (cases_lt z k)
  where
    at : (z < k) ⊎ (k ≤ z) → trip_at (replicate k no_trip) z ≡ no_trip
    at (inl h) = get_or-replicate k z no_trip no_trip h
    at (inr h) = get_or_past (replicate k no_trip) z no_trip (omega (arith, length-replicate k no_trip))

never : (k : ℕ) → due_after no_trip k ≡ None
never k = grind (arith, nat_tests)

pub new_is_faultless : NewIsFaultless
new_is_faultless n before c = trips_count (new_table n) before c ∙ ap (λ trip. due_after trip (passing (new_table n) before (zone_of c))) (no_trip_at n.zones (zone_of c)) ∙ never (passing (new_table n) before (zone_of c))
