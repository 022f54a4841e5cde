use Rattle.std.proofs.Common.{◌≡◌, ◌++◌, vec_items}
use Rattle.drill.specs.Playing.{in_threes}
use Rattle.drill.proofs.printing.put_threes.Given as goal

abbrev pub invariant-loop-three : goal.invariant-loop-three
invariant-loop-three l =
    (l.three-iterator.size ≡ 3)
    × (vec_items l.initial.out ++ in_threes l.bytes ≡ vec_items l.out ++ in_threes l.three-iterator.rest.now)
