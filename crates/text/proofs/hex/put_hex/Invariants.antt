use Rattle.std.proofs.Common.{◌≡◌, ◌+◌, ◌-◌, ◌*◌, ◌≤◌, ◌++◌, length, drop, vec_items, vec_len, vec_capacity}
use Rattle.text.specs.Hexadecimal.{hex}
use Rattle.text.proofs.hex.put_hex.Given as goal

abbrev pub invariant-loop-b : goal.invariant-loop-b
invariant-loop-b l =
    (vec_len l.out + 2 * (length l.bytes - l.b-index) ≤ vec_capacity l.out)
    × (vec_items l.initial.out ++ hex l.bytes ≡ vec_items l.out ++ hex (drop l.b-index l.bytes))
