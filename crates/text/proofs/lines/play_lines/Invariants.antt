use Rattle.std.proofs.Common.{◌≡◌, ◌++◌, length, vec_items}
use Rattle.text.specs.Pieces.{ended_lines, all_ended}
use Rattle.text.proofs.lines.play_lines.Given as goal

abbrev pub invariant-loop-line : goal.invariant-loop-line
invariant-loop-line g l =
    (g.P.Player.prints l.initial.player (ended_lines l.text) ≡ vec_items l.out ++ g.P.Player.prints l.player (ended_lines l.left))
    × (all_ended l.text ≡ all_ended l.left)

abbrev pub decreases-loop-line : goal.decreases-loop-line
decreases-loop-line g l = length l.left
