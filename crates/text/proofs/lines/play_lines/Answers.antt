use Rattle.std.proofs.Common.{◌≡◌, true, false, [], vec_items}
use Rattle.std.proofs.lemmas.List.{append-nil}
use Rattle.std.proofs.lemmas.Bool.{cond-true, cond-false}
use Rattle.text.specs.Pieces.{all_ended, ended_lines}
use Rattle.text.specs.Replies.{not_understood}
use Rattle.text.proofs.Cutting.{next_line_is, next_line_less, next_line_ends, no_line, no_line_ends}
use Rattle.text.proofs.lines.play_lines.Goals as goal
use Rattle.text.proofs.lines.play_lines.Goals.{then-not-is_empty+in_ok-put_refusal, else-not-is_empty}

pub loop-line-smaller : goal.loop-line-smaller
loop-line-smaller g c = next_line_less c.loop-line.left.now c.in-Some.line.now c.in-Some.rest.now c.in-Some.ensures

pub loop-line-preserved : goal.loop-line-preserved
loop-line-preserved g c =
    let left = c.loop-line.left.now in
    let line = c.in-Some.line.now in
    let rest = c.in-Some.rest.now in
    let next = next_line_is left line rest c.in-Some.ensures in
    let ends = next_line_ends left line rest c.in-Some.ensures in
    let answered = c.in_ok-answer.ensures (ended_lines rest) in
    (cc, cc)

pub returns : goal.returns
returns g c =
    let left = c.loop-line.left.now in
    let text = c.args.text.now in
    let none = no_line left c.in_default.ensures in
    let ends = no_line_ends left c.in_default.ensures in
    let quiet = g.met.P.Player.quiet c.loop-line.player in
    let all = append-nil (vec_items c.loop-line.out) in
    elim c.if-not-is_empty.branch [
      | then-not-is_empty+in_ok-put_refusal w ↦
          let rest : all_ended text ≡ false = cc in
          let tail = cond-false (all_ended text) [] not_understood rest in
          let put = w.in_ok-put_refusal.ensures in
          cc
      | else-not-is_empty w ↦
          let rest : all_ended text ≡ true = cc in
          let tail = cond-true (all_ended text) [] not_understood rest in
          cc
    ]
