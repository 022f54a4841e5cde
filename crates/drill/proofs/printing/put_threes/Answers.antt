use Rattle.std.proofs.Common.{◌++◌, vec_items, sym, ap, ◌∙◌}
use Rattle.drill.specs.Playing.{in_threes}
use Rattle.drill.proofs.Threes.{three_more}
use Rattle.drill.proofs.printing.put_threes.Goals as goal

pub loop-three-preserved : goal.loop-three-preserved
loop-three-preserved c =
    let s = c.in-Some.ensures.steps in
    let rest = c.next.new.self.rest.now in
    let more = three_more (vec_items c.loop-three.out) c.loop-three.three-iterator.rest.now c.in-Some.three.now rest s.1.0 (s.1.1 ∙ c.loop-three.invariant.0) in
    (s.0 ∙ c.loop-three.invariant.0, c.loop-three.invariant.1 ∙ more ∙ ap (λ out. out ++ in_threes rest) (sym c.in_ok-put_bytes.ensures))
