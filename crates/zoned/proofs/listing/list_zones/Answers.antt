use Rattle.std.proofs.Common.{◌≡◌, ◌+◌, ◌*◌, ◌<◌, ◌≤◌, length, Ok, sym, ap, ◌∙◌, arith}
use Rattle.std.proofs.lemmas.List.{ext_get_or}
use Rattle.std.proofs.lemmas.Bool.{eq-eqb, cond-true}
use Rattle.zoned.specs.Listing.{listing}
use Rattle.zoned.proofs.Listed.{length-listed, one_zone_more}
use Rattle.zoned.proofs.listing.list_zones.Goals as goal

pub loop-z-preserved : goal.loop-z-preserved
loop-z-preserved g c =
    let r = g.R.Reporter.report c.args.reporter.now in
    let e = ap (λ n. n.zones) c.geometry-zones.ensures in
    let a = (g.met.R.Reporter.lawful c.args.reporter.now).all_zones in
    let h : c.loop-z.z < length r.zones = omega arith in
    let room : c.loop-z.z * 3 + 3 ≤ length c.loop-z.out = omega (arith, c.loop-z.invariant.0) in
    let m = one_zone_more r c.loop-z.out c.loop-z.z h room c.loop-z.invariant.1 in
    (omega (arith, c.list_zone.auto, c.loop-z.invariant.0), rw c.list_zone.ensures m)

pub returns : goal.returns
returns g c =
    let r = g.R.Reporter.report c.args.reporter.now in
    let e = ap (λ n. n.zones) c.geometry-zones.ensures in
    let a = (g.met.R.Reporter.lawful c.args.reporter.now).all_zones in
    let n : length c.loop-z.out ≡ length (listing r) = omega (arith, length-listed 0 r.zones, c.loop-z.invariant.0) in
    let same : c.loop-z.out ≡ listing r = ext_get_or 0 c.loop-z.out (listing r) n (λ k h. c.loop-z.invariant.1 k (omega (arith, c.loop-z.invariant.0))) in
    let t = eq-eqb (length c.args.out.now) (r.counts.zones * 3) (omega (arith, c.if-out-zones.false)) in
    cond-true _ _ _ t ∙ ap (λ xs. (Ok tt, xs)) (sym same)
