use Rattle.std.proofs.Common.{◌≡◌, ◌+◌, Some, None, rules, tests}
use Rattle.std.proofs.lemmas.Iterator.{IsFirst-from_position, YieldsList-from_slice}
use Rattle.std.proofs.lemmas.List.{take_rest}
use Rattle.text.proofs.Cutting.{cut_first}
use Rattle.text.proofs.cut.cut.Goals as goal

pub returns-in_err-i : goal.returns-in_err-i
returns-in_err-i c =
    let m = c.args.mark in
    let xs = c.args.text.now in
    let first = IsFirst-from_position _ _ None (λ x. x ≡ m) (λ x. x ≡ m → ⊥) c.in_err-i.ensures.ran (YieldsList-from_slice xs c.iter.ensures.rest) (λ x q k. search (rules, tests)) (λ x q k. search (rules, tests)) in
    let e = cut_first m xs None first in
    search rules

pub returns : goal.returns
returns c =
    let m = c.args.mark in
    let xs = c.args.text.now in
    let i = c.in_ok-i.i in
    let first = IsFirst-from_position _ _ (Some i) (λ x. x ≡ m) (λ x. x ≡ m → ⊥) c.in_ok-i.ensures.ran (YieldsList-from_slice xs c.iter.ensures.rest) (λ x q k. search (rules, tests)) (λ x q k. search (rules, tests)) in
    let e = cut_first m xs (Some i) first in
    let rest = take_rest xs (i + 1) in
    cc
