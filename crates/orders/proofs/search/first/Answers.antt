use Rattle.std.proofs.Common.{◌≡◌, ◌∙◌, sym, subst, arith, rules, tests}
use Rattle.std.specs.List.{filter_map, range_with_len, reduce}
use Rattle.std.proofs.lemmas.Iterator.{YieldsList-from_range}
use Rattle.std.proofs.lemmas.Iterator.Consumers.{YieldsList-from_filter_map}
use Rattle.orders.specs.Orders.{IsFirst}
use Rattle.orders.proofs.Chain.{chain_is, kept}
use Rattle.orders.proofs.Firsts.{first_is}
use Rattle.orders.proofs.Reduce.{reduced}
use Rattle.orders.proofs.search.first.Goals as goal

pub returns : goal.returns
returns g c =
    let p = g.O.Order.precedes c.args.order.now in
    let f = g.C.Candidates.candidate_at c.args.from.now in
    let n = g.C.Candidates.places c.args.from.now in
    let chain : c.reduce.result ≡ reduce (kept p) (filter_map f (range_with_len 0 n)) =
    reduced (kept p) _ _ _ (λ a x b q k. search (rules, tests)) c.reduce.ensures.ran
    (YieldsList-from_filter_map _ f (YieldsList-from_range 0 n n (cc) (omega arith)) c.filter_map.ensures.closure (λ x r q k. search (rules, tests))) in
    let value = chain ∙ chain_is p f n in
    record {
      value = value;
      first = λ a. subst (IsFirst p f n) (sym value) (first_is (g.O.Order.number c.args.order.now) p (g.met.O.Order.ordered c.args.order.now) f n a);
    }
