use Rattle.std.proofs.Common.{List, ℤ, map, subst, arith}
use Rattle.std.proofs.lemmas.List.{length-map, take_all}
use Rattle.nz_vec.specs.Primitives.{HasDivisorsOf}
use Rattle.nz_vec.proofs.SumsLemmas.{at_map}
use Rattle.nz_vec.proofs.DivisorLemmas.{divisors_nil, divisors_more, such_of_held}
use Rattle.nz_vec.proofs.entries.content.Goals as goal

pub loop-entry-init : goal.loop-entry-init
loop-entry-init g c = divisors_nil _ c.of_i64-held.ensures

pub loop-entry-preserved : goal.loop-entry-preserved
loop-entry-preserved g c =
    let int = g.T.Scalar.integer in
    divisors_more _ _ _ _ _ (omega (arith, length-map c.args.entries.now int, c.loop-entry-test.true)) (at_map int c.args.entries.now c.loop-entry.entry-index c.entry-item.result c.loop-entry-test.true c.entry-item.is) c.loop-entry.invariant c.joint_divisor-held.ensures

pub returns : goal.returns
returns g c =
    let int = g.T.Scalar.integer in
    let e = take_all c.loop-entry.entry-index (map int c.args.entries.now) (omega (arith, length-map c.args.entries.now int, c.loop-entry-test.false)) in
    such_of_held g.T.Scalar.integer g.T.Scalar.fits c.gcd.result _ _ _ c.of_i64.ensures (subst (λ (xs : List ℤ). HasDivisorsOf xs (int c.loop-entry.held)) e c.loop-entry.invariant) c.gcd.ensures.value
