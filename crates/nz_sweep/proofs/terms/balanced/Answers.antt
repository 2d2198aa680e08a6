use Rattle.std.proofs.Common.{◌≡◌, ◌+ℤ◌, map, sym, ap, subst, arith}
use Rattle.nz_linear.proofs.Ring.{sums}
use Rattle.nz_sweep.specs.Terms.{total}
use Rattle.nz_sweep.proofs.TermLemmas.{taken_terms, taken_sum, taken_fewer, taken_unfit}
use Rattle.nz_sweep.proofs.terms.balanced.Goals as goal

pub terms-init : goal.terms-init
terms-init g c = let e = c.of_i64-sum.ensures in (c.requires, omega (arith, sums, e), subst g.T.Scalar.fits (sym e) g.met.T.Scalar.room.zero_fits)

pub terms-preserved : goal.terms-preserved
terms-preserved g c =
    let Z = g.T.Scalar.integer in (
      taken_terms g.T.Scalar.fits (Z c.terms.sum) (Z c.in-Some.term) (map Z c.terms.above.items) (map Z c.terms.below.items) (map Z c.next.new.above.items) (map Z c.next.new.below.items) c.terms.invariant.0 c.in-Some.ensures,
      taken_sum (Z c.terms.sum) (Z c.in-Some.term) (Z c.in-Some-try_add.sum) _ (map Z c.terms.above.items) (map Z c.terms.below.items) (map Z c.next.new.above.items) (map Z c.next.new.below.items) c.in-Some.ensures c.terms.invariant.1 c.in-Some-try_add.ensures.1,
      subst g.T.Scalar.fits (sym c.in-Some-try_add.ensures.1) c.in-Some-try_add.ensures.0,
    )

pub terms-smaller : goal.terms-smaller
terms-smaller g c =
    let Z = g.T.Scalar.integer in
    taken_fewer (Z c.terms.sum) (Z c.in-Some.term) (map Z c.terms.above.items) (map Z c.terms.below.items) (map Z c.next.new.above.items) (map Z c.next.new.below.items) c.in-Some.ensures

pub returns-in-None : goal.returns-in-None
returns-in-None g c =
    let Z = g.T.Scalar.integer in
    let a = ap (λ us. total (map g.T.Scalar.integer us)) c.in-None.ensures.0 in
    let b = ap (λ us. total (map g.T.Scalar.integer us)) c.in-None.ensures.1 in
    let e = c.terms.invariant.1 in
    let same : Z c.terms.sum ≡ total (map Z c.args.above.items) +ℤ total (map Z c.args.below.items) = omega (arith, sums, a, b, e) in
    (subst g.T.Scalar.fits same c.terms.invariant.2, same)

pub returns-in-None-try_add : goal.returns-in-None-try_add
returns-in-None-try_add g c =
    let Z = g.T.Scalar.integer in
    taken_unfit g.T.Scalar.fits (Z c.terms.sum) (Z c.in-Some.term) _ (map Z c.terms.above.items) (map Z c.terms.below.items) (map Z c.next.new.above.items) (map Z c.next.new.below.items) g.met.T.Scalar.room c.terms.invariant.0 c.in-Some.ensures c.terms.invariant.2 c.terms.invariant.1 c.in-None-try_add.ensures
