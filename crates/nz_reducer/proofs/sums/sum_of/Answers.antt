use Rattle.std.proofs.Common.{ℕ, ◌<◌, ◌≤◌, ◌⊎◌, pos, ◌≤ℤ◌, ◌<ℤ◌, subst}
use Rattle.nz_reducer.proofs.SumLemmas.{sum_raised, sum_lowered, raised_none, lowered_none, sum_end}
use Rattle.nz_reducer.proofs.sums.sum_of.Goals as goal

pub returns-in-None : goal.returns-in-None
returns-in-None g c =
    let t = subst (λ (n : ℕ). (c.terms.raised < n) × ((g.T.Scalar.integer c.terms.sum <ℤ pos 0) ⊎ (n ≤ c.terms.lowered))) c.len-in-terms.ensures c.if-is_rise_next.ensures in
    raised_none g.T.Scalar.fits c.args.values.now (g.T.Scalar.integer c.terms.sum) c.terms.raised c.terms.lowered c.terms.invariant (g.T.Scalar.integer c.at.result) g.met.T.Scalar.room t.0 c.at.ensures t.1 c.in-None.ensures

pub terms-preserved-then-is_rise_next : goal.terms-preserved-then-is_rise_next
terms-preserved-then-is_rise_next g c =
    let t = subst (λ (n : ℕ). c.terms.raised < n) c.len-in-terms.ensures c.if-is_rise_next.ensures.0 in
    sum_raised g.T.Scalar.fits c.args.values.now (g.T.Scalar.integer c.terms.sum) c.terms.raised c.terms.lowered c.terms.invariant (g.T.Scalar.integer c.at.result) (g.T.Scalar.integer c.in-Some.sum) t c.at.ensures c.in-Some.ensures.0 c.in-Some.ensures.1 c.in-Some.ensures.2

pub returns-in-None-lower : goal.returns-in-None-lower
returns-in-None-lower g c =
    let t = subst (λ (n : ℕ). (c.terms.lowered < n) × ((pos 0 ≤ℤ g.T.Scalar.integer c.terms.sum) ⊎ (n ≤ c.terms.raised))) c.len-in-terms.ensures c.if-is_rise_next.ensures in
    lowered_none g.T.Scalar.fits c.args.values.now (g.T.Scalar.integer c.terms.sum) c.terms.raised c.terms.lowered c.terms.invariant (g.T.Scalar.integer c.at-else-is_rise_next.result) g.met.T.Scalar.room t.0 c.at-else-is_rise_next.ensures t.1 c.in-None-lower.ensures

pub terms-preserved : goal.terms-preserved
terms-preserved g c =
    let t = subst (λ (n : ℕ). c.terms.lowered < n) c.len-in-terms.ensures c.if-is_rise_next.ensures.0 in
    sum_lowered g.T.Scalar.fits c.args.values.now (g.T.Scalar.integer c.terms.sum) c.terms.raised c.terms.lowered c.terms.invariant (g.T.Scalar.integer c.at-else-is_rise_next.result) (g.T.Scalar.integer c.in-Some-lower.sum) t c.at-else-is_rise_next.ensures c.in-Some-lower.ensures.0 c.in-Some-lower.ensures.1

pub returns : goal.returns
returns g c =
    let t = subst (λ (n : ℕ). (n ≤ c.terms.raised) × (n ≤ c.terms.lowered)) c.len.ensures c.terms-test.ensures in
    sum_end g.T.Scalar.fits c.args.values.now (g.T.Scalar.integer c.terms.sum) c.terms.raised c.terms.lowered c.terms.invariant t.0 t.1
