use Rattle.std.proofs.Common.{arith, ℕ, ◌<◌, length, pos, ◌≤ℤ◌, sym, subst}
use Rattle.nz_frame.proofs.CutLemmas.{congruences_start, congruences_next, congruences_end, congruences_refused}
use Rattle.std.specs.List.{AllByRecursion as Each}
use Rattle.nz_spec.specs.Vectors.{HasWidth}
use Rattle.nz_spec.specs.Systems.{Congruence}
use Rattle.nz_vec.specs.Conditions.{condition_of}
use Rattle.nz_system.specs.Meaning.{congruences_of}
use Rattle.nz_frame.proofs.LatticeLemmas.{congruence_at, congruences_none, congruences_more, congruences_all}
use Rattle.nz_frame.proofs.lattices.with_congruences.Goals as goal

pub with_congruence-requires-clause-form : goal.with_congruence-requires-clause-form
with_congruence-requires-clause-form g c =
    congruence_at (λ (k : Congruence). HasWidth c.loop-place.base.width k.form) c.args.constraints.now c.loop-place.place (condition_of g.T.Scalar.integer c.at.result.now)
    (omega (arith, c.loop-place-test.true, c.len-place-end.ensures)) c.at.ensures
    (subst (λ (n : ℕ). Each (λ (k : Congruence). HasWidth n k.form) (congruences_of c.args.constraints.now)) (sym c.loop-place.invariant.0) c.requires.forms)

pub with_congruence-requires-clause-modulus : goal.with_congruence-requires-clause-modulus
with_congruence-requires-clause-modulus g c =
    congruence_at (λ (k : Congruence). pos 1 ≤ℤ k.modulus) c.args.constraints.now c.loop-place.place (condition_of g.T.Scalar.integer c.at.result.now)
    (omega (arith, c.loop-place-test.true, c.len-place-end.ensures)) c.at.ensures c.requires.moduli

pub loop-place-init : goal.loop-place-init
loop-place-init g c = let f = congruences_none c.args.base c.args.constraints.now c.requires.base in (f.0, f.1, congruences_start c.args.constraints.now c.args.base)

pub loop-place-preserved : goal.loop-place-preserved
loop-place-preserved g c =
    let l : c.loop-place.place < length c.args.constraints.now = omega (arith, c.loop-place-test.true, c.len-place-end.ensures) in
    let f = congruences_more c.args.constraints.now c.loop-place.place (condition_of g.T.Scalar.integer c.at.result.now) c.args.base c.loop-place.base c.in-Ok.base l c.at.ensures c.in-Ok.ensures.width c.in-Ok.ensures.cut (c.loop-place.invariant.0, c.loop-place.invariant.1) in
    (f.0, f.1, congruences_next c.args.constraints.now c.loop-place.place (condition_of g.T.Scalar.integer c.at.result.now) c.args.base c.loop-place.base c.in-Ok.base l c.at.ensures c.in-Ok.ensures.sweeps c.loop-place.invariant.2)

pub returns-in-Err-clause-cause : goal.returns-in-Err-clause-cause
returns-in-Err-clause-cause g c = λ e.
    let l : c.loop-place.place < length c.args.constraints.now = omega (arith, c.loop-place-test.true, c.len-place-end.ensures) in
    congruences_refused g.T.Scalar.HALF c.args.constraints.now c.loop-place.place (condition_of g.T.Scalar.integer c.at.result.now) c.args.base c.loop-place.base l c.at.ensures c.loop-place.invariant.2 (c.in-Err.ensures.cause e)

pub returns-clause-cut : goal.returns-clause-cut
returns-clause-cut g c = congruences_all c.args.constraints.now c.loop-place.place c.args.base c.loop-place.base (omega (arith, c.loop-place-test.false, c.len-place-end.ensures)) c.loop-place.invariant.1

pub returns-clause-sweeps : goal.returns-clause-sweeps
returns-clause-sweeps g c = congruences_end c.args.constraints.now c.loop-place.place c.args.base c.loop-place.base (omega (arith, c.loop-place-test.false, c.len-place-end.ensures)) c.loop-place.invariant.2
