use Rattle.std.proofs.Common.{◌≡◌, List, [], ◌∷◌, ◌++◌, pos, sym, subst}
use Rattle.std.specs.Prelude.{MatchOption}
use Rattle.std.specs.List.{AllByRecursion as Each}
use Rattle.nz_spec.specs.Vectors.{Vector, dot}
use Rattle.nz_range.specs.Measures.{measure}
use Rattle.nz_sweep.specs.Numbers.{SomeNumberLarge}
use Rattle.nz_sweep.specs.Takings.{IsTakenAt, IsTakenNumber}
use Rattle.nz_sweep.proofs.NumberLemmas.{some_map}
use Rattle.nz_units.specs.Splits.{IsSplitBy, pass, apart, clearing, turning}
use Rattle.nz_units.proofs.splitting.split_one.Goals as goal

pub returns-in-Ok-None-clause-steps : goal.returns-in-Ok-None-clause-steps
returns-in-Ok-None-clause-steps g c = λ lattice seen s. pass c.args.row.now s (subst (Each (λ u. dot c.args.row.now u ≡ pos 0)) c.as_slice.ensures.value (subst (λ o. MatchOption o (Each (λ v. dot c.args.row.now v ≡ pos 0) c.as_slice.result.now) (λ t. IsTakenAt c.args.row.now c.as_slice.result.now t.own (g.T.Scalar.integer t.value) t.others.items)) c.in-Ok-None.field-0-is c.in-Ok-None.ensures))

pub returns-in-Err-clause-cause : goal.returns-in-Err-clause-cause
returns-in-Err-clause-cause g c = λ e. some_map g.T.Scalar.HALF (λ n k. clearing k) (subst (λ (t : List Vector). SomeNumberLarge g.T.Scalar.HALF (IsTakenNumber c.args.row.now t)) c.as_slice.ensures.value (c.in-Err.ensures e))

pub returns-in-Err-turned-clause-cause : goal.returns-in-Err-turned-clause-cause
returns-in-Err-turned-clause-cause g c = λ e. record {
  number = pos (measure c.in-Ok-Some.taken.own);
  is_number = turning (subst (λ (t : List Vector). IsTakenAt c.args.row.now t c.in-Ok-Some.taken.own (g.T.Scalar.integer c.in-Ok-Some.taken.value) c.in-Ok-Some.taken.others.items) c.as_slice.ensures.value (subst (λ o. MatchOption o (Each (λ v. dot c.args.row.now v ≡ pos 0) c.as_slice.result.now) (λ t. IsTakenAt c.args.row.now c.as_slice.result.now t.own (g.T.Scalar.integer t.value) t.others.items)) c.in-Ok-Some.field-0-is c.in-Ok-Some.ensures)) (c.in-Err-turned.ensures e).0;
  large = (c.in-Err-turned.ensures e).1;
}

pub returns-in-Ok-push-clause-steps : goal.returns-in-Ok-push-clause-steps
returns-in-Ok-push-clause-steps g c = λ lattice seen s. subst (λ (t : List Vector). IsSplitBy lattice (seen ++ c.args.row.now ∷ []) c.in-Ok-Some.taken.others.items t) (sym c.in-Ok-push.ensures.items)
    (apart c.args.row.now s (subst (λ (t : List Vector). IsTakenAt c.args.row.now t c.in-Ok-Some.taken.own (g.T.Scalar.integer c.in-Ok-Some.taken.value) c.in-Ok-Some.taken.others.items) c.as_slice.ensures.value (subst (λ o. MatchOption o (Each (λ v. dot c.args.row.now v ≡ pos 0) c.as_slice.result.now) (λ t. IsTakenAt c.args.row.now c.as_slice.result.now t.own (g.T.Scalar.integer t.value) t.others.items)) c.in-Ok-Some.field-0-is c.in-Ok-Some.ensures)) c.in-Ok.ensures)
