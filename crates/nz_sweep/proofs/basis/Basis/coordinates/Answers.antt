use Rattle.std.proofs.Common.{◌≡◌, ◌⊎◌, inr, ◌∙◌, ℕ, ◌<◌, ◌<ℤ◌, pos, List, length, sym, ap, subst, arith}
use Rattle.std.specs.Prelude.{MatchOption}
use Rattle.std.specs.List.{AllZip, Contains}
use Rattle.std.proofs.lemmas.Bool.{MatchBool-at_true, MatchBool-at_false}
use Rattle.nz_spec.specs.Vectors.{Vector, combination}
use Rattle.nz_spec.specs.Sums.{IsInGroup}
use Rattle.nz_sweep.specs.Bases.{Base}
use Rattle.nz_sweep.specs.Duals.{Coordinate, coordinate_at, IsWholeAt, HasFraction}
use Rattle.nz_sweep.specs.Numbers.{SomeNumberLarge, IsCoordinateNumber, IsMeasureAt, IsEntryOf}
use Rattle.nz_sweep.proofs.NumberLemmas.{some_map, combination_number}
use Rattle.nz_sweep.proofs.InsideLemmas.{outside_by_fraction, outside_by_sum, whole_length}
use Rattle.nz_sweep.proofs.basis.Basis.coordinates.Goals as goal

pub returns-in-None : goal.returns-in-None
returns-in-None g c =
    subst (λ (b : Base). ¬ IsInGroup b.width b.vectors c.args.x.now) c.self.view_is
    (outside_by_fraction c.self.inside.width c.self.inside.base.items c.self.inside.coordinates.items c.args.x.now c.self.invariant.1
    (subst (HasFraction c.args.x.now) c.as_slice.ensures.value (subst (λ o. MatchOption o (HasFraction c.args.x.now c.as_slice.result.now) (λ k. AllZip (IsWholeAt c.args.x.now) c.as_slice.result.now k)) c.in-None.is c.in-Ok.ensures)))

pub is_combination-requires-clause-factors : goal.is_combination-requires-clause-factors
is_combination-requires-clause-factors g c =
    let x = c.args.x.now in
    let vs = c.self.inside.base.items in
    let cs = c.self.inside.coordinates.items in
    let d = c.self.invariant.1 in
    let z : AllZip (IsWholeAt c.args.x.now) c.self.inside.coordinates.items c.in-Some.factors = subst (λ (t : List Coordinate). AllZip (IsWholeAt c.args.x.now) t c.in-Some.factors) c.as_slice.ensures.value (subst (λ o. MatchOption o (HasFraction c.args.x.now c.as_slice.result.now) (λ k. AllZip (IsWholeAt c.args.x.now) c.as_slice.result.now k)) c.in-Some.is c.in-Ok.ensures) in
    whole_length x cs c.in-Some.factors z ∙ d.one_each ∙ sym (ap length c.as_slice-2.ensures.value)

pub returns-in-Ok-true : goal.returns-in-Ok-true
returns-in-Ok-true g c =
    let x = c.args.x.now in
    let vs = c.self.inside.base.items in
    let cs = c.self.inside.coordinates.items in
    let d = c.self.invariant.1 in
    let z : AllZip (IsWholeAt c.args.x.now) c.self.inside.coordinates.items c.in-Some.factors = subst (λ (t : List Coordinate). AllZip (IsWholeAt c.args.x.now) t c.in-Some.factors) c.as_slice.ensures.value (subst (λ o. MatchOption o (HasFraction c.args.x.now c.as_slice.result.now) (λ k. AllZip (IsWholeAt c.args.x.now) c.as_slice.result.now k)) c.in-Some.is c.in-Ok.ensures) in (
      whole_length x cs c.in-Some.factors z ∙ d.one_each ∙ ap (λ (b : Base). length b.vectors) c.self.view_is,
      subst (λ (b : Base). combination b.width c.in-Some.factors b.vectors ≡ c.args.x.now) c.self.view_is (subst (λ (t : List Vector). combination c.self.inside.width c.in-Some.factors t ≡ c.args.x.now) c.as_slice-2.ensures.value (MatchBool-at_true (combination c.self.inside.width c.in-Some.factors c.as_slice-2.result.now ≡ c.args.x.now) (¬ (combination c.self.inside.width c.in-Some.factors c.as_slice-2.result.now ≡ c.args.x.now)) c.in-Ok-true.field-0-test c.in-Ok-true.ensures)),
    )

pub returns-in-Ok-false : goal.returns-in-Ok-false
returns-in-Ok-false g c =
    let x = c.args.x.now in
    let vs = c.self.inside.base.items in
    let cs = c.self.inside.coordinates.items in
    let d = c.self.invariant.1 in
    let z : AllZip (IsWholeAt c.args.x.now) c.self.inside.coordinates.items c.in-Some.factors = subst (λ (t : List Coordinate). AllZip (IsWholeAt c.args.x.now) t c.in-Some.factors) c.as_slice.ensures.value (subst (λ o. MatchOption o (HasFraction c.args.x.now c.as_slice.result.now) (λ k. AllZip (IsWholeAt c.args.x.now) c.as_slice.result.now k)) c.in-Some.is c.in-Ok.ensures) in
    subst (λ (b : Base). ¬ IsInGroup b.width b.vectors c.args.x.now) c.self.view_is
    (outside_by_sum c.self.inside.width vs cs c.args.x.now c.in-Some.factors d z (subst (λ (t : List Vector). ¬ (combination c.self.inside.width c.in-Some.factors t ≡ c.args.x.now)) c.as_slice-2.ensures.value (MatchBool-at_false (combination c.self.inside.width c.in-Some.factors c.as_slice-2.result.now ≡ c.args.x.now) (¬ (combination c.self.inside.width c.in-Some.factors c.as_slice-2.result.now ≡ c.args.x.now)) c.in-Ok-false.field-0-test c.in-Ok-false.ensures)))

pub returns-in-Err : goal.returns-in-Err
returns-in-Err g c = λ e. subst (λ (b : Base). SomeNumberLarge g.T.Scalar.HALF (IsCoordinateNumber b c.args.x.now)) c.self.view_is (some_map _ (λ n k. inr (inr k)) (subst (λ (t : List Coordinate). SomeNumberLarge g.T.Scalar.HALF (IsMeasureAt c.args.x.now t)) c.as_slice.ensures.value (c.in-Err.ensures e)))

pub returns-in-Err-is_combination : goal.returns-in-Err-is_combination
returns-in-Err-is_combination g c =
    let x = c.args.x.now in
    let vs = c.self.inside.base.items in
    let cs = c.self.inside.coordinates.items in
    let d = c.self.invariant.1 in
    let z : AllZip (IsWholeAt c.args.x.now) c.self.inside.coordinates.items c.in-Some.factors = subst (λ (t : List Coordinate). AllZip (IsWholeAt c.args.x.now) t c.in-Some.factors) c.as_slice.ensures.value (subst (λ o. MatchOption o (HasFraction c.args.x.now c.as_slice.result.now) (λ k. AllZip (IsWholeAt c.args.x.now) c.as_slice.result.now k)) c.in-Some.is c.in-Ok.ensures) in
    let p : (i : ℕ) → i < length c.self.inside.coordinates.items → pos 0 <ℤ (coordinate_at c.self.inside.coordinates.items i).divisor = λ i l. d.positive i (omega (arith, l, d.one_each)) in
    λ e. subst (λ (b : Base). SomeNumberLarge g.T.Scalar.HALF (IsCoordinateNumber b c.args.x.now)) c.self.view_is
    (combination_number _ (record { width = c.self.inside.width; vectors = c.self.inside.base.items; coordinates = c.self.inside.coordinates.items }) c.args.x.now c.in-Some.factors p z
    (subst (λ (t : List Vector). SomeNumberLarge g.T.Scalar.HALF (λ n. Contains c.args.x.now n ⊎ Contains c.in-Some.factors n ⊎ IsEntryOf t n)) c.as_slice-2.ensures.value (c.in-Err-is_combination.ensures e)))
