use Rattle.std.proofs.Common.{◌≡◌, inl, inr, ◌+◌, ◌∙◌, ◌<ℤ◌, ℤ, length, pos, refl, sym, subst, arith}
use Rattle.std.proofs.lemmas.List.{length-map}
use Rattle.std.proofs.lemmas.Result.{IfOk-weaker}
use Rattle.nz_spec.specs.Vectors.{entry}
use Rattle.nz_scalar.specs.Division.{IsFloorQuotient}
use Rattle.nz_sweep.specs.Clearing.{Valued, values_of}
use Rattle.nz_sweep.specs.Duals.{Coordinate, IsJoined}
use Rattle.std.proofs.lemmas.Bool.{false≢true}
use Rattle.nz_vec.specs.declared.answers.Num.{Num}
use Rattle.nz_vec.specs.declared.answers.Num.TheVariants.{Range}
use Rattle.nz_sweep.specs.Numbers.{SomeNumberLarge, IsTakingNumber, IsRoundNumber}
use Rattle.nz_sweep.specs.Rounds.{GoesInto, IsTakenIn, Gathers, passed, taken}
use Rattle.nz_sweep.proofs.GatherCauses.{result_map}
use Rattle.nz_sweep.proofs.ClearCauses.{value_large, takes_large}
use Rattle.nz_sweep.proofs.PivotLemmas.{value_at}
use Rattle.nz_sweep.proofs.DualLemmas.{gathered_zero, gathered_joined, coordinate_is}
use Rattle.nz_sweep.proofs.gathering.gathered_one.Goals as goal

pub returns-then-is_zero-clause-gathered : goal.returns-then-is_zero-clause-gathered
returns-then-is_zero-clause-gathered g c = gathered_zero c.args.width c.args.list.now c.args.place c.args.index c.args.own c.requires.so_far c.requires.nonzero (value_at c.args.list.now c.args.index c.index-list-index.result c.requires.index c.index-list-index.is ∙ c.if-is_zero.ensures.0 refl)

pub joined-requires-clause-other : goal.joined-requires-clause-other
joined-requires-clause-other g c =
    let n = length-map c.args.list.now (λ (v : Valued). v.vector) in
    subst (λ (t : Coordinate). pos 0 <ℤ t.divisor) (coordinate_is c.args.coordinates.now c.args.index c.index-coordinates-index.result (omega (arith, c.requires.one_each, c.requires.index)) c.index-coordinates-index.is) (c.requires.dual.positive c.args.index (omega (arith, n, c.requires.index)))

pub joined-requires-clause-width : goal.joined-requires-clause-width
joined-requires-clause-width g c =
    let n = length-map c.args.list.now (λ (v : Valued). v.vector) in
    c.requires.so_far.width ∙ sym (subst (λ (t : Coordinate). length t.form ≡ c.args.width) (coordinate_is c.args.coordinates.now c.args.index c.index-coordinates-index.result (omega (arith, c.requires.one_each, c.requires.index)) c.index-coordinates-index.is) (c.requires.dual.form_width c.args.index (omega (arith, n, c.requires.index))))

pub returns-clause-gathered : goal.returns-clause-gathered
returns-clause-gathered g c =
    let Z = g.T.Scalar.integer in
    let e = coordinate_is c.args.coordinates.now c.args.index c.index-coordinates-index.result (omega (arith, c.requires.one_each, c.requires.index)) c.index-coordinates-index.is in
    let a = value_at c.args.list.now c.args.index c.index-list-index-2.result c.requires.index c.index-list-index-2.is in
    let b = value_at c.args.list.now c.args.place c.index-list-place.result c.requires.inside c.index-list-place.is in
    IfOk-weaker _ _ _ (λ r j. gathered_joined c.args.width c.args.list.now c.args.coordinates.now c.args.place c.args.index (Z c.in-Some.quotient) c.args.own r c.requires.dual c.requires.inside c.requires.index c.if-index-place.false c.requires.nonzero (subst (λ (t : ℤ). IsFloorQuotient t (entry (values_of c.args.list.now) c.args.place) (Z c.in-Some.quotient)) (sym a) (subst (λ (t : ℤ). IsFloorQuotient c.index-list-index-2.result.value t (Z c.in-Some.quotient)) (sym b) c.in-Some.ensures)) c.requires.so_far (subst (λ (t : Coordinate). IsJoined (Z c.in-Some.quotient) c.args.own t r) (sym e) j)) c.joined.ensures.joined

pub returns-then-is_zero-clause-state : goal.returns-then-is_zero-clause-state
returns-then-is_zero-clause-state g c = passed c.requires.state (inr (value_at c.args.list.now c.args.index c.index-list-index.result c.requires.index c.index-list-index.is ∙ c.if-is_zero.ensures.0 refl))

pub returns-in-None-clause-state : goal.returns-in-None-clause-state
returns-in-None-clause-state g c = λ _. value_large g.T.Scalar.HALF (record { valued = c.args.list.now; coordinates = c.args.coordinates.now }) c.args.place c.index-list-index-2.result (c.args.index, c.requires.index, sym c.index-list-index-2.is) c.in-None.ensures

pub returns-clause-state : goal.returns-clause-state
returns-clause-state g c =
    let Z = g.T.Scalar.integer in
    let e = coordinate_is c.args.coordinates.now c.args.index c.index-coordinates-index.result (omega (arith, c.requires.one_each, c.requires.index)) c.index-coordinates-index.is in
    let a = value_at c.args.list.now c.args.index c.index-list-index-2.result c.requires.index c.index-list-index-2.is in
    let b = value_at c.args.list.now c.args.place c.index-list-place.result c.requires.inside c.index-list-place.is in
    let z = value_at c.args.list.now c.args.index c.index-list-index.result c.requires.index c.index-list-index.is in
    let goes : GoesInto (values_of c.args.list.now) c.args.place c.args.index (Z c.in-Some.quotient) = record {
      other = c.if-index-place.false;
      nonzero = λ n. false≢true (c.if-is_zero.ensures.1 (sym z ∙ n));
      floor = subst (λ (t : ℤ). IsFloorQuotient t (entry (values_of c.args.list.now) c.args.place) (Z c.in-Some.quotient)) (sym a) (subst (λ (t : ℤ). IsFloorQuotient c.index-list-index-2.result.value t (Z c.in-Some.quotient)) (sym b) c.in-Some.ensures);
    } in
    result_map (IsTakenIn (Z c.in-Some.quotient) c.args.own c.index-coordinates-index.result) (Gathers (record { valued = c.args.list.now; coordinates = c.args.coordinates.now }) c.args.place (c.args.index + 1)) (λ (e : Num). e ≡ Range → SomeNumberLarge g.T.Scalar.HALF (IsTakingNumber (Z c.in-Some.quotient) c.args.own c.index-coordinates-index.result)) (λ (e : Num). e ≡ Range → SomeNumberLarge g.T.Scalar.HALF (IsRoundNumber (record { valued = c.args.list.now; coordinates = c.args.coordinates.now }) c.args.place)) c.joined.result
    (λ r j. taken c.requires.state goes (subst (λ (t : Coordinate). IsTakenIn (Z c.in-Some.quotient) c.args.own t r) (sym e) j))
    (λ x f h. takes_large g.T.Scalar.HALF (record { valued = c.args.list.now; coordinates = c.args.coordinates.now }) c.args.place c.args.index (Z c.in-Some.quotient) c.args.own c.requires.state goes (subst (λ (t : Coordinate). SomeNumberLarge g.T.Scalar.HALF (IsTakingNumber (Z c.in-Some.quotient) c.args.own t)) (sym e) (f h)))
    c.joined.ensures.taken

pub returns-then-index-place-clause-state : goal.returns-then-index-place-clause-state
returns-then-index-place-clause-state g c = passed c.requires.state (inl c.if-index-place.true)
