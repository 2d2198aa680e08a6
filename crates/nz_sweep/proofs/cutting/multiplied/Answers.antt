use Rattle.std.proofs.Common.{inl, inr, List, ◌∙◌, ◌<ℤ◌, ◌*ℤ◌, pos, refl, sym, ap, subst, arith}
use Rattle.std.specs.List.{insert}
use Rattle.std.proofs.lemmas.List.{length-map}
use Rattle.std.proofs.lemmas.List.Edits.{length-insert}
use Rattle.nz_spec.specs.Vectors.{Vector, scaled}
use Rattle.nz_sweep.specs.Clearing.{Valued, vectors_of}
use Rattle.nz_sweep.specs.Cuts.{IsCofactor}
use Rattle.nz_sweep.specs.Duals.{Coordinate, coordinate_at, IsLowered}
use Rattle.nz_sweep.specs.Rounds.{IsInLowestTerms}
use Rattle.nz_sweep.proofs.CutCauses.{own_times_large, own_divisor_large}
use Rattle.nz_sweep.proofs.StepLemmas.{cofactor_positive}
use Rattle.nz_sweep.proofs.DualLemmas.{cleared_multiplied, coordinate_is}
use Rattle.nz_sweep.proofs.cutting.multiplied.Goals as goal

pub over-requires-clause-divisor : goal.over-requires-clause-divisor
over-requires-clause-divisor g c =
    let n = length-map (insert c.args.cleared.others.items c.args.cleared.place c.args.cleared.own) (λ (v : Valued). v.vector) in
    let m = length-insert c.args.cleared.others.items c.args.cleared.place c.args.cleared.own c.requires.inside in
    let e = coordinate_is c.args.cleared.coordinates.items c.args.cleared.place c.index.result.now (omega (arith, n, m, c.requires.inside, c.requires.dual.one_each)) c.index.ensures in
    subst (λ (t : Coordinate). pos 0 <ℤ t.divisor) e (c.requires.dual.positive c.args.cleared.place (omega (arith, n, m, c.requires.inside)))

pub over-requires-clause-factor : goal.over-requires-clause-factor
over-requires-clause-factor g c = cofactor_positive _ (g.T.Scalar.integer c.args.modulus) (g.T.Scalar.integer c.in-Some.factor) c.requires.modulus c.in-Some.ensures

pub returns-in-Ok-insert-clause-dual : goal.returns-in-Ok-insert-clause-dual
returns-in-Ok-insert-clause-dual g c =
    let Z = g.T.Scalar.integer in
    let n = length-map (insert c.args.cleared.others.items c.args.cleared.place c.args.cleared.own) (λ (v : Valued). v.vector) in
    let m = length-insert c.args.cleared.others.items c.args.cleared.place c.args.cleared.own c.requires.inside in
    let e = coordinate_is c.args.cleared.coordinates.items c.args.cleared.place c.index.result.now (omega (arith, n, m, c.requires.inside, c.requires.dual.one_each)) c.index.ensures in
    cleared_multiplied c.args.width c.args.cleared.others.items c.args.cleared.coordinates.items _ c.args.cleared.place c.args.cleared.own (Z c.in-Some.factor) c.in-Ok-over.coordinate c.in-Ok.row c.in-Ok-rows.base.items c.insert.new.self.items c.requires.inside c.requires.dual (cofactor_positive _ (Z c.args.modulus) (Z c.in-Some.factor) c.requires.modulus c.in-Some.ensures)
    (subst (λ (t : Coordinate). IsLowered t.form (t.divisor *ℤ Z c.in-Some.factor) c.in-Ok-over.coordinate) (sym e) c.in-Ok-over.ensures.lowered)
    (c.in-Ok.ensures ∙ ap (λ (v : Valued). scaled (Z c.in-Some.factor) v.vector) c.own.view_is) c.in-Ok-rows.ensures c.in-Ok-insert.ensures.items refl

pub returns-in-None-clause-state : goal.returns-in-None-clause-state
returns-in-None-clause-state g c = λ _. inl c.in-None.ensures

pub returns-in-Err-clause-state : goal.returns-in-Err-clause-state
returns-in-Err-clause-state g c =
    let Z = g.T.Scalar.integer in
    let k : IsCofactor c.args.cleared.own.value (Z c.args.modulus) (Z c.in-Some.factor) = subst (λ (v : Valued). IsCofactor v.value (Z c.args.modulus) (Z c.in-Some.factor)) c.own.view_is c.in-Some.ensures in
    λ e. inr (own_times_large g.T.Scalar.HALF (Z c.args.modulus) (Z c.in-Some.factor) c.args.cleared.own (record { vector = c.own.inside.row; value = Z c.own.inside.value }) (coordinate_at c.args.cleared.coordinates.items c.args.cleared.place) c.own.inside.row c.own.view_is refl k (c.in-Err.ensures e))

pub returns-in-Err-over-clause-state : goal.returns-in-Err-over-clause-state
returns-in-Err-over-clause-state g c =
    let Z = g.T.Scalar.integer in
    let n = length-map (insert c.args.cleared.others.items c.args.cleared.place c.args.cleared.own) (λ (v : Valued). v.vector) in
    let m = length-insert c.args.cleared.others.items c.args.cleared.place c.args.cleared.own c.requires.inside in
    let e = coordinate_is c.args.cleared.coordinates.items c.args.cleared.place c.index.result.now (omega (arith, n, m, c.requires.inside, c.requires.dual.one_each)) c.index.ensures in
    let k : IsCofactor c.args.cleared.own.value (Z c.args.modulus) (Z c.in-Some.factor) = subst (λ (v : Valued). IsCofactor v.value (Z c.args.modulus) (Z c.in-Some.factor)) c.own.view_is c.in-Some.ensures in
    λ x. inr (own_divisor_large g.T.Scalar.HALF (Z c.args.modulus) (Z c.in-Some.factor) c.args.cleared.own (coordinate_at c.args.cleared.coordinates.items c.args.cleared.place) c.index.result.now (sym e) k (c.in-Err-over.ensures.lowest x))

pub returns-in-Ok-insert-clause-state : goal.returns-in-Ok-insert-clause-state
returns-in-Ok-insert-clause-state g c =
    let Z = g.T.Scalar.integer in
    let n = length-map (insert c.args.cleared.others.items c.args.cleared.place c.args.cleared.own) (λ (v : Valued). v.vector) in
    let m = length-insert c.args.cleared.others.items c.args.cleared.place c.args.cleared.own c.requires.inside in
    let e = coordinate_is c.args.cleared.coordinates.items c.args.cleared.place c.index.result.now (omega (arith, n, m, c.requires.inside, c.requires.dual.one_each)) c.index.ensures in
    let k : IsCofactor c.args.cleared.own.value (Z c.args.modulus) (Z c.in-Some.factor) = subst (λ (v : Valued). IsCofactor v.value (Z c.args.modulus) (Z c.in-Some.factor)) c.own.view_is c.in-Some.ensures in
    record {
      t = Z c.in-Some.factor;
      cofactor = k;
      coordinate = c.in-Ok-over.coordinate;
      lowest = subst (λ (t : Coordinate). IsInLowestTerms t.form (t.divisor *ℤ Z c.in-Some.factor) c.in-Ok-over.coordinate) (sym e) c.in-Ok-over.ensures.lowest;
      vectors = c.in-Ok-insert.ensures.items ∙ ap (λ (b : List Vector). insert b c.args.cleared.place c.in-Ok.row) c.in-Ok-rows.ensures ∙ ap (insert (vectors_of c.args.cleared.others.items) c.args.cleared.place) (c.in-Ok.ensures ∙ ap (λ (v : Valued). scaled (Z c.in-Some.factor) v.vector) c.own.view_is);
      coordinates = refl;
    }
