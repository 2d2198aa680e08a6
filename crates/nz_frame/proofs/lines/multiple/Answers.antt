use Rattle.std.proofs.Common.{arith, ◌∙◌, sym, subst, ap, ◌++◌, ◌∷◌, [], ℤ, pos, Contains, FitsSigned, rules}
use Rattle.std.specs.Int.{w128}
use Rattle.std.proofs.lemmas.Int.{to_z-of_z}
use Rattle.nz_spec.proofs.ListLaws.{contains_at}
use Rattle.nz_frame.proofs.LineLemmas.{scaled_more}
use Rattle.nz_frame.proofs.lines.multiple.Goals as goal

pub loop-place-preserved : goal.loop-place-preserved
loop-place-preserved g c =
    let fits : FitsSigned w128 c.to_i128.result = search rules in
    scaled_more (g.T.Scalar.integer c.args.factor) c.args.row.now c.loop-place.entries c.push.new.self c.loop-place.place (g.T.Scalar.integer c.at.result) c.to_i128.result
    (omega (arith, c.loop-place-test.true, c.len-place-end.ensures)) c.at.ensures (c.to_i128.ensures ∙ c.in-Some.ensures.1) c.loop-place.invariant
    (c.in-Ok.ensures.ok ∙ ap (λ (z : ℤ). c.loop-place.entries ++ z ∷ []) (to_z-of_z w128 c.to_i128.result fits))

pub returns-in-None-clause-cause : goal.returns-in-None-clause-cause
returns-in-None-clause-cause g c = λ _. record {
  entry = g.T.Scalar.integer c.at.result;
  has = subst (Contains c.args.row.now) (sym c.at.ensures) (contains_at c.args.row.now c.loop-place.place (pos 0) (omega (arith, c.loop-place-test.true, c.len-place-end.ensures)));
  outside = c.in-None.ensures;
}
