use Rattle.std.proofs.Common.{◌∙◌, ◌≤ℤ◌, map, pos, refl, ap, arith}
use Rattle.nz_linear.proofs.Ring.{sums}
use Rattle.std.proofs.lemmas.Bool.{false≢true}
use Rattle.nz_sweep.proofs.TermLemmas.{map-push, terms_above, terms_below, sum_above, sum_below, not_below}
use Rattle.nz_sweep.proofs.terms.with_term.Goals as goal

pub returns-in-Ok : goal.returns-in-Ok
returns-in-Ok g c =
    let Z = g.T.Scalar.integer in
    let l = c.if-is_negative.ensures.0 refl in
    let low : Z c.args.term ≤ℤ pos 0 = omega (arith, sums, l) in
    let e = ap (map Z) c.in-Ok.ensures.items ∙ map-push Z c.args.terms.below.items c.args.term in
    record {
      terms = terms_below g.T.Scalar.fits (map Z c.args.terms.above.items) (map Z c.args.terms.below.items) (map Z c.push.new.self.items) (Z c.args.term) c.requires.terms c.requires.fits low e;
      sum = sum_below (map Z c.args.terms.above.items) (map Z c.args.terms.below.items) (map Z c.push.new.self.items) (Z c.args.term) e;
    }

pub returns-in-Ok-push : goal.returns-in-Ok-push
returns-in-Ok-push g c =
    let Z = g.T.Scalar.integer in
    let high : pos 0 ≤ℤ Z c.args.term = not_below (Z c.args.term) (λ l. false≢true (c.if-is_negative.ensures.1 l)) in
    let e = ap (map Z) c.in-Ok-push.ensures.items ∙ map-push Z c.args.terms.above.items c.args.term in
    record {
      terms = terms_above g.T.Scalar.fits (map Z c.args.terms.above.items) _ (map Z c.args.terms.below.items) (Z c.args.term) c.requires.terms c.requires.fits high e;
      sum = sum_above (map Z c.args.terms.above.items) _ (map Z c.args.terms.below.items) (Z c.args.term) e;
    }
