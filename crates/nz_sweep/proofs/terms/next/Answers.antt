use Rattle.std.proofs.Common.{◌∙◌, inl, inr, map, refl, ap, arith}
use Rattle.nz_linear.proofs.Ring.{sums}
use Rattle.std.proofs.lemmas.Bool.{false≢true}
use Rattle.nz_sweep.proofs.TermLemmas.{map-push, not_below, below_left, above_left}
use Rattle.nz_sweep.proofs.terms.next.Goals as goal

pub returns-in-Some : goal.returns-in-Some
returns-in-Some g c =
    let Z = g.T.Scalar.integer in
    let l = c.if-is_negative.ensures.0 refl in
    inl (ap (map Z) c.in-Some.ensures.items ∙ map-push Z c.pop.new.self.items c.in-Some.term, refl, inl (omega (arith, sums, l)))

pub returns-in-None : goal.returns-in-None
returns-in-None g c =
    below_left g.T.Scalar.integer (g.T.Scalar.integer c.args.sum) c.args.above.now.items c.pop.new.self.items c.args.below.now.items c.pop-in-None.new.self.items c.pop-in-None.result (λ l. false≢true (c.in-None.ensures.variant.1 (omega (arith, l, c.args.above.now.ok.0)))) c.in-None.ensures.items c.pop-in-None.ensures.items (λ l. c.pop-in-None.ensures.variant.1 (omega (arith, l, c.args.below.now.ok.0)))

pub returns-in-Some-pop : goal.returns-in-Some-pop
returns-in-Some-pop g c =
    let Z = g.T.Scalar.integer in
    inr (ap (map Z) c.in-Some-pop.ensures.items ∙ map-push Z _ c.in-Some-pop.term, refl, inl (not_below (Z c.args.sum) (λ l. false≢true (c.if-is_negative.ensures.1 l))))

pub returns-in-None-pop : goal.returns-in-None-pop
returns-in-None-pop g c =
    above_left g.T.Scalar.integer (g.T.Scalar.integer c.args.sum) c.args.above.now.items c.pop-in-None-pop.new.self.items c.args.below.now.items c.pop-2.new.self.items c.pop-in-None-pop.result (λ l. false≢true (c.in-None-pop.ensures.variant.1 (omega (arith, l, c.args.below.now.ok.0)))) c.in-None-pop.ensures.items c.pop-in-None-pop.ensures.items (λ l. c.pop-in-None-pop.ensures.variant.1 (omega (arith, l, c.args.above.now.ok.0)))
