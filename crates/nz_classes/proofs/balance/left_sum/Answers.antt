use Rattle.std.proofs.Common.{sym, ap, ◌∙◌, ◌+ℤ◌}
use Rattle.nz_classes.proofs.SumLemmas.{total_take}
use Rattle.nz_classes.proofs.balance.left_sum.Goals as goal

pub loop-term-preserved : goal.loop-term-preserved
loop-term-preserved g c = c.in-Some.ensures.1 ∙ ap (λ z. z +ℤ g.T.Scalar.integer c.term-item.result) c.loop-term.invariant ∙ sym (total_take g.T.Scalar.integer c.args.terms.now c.loop-term.term-index c.term-item.result c.loop-term-test.true c.term-item.is)
