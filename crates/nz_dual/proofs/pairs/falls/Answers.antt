use Rattle.std.proofs.Common.{ℤ, length, pos, ◌-ℤ◌, ◌<ℤ◌, inl, ap, ap₂, ◌∙◌, sym, subst, refl, arith}
use Rattle.std.specs.Prelude.{MatchBool}
use Rattle.nz_reducer.specs.Tables.{HasAnyBelow, NoneIsBelow}
use Rattle.nz_dual.proofs.PairLemmas.{sums_wide, fallen, falls_by}
use Rattle.nz_dual.proofs.pairs.falls.Goals as goal

pub at-requires : goal.at-requires
at-requires g c = let w = ap length c.rising_values_at-above.ensures ∙ c.requires.own.1 in omega (arith, w)

pub at-requires-2 : goal.at-requires-2
at-requires-2 g c = let w = ap length c.rising_values_at-below.ensures ∙ c.requires.partner.1 in omega (arith, w)

pub returns-then-is_negative-clause-answer : goal.returns-then-is_negative-clause-answer
returns-then-is_negative-clause-answer g c = λ e. inl (subst (λ (z : ℤ). z <ℤ pos 0)
    (fallen c.args.count _ _ _ _ _ c.rising_values_at-above.ensures c.rising_values_at-below.ensures (c.in-Some.ensures.1 ∙ ap₂ (λ a b. a -ℤ b) c.at.ensures c.at-2.ensures)) (c.if-is_negative.ensures.0 refl))

pub values_of_sum-requires-clause-own : goal.values_of_sum-requires-clause-own
values_of_sum-requires-clause-own g c = ap length c.rising_values_at-above.ensures ∙ c.requires.own.1

pub values_of_sum-requires-clause-other : goal.values_of_sum-requires-clause-other
values_of_sum-requires-clause-other g c = ap length c.rising_values_at-below.ensures ∙ c.requires.partner.1

pub has_below-requires : goal.has_below-requires
has_below-requires g c =
    let own = ap length c.rising_values_at-above.ensures ∙ c.requires.own.1 in
    let other = ap length c.rising_values_at-below.ensures ∙ c.requires.partner.1 in
    ap length c.in-Some-values_of_sum.ensures ∙ sums_wide c.args.count c.rising_values_at-above.result.now c.rising_values_at-below.result.now (g.T.Scalar.integer c.in-Some.height) own other ∙ sym c.requires.columns

pub returns-in-Some-values_of_sum-clause-answer : goal.returns-in-Some-values_of_sum-clause-answer
returns-in-Some-values_of_sum-clause-answer g c = λ e. falls_by c.args.count c.args.side.now.values _ _ _ _ c.in-Some-values_of_sum.values (g.T.Scalar.integer c.in-Some.height) c.rising_values_at-above.ensures c.rising_values_at-below.ensures (c.in-Some.ensures.1 ∙ ap₂ (λ a b. a -ℤ b) c.at.ensures c.at-2.ensures) c.in-Some-values_of_sum.ensures (subst (λ b. MatchBool b (HasAnyBelow c.args.side.now.values c.in-Some-values_of_sum.values) (NoneIsBelow c.args.side.now.values c.in-Some-values_of_sum.values)) e c.has_below.ensures.answer)
