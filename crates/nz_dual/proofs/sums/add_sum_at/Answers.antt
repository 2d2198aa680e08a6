use Rattle.std.proofs.Common.{[], ◌∷◌, ◌++◌, length, get_or, refl, sym, ap, ap₂, ◌∙◌}
use Rattle.nz_spec.specs.Vectors.{Vector, plus}
use Rattle.nz_dual.specs.Closures.{IsSettled}
use Rattle.nz_dual.specs.Sides.{SideLists}
use Rattle.nz_dual.proofs.SumLemmas.{adds_one, adds_settled, large_in_both}
use Rattle.nz_dual.proofs.ValueLemmas.{match_map}
use Rattle.nz_dual.proofs.PairLemmas.{same_width}
use Rattle.nz_dual.proofs.sums.add_sum_at.Goals as goal

pub returns-then-is_settled-clause-sums : goal.returns-then-is_settled-clause-sums
returns-then-is_settled-clause-sums g c = adds_settled (IsSettled c.args.rows.now c.args.up.now c.args.down.now) c.args.up.now.rising c.args.down.now.rising c.args.first c.args.second c.args.sums.now (c.if-is_settled.ensures.settled refl)

pub add_sum-requires : goal.add_sum-requires
add_sum-requires g c =
    let x = c.rising_at.ensures ∙ ap (λ (s : SideLists). get_or s.rising c.args.first []) c.is_settled.ensures.same.0 in
    let y = c.rising_at-2.ensures ∙ ap (λ (s : SideLists). get_or s.rising c.args.second []) c.is_settled.ensures.same.1 in
    ap length x ∙ same_width c.args.rows.now c.args.up.now c.args.down.now c.requires.part c.args.first c.args.second c.requires.first c.requires.second ∙ sym (ap length y)

pub returns-clause-sums : goal.returns-clause-sums
returns-clause-sums g c =
    let x = c.rising_at.ensures ∙ ap (λ (s : SideLists). get_or s.rising c.args.first []) c.is_settled.ensures.same.0 in
    let y = c.rising_at-2.ensures ∙ ap (λ (s : SideLists). get_or s.rising c.args.second []) c.is_settled.ensures.same.1 in
    match_map _ _ _ _ c.add_sum.result
    (λ u e. adds_one (IsSettled c.args.rows.now c.args.up.now c.args.down.now) c.args.up.now.rising c.args.down.now.rising c.args.first c.args.second c.args.sums.now c.add_sum.new.sums (e ∙ ap₂ (λ (u v : Vector). c.args.sums.now ++ plus u v ∷ []) x y))
    (λ e f r. large_in_both g.T.Scalar.HALF c.args.up.now.rising c.args.down.now.rising c.args.first c.args.second c.rising_at.result.now c.rising_at-2.result.now c.requires.first c.requires.second x y (f r))
    c.add_sum.ensures
