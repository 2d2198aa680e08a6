use Rattle.std.proofs.Common.{ℕ, [], get_or, refl, sym, subst}
use Rattle.nz_dual.specs.Sides.{SideLists}
use Rattle.nz_dual.specs.PairValues.{HasValues, FallsAway}
use Rattle.nz_dual.proofs.PairLemmas.{has_values, settled}
use Rattle.nz_dual.proofs.pairs.is_settled.Goals as goal

pub falls-requires-clause-own : goal.falls-requires-clause-own
falls-requires-clause-own g c = has_values c.requires.part.0 c.args.rows.now c.args.up.now c.requires.part.1.up_side c.len.result c.args.first c.len.ensures c.requires.first

pub falls-requires-clause-partner : goal.falls-requires-clause-partner
falls-requires-clause-partner g c = has_values c.requires.part.0 c.args.rows.now c.args.down.now c.requires.part.1.down_side c.len.result c.args.second c.len.ensures c.requires.second

pub falls-requires-then-falls-clause-own : goal.falls-requires-then-falls-clause-own
falls-requires-then-falls-clause-own g c = has_values c.requires.part.0 c.args.rows.now c.args.down.now c.requires.part.1.down_side c.len-then-falls.result c.args.second c.len-then-falls.ensures c.requires.second

pub falls-requires-then-falls-clause-partner : goal.falls-requires-then-falls-clause-partner
falls-requires-then-falls-clause-partner g c = subst (λ (s : SideLists). HasValues c.len-then-falls.result s c.args.first) (sym c.falls.ensures.same)
    (has_values c.requires.part.0 c.args.rows.now c.args.up.now c.requires.part.1.up_side c.len-then-falls.result c.args.first c.len-then-falls.ensures c.requires.first)

pub returns-then-falls-clause-settled : goal.returns-then-falls-clause-settled
returns-then-falls-clause-settled g c = λ e.
    let above = get_or c.args.up.now.rising_values c.args.first [] in
    let below = get_or c.args.down.now.rising_values c.args.second [] in
    settled c.args.rows.now c.args.up.now c.args.down.now c.requires.part c.args.first c.args.second c.requires.first c.requires.second above below refl refl
    (subst (λ (n : ℕ). FallsAway n c.args.up.now.values above below) c.len.ensures (c.if-falls.ensures.answer refl))
    (subst (λ (n : ℕ). FallsAway n c.args.down.now.values below above) c.len-then-falls.ensures
    (subst (λ (s : SideLists). FallsAway c.len-then-falls.result c.args.down.now.values below (get_or s.rising_values c.args.first [])) c.falls.ensures.same (c.falls-then-falls.ensures.answer e)))
