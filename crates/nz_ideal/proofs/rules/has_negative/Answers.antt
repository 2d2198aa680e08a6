use Rattle.std.proofs.Common.{arith, rules, sym, subst, ◌∙◌, ◌<◌, length, pos, FitsSigned}
use Rattle.std.specs.Prelude.{ℤ, ◌<ℤ◌}
use Rattle.std.specs.Int.{w64}
use Rattle.std.proofs.lemmas.Int.{to_z-of_z}
use Rattle.nz_ideal.proofs.Ruling.{negative-here}
use Rattle.nz_ideal.proofs.rules.has_negative.Goals as goal

pub returns-then-is_negative : goal.returns-then-is_negative
returns-then-is_negative c =
    let fits : FitsSigned w64 c.at.result = search rules in
    let below = subst (λ (z : ℤ). z <ℤ pos 0) (to_z-of_z w64 c.at.result fits) (c.is_negative.ensures.0 c.if-is_negative.true) in
    let within : c.loop-place.place < length c.args.row.now = omega (arith, c.loop-place-test.true, c.len-place-end.ensures) in
    sym (c.loop-place.invariant ∙ negative-here c.args.row.now c.loop-place.place c.at.result within c.at.ensures below)
