use Rattle.std.proofs.Common.{◌≡◌, ◌+◌, ◌<◌, length, [], ◌∷◌, sym, subst, arith}
use Rattle.std.proofs.lemmas.List.{length-append}
use Rattle.std.specs.List.{AllByRecursion as Each}
use Rattle.nz_order.proofs.OrderLaws.{Each-push}
use Rattle.nz_reducer.proofs.levels.levels_for.Goals as goal

pub loop-bit-preserved : goal.loop-bit-preserved
loop-bit-preserved g c =
    let old = c.loop-bit.levels.items in
    let new = c.level_at.result in
    subst (λ is. (length is ≡ c.loop-bit.bit + 1) × Each (λ x. x.column < c.args.width) is) (sym c.in-Ok.ensures.items)
    ((let t = length-append old (new ∷ []) in let s = c.loop-bit.invariant.0 in omega (arith, t, s)), Each-push (λ x. x.column < c.args.width) old new c.loop-bit.invariant.1 c.level_at.ensures)

pub returns : goal.returns
returns g c = record { few = (let s = c.loop-bit.invariant.0 in omega (arith, s, c.loop-bit.auto)); columns = c.loop-bit.invariant.1 }
