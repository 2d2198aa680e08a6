use Rattle.std.proofs.Common.{arith, ◌∙◌, ap, ◌++◌, ◌∷◌, [], ℤ, FitsSigned, rules}
use Rattle.std.specs.Int.{w128}
use Rattle.std.proofs.lemmas.Int.{to_z-of_z}
use Rattle.nz_solve.proofs.AskedLemmas.{entries_more, entries_all}
use Rattle.nz_solve.proofs.lists.entries_of.Goals as goal

pub loop-place-preserved : goal.loop-place-preserved
loop-place-preserved g c =
    let fits : FitsSigned w128 c.to_i128.result = search rules in
    entries_more c.args.row.now c.loop-place.entries c.push.new.self c.loop-place.place c.to_i128.result
    (omega (arith, c.loop-place-test.true, c.len-place-end.ensures)) (c.to_i128.ensures ∙ c.at.ensures) c.loop-place.invariant
    (c.in-Ok.ensures.ok ∙ ap (λ (z : ℤ). c.loop-place.entries ++ z ∷ []) (to_z-of_z w128 c.to_i128.result fits))

pub returns : goal.returns
returns g c = entries_all c.args.row.now c.loop-place.entries c.loop-place.place (omega (arith, c.loop-place-test.false, c.len-place-end.ensures)) c.loop-place.invariant
