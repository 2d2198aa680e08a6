use Rattle.std.proofs.Common.{◌<◌, List, length, arith, ◌∙◌, sym, ap, ◌++◌, ◌∷◌, [], get_or, ℤ, pos, FitsSigned, rules}
use Rattle.std.specs.Int.{w128}
use Rattle.std.proofs.lemmas.Int.{to_z-of_z}
use Rattle.std.proofs.lemmas.List.{take_more}
use Rattle.nz_lift.proofs.systems.shown.Goals as goal

pub loop-place-preserved : goal.loop-place-preserved
loop-place-preserved g c =
    let row = c.args.row.now in
    let fits : FitsSigned w128 c.to_i128.result = search rules in
    let inside : c.loop-place.place < length row = omega (arith, c.loop-place-test.true, c.len-place-end.ensures) in
    c.in-Ok.ensures.ok
    ∙ ap (λ (z : ℤ). c.loop-place.entries ++ z ∷ []) (to_z-of_z w128 c.to_i128.result fits ∙ c.to_i128.ensures ∙ c.at.ensures)
    ∙ ap (λ (v : List ℤ). v ++ get_or row c.loop-place.place (pos 0) ∷ []) c.loop-place.invariant
    ∙ sym (take_more row c.loop-place.place (pos 0) inside)
