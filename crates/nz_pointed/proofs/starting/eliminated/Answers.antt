use Rattle.std.proofs.Common.{rules, ◌≡◌, List, take, subst}
use Rattle.std.proofs.lemmas.List.{take_all}
use Rattle.nz_spec.specs.Vectors.{Vector}
use Rattle.nz_pointed.specs.Elimination.{IsElimination}
use Rattle.nz_pointed.proofs.RangeLemmas.{too_large}
use Rattle.nz_pointed.proofs.starting.eliminated.Goals as goal

pub returns-in-Err-absorb : goal.returns-in-Err-absorb
returns-in-Err-absorb g c = λ e. too_large g.T.Scalar.HALF c.args.width c.args.rows.now c.loop-place.place _ _ _ c.requires (search rules) c.loop-place.invariant (c.in-Err-absorb.ensures e)

pub returns : goal.returns
returns g c =
    let all : take c.loop-place.place c.args.rows.now ≡ c.args.rows.now = take_all c.loop-place.place c.args.rows.now (search rules) in
    subst (λ (rows : List Vector). IsElimination c.args.width rows c.loop-place.elimination.places c.loop-place.elimination.chosen.items c.loop-place.elimination.left.items) all c.loop-place.invariant
