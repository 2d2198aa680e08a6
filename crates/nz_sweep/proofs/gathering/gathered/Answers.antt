use Rattle.std.proofs.Common.{◌∙◌, sym, subst, arith}
use Rattle.nz_sweep.specs.Duals.{Coordinate, IsGathered}
use Rattle.nz_sweep.specs.Rounds.{Gathers, none}
use Rattle.nz_sweep.proofs.DualLemmas.{gathered_start, coordinate_is}
use Rattle.nz_sweep.proofs.gathering.gathered.Goals as goal

pub loop-index-init : goal.loop-index-init
loop-index-init g c =
    let e = coordinate_is c.args.coordinates.now c.args.place c.index-coordinates-place.result (omega (arith, c.requires.one_each, c.requires.inside)) c.index-coordinates-place.is in (
      subst (λ (t : Coordinate). IsGathered c.args.width c.args.list.now c.args.place 0 t) (e ∙ sym c.in-Ok.ensures) (gathered_start c.args.width c.args.list.now c.args.coordinates.now c.args.place c.requires.dual c.requires.inside),
      subst (λ (t : Coordinate). Gathers (record { valued = c.args.list.now; coordinates = c.args.coordinates.now }) c.args.place 0 t) (e ∙ sym c.in-Ok.ensures) none,
    )

pub loop-index-preserved : goal.loop-index-preserved
loop-index-preserved g c = (c.in-Ok-gathered_one.ensures.gathered, c.in-Ok-gathered_one.ensures.state)
