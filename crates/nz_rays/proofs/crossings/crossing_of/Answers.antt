use Rattle.std.proofs.Common.{refl, arith}
use Rattle.nz_rays.proofs.CrossingLemmas.{common_of}
use Rattle.nz_rays.proofs.CutSetLemmas.{shared_in, shared_places_in, shared_few, shared_covered, shared_adjacent}
use Rattle.nz_rays.proofs.crossings.crossing_of.Goals as goal

pub have_few-requires-clause-first : goal.have_few-requires-clause-first
have_few-requires-clause-first c = shared_in c.requires.columns.0 c.args.zeros.now c.args.columns.now c.requires.columns.1.1 c.args.above c.requires.above

pub have_few-requires-clause-second : goal.have_few-requires-clause-second
have_few-requires-clause-second c = shared_in c.requires.columns.0 c.args.zeros.now c.args.columns.now c.requires.columns.1.1 c.args.below c.requires.below

pub are_adjacent-requires-clause-above : goal.are_adjacent-requires-clause-above
are_adjacent-requires-clause-above c = shared_in c.requires.columns.0 c.args.zeros.now c.args.columns.now c.requires.columns.1.1 c.args.above c.requires.above

pub are_adjacent-requires-clause-below : goal.are_adjacent-requires-clause-below
are_adjacent-requires-clause-below c = shared_in c.requires.columns.0 c.args.zeros.now c.args.columns.now c.requires.columns.1.1 c.args.below c.requires.below

pub are_adjacent-requires-clause-near : goal.are_adjacent-requires-clause-near
are_adjacent-requires-clause-near c = shared_places_in c.requires.columns.0 c.args.zeros.now c.args.columns.now c.requires.columns.1.1 c.args.near.now c.requires.near.within

pub returns-then-have_few : goal.returns-then-have_few
returns-then-have_few c = shared_few c.requires.columns.0 c.args.zeros.now c.args.columns.now c.requires.columns.1.1 c.args.above c.args.below c.requires.columns.1.0 c.requires.above c.requires.below c.requires.sets c.args.needed c.requires.few (c.if-have_few.ensures refl)

pub returns-then-not-are_adjacent : goal.returns-then-not-are_adjacent
returns-then-not-are_adjacent c = shared_covered c.requires.columns.0 c.args.zeros.now c.args.columns.now c.requires.columns.1.1 c.args.above c.args.below c.requires.columns.1.0 c.requires.above c.requires.below c.requires.sets c.args.near.now c.requires.near.within c.if-not-are_adjacent.ensures

pub returns-then-len-needed : goal.returns-then-len-needed
returns-then-len-needed c =
    c.requires.few c.in-Ok.zeros (common_of c.args.zeros.now c.args.above c.args.below c.at.result.now c.at-2.result.now c.in-Ok.zeros c.at.ensures c.at-2.ensures c.in-Ok.ensures) (omega (arith, c.if-len-needed.true, c.len.ensures))

pub returns : goal.returns
returns c =
    let k = common_of c.args.zeros.now c.args.above c.args.below c.at.result.now c.at-2.result.now c.in-Ok.zeros c.at.ensures c.at-2.ensures c.in-Ok.ensures in (
      refl,
      refl,
      k,
      shared_adjacent c.requires.columns.0 c.args.zeros.now c.args.columns.now c.requires.columns.1.1 c.args.above c.args.below c.requires.columns.1.0 c.requires.above c.requires.below c.requires.sets c.args.near.now c.in-Ok.zeros c.args.needed c.requires.near k
          (omega (arith, c.if-len-needed.false, c.len.ensures)) c.if-not-are_adjacent.ensures,
    )
