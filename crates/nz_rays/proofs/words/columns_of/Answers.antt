use Rattle.std.proofs.Common.{arith}
use Rattle.nz_rays.proofs.WordLemmas.{columns_whole}
use Rattle.nz_rays.proofs.words.columns_of.Goals as goal

pub returns : goal.returns
returns c = columns_whole c.args.sets.now c.loop-number.columns.items c.args.bound c.loop-number.number c.requires (omega (arith, c.loop-number-test.false, c.loop-number.auto)) c.loop-number.invariant
