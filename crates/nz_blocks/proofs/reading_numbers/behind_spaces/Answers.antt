use Rattle.std.proofs.Common.{◌∙◌, arith}
use Rattle.nz_blocks.proofs.Readings.{unspaced_step}
use Rattle.nz_blocks.proofs.reading_numbers.behind_spaces.Goals as goal

pub spaces-preserved : goal.spaces-preserved
spaces-preserved c = record {
  rest = unspaced_step c.args.text.now c.spaces.place c.spaces-test.ensures ∙ c.spaces.invariant.rest;
  forward = omega (arith, c.spaces.invariant.forward);
}
