use Rattle.std.proofs.Common.{inr}
use Rattle.nz_run.proofs.solving.answer.Goals as goal

pub returns-in-Ok-blocks : goal.returns-in-Ok-blocks
returns-in-Ok-blocks g c = (
  record {
    outcome = c.in-Ok.outcome;
    solution = c.in-Ok.ensures.outcome.0;
    within = c.in-Ok.ensures.within;
    same = c.in-Ok-blocks.ensures;
  },
  c.in-Ok.ensures.outcome.1,
)

pub returns : goal.returns
returns g c = inr (c.in-Ok.ensures.outcome.1.passed, c.in-Ok.ensures.outcome.1.telling)
