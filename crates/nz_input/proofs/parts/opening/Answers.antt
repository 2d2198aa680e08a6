use Rattle.nz_input.proofs.OnePart.{one-opening, opening-only}
use Rattle.nz_input.proofs.parts.opening.Goals as goal

pub returns-in-Ok-clause-only : goal.returns-in-Ok-clause-only
returns-in-Ok-clause-only c = λ d starts. one-opening c.args.text.now _ d _ c.in-Ok.ensures.ok starts

pub returns-in-Err-clause-only : goal.returns-in-Err-clause-only
returns-in-Err-clause-only c = λ d starts. opening-only c.args.text.now c.in-Err.stop c.refusal.result d c.in-Err.ensures.err c.refusal.ensures starts
