use Rattle.std.proofs.Common.{arith, ◌∙◌, ◌<◌, length, drop}
use Rattle.nz_text.proofs.Spots.{stop-at, run-above}
use Rattle.nz_text.proofs.pieces.find.Goals as goal

pub returns-in_default : goal.returns-in_default
returns-in_default c =
    let here = c.in-Reached.ensures in
    let lt : c.in-Reached.at < length c.args.text.now = omega (arith, here.0) in
    let solid = stop-at (drop c.args.from c.args.text.now) c.args.text.now c.in-Reached.at here.1 lt (λ e. c.in_default.not-Foreign (c.sort_of.ensures ∙ e)) in (
      run-above c.args.text.now c.in-Reached.at c.run_end.result c.run_end.ensures.edge c.run_end.ensures.above lt solid,
      c.run_end.ensures.within,
      here.1,
      c.run_end.ensures.solid,
      c.run_end.ensures.edge,
    )
