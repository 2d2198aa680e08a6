use Rattle.std.proofs.Common.{refl, ◌∙◌, arith}
use Rattle.nz_sweep.proofs.BottomLemmas.{lead_found, lead_none}
use Rattle.nz_sweep.proofs.bottom.leading_column.Goals as goal

pub returns-then-is_nonzero : goal.returns-then-is_nonzero
returns-then-is_nonzero g c = λ j l. lead_found c.args.row.now c.loop-column.column _ c.loop-column.invariant c.at.ensures (c.if-is_nonzero.ensures.0 refl) j l

pub returns : goal.returns
returns g c = λ j l. c.len.ensures ∙ lead_none c.args.row.now c.loop-column.column (omega (arith, c.loop-column-test.false, c.len-column-end.ensures)) c.loop-column.invariant j l
