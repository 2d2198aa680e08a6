use Rattle.std.proofs.Common.{◌++◌, ◌∙◌, List, sym, ap, arith}
use Rattle.nz_spec.specs.Vectors.{Vector}
use Rattle.nz_sweep.proofs.NumberLemmas.{some_map}
use Rattle.nz_sweep.proofs.GeneratingLemmas.{apart_done}
use Rattle.nz_sweep.proofs.generating.set_apart.Goals as goal

pub loop-column-init : goal.loop-column-init
loop-column-init g c = (omega arith, c.requires, λ rest s. (rest, s, sym (ap (λ (t : List Vector). t ++ rest) c.new.ensures.items)), λ n k. k)

pub loop-column-preserved : goal.loop-column-preserved
loop-column-preserved g c = (
  omega (arith, c.loop-column-test.true),
  c.in-Ok.ensures.widths,
  λ rest s. let m = c.in-Ok.ensures.apart rest s in let r = c.loop-column.invariant.2 m.0 m.1 in (r.0, r.1, r.2 ∙ m.2),
  λ n k. c.loop-column.invariant.3 n (c.in-Ok.ensures.numbers n k),
)

pub returns : goal.returns
returns g c = apart_done c.args.width c.loop-column.column c.args.rows.items c.loop-column.apart.left.items c.loop-column.apart.base.items c.loop-column-test.false c.loop-column.invariant.0 c.loop-column.invariant.2

pub returns-in-Err : goal.returns-in-Err
returns-in-Err g c = λ e. some_map g.T.Scalar.HALF c.loop-column.invariant.3 (c.in-Err.ensures.numbers e)
