use Rattle.std.proofs.Common.{length, sym, subst}
use Rattle.std.specs.List.{AllByRecursion as Each}
use Rattle.nz_spec.specs.Vectors.{HasWidth}
use Rattle.nz_sweep.specs.Clearing.{vectors_of, AreZero}
use Rattle.nz_sweep.specs.Cuts.{IsValueAt}
use Rattle.nz_sweep.specs.Takings.{measured, at_moment}
use Rattle.nz_sweep.proofs.NumberLemmas.{some_map}
use Rattle.nz_sweep.proofs.StepLemmas.{valued_vectors, zeros_are}
use Rattle.nz_sweep.proofs.generating.take_out.Goals as goal

pub returns-in-Err : goal.returns-in-Err
returns-in-Err g c = λ e. some_map g.T.Scalar.HALF (λ n k. measured k) (c.in-Err.ensures e)

pub returns-in-None : goal.returns-in-None
returns-in-None g c = zeros_are c.args.form.now c.args.vectors.now c.in-Ok.list.items c.in-Ok.ensures (subst AreZero c.as_slice.ensures.value c.in-None.ensures)

pub clear_rows-requires-clause-widths : goal.clear_rows-requires-clause-widths
clear_rows-requires-clause-widths g c = subst (λ n. Each (HasWidth n) (vectors_of c.in-Ok.list.items)) (sym c.len.ensures) (subst (Each (HasWidth (length c.args.form.now))) (sym (valued_vectors (IsValueAt c.args.form.now) c.args.vectors.now c.in-Ok.list.items c.in-Ok.ensures)) c.requires)

pub returns-in-Err-clear_rows : goal.returns-in-Err-clear_rows
returns-in-Err-clear_rows g c = λ e. some_map g.T.Scalar.HALF (λ n k. at_moment c.in-Ok.ensures k.1 k.2) (c.in-Err-clear_rows.ensures e)
