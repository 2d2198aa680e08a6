use Rattle.std.proofs.Common.{inl, arith}
use Rattle.nz_sweep.proofs.BottomLemmas.{columns_length}
use Rattle.nz_sweep.proofs.BottomCauses.{equation_large}
use Rattle.nz_sweep.proofs.ConstrainingLemmas.{equation_passed, equation_pushed}
use Rattle.nz_sweep.proofs.constraining.with_equation.Goals as goal

pub returns-in-None : goal.returns-in-None
returns-in-None g c = equation_passed c.args.width c.args.columns.now c.args.base.now c.requires.widths c.requires.leading c.args.column c.args.list c.in-None.ensures c.requires.so_far

pub from_bottom-requires-clause-end : goal.from_bottom-requires-clause-end
from_bottom-requires-clause-end g c = let n = columns_length c.args.columns.now c.args.base.now c.requires.leading in let l = c.in-Some.ensures.within in omega (arith, n, l)

pub from_bottom-requires-clause-before : goal.from_bottom-requires-clause-before
from_bottom-requires-clause-before g c = c.in-Some.ensures.before

pub from_bottom-requires-clause-sign : goal.from_bottom-requires-clause-sign
from_bottom-requires-clause-sign g c = inl c.of_i64.ensures

pub returns-in-Ok-push : goal.returns-in-Ok-push
returns-in-Ok-push g c = equation_pushed c.args.width c.args.columns.now c.args.base.now c.args.column c.in-Some.before (g.T.Scalar.integer c.of_i64.result) c.args.list c.push.new.self c.in-Ok.form c.requires.widths c.requires.leading c.of_i64.ensures c.in-Some.ensures c.in-Ok.ensures c.requires.so_far c.in-Ok-push.ensures.ok

pub returns-in-Err : goal.returns-in-Err
returns-in-Err g c = λ e. equation_large g.T.Scalar.HALF c.args.width c.args.columns.now c.args.base.now c.requires.widths c.requires.leading c.args.column c.in-Some.before (g.T.Scalar.integer c.of_i64.result) c.requires.inside c.of_i64.ensures c.in-Some.ensures (c.in-Err.ensures e)
