use Rattle.std.proofs.Common.{◌<◌, ◌^◌, ◌+◌, arith, rules}
use Rattle.nz_blocks.proofs.DigitLemmas.{step_narrow, end_narrow, few_narrow}
use Rattle.nz_blocks.proofs.digits.digits_of.Goals as goal

pub overflow_add-digits : goal.overflow_add-digits
overflow_add-digits c =
    let few : c.rests.digits + 1 < 2 ^ 64 = few_narrow c.args.number c.rests.rest c.rests.digits (search rules) c.rests.invariant in
    search (rules, few)

pub rests-preserved : goal.rests-preserved
rests-preserved c = step_narrow c.args.number c.rests.rest c.rests.digits (omega (arith, c.rests-test.true)) (search rules) c.rests.invariant

pub returns : goal.returns
returns c = end_narrow c.args.number c.rests.rest c.rests.digits (omega (arith, c.rests-test.false)) c.rests.invariant
