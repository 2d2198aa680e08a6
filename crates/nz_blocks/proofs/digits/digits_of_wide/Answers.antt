use Rattle.std.proofs.Common.{◌<◌, ◌≡◌, ◌^◌, ◌+◌, length, arith, rules}
use Rattle.std.specs.Fmt.{decimal}
use Rattle.nz_blocks.proofs.DigitLemmas.{step_wide, few_wide, few_all}
use Rattle.nz_blocks.proofs.digits.digits_of_wide.Goals as goal

pub overflow_add-digits : goal.overflow_add-digits
overflow_add-digits c =
    let few : c.rests.digits + 1 < 2 ^ 64 = few_wide c.args.number c.rests.digits (length (decimal c.rests.rest)) (search rules) c.rests.invariant in
    search (rules, few)

pub rests-preserved : goal.rests-preserved
rests-preserved c = step_wide c.args.number c.rests.rest c.rests.digits (omega (arith, c.rests-test.true)) (search rules) c.rests.invariant

pub overflow_add-result : goal.overflow_add-result
overflow_add-result c =
    let all : length (decimal c.args.number) ≡ c.rests.digits + c.digits_of.result = omega (arith, c.rests.invariant, c.digits_of.ensures) in
    let few : c.rests.digits + c.digits_of.result < 2 ^ 64 = few_all c.args.number c.rests.digits c.digits_of.result (search rules) all in
    search (rules, few)
