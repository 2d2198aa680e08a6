use Rattle.std.proofs.Common.{◌<◌, ◌≤◌, ◌^◌, ◌+◌, length, arith, rules}
use Rattle.std.specs.Fmt.{decimal}
use Rattle.itoa.proofs.Decimal.{length_wide}
use Rattle.nz_blocks.proofs.digits.text_length.Goals as goal

pub overflow_add-result : goal.overflow_add-result
overflow_add-result c =
    let short : length (decimal c.unsigned_abs.result) ≤ 39 = length_wide c.unsigned_abs.result (search rules) in
    let few : c.digits_of_wide-digits.result + 1 < 2 ^ 64 = omega (arith, short, c.digits_of_wide-digits.ensures) in
    search (rules, few)
