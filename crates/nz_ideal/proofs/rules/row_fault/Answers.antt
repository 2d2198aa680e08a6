use Rattle.std.proofs.Common.{rules}
use Rattle.nz_ideal.proofs.rules.row_fault.Goals as goal

pub returns-then-has_low_exponent : goal.returns-then-has_low_exponent
returns-then-has_low_exponent c = search rules

pub returns-else-has_low_exponent : goal.returns-else-has_low_exponent
returns-else-has_low_exponent c = search rules
