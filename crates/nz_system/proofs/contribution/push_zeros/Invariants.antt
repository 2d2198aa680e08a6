use Rattle.std.proofs.Common.{◌≡◌, ◌++◌}
use Rattle.nz_spec.specs.Vectors.{zero_vector}
use Rattle.nz_system.proofs.contribution.push_zeros.Given as goal

abbrev pub invariant-loop : goal.invariant-loop
invariant-loop l = l.entries.items ≡ l.fn.entries.items ++ zero_vector l.counter
