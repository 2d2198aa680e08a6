use Rattle.std.specs.Prelude.{unsigned_abs}
use Rattle.nz_scalar.proofs.GcdLemmas.{SameDivisors}
use Rattle.nz_scalar.proofs.division.common_divisor.Given as goal

abbrev pub invariant-steps : goal.invariant-steps
invariant-steps g l = g.N.Number.fits (g.N.Number.value l.x) × g.N.Number.fits (g.N.Number.value l.y) × SameDivisors (g.N.Number.value l.fn.a) (g.N.Number.value l.fn.b) (g.N.Number.value l.x) (g.N.Number.value l.y)

abbrev pub decreases-steps : goal.decreases-steps
decreases-steps g l = unsigned_abs (g.N.Number.value l.y)
