-- Lattices, as sets of vectors.
use Rattle.std.specs.Prelude.{ℕ}
use Rattle.nz_spec.specs.Vectors.{Vector, minus, zero_vector, HasWidth}
use Rattle.nz_spec.specs.Monoids.{IsClosed}

-- a set of vectors of one width with 0, sums and differences
pub record IsLattice (w : ℕ) (Lattice : Vector → Type 0) : Type 0 where
  pub wide : (x : Vector) → Lattice x → HasWidth w x
  pub zero_in : Lattice (zero_vector w)
  pub sums : IsClosed Lattice
  pub differences : (x y : Vector) → Lattice x → Lattice y → Lattice (minus x y)
