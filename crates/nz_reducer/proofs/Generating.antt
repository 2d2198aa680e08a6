-- What is left of candidates that generate: the irreducible elements.
use Rattle.std.proofs.Common.{ℕ, List, Contains}
use Rattle.std.specs.List.{AllByRecursion as Each}
use Rattle.nz_spec.specs.Vectors.{Vector}
use Rattle.nz_spec.specs.Monoids.{IsPositive, IsIrreducible}
use Rattle.nz_spec.specs.Order.{IsLexBefore, IsListOf}
use Rattle.nz_spec.specs.Stages.{IsInStage}
use Rattle.nz_spec.proofs.ListLaws.{Each-contains, Each-from_contains}
use Rattle.nz_order.specs.Lattices.{IsLattice}
use Rattle.nz_order.specs.Reduction.{Reduces}
use Rattle.nz_order.specs.Totals.{IsTotalOf}
use Rattle.nz_order.proofs.IrreducibleLaws.{irreducible_listed}
use Rattle.nz_order.proofs.RowLaws.{stage_closed, stage_zero, stage_wide}
use Rattle.nz_order.proofs.SortLaws.{IsListOf-where}
use Rattle.nz_reducer.specs.Reducers.{IsNotNegative, IsUnreduced}

-- where the vectors of a lattice at which no row is negative have no line, and each is a sum of candidates, the candidates that no other one reduces are the irreducible elements
pub unreduced_irreducible : (w : ℕ) (Lattice : Vector → Type 0) → IsLattice w Lattice → (rows candidates : List Vector) → IsPositive (IsInStage Lattice rows) → Each (IsInStage Lattice rows) candidates → ((x : Vector) → IsInStage Lattice rows x → IsTotalOf w (Contains candidates) x) → (xs : List Vector) → IsListOf IsLexBefore (IsUnreduced rows candidates) xs → IsListOf IsLexBefore (IsIrreducible (IsInStage Lattice rows)) xs
unreduced_irreducible w Lattice lattice rows candidates positive members all xs p =
    let Member : Vector → Type 0 = IsInStage Lattice rows in
    let both = irreducible_listed Member (stage_closed w Lattice lattice rows) w (stage_wide w Lattice lattice rows) (stage_zero w Lattice lattice rows) positive candidates members all in
    IsListOf-where IsLexBefore (IsUnreduced rows candidates) (IsIrreducible Member)
    (λ u h. (both u).1 (h.candidate, h.nonzero, Each-from_contains (λ v. ¬ Reduces Member v u) candidates (λ v c r. Each-contains (λ v. ¬ Reduces (IsNotNegative rows) v u) candidates v h.unreduced c (record { nonzero = r.nonzero; other = r.other; left = r.left.at_least }))))
    (λ u i. let t = (both u).0 i in record {
      candidate = t.0;
      nonzero = t.1;
      unreduced = Each-from_contains (λ v. ¬ Reduces (IsNotNegative rows) v u) candidates (λ v c r. Each-contains (λ v. ¬ Reduces Member v u) candidates v t.2 c (record {
        nonzero = r.nonzero;
        other = r.other;
        left = record { in_lattice = lattice.differences u v (Each-contains Member candidates u members t.0).in_lattice (Each-contains Member candidates v members c).in_lattice; at_least = r.left };
      }));
    })
    xs p
