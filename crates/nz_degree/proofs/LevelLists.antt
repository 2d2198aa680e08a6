-- The level of a row, and the lists of the irreducible elements of one level.
use Rattle.std.proofs.Common.{◌≡◌, ◌-◌, List, [], ◌∷◌, length, get_or, IsTrue, ℤ, pos, refl, arith, sub-one}
use Rattle.nz_spec.specs.Vectors.{Vector, level_of}
use Rattle.nz_spec.specs.Systems.{System, IsSystem, IsMember}
use Rattle.nz_spec.specs.Monoids.{IsIrreducible, IsModuleGenerator}
use Rattle.nz_spec.specs.Order.{StandsBefore}
use Rattle.nz_spec.specs.Elements.{IsOrderedListOf, IsHilbertElement, IsHilbertBasis, AreModuleGenerators}
use Rattle.nz_spec.proofs.LevelLaws.{module_irreducible}
use Rattle.nz_order.specs.Picks.{Picks}
use Rattle.nz_order.proofs.SortLaws.{Picks-list, IsListOf-where}
use Rattle.nz_degree.specs.Levels.{IsAtLevel, HasEntry}

-- the level is the last entry
pub level_entry : (x : Vector) → HasEntry x → get_or x (length x - 1) (pos 0) ≡ level_of x
level_entry [] h = absurd (omega (arith, h))
level_entry (a ∷ x) h = rw sub-one (last a x)
  where
    last : (a : ℤ) (x : Vector) → get_or (a ∷ x) (length x) (pos 0) ≡ level_of (a ∷ x)
    last a [] = refl
    last a (b ∷ x) = last b x

-- of the irreducible elements those of level 0 are the Hilbert basis, and those of level 1 the module generators
pub elements_of_levels : (s : System) → IsSystem s → IsTrue s.level → (xs low high : List Vector) → IsOrderedListOf s (IsIrreducible (IsMember s)) xs → Picks (IsAtLevel (pos 0)) xs low → Picks (IsAtLevel (pos 1)) xs high → IsHilbertBasis s low × AreModuleGenerators s high
elements_of_levels s is t xs low high l p q = (
  IsListOf-where (StandsBefore s.grading) (λ x. IsIrreducible (IsMember s) x × IsAtLevel (pos 0) x) (IsHilbertElement s)
      (λ x h. record { irreducible = h.0; level_zero = λ i. h.1 }) (λ x h. (h.irreducible, h.level_zero t)) low
      (Picks-list (StandsBefore s.grading) (IsIrreducible (IsMember s)) (IsAtLevel (pos 0)) xs low l p),
  IsListOf-where (StandsBefore s.grading) (λ x. IsIrreducible (IsMember s) x × IsAtLevel (pos 1) x) (IsModuleGenerator (IsMember s))
      (λ x h. (module_irreducible s is t x).1 h) (λ x h. (module_irreducible s is t x).0 h) high
      (Picks-list (StandsBefore s.grading) (IsIrreducible (IsMember s)) (IsAtLevel (pos 1)) xs high l q),
)
