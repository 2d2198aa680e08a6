-- Vectors by their level, and what the levels of the irreducible elements are.
use Rattle.std.specs.Prelude.{◌≡◌, ◌≤◌, Bool, true, false, IsTrue, List, length, ℤ, pos}
use Rattle.nz_spec.specs.Vectors.{Vector, level_of}
use Rattle.nz_spec.specs.Systems.{System, IsSystem, IsMember}
use Rattle.nz_spec.specs.Monoids.{IsIrreducible}
use Rattle.nz_spec.specs.Elements.{IsOrderedListOf, IsHilbertBasis, AreModuleGenerators}
use Rattle.nz_order.specs.Picks.{Picks}

-- x has at least one entry, so that it has a last one
abbrev pub HasEntry : Vector → Type 0
HasEntry x = 1 ≤ length x

-- the last entry of x is l
abbrev pub IsAtLevel : ℤ → Vector → Type 0
IsAtLevel l x = level_of x ≡ l

-- so it is, or so it is not
abbrev pub IsOnSide : Bool → ℤ → Vector → Type 0
IsOnSide true l x = IsAtLevel l x
IsOnSide false l x = ¬ IsAtLevel l x

-- of the list of all irreducible elements of a system with a level, those of level 0 are the Hilbert basis, and those of level 1 the module generators
abbrev pub LevelsAreElements : Type 0
LevelsAreElements = (s : System) → IsSystem s → IsTrue s.level → (xs zero one : List Vector) → IsOrderedListOf s (IsIrreducible (IsMember s)) xs → Picks (IsAtLevel (pos 0)) xs zero → Picks (IsAtLevel (pos 1)) xs one → IsHilbertBasis s zero × AreModuleGenerators s one
