-- A system in coordinates of its lattice, and why it has none.
use Rattle.std.specs.Prelude.{◌≡◌, ◌↔◌, ◌⊎◌, ℕ, ℤ, ◌*ℤ◌, unsigned_abs, List, map, Option, Some, IfSome, Contains}
use Rattle.std.specs.List.{AllByRecursion as Each}
use Rattle.nz_spec.specs.Vectors.{Vector, combination, opposite, HasWidth, LeadsPositive, unit_vectors}
use Rattle.nz_spec.specs.Sums.{IsInGroup, IsIndependent}
use Rattle.nz_spec.specs.Systems.{System, Congruence}
use Rattle.nz_spec.specs.Constraints.{AreEquationsOf, AreRowsOf}
use Rattle.nz_spec.specs.Stages.{IsInLattice}
use Rattle.nz_linear.specs.Coordinates.{in_coordinates}
use Rattle.nz_pointed.specs.Pointed.{IsTooLarge}
use Rattle.nz_sweep.specs.Bases.{Base, CombinationSumsFit}
use Rattle.nz_sweep.specs.Numbers.{SomeNumberLarge, IsGeneratingNumber, IsEquationNumber, IsCongruenceNumber}
use Rattle.nz_sweep.specs.Rounds.{IsEquationMove}
use Rattle.nz_measures.specs.Sweeps.{IsMidway, CongruenceMove}
use Rattle.nz_measures.specs.Pools.{order_from}

-- independent vectors of width w that generate just the vectors of the set
pub record IsBaseOf (w : ℕ) (P : Vector → Type 0) (b : Base) : Type 0 where
  pub width : b.width ≡ w
  pub widths : Each (HasWidth w) b.vectors
  pub independent : IsIndependent w b.vectors
  pub same : (x : Vector) → P x ↔ IsInGroup w b.vectors x

-- of this width, and in the group of the vectors where they are given
abbrev pub IsInGiven : ℕ → Option (List Vector) → Vector → Type 0
IsInGiven w given x = HasWidth w x × IfSome given (λ vs. IsInGroup w vs x)

-- a base of the lattice of the system, and the rows of the system in its coordinates
pub record IsFrame (s : System) (base : Base) (pulled : List Vector) : Type 0 where
  pub equations : List Vector
  pub rows : List Vector
  pub are_equations : AreEquationsOf s equations
  pub are_rows : AreRowsOf s rows
  pub is_base : IsBaseOf s.width (IsInLattice s equations) base
  pub there : pulled ≡ map (λ h. in_coordinates base.vectors h) rows

-- the forms by whose values vectors of coordinates are put in order: the grading, where there is one, and then the entries
abbrev pub order_forms : ℕ → List Vector → Option Vector → List Vector
order_forms w vectors grading = map (λ h. in_coordinates vectors h) (order_from grading (unit_vectors w))

-- the vector with these coordinates
abbrev pub vector_at : Base → Vector → Vector
vector_at base c = combination base.width c base.vectors

-- that vector or its opposite, whichever has a positive first nonzero entry
pub record IsLed (x v : Vector) : Type 0 where
  pub leads : LeadsPositive v
  pub side : (v ≡ x) ⊎ (v ≡ opposite x)

-- an entry of the vector, times a number, is no value
pub record LacksMultiple (fits : ℤ → Type 0) (t : ℤ) (x : Vector) : Type 0 where
  pub entry : ℤ
  pub has : Contains x entry
  pub outside : ¬ fits (t *ℤ entry)

-- why a line is not shown: it cannot be brought back from its coordinates, or its sign cannot be set
pub data LacksLine (fits : ℤ → Type 0) (b : Base) (line : Vector) : Type 0 where
  of_vector : ¬ CombinationSumsFit fits b.width line b.vectors → LacksLine fits b line
  of_sign : {t : ℤ} → unsigned_abs t ≡ 1 → LacksMultiple fits t (vector_at b line) → LacksLine fits b line

-- the description of the generators, where they are given, forms a number above the bound
pub record AreGeneratorsTooLarge (h : ℤ) (w : ℕ) (gens : Option (List Vector)) : Type 0 where
  pub list : List Vector
  pub given : gens ≡ Some list
  pub large : IsTooLarge h w list

-- the base of the group of the vectors, where they are given, forms a number above the bound
pub record IsGroupTooLarge (h : ℤ) (w : ℕ) (given : Option (List Vector)) : Type 0 where
  pub list : List Vector
  pub same : given ≡ Some list
  pub large : SomeNumberLarge h (IsGeneratingNumber w list)

-- the cut by one of the forms, after those before it, forms a number above the bound
pub record SomeCutLarge (h : ℤ) (forms : List Vector) (first : Base) : Type 0 where
  pub form : Vector
  pub moment : Base
  pub midway : IsMidway IsEquationMove forms first form moment
  pub large : SomeNumberLarge h (IsEquationNumber form moment)

-- so it is with one of the congruences
pub record SomeCongruenceLarge (h : ℤ) (cs : List Congruence) (first : Base) : Type 0 where
  pub congruence : Congruence
  pub moment : Base
  pub midway : IsMidway CongruenceMove cs first congruence moment
  pub large : SomeNumberLarge h (IsCongruenceNumber congruence.form congruence.modulus moment)
