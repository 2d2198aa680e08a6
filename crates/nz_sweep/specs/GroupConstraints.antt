-- The constraints of the group of a base: its equations, and its dual forms as congruences.
use Rattle.std.specs.Prelude.{◌≡◌, ℕ, ◌<◌, ◌≤◌, List, [], ◌∷◌, ◌++◌, length, map, pos, ◌<ℤ◌, Contains}
use Rattle.std.specs.List.{AllByRecursion as Each, AllZip}
use Rattle.nz_spec.specs.Vectors.{Vector, dot}
use Rattle.nz_spec.specs.Order.{Pairwise}
use Rattle.nz_spec.specs.Forms.{AreEquations, IsEquationAt, IsDualForm}
use Rattle.nz_spec.specs.Systems.{Congruence}
use Rattle.nz_spec.specs.Constraints.{Constraint, Zero, constraint_of}
use Rattle.nz_linear.specs.Echelon.{EndsAt}
use Rattle.nz_sweep.specs.Duals.{Coordinate}
use Rattle.nz_sweep.specs.Bottom.{column_at}

-- the dual form of the vector, with its value there
pub record IsDualCoordinate (w : ℕ) (vs : List Vector) (v : Vector) (c : Coordinate) : Type 0 where
  pub form : IsDualForm w vs v c.form
  pub divisor : c.divisor ≡ dot c.form v

-- the form is to be a multiple of the divisor
abbrev pub congruence_of : Coordinate → Congruence
congruence_of c = record { form = c.form; modulus = c.divisor }

-- the congruences of those with a divisor above 1
pub data AreAboveOne : List Coordinate → List Congruence → Type 0 where
  none : AreAboveOne [] []
  pass : {c : Coordinate} {cs : List Coordinate} {gs : List Congruence} → c.divisor ≡ pos 1 → AreAboveOne cs gs → AreAboveOne (c ∷ cs) gs
  keep : {c : Coordinate} {cs : List Coordinate} {gs : List Congruence} → pos 1 <ℤ c.divisor → AreAboveOne cs gs → AreAboveOne (c ∷ cs) (congruence_of c ∷ gs)

-- each dual form is to be a multiple of its value at its own vector, where that is above 1
pub record AreGroupCongruences (w : ℕ) (vs : List Vector) (gs : List Congruence) : Type 0 where
  pub coordinates : List Coordinate
  pub dual : AllZip (IsDualCoordinate w vs) vs coordinates
  pub above_one : AreAboveOne coordinates gs

-- the equations and then the congruences of the vectors
pub record AreGroupConstraints (w : ℕ) (vs : List Vector) (cs : List Constraint) : Type 0 where
  pub equations : List Vector
  pub congruences : List Congruence
  pub are_equations : AreEquations w vs equations
  pub are_congruences : AreGroupCongruences w vs congruences
  pub whole : cs ≡ map Zero equations ++ map constraint_of congruences

-- so many of the columns stand before c, and the others after it
pub record IsBetween (columns : List ℕ) (c n : ℕ) : Type 0 where
  pub within : n ≤ length columns
  pub before : (i : ℕ) → i < n → column_at columns i < c
  pub behind : (i : ℕ) → n ≤ i → i < length columns → c < column_at columns i

-- the equations of the columns before c, without those at which a vector leads
pub record AreEquationsBefore (w : ℕ) (columns : List ℕ) (vs : List Vector) (c : ℕ) (cs : List Constraint) : Type 0 where
  pub others : List ℕ
  pub forms : List Vector
  pub in_order : Pairwise ◌<◌ others
  pub only : Each (λ k. (k < c) × (¬ Contains columns k)) others
  pub all : (k : ℕ) → k < c → ¬ Contains columns k → Contains others k
  pub each : AllZip (λ k f. IsEquationAt w vs k f × EndsAt k f) others forms
  pub whole : cs ≡ map Zero forms
