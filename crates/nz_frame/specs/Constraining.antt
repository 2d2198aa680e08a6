-- The congruences of a given lattice, and all constraints of a system.
use Rattle.std.specs.Prelude.{◌≡◌, ℕ, List, [], ◌∷◌, ◌++◌, Option, Some, None, ℤ}
use Rattle.nz_spec.specs.Vectors.{Vector}
use Rattle.nz_spec.specs.Systems.{Congruence, System}
use Rattle.nz_spec.specs.Constraints.{Constraint, Zero, Multiple, NotNegative, AreConstraints, IsFirstBroken}
use Rattle.nz_sweep.specs.Generating.{AreSetApart}
use Rattle.nz_sweep.specs.GroupConstraints.{AreGroupCongruences, AreGroupConstraints}
use Rattle.nz_sweep.specs.Numbers.{SomeNumberLarge, IsGeneratingNumber, IsConstraintNumber}

-- the congruences of the vectors that the sweep sets apart as a base of their group
pub record AreSweptCongruences (w : ℕ) (vs : List Vector) (gs : List Congruence) : Type 0 where
  pub base : List Vector
  pub set_apart : AreSetApart w 0 vs base
  pub congruences : AreGroupCongruences w base gs

-- the congruences of the given lattice, and none where none is given
abbrev pub AreGivenCongruences : ℕ → Option (List Vector) → List Congruence → Type 0
AreGivenCongruences w None gs = gs ≡ []
AreGivenCongruences w (Some lat) gs = AreSweptCongruences w lat gs

-- all constraints of the system, in the order in which they are tried
pub record AreAllConstraints (s : System) (cs : List Constraint) : Type 0 where
  pub of_group : List Congruence
  pub are_of_group : AreGivenCongruences s.width s.lat of_group
  pub constraints : AreConstraints s of_group cs

-- c is the first of them that fails at x
pub record IsOutside (s : System) (x : Vector) (c : Constraint) : Type 0 where
  pub constraints : List Constraint
  pub are_all : AreAllConstraints s constraints
  pub first : IsFirstBroken constraints x c

-- of some constraints those that are congruences
abbrev pub congruences_in : List Constraint → List Constraint
congruences_in [] = []
congruences_in (Zero f ∷ cs) = congruences_in cs
congruences_in (Multiple f m ∷ cs) = Multiple f m ∷ congruences_in cs
congruences_in (NotNegative f ∷ cs) = congruences_in cs

-- after the constraints before come the congruences of the base that the sweep sets apart of the vectors
pub record AreWithSwept (w : ℕ) (vs : List Vector) (before all : List Constraint) : Type 0 where
  pub base : List Vector
  pub of_base : List Constraint
  pub set_apart : AreSetApart w 0 vs base
  pub are_of_base : AreGroupConstraints w base of_base
  pub whole : all ≡ before ++ congruences_in of_base

-- so it is where a lattice is given, and else nothing comes after them
abbrev pub AreWithGiven : ℕ → Option (List Vector) → (before all : List Constraint) → Type 0
AreWithGiven w None before all = all ≡ before
AreWithGiven w (Some lat) before all = AreWithSwept w lat before all

-- a number by which the base of the given lattice is found, or one of the constraints of that base, is above the bound
pub data IsLatticeTooLarge (bound : ℤ) (w : ℕ) (given : Option (List Vector)) : Type 0 where
  finding_base : {lat : List Vector} → given ≡ Some lat → SomeNumberLarge bound (IsGeneratingNumber w lat) → IsLatticeTooLarge bound w given
  constraining_base : {lat base : List Vector} → given ≡ Some lat → AreSetApart w 0 lat base → SomeNumberLarge bound (IsConstraintNumber w base) → IsLatticeTooLarge bound w given
