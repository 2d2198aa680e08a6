-- The constraints of a cone and of a lattice, in their order, and the vectors that constraints describe.
use Rattle.std.specs.Prelude.{◌≡◌, ◌↔◌, ⊤, ℕ, List, [], ◌++◌, map, Option, Some, None, ℤ}
use Rattle.nz_spec.specs.Vectors.{Vector, HasWidth}
use Rattle.nz_spec.specs.Sums.{IsInGroup}
use Rattle.nz_spec.specs.Forms.{IsDescription}
use Rattle.nz_spec.specs.Constraints.{Constraint, Zero, NotNegative, MeetsAll}
use Rattle.nz_sweep.specs.Numbers.{SomeNumberLarge, IsConstraintNumber}
use Rattle.nz_sweep.specs.GroupConstraints.{AreGroupConstraints}

-- the equations of the generators, and then their support forms
pub record AreConeConstraints (w : ℕ) (gens : List Vector) (cs : List Constraint) : Type 0 where
  pub equations : List Vector
  pub support : List Vector
  pub description : IsDescription w gens support equations
  pub whole : cs ≡ map Zero equations ++ map NotNegative support

-- the constraints of the group of the vectors, and none where these are not given
abbrev pub AreOfGiven : ℕ → Option (List Vector) → List Constraint → Type 0
AreOfGiven w None cs = cs ≡ []
AreOfGiven w (Some vs) cs = AreGroupConstraints w vs cs

-- the constraints of the cone, and last those of the group
pub record AreConstraintsOf (w : ℕ) (gens : List Vector) (given : Option (List Vector)) (cs : List Constraint) : Type 0 where
  pub of_cone : List Constraint
  pub of_given : List Constraint
  pub are_of_cone : AreConeConstraints w gens of_cone
  pub are_of_given : AreOfGiven w given of_given
  pub whole : cs ≡ of_cone ++ of_given

-- of the vectors of this width, just those of the set meet all the constraints
abbrev pub HaveMembers : ℕ → (Vector → Type 0) → List Constraint → Type 0
HaveMembers w Member cs = (x : Vector) → HasWidth w x → MeetsAll cs x ↔ Member x

-- x is in the group of the vectors, where they are given
abbrev pub IsInGiven : ℕ → Option (List Vector) → Vector → Type 0
IsInGiven w None x = ⊤
IsInGiven w (Some vs) x = IsInGroup w vs x

-- a number of the constraints of their group is above the bound, where the vectors are given
abbrev pub IsGivenTooLarge : ℤ → ℕ → Option (List Vector) → Type 0
IsGivenTooLarge bound w None = ⊥
IsGivenTooLarge bound w (Some vs) = SomeNumberLarge bound (IsConstraintNumber w vs)
