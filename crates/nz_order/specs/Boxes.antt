-- Systems of congruences over the orthant, and the box in which they have all their irreducible elements.
use Rattle.std.specs.Prelude.{◌≡◌, ◌≢◌, ℕ, List, [], pos, ◌≤ℤ◌, None}
use Rattle.std.specs.List.{AllZip, AllByRecursion as Each}
use Rattle.nz_spec.specs.Vectors.{Vector, unit_vectors, IsNonzero, IsMultipleOf}
use Rattle.nz_spec.specs.Systems.{Congruence, System, IsMultipleBy}

-- the system has congruences and the orthant alone
pub record IsOrthant (s : System) : Type 0 where
  pub no_equations : s.eq ≡ []
  pub no_generators : s.gens ≡ None
  pub no_group : s.lat ≡ None
  pub orthant : s.ge ≡ unit_vectors s.width

-- each congruence holds at x
abbrev pub Holds : List Congruence → Vector → Type 0
Holds cg x = Each (λ c. IsMultipleBy c x) cg

-- each entry is at least 0
abbrev pub NonNegative : Vector → Type 0
NonNegative x = Each (λ a. pos 0 ≤ℤ a) x

-- each entry is from 0 to m
abbrev pub IsWithin : ℕ → Vector → Type 0
IsWithin m x = Each (λ a. (pos 0 ≤ℤ a) × (a ≤ℤ pos m)) x

-- each entry of y is at most that of x
abbrev pub IsBelow : Vector → Vector → Type 0
IsBelow y x = AllZip ◌≤ℤ◌ y x

-- no nonzero member but x is below x
abbrev pub HasNoOtherBelow : (Vector → Type 0) → Vector → Type 0
HasNoOtherBelow Member x = (y : Vector) → Member y → IsNonzero y → y ≢ x → IsBelow y x → ⊥

-- m is a multiple of each modulus
abbrev pub IsCommonMultiple : System → ℕ → Type 0
IsCommonMultiple s m = Each (λ (c : Congruence). IsMultipleOf c.modulus (pos m)) s.cg
