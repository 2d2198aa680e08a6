-- Cuts: the vectors of the group of a base at which a form is 0, or a multiple of a modulus.
use Rattle.std.specs.Prelude.{◌≡◌, ◌↔◌, ◌⊎◌, ℕ, List, ◌∷◌, [], ℤ, pos, ◌-ℤ◌, ◌*ℤ◌, ◌≤ℤ◌, ◌<ℤ◌}
use Rattle.std.specs.List.{AllByRecursion as Each, AllZip, insert}
use Rattle.nz_spec.specs.Vectors.{Vector, dot, scaled, HasWidth, IsMultipleOf}
use Rattle.nz_spec.specs.Sums.{IsInGroup, IsIndependent}
use Rattle.nz_scalar.specs.Division.{HasGcd}
use Rattle.nz_sweep.specs.Clearing.{Valued, vectors_of, IsCleared}

-- us are independent vectors of that width, and generate those vectors of the group of vs for which it holds
pub record IsCut (Holds : Vector → Type 0) (w : ℕ) (vs us : List Vector) : Type 0 where
  pub widths : Each (HasWidth w) us
  pub independent : IsIndependent w us
  pub same : (x : Vector) → (IsInGroup w vs x × Holds x) ↔ IsInGroup w us x

-- the vectors, each with a value that it is to have
abbrev pub AreValued : (Vector → ℤ → Type 0) → List Vector → List Valued → Type 0
AreValued Has vs ls = AllZip (λ v (l : Valued). (l.vector ≡ v) × Has v l.value) vs ls

-- the value of the form
abbrev pub IsValueAt : Vector → Vector → ℤ → Type 0
IsValueAt h v a = a ≡ dot h v

-- r is the remainder of a by m
pub record IsRemainder (m a r : ℤ) : Type 0 where
  pub nonneg : pos 0 ≤ℤ r
  pub below : r <ℤ m
  pub rest : IsMultipleOf m (a -ℤ r)

-- the remainder of the value of the form by m
abbrev pub IsRemainderAt : Vector → ℤ → Vector → ℤ → Type 0
IsRemainderAt h m v r = IsRemainder m (dot h v) r

-- the values of the form are cleared, and the vector with a value other than 0 is taken out
pub record TakesOut (h : Vector) (vs us : List Vector) : Type 0 where
  pub values : List Valued
  pub valued : AreValued (IsValueAt h) vs values
  pub place : ℕ
  pub own : Valued
  pub others : List Valued
  pub cleared : IsCleared values place own others
  pub left : us ≡ vectors_of others

-- nothing changes where the form is 0 at all
abbrev pub IsEquationStep : Vector → List Vector → List Vector → Type 0
IsEquationStep h vs us = (Each (λ v. dot h v ≡ pos 0) vs × (us ≡ vs)) ⊎ TakesOut h vs us

-- t is m divided by the greatest common divisor of a and m
pub record IsCofactor (a m t : ℤ) : Type 0 where
  pub g : ℤ
  pub gcd : HasGcd (a ∷ m ∷ []) g
  pub quotient : m ≡ t *ℤ g

-- the vector is multiplied by m divided by the greatest common divisor of its value and m, and stands at its place among the others
pub record IsMultiplied (m : ℤ) (place : ℕ) (own : Valued) (others us : List Vector) : Type 0 where
  pub t : ℤ
  pub cofactor : IsCofactor own.value m t
  pub left : us ≡ insert others place (scaled t own.vector)

-- the remainders are cleared, and the vector with a remainder other than 0 is multiplied
pub record Multiplies (h : Vector) (m : ℤ) (vs us : List Vector) : Type 0 where
  pub values : List Valued
  pub valued : AreValued (IsRemainderAt h m) vs values
  pub place : ℕ
  pub own : Valued
  pub others : List Valued
  pub cleared : IsCleared values place own others
  pub multiplied : IsMultiplied m place own (vectors_of others) us

-- nothing changes where the form is a multiple of m at all
abbrev pub IsCongruenceStep : Vector → ℤ → List Vector → List Vector → Type 0
IsCongruenceStep h m vs us = (Each (λ v. IsMultipleOf m (dot h v)) vs × (us ≡ vs)) ⊎ Multiplies h m vs us
