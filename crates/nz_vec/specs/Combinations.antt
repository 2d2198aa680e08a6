-- Which sums of two multiples a type can form.
use Rattle.std.specs.Prelude.{ℤ, ◌+ℤ◌, ◌*ℤ◌, [], ◌∷◌, ⊤}
use Rattle.nz_spec.specs.Vectors.{Vector}

-- both products and their sum are values of the type
abbrev pub TermFits : (ℤ → Type 0) → ℤ → ℤ → ℤ → ℤ → Type 0
TermFits fits a x b y = fits (a *ℤ x) × fits (b *ℤ y) × fits (a *ℤ x +ℤ b *ℤ y)

-- so it is at each entry of a u + b v
abbrev pub CombinationFits : (ℤ → Type 0) → ℤ → Vector → ℤ → Vector → Type 0
CombinationFits fits a [] b v = ⊤
CombinationFits fits a (x ∷ u) b [] = ⊤
CombinationFits fits a (x ∷ u) b (y ∷ v) = TermFits fits a x b y × CombinationFits fits a u b v
