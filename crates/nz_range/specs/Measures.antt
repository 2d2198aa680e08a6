-- The measures of vectors, of forms, and of a form at a vector, by which the causes of Range are stated.
use Rattle.std.specs.Prelude.{◌≡◌, ◌⊎◌, ℕ, ◌+◌, ℤ, pos, ◌*ℤ◌, ◌<ℤ◌, unsigned_abs, List, [], ◌∷◌, Contains}
use Rattle.nz_spec.specs.Vectors.{Vector}

-- the sum of the sizes of the entries
abbrev pub measure : Vector → ℕ
measure [] = 0
measure (a ∷ x) = unsigned_abs a + measure x

-- the sum of the sizes of the products of the entries of a form and a vector
abbrev pub pair_measure : Vector → Vector → ℕ
pair_measure [] x = 0
pair_measure (a ∷ f) [] = 0
pair_measure (a ∷ f) (b ∷ x) = unsigned_abs (a *ℤ b) + pair_measure f x

-- one of these vectors or forms has a measure above the bound
pub record SomeLarge (bound : ℤ) (Named : Vector → Type 0) : Type 0 where
  pub vector : Vector
  pub named : Named vector
  pub large : bound <ℤ pos (measure vector)

-- one of these forms has, at one of these vectors, a measure above the bound
pub record SomeLargeAt (bound : ℤ) (IsForm Named : Vector → Type 0) : Type 0 where
  pub form : Vector
  pub vector : Vector
  pub is_form : IsForm form
  pub named : Named vector
  pub large : bound <ℤ pos (pair_measure form vector)

-- one of these vectors, or the form at one of them, has a measure above the bound
abbrev pub AreLargeFor : ℤ → Vector → List Vector → Type 0
AreLargeFor bound f vs = SomeLarge bound (Contains vs) ⊎ SomeLargeAt bound (λ g. g ≡ f) (Contains vs)
