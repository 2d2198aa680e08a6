-- Sums of terms of both signs.
use Rattle.std.specs.Prelude.{◌≡◌, ◌⊎◌, List, [], ◌∷◌, ◌++◌, ℤ, pos, ◌+ℤ◌, ◌≤ℤ◌}
use Rattle.std.specs.List.{AllByRecursion as Each}

-- the sum of all
abbrev pub total : List ℤ → ℤ
total [] = pos 0
total (a ∷ us) = a +ℤ total us

-- numbers of at least 0, and numbers of at most 0, which are values of the type
pub record AreTerms (fits : ℤ → Type 0) (above below : List ℤ) : Type 0 where
  pub nonneg : Each (λ a. pos 0 ≤ℤ a) above
  pub nonpos : Each (λ a. a ≤ℤ pos 0) below
  pub above_fit : Each fits above
  pub below_fit : Each fits below

-- t is taken off the end of one of the lists: of that whose sign is not the sum's, or of the only one that is left
abbrev pub TakesOne : ℤ → List ℤ → List ℤ → List ℤ → List ℤ → ℤ → Type 0
TakesOne sum above below above' below' t = ((above ≡ above' ++ (t ∷ [])) × (below ≡ below') × ((sum ≤ℤ pos 0) ⊎ (below ≡ []))) ⊎ ((below ≡ below' ++ (t ∷ [])) × (above ≡ above') × ((pos 0 ≤ℤ sum) ⊎ (above ≡ [])))
