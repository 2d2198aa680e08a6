-- Sums of integers that a type forms without leaving it on the way.
use Rattle.std.specs.Prelude.{◌≡◌, ◌⊎◌, ⊤, List, [], ◌∷◌, ◌++◌, map, ℤ, pos, ◌+ℤ◌, ◌≤ℤ◌, ◌<ℤ◌, Contains}
use Rattle.std.specs.List.{AllByRecursion as Each}
use Rattle.nz_vec.specs.declared.answers.Num.{Num}
use Rattle.nz_vec.specs.declared.answers.Num.TheVariants.{Range, NoMemory}

-- the sum of the numbers
abbrev pub sum_of : List ℤ → ℤ
sum_of [] = pos 0
sum_of (a ∷ xs) = a +ℤ sum_of xs

-- a term or the sum is no value of the type, or memory is out
abbrev pub IsSumRefusal : (ℤ → Type 0) → List ℤ → Num → Type 0
IsSumRefusal fits terms Range = Each fits terms → ¬ fits (sum_of terms)
IsSumRefusal fits terms NoMemory = ⊤

-- the numbers of the first list are at least 0, those of the second at most 0
pub record HasSigns {T : Type 0} (integer : T → ℤ) (above below : List T) : Type 0 where
  pub high : Each (λ t. pos 0 ≤ℤ integer t) above
  pub low : Each (λ t. integer t ≤ℤ pos 0) below

-- the terms, apart by their signs
pub record IsSplit {T : Type 0} (integer : T → ℤ) (terms above below : List T) : Type 0 where
  pub signs : HasSigns integer above below
  pub same : sum_of (map integer above) +ℤ sum_of (map integer below) ≡ sum_of (map integer terms)
  pub of_above : Each (Contains terms) above
  pub of_below : Each (Contains terms) below

-- the term is put last into the list of its sign
abbrev pub IsSortedIn : {T : Type 0} → (T → ℤ) → T → List T → List T → List T → List T → Type 0
IsSortedIn integer t above below new_above new_below = ((pos 0 ≤ℤ integer t) × (new_above ≡ above ++ t ∷ []) × (new_below ≡ below)) ⊎ ((integer t ≤ℤ pos 0) × (new_above ≡ above) × (new_below ≡ below ++ t ∷ []))

-- the last term is taken from one of the lists: from the first if the sum is below 0 or the second is empty, from the second if it is not or the first is empty
abbrev pub IsTaken : {T : Type 0} → ℤ → List T → List T → List T → List T → T → Type 0
IsTaken sum above below new_above new_below t = (((sum <ℤ pos 0) ⊎ (below ≡ [])) × (above ≡ new_above ++ t ∷ []) × (below ≡ new_below)) ⊎ (((pos 0 ≤ℤ sum) ⊎ (above ≡ [])) × (above ≡ new_above) × (below ≡ new_below ++ t ∷ []))
