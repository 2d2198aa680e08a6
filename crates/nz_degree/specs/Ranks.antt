-- Rows with their ranks, for the clauses of private functions.
use Rattle.std.specs.Prelude.{◌≡◌, List, [], ◌∷◌, ◌++◌, map, ℤ}
use Rattle.std.specs.List.{AllByRecursion as Each}
use Rattle.std.specs.List.Sorted.{IsPermutation}
use Rattle.nz_spec.specs.Vectors.{Vector}
use Rattle.nz_spec.specs.Order.{IsLexBefore, Pairwise}
use Rattle.nz_degree.specs.declared.ranked.Ranked.{Ranked}

-- the row that is ranked
abbrev pub row_of : {T : Type 0} → (T → ℤ) → Ranked T → Vector
row_of integer r = map integer r.entries.items

-- the rank, and then the row
abbrev pub key_of : {T : Type 0} → (T → ℤ) → Ranked T → Vector
key_of integer r = integer r.degree ∷ row_of integer r

-- the rows of the list in order, each with this rank
pub record AreRanked {T : Type 0} (integer : T → ℤ) (rank : Vector → ℤ) (list : List Vector) (ranked : List (Ranked T)) : Type 0 where
  pub rows : map (row_of integer) ranked ≡ list
  pub ranks : Each (λ r. integer r.degree ≡ rank (row_of integer r)) ranked

-- one row more, with its rank
pub record Adds {T : Type 0} (integer : T → ℤ) (before after : List (Ranked T)) (row : Vector) (rank : T) : Type 0 where
  pub added : Ranked T
  pub whole : after ≡ before ++ added ∷ []
  pub of_row : row_of integer added ≡ row
  pub of_rank : added.degree ≡ rank

-- the rows are those that were ranked, in the order of their ranks, and of their entries
pub record IsSortedAs {T : Type 0} (integer : T → ℤ) (ranked : List (Ranked T)) (rows : List Vector) : Type 0 where
  pub sorted : List (Ranked T)
  pub moved : IsPermutation ranked sorted
  pub in_order : Pairwise (λ r s. ¬ IsLexBefore (key_of integer s) (key_of integer r)) sorted
  pub whole : map (row_of integer) sorted ≡ rows
