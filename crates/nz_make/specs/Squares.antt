-- The file that is made, and the points that its monoid is known to have as irreducible elements.
use Rattle.std.specs.Prelude.{◌≡◌, ℕ, ◌≤◌, List, [], ◌∷◌, ℤ, pos, ◌+ℤ◌}
use Rattle.nz_spec.specs.Vectors.{Vector}
use Rattle.nz_input.specs.Files.{FileData}
use Rattle.nz_input.specs.declared.kind.Kind.TheVariants.{Cone}

-- the vector (i, j, 1)
abbrev pub point : ℕ → ℕ → Vector
point i j = pos i ∷ pos j ∷ pos 1 ∷ []

-- the corners of the square with side n
abbrev pub corners : ℕ → List Vector
corners n = point 0 0 ∷ point n 0 ∷ point 0 n ∷ point n n ∷ []

-- the file that is made for the side n: one item, and no goal
abbrev pub made_file : ℕ → FileData
made_file n = record { amb = 3; items = record { kind = Cone; rows = corners n } ∷ []; goals = [] }

-- a point (i, j, 1) of the square, with i and j from 0 to n
pub record IsPoint (n : ℕ) (x : Vector) : Type 0 where
  pub i : ℕ
  pub j : ℕ
  pub i_within : i ≤ n
  pub j_within : j ≤ n
  pub same : x ≡ point i j

-- the sum of the entries of a vector
abbrev pub entry_sum : Vector → ℤ
entry_sum [] = pos 0
entry_sum (a ∷ x) = a +ℤ entry_sum x

-- the sum of all entries of some vectors
abbrev pub sum_of_all : List Vector → ℤ
sum_of_all [] = pos 0
sum_of_all (x ∷ xs) = entry_sum x +ℤ sum_of_all xs
