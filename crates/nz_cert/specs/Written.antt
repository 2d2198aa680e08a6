-- The lines of the text that is written, one by one.
use Rattle.std.specs.Prelude.{ℕ, zero, suc, List, [], ◌∷◌, ◌++◌, length, map, codes, decimal}
use Rattle.nz_spec.specs.Vectors.{Vector}
use Rattle.nz_further.specs.CertificateTexts.{Bytes, spaced, vector_lines, list_lines}

-- a space in front of each number but the first
abbrev pub gap : ℕ → Bytes
gap zero = []
gap (suc column) = 32 ∷ []

abbrev pub head_line : (width rank rows : ℕ) → Bytes
head_line width rank rows = codes "nmzcert" ++ (spaced (decimal width ∷ decimal rank ∷ decimal rows ∷ []) ++ (10 ∷ []))

abbrev pub order_line : List ℕ → Bytes
order_line order = codes "order" ++ (spaced (map decimal order) ++ (10 ∷ []))

-- the lists of the first rows
abbrev pub list_blocks : (rays points first : List Vector) → Bytes
list_blocks rays points first = codes "rays" ++ (10 ∷ vector_lines rays ++ (list_lines (codes "points") points ++ list_lines (codes "first") first))

-- the lists of the row of this number
abbrev pub sides_lines : ℕ → (plus minus : List Vector) → Bytes
sides_lines k plus minus = codes "stage" ++ (spaced (decimal k ∷ decimal (length plus) ∷ []) ++ (10 ∷ vector_lines plus ++ list_lines (codes "reversed") minus))
