-- Rows of numbers in columns.
use Rattle.std.specs.Prelude.{ℕ, zero, suc, ◌-◌, max, List, [], ◌∷◌, ◌++◌, length, map, get_or, replicate}
use Rattle.std.specs.List.{flat_map}
use Rattle.std.specs.Fmt.{signed_decimal}
use Rattle.nz_vec.specs.Texts.{Text}
use Rattle.nz_spec.specs.Vectors.{Vector}

-- the length of the longest entry of the rows at a column; rows need not all reach it
abbrev pub column_width : List Vector → ℕ → ℕ
column_width [] j = 0
column_width (r ∷ rs) j = max (length (get_or (map signed_decimal r) j [])) (column_width rs j)

-- a width at one column, and 0 at each other
abbrev pub width_at_only : ℕ → ℕ → ℕ → ℕ
width_at_only zero w zero = w
width_at_only zero w (suc j) = 0
width_at_only (suc column) w zero = 0
width_at_only (suc column) w (suc j) = width_at_only column w j

-- spaces in front, up to this width
abbrev pub right_aligned : ℕ → Text → Text
right_aligned w text = replicate (w - length text) 32 ++ text

-- the entries of a row, of which the first stands at column j, each right-aligned to the width of its column
abbrev pub cells : (ℕ → ℕ) → ℕ → Vector → List Text
cells width j [] = []
cells width j (a ∷ r) = right_aligned (width j) (signed_decimal a) ∷ cells width (suc j) r

-- what stands in front of the cell at a place: one space, but nothing at the first
abbrev pub gap : ℕ → Text
gap zero = []
gap (suc place) = 32 ∷ []

-- the texts with one space between two
abbrev pub spaced : List Text → Text
spaced [] = []
spaced (c ∷ cs) = c ++ flat_map (λ d. 32 ∷ d) cs

-- the entries of a row with one space between two
abbrev pub entries : Vector → Text
entries r = spaced (map signed_decimal r)
