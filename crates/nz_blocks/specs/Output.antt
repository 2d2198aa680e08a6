-- The text that a run stores.
use Rattle.std.specs.Prelude.{ℕ, ◌+◌, ℤ, pos, Bool, true, false, List, [], ◌++◌, length, map, codes, decimal, Option, Some, None}
use Rattle.std.specs.List.{flat_map}
use Rattle.std.specs.Fmt.{signed_decimal}
use Rattle.nz_vec.specs.Texts.{Text}
use Rattle.nz_spec.specs.Vectors.{Vector}
use Rattle.nz_blocks.specs.Outcomes.{OutcomeData, Asked}
use Rattle.nz_blocks.specs.Columns.{column_width, cells, spaced}
use Rattle.nz_blocks.specs.AskedLines.{asked_line}
use Rattle.nz_blocks.specs.Lines.{line}

-- whether there is a level
abbrev pub level_word : Bool → Text
level_word true = codes "inhomogeneous"
level_word false = codes "homogeneous"

-- the line of a row among the rows of its block
abbrev pub row_text : List Vector → Vector → Text
row_text rows r = line (spaced (cells (column_width rows) 0 r))

-- an empty line, and the heading with the number of rows
abbrev pub heading_lines : ℕ → Text → Text
heading_lines n heading = line [] ++ line (decimal n ++ heading)

-- the heading and the rows
abbrev pub block : Text → List Vector → Text
block heading rows = heading_lines (length rows) heading ++ flat_map (row_text rows) rows

-- the block where there is a list
abbrev pub block_if_some : Text → Option (List Vector) → Text
block_if_some heading None = []
block_if_some heading (Some rows) = block heading rows

-- a simplex as it is written: its places counted from 1
abbrev pub from_one : List ℕ → Vector
from_one places = map (λ p. pos (p + 1)) places

abbrev pub simplices_block : Option (List (List ℕ)) → Text
simplices_block None = []
simplices_block (Some simplices) = block (codes " simplices:") (map from_one simplices)

abbrev pub asked_block : Bool → Option (List Asked) → Text
asked_block level None = []
asked_block level (Some asked) = heading_lines (length asked) (codes " asked vectors:") ++ flat_map (asked_line level) asked

-- the first two lines
abbrev pub space_lines : ℕ → Bool → Text
space_lines amb level = line (codes "amb_space " ++ decimal amb) ++ line (level_word level)

-- the third line, where a grading is given: what degrees are divided by
abbrev pub denominator_line : Option ℤ → Text
denominator_line None = []
denominator_line (Some g) = line (codes "grading denominator " ++ signed_decimal g)

-- the lines above the blocks
abbrev pub head : ℕ → Bool → Option ℤ → Text
head amb level denominator = space_lines amb level ++ denominator_line denominator

abbrev pub hilbert_heading : Bool → Text
hilbert_heading true = codes " Hilbert basis elements of recession monoid:"
hilbert_heading false = codes " Hilbert basis elements:"

abbrev pub rays_heading : Bool → Text
rays_heading true = codes " extreme rays of recession cone:"
rays_heading false = codes " extreme rays:"

-- the Hilbert basis, and its elements of degree 1
abbrev pub hilbert_blocks : OutcomeData → Text
hilbert_blocks o = block_if_some (hilbert_heading o.level) o.hilbert ++ block_if_some (codes " degree 1 elements:") o.degree_one

abbrev pub element_blocks : OutcomeData → Text
element_blocks o = block_if_some (codes " module generators:") o.modules ++ hilbert_blocks o

-- the extreme generators by their levels
abbrev pub ray_blocks : OutcomeData → Text
ray_blocks o = block_if_some (codes " vertices of polyhedron:") o.vertices ++ block_if_some (rays_heading o.level) o.rays

-- the support description
abbrev pub description_blocks : OutcomeData → Text
description_blocks o = block_if_some (codes " support hyperplanes:") o.support ++ block_if_some (codes " equations:") o.equations

abbrev pub cone_blocks : OutcomeData → Text
cone_blocks o = ray_blocks o ++ description_blocks o

-- the cover
abbrev pub cover_blocks : OutcomeData → Text
cover_blocks o = block_if_some (codes " extreme generators:") o.generators ++ simplices_block o.simplices

-- the text of an outcome
abbrev pub text_of : OutcomeData → Text
text_of o = head o.amb o.level o.denominator ++ element_blocks o ++ cone_blocks o ++ cover_blocks o ++ asked_block o.level o.asked
