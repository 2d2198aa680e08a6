-- The blocks of rows, in their order, each with its heading.
use Rattle.std.specs.Prelude.{Bool, List, [], ◌∷◌, ◌++◌, map, codes, Option, option_map}
use Rattle.nz_vec.specs.Texts.{Text}
use Rattle.nz_spec.specs.Vectors.{Vector}
use Rattle.nz_blocks.specs.Outcomes.{OutcomeData}
use Rattle.nz_blocks.specs.Output.{block_if_some, from_one, hilbert_heading, rays_heading}

-- the headings of the blocks of rows
abbrev pub headings : Bool → List Text
headings level =
    codes " module generators:" ∷ hilbert_heading level ∷ codes " degree 1 elements:" ∷ codes " vertices of polyhedron:" ∷ rays_heading level
    ∷ codes " support hyperplanes:" ∷ codes " equations:" ∷ codes " extreme generators:" ∷ codes " simplices:" ∷ []

-- the lists under these headings; a simplex has its places counted from 1
abbrev pub lists_of : OutcomeData → List (Option (List Vector))
lists_of o =
    o.modules ∷ o.hilbert ∷ o.degree_one ∷ o.vertices ∷ o.rays ∷ o.support ∷ o.equations ∷ o.generators ∷ option_map (map from_one) o.simplices ∷ []

-- the blocks under some headings, one for each list that is there
abbrev pub sections : List Text → List (Option (List Vector)) → Text
sections [] lists = []
sections (heading ∷ headings) [] = []
sections (heading ∷ headings) (rows ∷ lists) = block_if_some heading rows ++ sections headings lists
