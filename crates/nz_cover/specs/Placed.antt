-- What is held after some rays are placed.
use Rattle.std.specs.Prelude.{◌≡◌, ℕ, ◌<◌, length, List, [], ◌∷◌, Contains}
use Rattle.std.specs.List.{AllByRecursion as Each}
use Rattle.nz_spec.specs.Vectors.{Vector}
use Rattle.nz_spec.specs.Covers.{vectors_at}
use Rattle.nz_rays.specs.Descriptions.{RowsAndRays}
use Rattle.nz_cover.specs.Cells.{AreCells}
use Rattle.nz_cover.specs.Corners.{Vertex, vertex, cells_of, AreInOrder}

-- the simplices of the rays at these places, and the facets of the cone of these, as the rays of the cone of which they are the rows
pub record ArePlaced (w : ℕ) (rays : List Vector) (placed : List ℕ) (cells : List (List Vertex)) (facets : RowsAndRays) : Type 0 where
  pub cover : AreCells w (vectors_at rays placed) (cells_of rays cells)
  pub in_order : Each AreInOrder cells
  pub places : Each (λ cell. Each (λ u. Contains placed u.place) cell) cells
  pub width : facets.width ≡ w
  pub rows : facets.rows ≡ vectors_at rays placed

-- the places with these forms, in order
abbrev pub vertices : List ℕ → List Vector → List Vertex
vertices [] forms = []
vertices (p ∷ places) [] = []
vertices (p ∷ places) (f ∷ forms) = vertex p f ∷ vertices places forms

-- among these are all rays before a place
pub record ArePlacedUpTo (w : ℕ) (rays : List Vector) (place : ℕ) (placed : List ℕ) (cells : List (List Vertex)) (facets : RowsAndRays) : Type 0 where
  pub state : ArePlaced w rays placed cells facets
  pub within : Each (λ p. p < length rays) placed
  pub all : (p : ℕ) → p < place → Contains placed p
