-- Simplices of rays that are named by their places, each with its form.
use Rattle.std.specs.Prelude.{◌≡◌, ◌≢◌, ◌++◌, ◌⊎◌, ℕ, zero, suc, ◌<◌, ◌≤◌, List, [], ◌∷◌, map, length, get_or, take, drop, Contains}
use Rattle.std.specs.List.{AllByRecursion as Each}
use Rattle.nz_spec.specs.Vectors.{Vector}
use Rattle.nz_spec.specs.Order.{Pairwise}
use Rattle.nz_linear.specs.DualPairs.{Pair, pair_of}
use Rattle.nz_linear.specs.Cones.{meet}
use Rattle.nz_vec.specs.Primitives.{IsPrimitivePart}
use Rattle.nz_cover.specs.Cells.{IsCell}
use Rattle.nz_cover.specs.Steps.{IsReplaced, AreAdded}

-- a ray by its place, and its form
pub record Vertex : Type 0 where
  pub place : ℕ
  pub form : Vector

abbrev pub vertex : ℕ → Vector → Vertex
vertex place form = record { place = place; form = form }

abbrev pub places_of : List Vertex → List ℕ
places_of cell = map (λ u. u.place) cell

abbrev pub forms_of : List Vertex → List Vector
forms_of cell = map (λ u. u.form) cell

-- the rays with their forms
abbrev pub pairs_of : List Vector → List Vertex → List Pair
pairs_of rays cell = map (λ u. pair_of u.form (get_or rays u.place [])) cell

abbrev pub cells_of : List Vector → List (List Vertex) → List (List Pair)
cells_of rays cells = map (pairs_of rays) cells

-- the places increase
abbrev pub AreInOrder : List Vertex → Type 0
AreInOrder cell = Pairwise (λ u v. u.place < v.place) cell

-- the list without the element at a place
abbrev pub without : {A : Type 0} → ℕ → List A → List A
without j [] = []
without zero (x ∷ xs) = xs
without (suc j) (x ∷ xs) = x ∷ without j xs

-- the places before this position are less, and those from it on are greater
pub record IsBetween (place : ℕ) (cell : List Vertex) (position : ℕ) : Type 0 where
  pub within : position ≤ length cell
  pub before : Each (λ u. u.place < place) (take position cell)
  pub after : Each (λ u. place < u.place) (drop position cell)

-- the corner stays, and its form becomes the primitive sum of it and the facet at which the ray is 0
pub record IsTiltedAt (ray facet : Vector) (old new : Vertex) : Type 0 where
  pub same_place : new.place ≡ old.place
  pub form : IsPrimitivePart (meet ray old.form facet) new.form

-- the simplex with the ray at this place for the one whose form is the facet, in order again
pub record IsReplacedAt (rays : List Vector) (place : ℕ) (facet ray : Vector) (old new : List Vertex) : Type 0 where
  pub replaced : IsReplaced facet ray (pairs_of rays old) (pairs_of rays new)
  pub in_order : AreInOrder new
  pub places : Each (λ u. (u.place ≡ place) ⊎ Contains (places_of old) u.place) new

-- a corner of one of the cells has this place
pub record IsPlaceOf (cells : List (List Vertex)) (place : ℕ) : Type 0 where
  pub cell : List Vertex
  pub has : Contains cells cell
  pub at : Contains (places_of cell) place

-- the simplices that the ray at this place makes with the facets that it sees, in order
pub record IsExtended (rays : List Vector) (place : ℕ) (facets : List Vector) (cells more : List (List Vertex)) : Type 0 where
  pub added : AreAdded (get_or rays place []) facets (cells_of rays cells) (cells_of rays more)
  pub in_order : Each AreInOrder more
  pub places : Each (λ cell. Each (λ u. (u.place ≡ place) ⊎ IsPlaceOf cells u.place) cell) more

-- a list with more at its end
pub record Appends (IsMore : List (List Vertex) → Type 0) (before after : List (List Vertex)) : Type 0 where
  pub more : List (List Vertex)
  pub whole : after ≡ before ++ more
  pub is : IsMore more

-- the forms of all cells
abbrev pub all_forms : List (List Vertex) → List Vector
all_forms [] = []
all_forms (c ∷ cells) = forms_of c ++ all_forms cells

-- simplices with their rays in order, none twice, of which the ray at this place is no corner
pub record AreReady (w : ℕ) (rays : List Vector) (place : ℕ) (cells : List (List Vertex)) : Type 0 where
  pub each : Each (IsCell w) (cells_of rays cells)
  pub in_order : Each AreInOrder cells
  pub fresh : Each (λ cell. Each (λ u. u.place ≢ place) cell) cells
  pub different : Pairwise ◌≢◌ (cells_of rays cells)
