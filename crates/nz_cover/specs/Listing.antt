-- Simplices put into order.
use Rattle.std.specs.Prelude.{◌≡◌, ◌≢◌, ℕ, ◌<◌, List, [], length, map, get_or}
use Rattle.std.specs.List.{AllByRecursion as Each}
use Rattle.std.specs.List.Sorted.{IsPermutation}
use Rattle.nz_spec.specs.Vectors.{Vector}
use Rattle.nz_spec.specs.Order.{Pairwise, IsLexLess}
use Rattle.nz_cover.specs.Corners.{Vertex, places_of, forms_of}
use Rattle.nz_cover.specs.declared.listing.Key.{Key}

-- where the simplex of a key stands, and its places
pub record IsKeyIn (cells : List (List Vertex)) (key : Key) : Type 0 where
  pub within : key.index < length cells
  pub places : key.places.items ≡ places_of (get_or cells key.index [])

-- the keys of the simplices in their order
pub record AreKeys (cells : List (List Vertex)) (keys : List Key) : Type 0 where
  pub whole : map (λ k. get_or cells k.index []) keys ≡ cells
  pub each : Each (IsKeyIn cells) keys

-- simplices of one size, no two at the same places
pub record AreDistinct (cells : List (List Vertex)) : Type 0 where
  pub size : ℕ
  pub sizes : Each (λ c. length c ≡ size) cells
  pub different : Pairwise (λ c d. places_of c ≢ places_of d) cells

-- the places and the forms of all the simplices, in lexicographic order of the places
pub record AreListed (cells : List (List Vertex)) (simplices : List (List ℕ)) (forms : List (List Vector)) : Type 0 where
  pub sorted : List (List Vertex)
  pub moved : IsPermutation cells sorted
  pub in_order : Pairwise (IsLexLess ◌<◌) simplices
  pub simplices_are : simplices ≡ map places_of sorted
  pub forms_are : forms ≡ map forms_of sorted
