-- One step of placing: a new vector makes a simplex with each facet that it sees and each simplex that lies on that facet.
use Rattle.std.specs.Prelude.{◌≡◌, List, ◌∷◌, ◌++◌, map, pos, ◌<ℤ◌, Contains}
use Rattle.std.specs.List.{AllZip}
use Rattle.nz_spec.specs.Vectors.{Vector, dot, opposite}
use Rattle.nz_spec.specs.Order.{ListsOnce}
use Rattle.nz_linear.specs.Cones.{meet}
use Rattle.nz_linear.specs.Division.{IsPrimitiveOf}
use Rattle.nz_linear.specs.DualPairs.{Pair, pair_of}

-- the vector of the pair stays, and its form becomes the primitive sum of it and the facet at which v is 0
pub record IsTilted (facet v : Vector) (old new : Pair) : Type 0 where
  pub same_vector : new.vector ≡ old.vector
  pub form : IsPrimitiveOf (meet v old.form facet) new.form

-- v, with the opposite of the facet as its form, takes the place of the vector whose form is the facet
pub record IsReplaced (facet v : Vector) (old new : List Pair) : Type 0 where
  pub before : List Pair
  pub across : Pair
  pub after : List Pair
  pub split : old ≡ before ++ across ∷ after
  pub is_facet : across.form ≡ facet
  pub first : List Pair
  pub last : List Pair
  pub whole : new ≡ first ++ pair_of (opposite facet) v ∷ last
  pub tilted : AllZip (IsTilted facet v) (before ++ after) (first ++ last)

-- a facet and a simplex
pub record Source : Type 0 where
  pub facet : Vector
  pub cell : List Pair

-- a facet that v sees, and a simplex that lies on it with all its vectors but one
pub record IsSource (v : Vector) (facets : List Vector) (cells : List (List Pair)) (s : Source) : Type 0 where
  pub has_facet : Contains facets s.facet
  pub seen : dot s.facet v <ℤ pos 0
  pub has_cell : Contains cells s.cell
  pub on_facet : Contains (map (λ p. p.form) s.cell) s.facet

-- for each of these the simplex with v
pub record AreAdded (v : Vector) (facets : List Vector) (cells added : List (List Pair)) : Type 0 where
  pub sources : List Source
  pub lists : ListsOnce (IsSource v facets cells) sources
  pub replaced : AllZip (λ (s : Source) cell. IsReplaced s.facet v s.cell cell) sources added

-- these are added
pub record IsPlacingStep (v : Vector) (facets : List Vector) (cells new : List (List Pair)) : Type 0 where
  pub added : List (List Pair)
  pub whole : new ≡ cells ++ added
  pub are_added : AreAdded v facets cells added
