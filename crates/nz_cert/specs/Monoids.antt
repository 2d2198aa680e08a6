-- The monoid that a certificate is for: a lattice and rows.
use Rattle.std.specs.Prelude.{◌≡◌, ◌↔◌, ◌⊎◌, ℕ, ℤ, List, [], ◌∷◌, ◌<◌, ◌≢◌, slice_index_or, length, map, take, Contains}
use Rattle.std.specs.List.{AllByRecursion as Each}
use Rattle.nz_spec.specs.Vectors.{Vector, HasWidth, IsNonzero, values_at}
use Rattle.nz_order.specs.Boxes.{NonNegative, IsBelow}
use Rattle.nz_vec.specs.Sums.{HasValueOutside}
use Rattle.nz_spec.specs.Sums.{IsInGroup, IsIndependent}
use Rattle.nz_spec.specs.Constraints.{Constraint, MeetsAll}
use Rattle.nz_order.specs.Lattices.{IsLattice}
use Rattle.nz_member.specs.Values.{IsOfWidth}
use Rattle.nz_further.specs.Certificates.{CertificateData, HasItsSizes, IsOfLattice, rows_in_order}

-- the width of vectors, the constraints of the lattice, a base of it, and the rows
pub record MonoidData : Type 0 where
  pub width : ℕ
  pub constraints : List Constraint
  pub base : List Vector
  pub rows : List Vector

-- a vector of the width that meets the constraints
abbrev pub InLattice : MonoidData → Vector → Type 0
InLattice m x = HasWidth m.width x × MeetsAll m.constraints x

-- the vectors that meet the constraints are a lattice, of which the base is one; and the rows are forms on its vectors
pub record IsMonoid (m : MonoidData) : Type 0 where
  pub constraints : Each (IsOfWidth m.width) m.constraints
  pub base : Each (HasWidth m.width) m.base
  pub rows : Each (HasWidth m.width) m.rows
  pub lattice : IsLattice m.width (InLattice m)
  pub independent : IsIndependent m.width m.base
  pub group : (x : Vector) → InLattice m x ↔ IsInGroup m.width m.base x

-- the certificate has the sizes of the monoid, its vectors are of the lattice, and these are the first rows in its order
pub record IsGround (m : MonoidData) (c : CertificateData) (first : List Vector) : Type 0 where
  pub sizes : HasItsSizes m.width m.base m.rows c
  pub inside : IsOfLattice (InLattice m) first c
  pub first_rows : first ≡ take c.rank (rows_in_order m.rows c.order)

-- the vector is in one of the lists
abbrev pub HasInside : List (List Vector) → Vector → Type 0
HasInside lists v = (list : List Vector) × Contains lists list × Contains list v

-- a vector of a certificate
abbrev pub IsHeldBy : CertificateData → Vector → Type 0
IsHeldBy c v = Contains c.rays v ⊎ Contains c.points v ⊎ Contains c.first v ⊎ HasInside c.above v ⊎ HasInside c.beneath v

-- one of these forms has, at a vector of the certificate, a product or a sum of the first products that is no value
pub record HasFormOutside (fits : ℤ → Type 0) (forms : List Vector) (c : CertificateData) : Type 0 where
  pub vector : Vector
  pub held : IsHeldBy c vector
  pub outside : HasValueOutside fits forms (vector ∷ [])

-- entries of nonzero values of at least 0, and vectors of at least 0 at the forms
pub record AreReady (forms table vectors : List Vector) : Type 0 where
  pub wide : Each (λ v. Each (HasWidth (length v)) forms) vectors
  pub columns : Each (HasWidth (length forms)) table
  pub entries : Each NonNegative table
  pub nonzero : Each IsNonzero table
  pub values : Each NonNegative (map (values_at forms) vectors)

-- an entry at another place is at most this one in every column
abbrev pub HasOtherBelow : List Vector → ℕ → Type 0
HasOtherBelow table place = (k : ℕ) × (k < length table) × (k ≢ place) × IsBelow (slice_index_or table k []) (slice_index_or table place [])

-- no entry is at most one at another place
abbrev pub IsApart : List Vector → Type 0
IsApart table = (place : ℕ) → place < length table → ¬ HasOtherBelow table place
