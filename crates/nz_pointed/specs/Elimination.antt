-- Elimination on lists of vectors: what is held after some rows, and one step.
use Rattle.std.specs.Prelude.{◌≡◌, ◌≢◌, ◌⊎◌, ℕ, ◌+◌, ◌<◌, List, [], ◌∷◌, ◌++◌, length, map, get_or, take, drop, pos, neg_ℤ, ◌<ℤ◌, Option, Some, None}
use Rattle.std.specs.List.{AllByRecursion as Each, AllZip}
use Rattle.nz_spec.specs.Vectors.{Vector, dot, plus, scaled, opposite, IsPrimitive}
use Rattle.nz_spec.specs.Covers.{vectors_at}
use Rattle.nz_vec.specs.Primitives.{IsPrimitivePart}
use Rattle.nz_linear.specs.DualPairs.{Pair}
use Rattle.nz_linear.specs.Elimination.{IsState}
use Rattle.nz_linear.specs.Echelon.{AreColumnPairs}
use Rattle.nz_pointed.specs.Pointed.{AreFirstIndependent}

-- the places of the first independent rows, the primitive vectors of these rows, and those of the columns that are left
pub record IsElimination (w : ℕ) (rows : List Vector) (places : List ℕ) (chosen left : List Vector) : Type 0 where
  pub pairs : List Pair
  pub free : List Pair
  pub columns : List ℕ
  pub state : IsState w rows pairs free
  pub column_pairs : AreColumnPairs w columns free
  pub first : AreFirstIndependent w rows places
  pub same_rows : map (λ p. p.form) pairs ≡ vectors_at rows places
  pub same_chosen : map (λ p. p.vector) pairs ≡ chosen
  pub same_left : map (λ p. p.vector) free ≡ left
  pub primitive_chosen : Each IsPrimitive chosen
  pub primitive_left : Each IsPrimitive left

-- the first of the vectors at which the form is not 0, and none where it is 0 at all
abbrev pub IsFirstNonzero : Vector → List Vector → Option ℕ → Type 0
IsFirstNonzero h left None = Each (λ b. dot h b ≡ pos 0) left
IsFirstNonzero h left (Some place) = (place < length left) × Each (λ b. dot h b ≡ pos 0) (take place left) × (dot h (get_or left place []) ≢ pos 0)

-- u is v or -v, and positive at h
pub record IsTurned (h v u : Vector) : Type 0 where
  pub same : (u ≡ v) ⊎ (u ≡ opposite v)
  pub positive : pos 0 <ℤ dot h u

-- q is h(u) v - h(v) u, divided by the common divisor of its entries
abbrev pub IsCleared : Vector → Vector → Vector → Vector → Type 0
IsCleared h u v q = IsPrimitivePart (plus (scaled (dot h u) v) (scaled (neg_ℤ (dot h v)) u)) q

-- the vector left at this place goes, turned, to the end of those chosen, and all others are cleared by it
pub record IsExchange (h : Vector) (place : ℕ) (chosen left new_chosen new_left : List Vector) : Type 0 where
  pub u : Vector
  pub turned : IsTurned h (get_or left place []) u
  pub cleared : List Vector
  pub is_chosen : new_chosen ≡ cleared ++ (u ∷ [])
  pub clears_chosen : AllZip (IsCleared h u) chosen cleared
  pub clears_left : AllZip (IsCleared h u) (take place left ++ drop (place + 1) left) new_left
