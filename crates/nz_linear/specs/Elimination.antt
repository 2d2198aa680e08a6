-- Elimination: rows are taken one by one into a dual pair whose other forms are unit forms.
use Rattle.std.specs.Prelude.{◌≡◌, ◌++◌, ℕ, zero, suc, List, [], ◌∷◌, length, map, ℤ, pos, neg_ℤ, ◌<ℤ◌, Contains}
use Rattle.std.specs.List.{AllByRecursion as Each, AllZip}
use Rattle.nz_spec.specs.Vectors.{Vector, dot, plus, scaled, zero_vector, IsNonzero}
use Rattle.nz_linear.specs.DualPairs.{Pair, pair_of, IsDualPair, OnlyZero}

-- a multiple of the vector, less the multiple of u that makes h vanish, divided by a positive number
pub record IsCleared (w : ℕ) (h u : Vector) (r q : Pair) : Type 0 where
  pub same_form : q.form ≡ r.form
  pub width : length q.vector ≡ w
  pub factor : ℤ
  pub positive : pos 0 <ℤ factor
  pub same : scaled factor q.vector ≡ plus (scaled (dot h u) r.vector) (scaled (neg_ℤ (dot h r.vector)) u)

-- the vector of the pair or its opposite, with a positive value at h
pub record IsTurned (h u : Vector) (p : Pair) : Type 0 where
  pub sign : ℤ
  pub same : u ≡ scaled sign p.vector
  pub positive : pos 0 <ℤ dot h u

-- the new row h takes the place of the form of p
pub record IsPivotStep (w : ℕ) (h : Vector) (chosen free new_chosen new_free : List Pair) : Type 0 where
  pub before : List Pair
  pub pivot : Pair
  pub after : List Pair
  pub split : free ≡ before ++ (pivot ∷ after)
  pub u : Vector
  pub turned : IsTurned h u pivot
  pub cleared : List Pair
  pub is_new : new_chosen ≡ pair_of h u ∷ cleared
  pub clears_chosen : AllZip (IsCleared w h u) chosen cleared
  pub clears_free : AllZip (IsCleared w h u) (before ++ after) new_free

-- the pairs of the rows chosen, and those of the unit forms that are left
pub record IsState (w : ℕ) (seen : List Vector) (chosen free : List Pair) : Type 0 where
  pub pair : IsDualPair w (chosen ++ free)
  pub only_zero : OnlyZero w (chosen ++ free)
  pub from_seen : Each (λ p. Contains seen p.form) chosen
  pub free_vanish : Each (λ p. Each (λ r. dot r p.vector ≡ pos 0) seen) free

-- the pair with a 0 before all entries
abbrev pub shifted : Pair → Pair
shifted p = pair_of (pos 0 ∷ p.form) (pos 0 ∷ p.vector)

-- the unit forms and the unit vectors
abbrev pub unit_pairs : ℕ → List Pair
unit_pairs zero = []
unit_pairs (suc w) = pair_of (pos 1 ∷ zero_vector w) (pos 1 ∷ zero_vector w) ∷ map shifted (unit_pairs w)

-- a nonzero vector at which each row is 0
pub record CommonZero (w : ℕ) (rows : List Vector) : Type 0 where
  pub point : Vector
  pub width : length point ≡ w
  pub nonzero : IsNonzero point
  pub zero : Each (λ r. dot r point ≡ pos 0) rows

-- a complete dual pair whose forms are rows
pub record DualOfRows (w : ℕ) (rows : List Vector) : Type 0 where
  pub pairs : List Pair
  pub dual : IsDualPair w pairs
  pub only_zero : OnlyZero w pairs
  pub from_rows : Each (λ p. Contains rows p.form) pairs
