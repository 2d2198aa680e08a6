-- Clearing: one vector of a base takes away from each other as often as its value at a form goes into the other's.
use Rattle.std.specs.Prelude.{◌≡◌, ◌≢◌, ℕ, ◌<◌, ◌≤◌, List, length, map, get_or, ℤ, pos, neg_ℤ, ◌-ℤ◌, ◌*ℤ◌, unsigned_abs}
use Rattle.std.specs.List.{AllByRecursion as Each, AllZip, insert, remove}
use Rattle.nz_spec.specs.Vectors.{Vector, plus, scaled, entry}
use Rattle.nz_scalar.specs.Division.{IsFloorQuotient}

-- a vector and its value
pub record Valued : Type 0 where
  pub vector : Vector
  pub value : ℤ

-- the vectors alone
abbrev pub vectors_of : List Valued → List Vector
vectors_of vs = map (λ v. v.vector) vs

-- the values alone
abbrev pub values_of : List Valued → List ℤ
values_of vs = map (λ v. v.value) vs

-- all have the value 0
abbrev pub AreZero : List Valued → Type 0
AreZero vs = Each (λ (v : Valued). v.value ≡ pos 0) vs

-- c is b less q times p, where q is the greatest integer not above the quotient of their values
pub record IsReduced (p b c : Valued) : Type 0 where
  pub q : ℤ
  pub floor : IsFloorQuotient b.value p.value q
  pub vector : c.vector ≡ plus b.vector (scaled (neg_ℤ q) p.vector)
  pub value : c.value ≡ b.value -ℤ q *ℤ p.value

-- of the first n values, the one at this place is the first of the least absolute value other than 0
pub record IsPivot (values : List ℤ) (n place : ℕ) : Type 0 where
  pub within : place < n
  pub nonzero : entry values place ≢ pos 0
  pub least : (k : ℕ) → k < n → entry values k ≢ pos 0 → unsigned_abs (entry values place) ≤ unsigned_abs (entry values k)
  pub first : (k : ℕ) → k < place → entry values k ≢ pos 0 → unsigned_abs (entry values place) < unsigned_abs (entry values k)

-- all others are reduced by the pivot, which stays
pub record IsRound (vs us : List Valued) : Type 0 where
  pub place : ℕ
  pub own : Valued
  pub others : List Valued
  pub pivot : IsPivot (values_of vs) (length vs) place
  pub is_own : own ≡ get_or vs place own
  pub reduced : AllZip (IsReduced own) (remove vs place) others
  pub same : us ≡ insert others place own

-- one round after the other
pub data AreRounds (vs : List Valued) : List Valued → Type 0 where
  none : AreRounds vs vs
  more : {us ts : List Valued} → AreRounds vs us → IsRound us ts → AreRounds vs ts

-- rounds leave a value other than 0 at one place only
pub record IsCleared (vs : List Valued) (place : ℕ) (own : Valued) (others : List Valued) : Type 0 where
  pub rounds : AreRounds vs (insert others place own)
  pub within : place ≤ length others
  pub nonzero : own.value ≢ pos 0
  pub zero : AreZero others
