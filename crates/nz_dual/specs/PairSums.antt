-- Sums of one vector of each of two lists, by the sums of their degrees.
use Rattle.std.specs.Prelude.{◌≡◌, ◌⊎◌, ⊤, ℕ, ◌+◌, ◌<◌, ◌≤◌, List, [], ◌++◌, length, get_or, slice_index, Option, Some, None, Contains}
use Rattle.std.specs.List.{AllByRecursion as Each}
use Rattle.nz_spec.specs.Vectors.{Vector, plus}

-- the best degree so far, if there is one, is above the last
abbrev pub IsAhead : ℕ → Option ℕ → Type 0
IsAhead last None = ⊤
IsAhead last (Some best) = last < best

-- a degree above the last is at least the best
abbrev pub IsNotSooner : ℕ → Option ℕ → ℕ → Type 0
IsNotSooner last None degree = degree ≤ last
IsNotSooner last (Some best) degree = (degree ≤ last) ⊎ (best ≤ degree)

-- one sum more was looked at
pub record IsSooner (last : ℕ) (old : Option ℕ) (degree : ℕ) (new : Option ℕ) : Type 0 where
  pub ahead : IsAhead last old → IsAhead last new
  pub seen : IsNotSooner last new degree
  pub earlier : (d : ℕ) → IsNotSooner last old d → IsNotSooner last new d

-- no sum of one degree of each list is above the last and below the best
pub record IsNext (last : ℕ) (firsts seconds : List ℕ) (best : Option ℕ) : Type 0 where
  pub ahead : IsAhead last best
  pub none_sooner : Each (λ a. Each (λ b. IsNotSooner last best (a + b)) seconds) firsts

-- a place of this degree
abbrev pub HasDegree : List ℕ → ℕ → ℕ → Type 0
HasDegree degrees degree k = (k < length degrees) × (slice_index degrees k ≡ degree)

-- this place, and one of a degree
abbrev pub IsWith : ℕ → List ℕ → ℕ → ℕ → ℕ → Type 0
IsWith first degrees degree i k = (i ≡ first) × HasDegree degrees degree k

-- places of these two degrees
abbrev pub HaveDegrees : List ℕ → ℕ → List ℕ → ℕ → ℕ → ℕ → Type 0
HaveDegrees firsts a seconds b i k = HasDegree firsts a i × HasDegree seconds b k

-- places of two degrees with this sum, the first of which is given
abbrev pub HaveSumFrom : List ℕ → ℕ → List ℕ → ℕ → ℕ → ℕ → Type 0
HaveSumFrom firsts a seconds wanted i k = HasDegree firsts a i × ((k < length seconds) × (a + slice_index seconds k ≡ wanted))

-- places of two degrees with this sum
abbrev pub HaveSum : List ℕ → List ℕ → ℕ → ℕ → ℕ → Type 0
HaveSum firsts seconds wanted i k = (i < length firsts) × ((k < length seconds) × (slice_index firsts i + slice_index seconds k ≡ wanted))

-- s is the sum of one vector of each list, at places that are so related
pub record IsSumAt (firsts seconds : List Vector) (Related : ℕ → ℕ → Type 0) (s : Vector) : Type 0 where
  pub first : ℕ
  pub second : ℕ
  pub related : Related first second
  pub same : s ≡ plus (get_or firsts first []) (get_or seconds second [])

-- the sums of two vectors, one of each list, at places that are so related, but for some that are settled without
pub record AddsSums (Settled : Vector → Type 0) (firsts seconds : List Vector) (Related : ℕ → ℕ → Type 0) (old new : List Vector) : Type 0 where
  pub more : List Vector
  pub extends : new ≡ old ++ more
  pub only : Each (IsSumAt firsts seconds Related) more
  pub each : (i k : ℕ) → Related i k → Contains more (plus (get_or firsts i []) (get_or seconds k [])) ⊎ Settled (plus (get_or firsts i []) (get_or seconds k []))

-- s is the sum of one vector of each list, whose degrees have the sum that is wanted
abbrev pub IsSumOf : List Vector → List ℕ → List Vector → List ℕ → ℕ → Vector → Type 0
IsSumOf firsts first_degrees seconds second_degrees wanted = IsSumAt firsts seconds (HaveSum first_degrees second_degrees wanted)

-- the sums of two vectors, one of each list, whose degrees have the sum that is wanted, but for some that are settled without
pub record AreSums (Settled : Vector → Type 0) (firsts : List Vector) (first_degrees : List ℕ) (seconds : List Vector) (second_degrees : List ℕ) (wanted : ℕ) (sums : List Vector) : Type 0 where
  pub only : Each (IsSumOf firsts first_degrees seconds second_degrees wanted) sums
  pub each : (i k : ℕ) → HaveSum first_degrees second_degrees wanted i k → Contains sums (plus (get_or firsts i []) (get_or seconds k [])) ⊎ Settled (plus (get_or firsts i []) (get_or seconds k []))
