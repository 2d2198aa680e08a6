-- Clearing with the coordinates of the base beside its vectors, and what a cut leaves of both.
use Rattle.std.specs.Prelude.{◌≡◌, ◌≢◌, ◌⊎◌, ℕ, ◌+◌, ◌≤◌, List, ◌∷◌, length, set, ℤ, pos, ◌*ℤ◌, ◌<ℤ◌}
use Rattle.std.specs.List.{AllByRecursion as Each, insert, remove}
use Rattle.nz_spec.specs.Vectors.{Vector, dot, plus, scaled, entry, IsMultipleOf}
use Rattle.nz_scalar.specs.Division.{IsFloorQuotient, HasGcd}
use Rattle.nz_sweep.specs.Clearing.{Valued, vectors_of, values_of, AreZero, IsRound}
use Rattle.nz_sweep.specs.Cuts.{AreValued, IsValueAt, IsRemainderAt, IsCofactor}
use Rattle.nz_sweep.specs.Duals.{Coordinate, coordinate_at}
use Rattle.nz_sweep.specs.Bases.{Base}

-- the vectors of a base with their values, and its coordinates, at one moment of clearing
pub record State : Type 0 where
  pub valued : List Valued
  pub coordinates : List Coordinate

-- m is the least common multiple of two positive numbers
pub record IsLeastMultiple (a b m : ℤ) : Type 0 where
  pub positive : pos 0 <ℤ m
  pub of_first : IsMultipleOf a m
  pub of_second : IsMultipleOf b m
  pub least : (n : ℤ) → IsMultipleOf a n → IsMultipleOf b n → IsMultipleOf m n

-- m is the least common multiple of the divisors, and s and t are m divided by each
pub record AreFactors (own other : Coordinate) (m s t : ℤ) : Type 0 where
  pub least : IsLeastMultiple own.divisor other.divisor m
  pub first : m ≡ s *ℤ own.divisor
  pub second : m ≡ t *ℤ other.divisor

-- c is this form and this divisor, both divided by the greatest common divisor of the divisor and the entries
pub record IsInLowestTerms (form : Vector) (divisor : ℤ) (c : Coordinate) : Type 0 where
  pub g : ℤ
  pub gcd : HasGcd (divisor ∷ form) g
  pub form_is : scaled g c.form ≡ form
  pub divisor_is : g *ℤ c.divisor ≡ divisor

-- c is the sum of own and q times other, over the least common multiple of their divisors, in lowest terms
pub record IsTakenIn (q : ℤ) (own other c : Coordinate) : Type 0 where
  pub m : ℤ
  pub s : ℤ
  pub t : ℤ
  pub factors : AreFactors own other m s t
  pub lowest : IsInLowestTerms (plus (scaled s own.form) (scaled (q *ℤ t) other.form)) m c

-- the value at j is another than that at the pivot's place and not 0, and q is the floor of their quotient
pub record GoesInto (values : List ℤ) (place j : ℕ) (q : ℤ) : Type 0 where
  pub other : j ≢ place
  pub nonzero : entry values j ≢ pos 0
  pub floor : IsFloorQuotient (entry values j) (entry values place) q

-- c is the coordinate at the pivot's place once it has reduced the first n of the others, in order
pub data Gathers (s : State) (place : ℕ) : ℕ → Coordinate → Type 0 where
  none : Gathers s place 0 (coordinate_at s.coordinates place)
  passed : {n : ℕ} {c : Coordinate} → Gathers s place n c → (n ≡ place) ⊎ (entry (values_of s.valued) n ≡ pos 0) → Gathers s place (n + 1) c
  taken : {n : ℕ} {q : ℤ} {c d : Coordinate} → Gathers s place n c → GoesInto (values_of s.valued) place n q → IsTakenIn q c (coordinate_at s.coordinates n) d → Gathers s place (n + 1) d

-- one round: the pivot reduces all others, and its coordinate gathers theirs
pub record IsFullRound (s t : State) : Type 0 where
  pub round : IsRound s.valued t.valued
  pub own : Coordinate
  pub gathered : Gathers s round.place (length s.valued) own
  pub same : t.coordinates ≡ set s.coordinates round.place own

-- one round after the other
pub data Leads (s : State) : State → Type 0 where
  start : Leads s s
  onward : {t u : State} → Leads s t → IsFullRound t u → Leads s u

-- rounds lead to a value other than 0 at one place only
pub record ClearsTo (s t : State) (place : ℕ) (own : Valued) (others : List Valued) : Type 0 where
  pub leads : Leads s t
  pub valued : t.valued ≡ insert others place own
  pub within : place ≤ length others
  pub nonzero : own.value ≢ pos 0
  pub zero : AreZero others

-- ---- cuts
-- the base with the values, before it is cleared
abbrev pub start_of : Base → List Valued → State
start_of b values = record { valued = values; coordinates = b.coordinates }

-- the values of the form are cleared, and the vector that is left with a value is taken out, with its coordinate
pub record TakesOutOf (h : Vector) (b c : Base) : Type 0 where
  pub values : List Valued
  pub valued : AreValued (IsValueAt h) b.vectors values
  pub state : State
  pub place : ℕ
  pub own : Valued
  pub others : List Valued
  pub cleared : ClearsTo (start_of b values) state place own others
  pub vectors : c.vectors ≡ vectors_of others
  pub coordinates : c.coordinates ≡ remove state.coordinates place

-- nothing changes where the form is 0 at all
abbrev pub IsEquationMove : Vector → Base → Base → Type 0
IsEquationMove h b c = (Each (λ v. dot h v ≡ pos 0) b.vectors × (c ≡ b)) ⊎ TakesOutOf h b c

-- the vector that is left and its divisor are multiplied by m divided by the greatest common divisor of its value and m
pub record IsMultipliedWith (m : ℤ) (place : ℕ) (own : Valued) (others : List Vector) (before : List Coordinate) (us : List Vector) (after : List Coordinate) : Type 0 where
  pub t : ℤ
  pub cofactor : IsCofactor own.value m t
  pub coordinate : Coordinate
  pub lowest : IsInLowestTerms (coordinate_at before place).form ((coordinate_at before place).divisor *ℤ t) coordinate
  pub vectors : us ≡ insert others place (scaled t own.vector)
  pub coordinates : after ≡ set before place coordinate

-- the remainders are cleared, and the vector that is left with one is multiplied
pub record MultipliesIn (h : Vector) (m : ℤ) (b c : Base) : Type 0 where
  pub values : List Valued
  pub valued : AreValued (IsRemainderAt h m) b.vectors values
  pub state : State
  pub place : ℕ
  pub own : Valued
  pub others : List Valued
  pub cleared : ClearsTo (start_of b values) state place own others
  pub multiplied : IsMultipliedWith m place own (vectors_of others) state.coordinates c.vectors c.coordinates

-- nothing changes where the form is a multiple of m at all
abbrev pub IsCongruenceMove : Vector → ℤ → Base → Base → Type 0
IsCongruenceMove h m b c = (Each (λ v. IsMultipleOf m (dot h v)) b.vectors × (c ≡ b)) ⊎ MultipliesIn h m b c
