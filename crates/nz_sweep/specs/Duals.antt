-- The coordinates of a base: for each vector a form and a divisor, so that the form divided by it is the coordinate at that vector.
use Rattle.std.specs.Prelude.{◌≡◌, ◌≢◌, ℕ, ◌<◌, ◌≤◌, List, [], length, get_or, ℤ, pos, ◌*ℤ◌, ◌<ℤ◌}
use Rattle.nz_spec.specs.Vectors.{Vector, dot, plus, scaled, entry, HasWidth, IsMultipleOf}
use Rattle.nz_scalar.specs.Division.{IsFloorQuotient}
use Rattle.nz_sweep.specs.Clearing.{Valued, vectors_of, values_of}

-- a form and a divisor
pub record Coordinate : Type 0 where
  pub form : Vector
  pub divisor : ℤ

-- the one at a place
abbrev pub coordinate_at : List Coordinate → ℕ → Coordinate
coordinate_at cs i = get_or cs i (record { form = []; divisor = pos 0 })

abbrev pub vector_at : List Vector → ℕ → Vector
vector_at vs i = get_or vs i []

-- the form, with the divisor 1
abbrev pub unit_coordinate : Vector → Coordinate
unit_coordinate u = record { form = u; divisor = pos 1 }

-- each form is its divisor, a positive number, at its own vector, and 0 at the others
pub record AreDual (w : ℕ) (vs : List Vector) (cs : List Coordinate) : Type 0 where
  pub one_each : length cs ≡ length vs
  pub vector_width : (i : ℕ) → i < length vs → HasWidth w (vector_at vs i)
  pub form_width : (i : ℕ) → i < length vs → HasWidth w (coordinate_at cs i).form
  pub positive : (i : ℕ) → i < length vs → pos 0 <ℤ (coordinate_at cs i).divisor
  pub own : (i : ℕ) → i < length vs → dot (coordinate_at cs i).form (vector_at vs i) ≡ (coordinate_at cs i).divisor
  pub apart : (i j : ℕ) → i < length vs → j < length vs → i ≢ j → dot (coordinate_at cs i).form (vector_at vs j) ≡ pos 0

-- g times c are this form and this divisor
pub record IsLowered (form : Vector) (divisor : ℤ) (c : Coordinate) : Type 0 where
  pub g : ℤ
  pub positive : pos 0 <ℤ g
  pub form_is : scaled g c.form ≡ form
  pub divisor_is : g *ℤ c.divisor ≡ divisor

-- c is the sum of own and q times other
pub record IsJoined (q : ℤ) (own other c : Coordinate) : Type 0 where
  pub a : ℤ
  pub b : ℤ
  pub factor : pos 0 <ℤ a
  pub balance : a *ℤ own.divisor ≡ b *ℤ other.divisor
  pub lowered : IsLowered (plus (scaled a own.form) (scaled (q *ℤ b) other.form)) (a *ℤ own.divisor) c

-- c is the coordinate at this place once the pivot there has reduced the first n of the others
pub record IsGathered (w : ℕ) (vs : List Valued) (place n : ℕ) (c : Coordinate) : Type 0 where
  pub width : HasWidth w c.form
  pub positive : pos 0 <ℤ c.divisor
  pub own : dot c.form (vector_at (vectors_of vs) place) ≡ c.divisor
  pub seen : (i : ℕ) → i < n → i < length vs → i ≢ place → (q : ℤ) → IsFloorQuotient (entry (values_of vs) i) (entry (values_of vs) place) q → dot c.form (vector_at (vectors_of vs) i) ≡ q *ℤ c.divisor
  pub unseen : (i : ℕ) → n ≤ i → i < length vs → i ≢ place → dot c.form (vector_at (vectors_of vs) i) ≡ pos 0

-- q is the coordinate of x
abbrev pub IsWholeAt : Vector → Coordinate → ℤ → Type 0
IsWholeAt x c q = dot c.form x ≡ q *ℤ c.divisor

-- some coordinate of x is not whole
pub record HasFraction (x : Vector) (cs : List Coordinate) : Type 0 where
  pub place : ℕ
  pub within : place < length cs
  pub fraction : ¬ IsMultipleOf (coordinate_at cs place).divisor (dot (coordinate_at cs place).form x)
