-- Forms from the bottom of vectors in echelon form: a form begins at a column, and is cleared of one vector after the other, the last first.
use Rattle.std.specs.Prelude.{◌≡◌, ◌≢◌, ℕ, ◌<◌, ◌≤◌, List, length, get_or, ℤ, pos, ◌+ℤ◌, ◌*ℤ◌, ◌<ℤ◌}
use Rattle.nz_spec.specs.Vectors.{Vector, dot, plus, scaled, entry, HasWidth, IsMultipleOf, IsPrimitive}
use Rattle.nz_linear.specs.Echelon.{unit_at}
use Rattle.nz_sweep.specs.Duals.{Coordinate, coordinate_at, vector_at}

abbrev pub column_at : List ℕ → ℕ → ℕ
column_at columns i = get_or columns i 0

-- the factors make a sum of v and p that is 0, and have no common divisor
pub record AreLeastFactors (v p a b : ℤ) : Type 0 where
  pub positive : pos 0 <ℤ a
  pub zero : a *ℤ v +ℤ b *ℤ p ≡ pos 0
  pub least : (k : ℤ) → IsMultipleOf k a → IsMultipleOf k b → IsMultipleOf k (pos 1)

-- a positive multiple of f, with another entry at column c, that is 0 at v, and primitive where f is
pub record IsClearedOf (w c : ℕ) (v f g : Vector) : Type 0 where
  pub factor : ℤ
  pub own : ℤ
  pub positive : pos 0 <ℤ factor
  pub same : g ≡ plus (scaled factor f) (scaled own (unit_at w c))
  pub zero : dot g v ≡ pos 0
  pub primitive : IsPrimitive f → IsPrimitive g

-- the primitive form that begins at column c with the sign of s, and is cleared of the vectors from the place `first` up to the place `end`
pub record IsFromBottom (w : ℕ) (columns : List ℕ) (vs : List Vector) (c : ℕ) (s : ℤ) (first end : ℕ) (f : Vector) : Type 0 where
  pub width : HasWidth w f
  pub primitive : IsPrimitive f
  pub sign : pos 0 <ℤ (s *ℤ entry f c)
  pub after : (k : ℕ) → c < k → entry f k ≡ pos 0
  pub zero_at : (k : ℕ) → k ≢ c → ((i : ℕ) → first ≤ i → i < end → k ≢ column_at columns i) → entry f k ≡ pos 0
  pub zero_on : (i : ℕ) → first ≤ i → i < end → dot f (vector_at vs i) ≡ pos 0

-- the form begins at the column of the vector at this place, and the divisor is its value there
pub record IsDualAt (w : ℕ) (columns : List ℕ) (vs : List Vector) (i : ℕ) (c : Coordinate) : Type 0 where
  pub form : IsFromBottom w columns vs (column_at columns i) (entry (vector_at vs i) (column_at columns i)) 0 i c.form
  pub divisor : c.divisor ≡ dot c.form (vector_at vs i)

-- so it is at each place
pub record AreDualEach (w : ℕ) (columns : List ℕ) (vs : List Vector) (cs : List Coordinate) : Type 0 where
  pub one_each : length cs ≡ length vs
  pub each : (i : ℕ) → i < length vs → IsDualAt w columns vs i (coordinate_at cs i)
