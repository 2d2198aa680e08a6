-- The numbers that a sweep forms, by which the causes of Range are stated.
use Rattle.std.specs.Prelude.{◌≡◌, ◌⊎◌, ℕ, suc, ◌<◌, List, [], ◌∷◌, length, ℤ, pos, ◌*ℤ◌, ◌<ℤ◌, unsigned_abs, Contains}
use Rattle.std.specs.List.{AllByRecursion as Each}
use Rattle.nz_spec.specs.Vectors.{Vector, entry}
use Rattle.nz_spec.specs.Forms.{IsDualForm, IsEquation}
use Rattle.nz_linear.specs.Echelon.{unit_at}
use Rattle.nz_range.specs.Measures.{pair_measure}
use Rattle.nz_sweep.specs.Clearing.{Valued, vectors_of, values_of, IsPivot, AreRounds, IsCleared}
use Rattle.nz_sweep.specs.Cuts.{AreValued, IsValueAt, IsRemainderAt, IsCofactor}
use Rattle.nz_sweep.specs.Duals.{Coordinate, coordinate_at, vector_at}
use Rattle.nz_sweep.specs.Bases.{Base}
use Rattle.nz_sweep.specs.Bottom.{column_at, IsFromBottom}
use Rattle.nz_sweep.specs.Generating.{AreSetApart}
use Rattle.nz_sweep.specs.Rounds.{State, AreFactors, GoesInto, Gathers, Leads, ClearsTo, start_of}

-- one of these numbers is above the bound in size
pub record SomeNumberLarge (bound : ℤ) (IsNumber : ℤ → Type 0) : Type 0 where
  pub number : ℤ
  pub is_number : IsNumber number
  pub large : bound <ℤ pos (unsigned_abs number)

-- ---- of lists
-- an entry of one of the vectors
pub data IsEntryOf (vs : List Vector) : ℤ → Type 0 where
  entry_of : {v : Vector} {n : ℤ} → Contains vs v → Contains v n → IsEntryOf vs n

-- the measure of the form at one of the vectors
pub data IsMeasureOf (h : Vector) (vs : List Vector) : ℤ → Type 0 where
  measure_of : {v : Vector} → Contains vs v → IsMeasureOf h vs (pos (pair_measure h v))

-- the measure of the form of one of the coordinates at x
pub data IsMeasureAt (x : Vector) (cs : List Coordinate) : ℤ → Type 0 where
  measure_at : {c : Coordinate} → Contains cs c → IsMeasureAt x cs (pos (pair_measure c.form x))

-- an entry or a value
pub data IsOfValued (vs : List Valued) : ℤ → Type 0 where
  entry_in : {v : Valued} {n : ℤ} → Contains vs v → Contains v.vector n → IsOfValued vs n
  value_in : {v : Valued} → Contains vs v → IsOfValued vs v.value

-- an entry of a form, or a divisor
pub data IsOfCoordinates (cs : List Coordinate) : ℤ → Type 0 where
  form_in : {c : Coordinate} {n : ℤ} → Contains cs c → Contains c.form n → IsOfCoordinates cs n
  divisor_in : {c : Coordinate} → Contains cs c → IsOfCoordinates cs c.divisor

-- ---- the coordinates of a vector
-- the entries of x and of the vectors of the base, and the measures of the forms of its coordinates at x
abbrev pub IsCoordinateNumber : Base → Vector → ℤ → Type 0
IsCoordinateNumber b x n = Contains x n ⊎ IsEntryOf b.vectors n ⊎ IsMeasureAt x b.coordinates n

-- ---- clearing
-- where own takes in other q times: the numbers of the two, the least common multiple m of the divisors, and q times m divided by the other's divisor
pub data IsTakingNumber (q : ℤ) (own other : Coordinate) : ℤ → Type 0 where
  of_both : {n : ℤ} → IsOfCoordinates (own ∷ other ∷ []) n → IsTakingNumber q own other n
  multiple : {m s t : ℤ} → AreFactors own other m s t → IsTakingNumber q own other m
  factor : {m s t : ℤ} → AreFactors own other m s t → IsTakingNumber q own other (q *ℤ t)

-- the numbers of a round with the pivot at this place: those of the state, and those of each taking
pub data IsRoundNumber (s : State) (place : ℕ) : ℤ → Type 0 where
  of_valued : {n : ℤ} → IsOfValued s.valued n → IsRoundNumber s place n
  of_coordinates : {n : ℤ} → IsOfCoordinates s.coordinates n → IsRoundNumber s place n
  of_taking : {j : ℕ} {q n : ℤ} {c : Coordinate} → Gathers s place j c → GoesInto (values_of s.valued) place j q → IsTakingNumber q c (coordinate_at s.coordinates j) n → IsRoundNumber s place n

-- the numbers of all rounds
pub record IsClearingNumber (s : State) (n : ℤ) : Type 0 where
  pub moment : State
  pub place : ℕ
  pub leads : Leads s moment
  pub pivot : IsPivot (values_of moment.valued) (length moment.valued) place
  pub number : IsRoundNumber moment place n

-- ---- cuts
-- at 0: the measures of the form at the vectors, and the numbers of clearing its values
pub data IsEquationNumber (h : Vector) (b : Base) : ℤ → Type 0 where
  measured : {n : ℤ} → IsMeasureOf h b.vectors n → IsEquationNumber h b n
  clearing : {values : List Valued} {n : ℤ} → AreValued (IsValueAt h) b.vectors values → IsClearingNumber (start_of b values) n → IsEquationNumber h b n

-- what is left is multiplied by t: the entries of its vector, t, and its divisor times t
pub data IsMultiplyingNumber (m : ℤ) (own : Valued) (c : Coordinate) : ℤ → Type 0 where
  own_entry : {n : ℤ} → Contains own.vector n → IsMultiplyingNumber m own c n
  own_factor : {t : ℤ} → IsCofactor own.value m t → IsMultiplyingNumber m own c t
  own_divisor : {t : ℤ} → IsCofactor own.value m t → IsMultiplyingNumber m own c (c.divisor *ℤ t)

-- at a multiple of m: m, the measures, the numbers of clearing the remainders, and those of what is left
pub data IsCongruenceNumber (h : Vector) (m : ℤ) (b : Base) : ℤ → Type 0 where
  of_modulus : IsCongruenceNumber h m b m
  of_measure : {n : ℤ} → IsMeasureOf h b.vectors n → IsCongruenceNumber h m b n
  of_clearing : {values : List Valued} {n : ℤ} → AreValued (IsRemainderAt h m) b.vectors values → IsClearingNumber (start_of b values) n → IsCongruenceNumber h m b n
  of_multiplying : {values others : List Valued} {s : State} {place : ℕ} {own : Valued} {n : ℤ} → AreValued (IsRemainderAt h m) b.vectors values → ClearsTo (start_of b values) s place own others → IsMultiplyingNumber m own (coordinate_at s.coordinates place) n → IsCongruenceNumber h m b n

-- ---- the forms of a base
-- the entries of the form, and its measures at the vectors
abbrev pub IsFormNumber : Vector → List Vector → ℤ → Type 0
IsFormNumber f vs n = Contains f n ⊎ IsMeasureOf f vs n

-- those of the dual forms of the vectors
pub data IsDualNumber (w : ℕ) (vs : List Vector) : ℤ → Type 0 where
  of_dual : {v f : Vector} {n : ℤ} → IsDualForm w vs v f → IsFormNumber f vs n → IsDualNumber w vs n

-- those of the dual forms and of the equations of the vectors
pub data IsConstraintNumber (w : ℕ) (vs : List Vector) : ℤ → Type 0 where
  of_dual_form : {n : ℤ} → IsDualNumber w vs n → IsConstraintNumber w vs n
  of_equation : {f : Vector} {n : ℤ} → IsEquation w vs f → IsFormNumber f vs n → IsConstraintNumber w vs n

-- where f is cleared of v at column c: the entry of v there, the entries of f, and its measure at v
abbrev pub IsBottomStepNumber : ℕ → Vector → Vector → ℤ → Type 0
IsBottomStepNumber c v f n = (n ≡ entry v c) ⊎ IsFormNumber f (v ∷ []) n

-- where a form begins at column c and is cleared of the vectors up to the place `end`: the entries with which these lead, and the numbers of the form that comes of it
pub data IsBottomNumber (w : ℕ) (columns : List ℕ) (vs : List Vector) (c : ℕ) (s : ℤ) (end : ℕ) : ℤ → Type 0 where
  leading : {i : ℕ} → i < end → IsBottomNumber w columns vs c s end (entry (vector_at vs i) (column_at columns i))
  coming : {f : Vector} {n : ℤ} → IsFromBottom w columns vs c s 0 end f → IsFormNumber f vs n → IsBottomNumber w columns vs c s end n

-- ---- generators
-- from column c on, of w columns: the entries and the values of the rows that are left, at each moment of clearing a column
pub data IsColumnNumber (w : ℕ) : ℕ → List Vector → ℤ → Type 0 where
  at_column : {c : ℕ} {rows : List Vector} {values moment : List Valued} {n : ℤ} → AreValued (IsValueAt (unit_at w c)) rows values → AreRounds values moment → IsOfValued moment n → IsColumnNumber w c rows n
  passing : {c : ℕ} {rows : List Vector} {n : ℤ} → Each (λ v. entry v c ≡ pos 0) rows → IsColumnNumber w (suc c) rows n → IsColumnNumber w c rows n
  taking : {c : ℕ} {rows : List Vector} {values : List Valued} {place : ℕ} {own : Valued} {others : List Valued} {n : ℤ} → AreValued (IsValueAt (unit_at w c)) rows values → IsCleared values place own others → IsColumnNumber w (suc c) (vectors_of others) n → IsColumnNumber w c rows n

-- those of all columns, and those of the dual forms of the base that is set apart
pub data IsGeneratingNumber (w : ℕ) (rows : List Vector) : ℤ → Type 0 where
  of_column : {n : ℤ} → IsColumnNumber w 0 rows n → IsGeneratingNumber w rows n
  of_base : {base : List Vector} {n : ℤ} → AreSetApart w 0 rows base → IsDualNumber w base n → IsGeneratingNumber w rows n
