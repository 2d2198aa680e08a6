-- What is held on the way through the classes.
use Rattle.std.specs.Prelude.{◌≡◌, ◌≢◌, ◌⊎◌, ⊤, ℕ, ◌+◌, ◌<◌, ◌≤◌, List, [], ◌∷◌, ◌++◌, length, map, take, slice_index_or, pos, negsuc, ℤ, ◌+ℤ◌, ◌*ℤ◌, ◌≤ℤ◌, ◌<ℤ◌, Contains}
use Rattle.std.specs.List.{AllByRecursion as Each, AllZip}
use Rattle.nz_spec.specs.Vectors.{Vector, plus, combination, values_at, unit_vectors, entry, HasWidth}
use Rattle.nz_spec.specs.Order.{IsLexBefore, Pairwise}
use Rattle.nz_linear.specs.DualPairs.{Pair, divisor}
use Rattle.nz_scalar.specs.Division.{IsFloorQuotient}
use Rattle.nz_vec.specs.Combinations.{CombinationFits}
use Rattle.nz_vec.specs.declared.answers.Work.{Work}
use Rattle.nz_vec.specs.declared.answers.Work.TheVariants.{Range, TooMany, Stopped, NoMemory}
use Rattle.nz_classes.specs.Classes.{AreOneClass, HasReducedValues, IsRestOf}
use Rattle.nz_classes.specs.Sums.{sum_of}
use Rattle.nz_classes.specs.Walks.{paired, IsFullSimplex}

-- a simplex with the divisors of its forms, the points in the classes of the unit vectors, and the values of the forms at these
pub record IsPrepared (sides forms : List Vector) (divisors : List ℤ) (units values : List Vector) : Type 0 where
  pub simplex : IsFullSimplex sides forms
  pub divisors_are : divisors ≡ map divisor (paired forms sides)
  pub unit_points : AllZip (IsRestOf (length sides) (paired forms sides)) (unit_vectors (length sides)) units
  pub values_are : values ≡ map (values_at forms) units

-- one for each form, the floors of the values at a column by the divisors
pub record AreQuotients (forms : List Vector) (divisors : List ℤ) (column : ℕ) (floors : List ℤ) : Type 0 where
  pub one_each : length floors ≡ length forms
  pub each : (i : ℕ) → i < length forms → IsFloorQuotient (entry (slice_index_or forms i []) column) (entry divisors i) (entry floors i)

-- some partial sum of the vectors with their factors, and the next of them, cannot be added
pub record HasSumOutside (fits : ℤ → Type 0) (w : ℕ) (factors : List ℤ) (vectors : List Vector) : Type 0 where
  pub place : ℕ
  pub within : place < length vectors
  pub outside : ¬ CombinationFits fits (pos 1) (combination w (take place factors) vectors) (entry factors place) (slice_index_or vectors place [])

-- k is -1 where s reaches d, and else 0
abbrev pub IsCarry : ℤ → ℤ → ℤ → Type 0
IsCarry s d k = ((d ≤ℤ s) × (k ≡ negsuc 0)) ⊎ ((s <ℤ d) × (k ≡ pos 0))

-- so it is at each place of the sums of two lists
pub record AreCarries (values more divisors carries : List ℤ) : Type 0 where
  pub one_each : length carries ≡ length values
  pub each : (i : ℕ) → i < length values → IsCarry (entry values i +ℤ entry more i) (entry divisors i) (entry carries i)

-- two lists have at some place a sum that is no value
pub record HasPairOutside (fits : ℤ → Type 0) (values more : List ℤ) : Type 0 where
  pub place : ℕ
  pub within : place < length values
  pub outside : ¬ fits (entry values place +ℤ entry more place)

-- the products of the factors and the entries of the vectors at a column
abbrev pub products : List ℤ → List Vector → ℕ → List ℤ
products [] vs j = []
products (k ∷ ks) [] j = []
products (k ∷ ks) (v ∷ vs) j = (k *ℤ entry v j) ∷ products ks vs j

-- the terms of an entry of x + y + the sum of the vectors with their factors
abbrev pub column_terms : Vector → Vector → List ℤ → List Vector → ℕ → List ℤ
column_terms x y ks vs j = entry x j ∷ entry y j ∷ products ks vs j

-- at some column the terms are values of the type, and their sum is none
pub record HasColumnOutside (fits : ℤ → Type 0) (x y : Vector) (ks : List ℤ) (vs : List Vector) : Type 0 where
  pub column : ℕ
  pub within : column < length x
  pub outside : Each fits (column_terms x y ks vs column) → ¬ fits (sum_of (column_terms x y ks vs column))

-- x is put into the list: it stands there already, or comes after all others
abbrev pub IsPut : List Vector → Vector → List Vector → Type 0
IsPut old x new = ((new ≡ old) × Contains old x) ⊎ ((new ≡ old ++ x ∷ []) × ¬ Contains old x)

-- the same, where the list has become longer than the limit
abbrev pub IsFull : ℕ → List Vector → Vector → List Vector → Work → Type 0
IsFull limit old x new (Range told) = ⊥
IsFull limit old x new TooMany = IsPut old x new × (limit < length new)
IsFull limit old x new (Stopped stage) = ⊥
IsFull limit old x new NoMemory = ⊤

-- new begins with old
abbrev pub Extends : List Vector → List Vector → Type 0
Extends old new = (more : List Vector) × (new ≡ old ++ more)

-- vectors with reduced values, each once, and no more than the limit
pub record IsPart (w : ℕ) (ps : List Pair) (limit : ℕ) (found : List Vector) : Type 0 where
  pub different : Pairwise ◌≢◌ found
  pub wide : Each (HasWidth w) found
  pub reduced : Each (HasReducedValues ps) found
  pub within : length found ≤ limit

-- some vector of the list is in the class of z
abbrev pub Reaches : List Pair → List Vector → Vector → Type 0
Reaches ps found z = (y : Vector) × (Contains found y × AreOneClass ps y z)

-- from x each unit vector leads into a class of the list
abbrev pub IsExpanded : ℕ → List Pair → List Vector → Vector → Type 0
IsExpanded w ps found x = Each (λ u. Reaches ps found (plus x u)) (unit_vectors w)

-- no vector is before the one that it follows
abbrev pub IsNotFalling : List Vector → Type 0
IsNotFalling xs = (k : ℕ) (d : Vector) → k + 1 < length xs → ¬ IsLexBefore (slice_index_or xs (k + 1) d) (slice_index_or xs k d)
