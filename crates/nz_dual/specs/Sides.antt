-- One side of a new row: what is held there, and what is offered to it.
use Rattle.std.specs.Prelude.{◌≡◌, ◌≢◌, ◌⊎◌, ⊤, ℕ, ◌+◌, ◌<◌, ◌≤◌, ◌^◌, ℤ, pos, ◌≤ℤ◌, ◌<ℤ◌, List, [], ◌∷◌, ◌++◌, length, map, take, Contains}
use Rattle.std.specs.List.{AllByRecursion as Each, AllZip}
use Rattle.nz_spec.specs.Vectors.{Vector, dot, entry, values_at}
use Rattle.nz_spec.specs.Order.{Pairwise, MoreThan}
use Rattle.nz_range.specs.Measures.{measure, SomeLargeAt}
use Rattle.nz_order.specs.Totals.{total}
use Rattle.nz_reducer.specs.Tables.{NoneIsBelow}
use Rattle.nz_vec.specs.declared.answers.Num.{Num}
use Rattle.nz_vec.specs.declared.answers.Num.TheVariants as num
use Rattle.nz_vec.specs.declared.answers.Work.{Work}
use Rattle.nz_vec.specs.declared.answers.Work.TheVariants.{Range, TooMany, Stopped, NoMemory}
use Rattle.nz_dual.specs.DualStages.{IsElement}

-- the last form, the elements and the values of the forms at them, and those at which the last form is positive with the values at them, their degrees and the different ones of these
pub record SideLists : Type 0 where
  pub last : Vector
  pub elements : List Vector
  pub columns : ℕ
  pub values : List Vector
  pub rising : List Vector
  pub rising_values : List Vector
  pub degrees : List ℕ
  pub classes : List ℕ

-- an irreducible of the vectors at which the rows and the last form are at least 0
abbrev pub IsSideElement : List Vector → Vector → Vector → Type 0
IsSideElement rows last = IsElement (length last) (rows ++ last ∷ [])

-- irreducibles of a side, each once and not more than the limit, with their values, and those at which the last form is positive with the values at them and their degrees
pub record IsSide (limit : ℕ) (rows : List Vector) (s : SideLists) : Type 0 where
  pub columns : s.columns ≡ length rows + 1
  pub values : s.values ≡ map (values_at (rows ++ s.last ∷ [])) s.elements
  pub elements : Each (IsSideElement rows s.last) s.elements
  pub different : Pairwise ◌≢◌ s.elements
  pub within : length s.elements ≤ limit
  pub rising : Each (λ v. Contains s.elements v × (pos 0 <ℤ dot s.last v)) s.rising
  pub all_rising : (v : Vector) → Contains s.elements v → pos 0 <ℤ dot s.last v → Contains s.rising v
  pub rising_values : s.rising_values ≡ map (values_at (rows ++ s.last ∷ [])) s.rising
  pub degrees : AllZip (λ v d. (dot (total (length s.last) rows) v ≡ pos d) × (d < 2 ^ 127)) s.rising s.degrees

-- no elements
abbrev pub IsEmpty : List Vector → SideLists → Type 0
IsEmpty rows s = (s.elements ≡ []) × ((limit : ℕ) → IsSide limit rows s)

-- where x is on the side and none of the elements can be taken from it there, it is irreducible
abbrev pub Keeps : List Vector → Vector → List Vector → Vector → Type 0
Keeps rows last elements x = pos 0 ≤ℤ dot last x → NoneIsBelow (map (values_at (rows ++ last ∷ [])) elements) (values_at (rows ++ last ∷ []) x) → IsSideElement rows last x

-- if x is irreducible on the side, it is one of the elements
abbrev pub Handles : List Vector → Vector → List Vector → Vector → Type 0
Handles rows last elements x = IsSideElement rows last x → Contains elements x

-- the same side, with more elements at the end of its list
pub record HasGrown (limit : ℕ) (rows : List Vector) (old new : SideLists) : Type 0 where
  pub side : IsSide limit rows new
  pub last : new.last ≡ old.last
  pub more : List Vector
  pub extends : new.elements ≡ old.elements ++ more

-- why a vector is not taken in: a form has a value at it that is too large, the side has more elements than the limit, or no memory
abbrev pub IsOfferRefusal : ℤ → ℕ → List Vector → Vector → (Vector → Type 0) → Work → Type 0
IsOfferRefusal bound limit rows last Offered (Range told) = (told ≡ 0) × SomeLargeAt bound (Contains (rows ++ last ∷ [])) Offered
IsOfferRefusal bound limit rows last Offered TooMany = MoreThan limit (IsSideElement rows last)
IsOfferRefusal bound limit rows last Offered (Stopped stage) = ⊥
IsOfferRefusal bound limit rows last Offered NoMemory = ⊤

-- the vector stands with its values and its degree at the end of those at which the last value is positive, where its own is; nothing else changed
pub record IsNoted (count : ℕ) (x vs : Vector) (old new : SideLists) : Type 0 where
  pub last : new.last ≡ old.last
  pub elements : new.elements ≡ old.elements
  pub columns : new.columns ≡ old.columns
  pub values : new.values ≡ old.values
  pub noted : ((pos 0 <ℤ entry vs count) × (new.rising ≡ old.rising ++ x ∷ []) × (new.degrees ≡ old.degrees ++ measure (take count vs) ∷ []) × (measure (take count vs) < 2 ^ 127) × (new.rising_values ≡ old.rising_values ++ vs ∷ [])) ⊎ ((¬ (pos 0 <ℤ entry vs count)) × (new.rising ≡ old.rising) × (new.degrees ≡ old.degrees) × (new.rising_values ≡ old.rising_values))

-- the same refusal, where no stage was told
abbrev pub IsWorkOf : Num → Work → Type 0
IsWorkOf refusal (Range told) = (refusal ≡ num.Range) × (told ≡ 0)
IsWorkOf refusal TooMany = ⊥
IsWorkOf refusal (Stopped stage) = ⊥
IsWorkOf refusal NoMemory = ⊤
