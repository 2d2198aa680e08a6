-- Both sides of a new row, before and after their sums are looked at.
use Rattle.std.specs.Prelude.{◌≡◌, ◌⊎◌, ℕ, ◌≤◌, ℤ, pos, ◌≤ℤ◌, ◌<ℤ◌, List, length, Contains}
use Rattle.std.specs.List.{AllByRecursion as Each}
use Rattle.nz_spec.specs.Vectors.{Vector, dot, plus, opposite}
use Rattle.nz_spec.specs.Order.{ListsOnce}
use Rattle.nz_order.specs.Totals.{total}
use Rattle.nz_vec.specs.declared.answers.Work.{Work}
use Rattle.nz_dual.specs.DualStages.{IsStageList}
use Rattle.nz_dual.specs.Sides.{SideLists, IsSide, IsSideElement, HasGrown, Handles, IsOfferRefusal}

-- the sides of a row and of its opposite, where the irreducibles of the stage so far stand on their sides
pub record IsPart (limit : ℕ) (rows : List Vector) (up down : SideLists) : Type 0 where
  pub list : List Vector
  pub stage : IsStageList (length up.last) rows list
  pub turned : down.last ≡ opposite up.last
  pub up_side : IsSide limit rows up
  pub down_side : IsSide limit rows down
  pub up_old : Each (Handles rows up.last up.elements) list
  pub down_old : Each (Handles rows down.last down.elements) list

-- the sides of a row and of its opposite with some limit
abbrev pub AreParts : List Vector → SideLists → SideLists → Type 0
AreParts rows up down = (limit : ℕ) × IsPart limit rows up down

-- neither side needs the vector: it is one of the elements of each side on which it is irreducible
abbrev pub IsSettled : List Vector → SideLists → SideLists → Vector → Type 0
IsSettled rows up down x = Handles rows up.last up.elements x × Handles rows down.last down.elements x

-- each sum of two of these elements, one of each side and both rising there, of at most this degree is handled on both sides
abbrev pub HandlesSums : List Vector → Vector → Vector → ℕ → List Vector → List Vector → Type 0
HandlesSums rows up down degree ups downs = (p n : Vector) → Contains ups p → Contains downs n → pos 0 <ℤ dot up p → pos 0 <ℤ dot down n → dot (total (length up) rows) (plus p n) ≤ℤ pos degree → Handles rows up ups (plus p n) × Handles rows down downs (plus p n)

-- a side with exactly its irreducibles, each once, and not more than the limit
pub record IsComplete (limit : ℕ) (rows : List Vector) (s : SideLists) : Type 0 where
  pub lists : ListsOnce (IsSideElement rows s.last) s.elements
  pub within : length s.elements ≤ limit

-- both sides have grown, and the vector is one of the elements of each where it is irreducible there
pub record AreOffered (limit : ℕ) (rows : List Vector) (x : Vector) (up up' down down' : SideLists) : Type 0 where
  pub up_grown : HasGrown limit rows up up'
  pub down_grown : HasGrown limit rows down down'
  pub up_handles : Handles rows up.last up'.elements x
  pub down_handles : Handles rows down.last down'.elements x

-- why vectors are not taken in by one of two sides
abbrev pub IsOfferedRefusal : ℤ → ℕ → List Vector → Vector → Vector → (Vector → Type 0) → Work → Type 0
IsOfferedRefusal bound limit rows up down Offered e = IsOfferRefusal bound limit rows up Offered e ⊎ IsOfferRefusal bound limit rows down Offered e
