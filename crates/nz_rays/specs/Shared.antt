-- The places that rays on both sides of a new row have in common, and the zero sets cut to them and counted anew.
use Rattle.std.specs.Prelude.{◌≡◌, ℕ, ◌<◌, List, [], ◌∷◌, ◌++◌, length, get_or, Contains, Bool, true, false, Option, None, Some, MatchOption}
use Rattle.std.specs.List.{AllByRecursion as Each, AllZip}
use Rattle.nz_spec.specs.Vectors.{Vector}
use Rattle.nz_spec.specs.Order.{Pairwise, IsListOf}
use Rattle.nz_rays.specs.Crossings.{AreOnBothSides}
use Rattle.nz_rays.specs.Words.{AreColumns}

-- the place is marked
abbrev pub IsMarked : List Bool → ℕ → Type 0
IsMarked marks k = get_or marks k false ≡ true

-- the places of the set are marked too, and those marked before stay so
pub record AreMarkedToo (set : List ℕ) (old new : List Bool) : Type 0 where
  pub long : length new ≡ length old
  pub stays : (k : ℕ) → IsMarked old k → IsMarked new k
  pub added : Each (IsMarked new) set

-- of as many marks as the bound, those of all places of the sets at these places are set
pub record AreMarksOf (sets : List (List ℕ)) (places : List ℕ) (bound : ℕ) (marks : List Bool) : Type 0 where
  pub long : length marks ≡ bound
  pub marked : Each (λ p. Each (IsMarked marks) (get_or sets p [])) places

-- some places in order, and for each place below a bound its number among them, if it is one of them
pub record IsNumbering (shared : List ℕ) (numbers : List (Option ℕ)) : Type 0 where
  pub in_order : Pairwise ◌<◌ shared
  pub within : Each (λ k. k < length numbers) shared
  pub each : (k : ℕ) → k < length numbers → MatchOption (get_or numbers k None) (¬ Contains shared k) (λ i. (i < length shared) × (get_or shared i 0 ≡ k))

-- the place is put last, and has the number of those before it; or it is not put
abbrev pub IsNextNumber : List ℕ → ℕ → Option ℕ → List ℕ → Type 0
IsNextNumber shared place None more = more ≡ shared
IsNextNumber shared place (Some i) more = (i ≡ length shared) × (more ≡ shared ++ place ∷ [])

-- below the bound each place that has both marks is among those that are numbered
pub record AreNumberedBoth (first second : List Bool) (bound : ℕ) (shared : List ℕ) (numbers : List (Option ℕ)) : Type 0 where
  pub are_numbered : IsNumbering shared numbers
  pub long : length numbers ≡ bound
  pub has : (k : ℕ) → k < bound → IsMarked first k → IsMarked second k → Contains shared k

-- the numbers of those of the places that are in the set
abbrev pub IsCutTo : List ℕ → List ℕ → List ℕ → Type 0
IsCutTo shared set cut = IsListOf ◌<◌ (λ i. (i < length shared) × Contains set (get_or shared i 0)) cut

-- the places have all that two on both sides have in common
abbrev pub HasAllCommon : Vector → List (List ℕ) → List ℕ → Type 0
HasAllCommon values zeros shared = (above below : ℕ) → AreOnBothSides values above below → (k : ℕ) → Contains (get_or zeros above []) k → Contains (get_or zeros below []) k → Contains shared k

-- the columns of the sets cut to such places
pub record AreSharedColumns (values : Vector) (zeros columns : List (List ℕ)) : Type 0 where
  pub shared : List ℕ
  pub in_order : Pairwise ◌<◌ shared
  pub has : HasAllCommon values zeros shared
  pub cuts : List (List ℕ)
  pub are_cut : AllZip (IsCutTo shared) zeros cuts
  pub are_columns : AreColumns cuts columns
