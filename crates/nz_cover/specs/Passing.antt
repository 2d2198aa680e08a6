-- On the way: the order of the stages, and what the watch was told of them.
use Rattle.std.specs.Prelude.{◌≡◌, ℕ, ◌+◌, ◌-◌, ◌<◌, ◌≤◌, max, length, take, drop, List, [], ◌∷◌, ◌++◌, Bool, true, false, Contains}
use Rattle.std.specs.declared.result.Result.{Result}
use Rattle.std.specs.declared.result.Result.TheVariants.{Ok, Err}
use Rattle.nz_spec.specs.Vectors.{Vector}
use Rattle.nz_spec.specs.Order.{IsListOf}
use Rattle.nz_spec.specs.Covers.{vectors_at}
use Rattle.nz_spec.specs.Forms.{IsSupportForm}
use Rattle.nz_spec.specs.Stages.{CountsStages, ArePlacings}
use Rattle.nz_vec.specs.declared.answers.Num.{Num}
use Rattle.nz_vec.specs.declared.answers.Num.TheVariants as nums
use Rattle.nz_vec.specs.declared.answers.Work.{Work}
use Rattle.nz_vec.specs.declared.answers.Work.TheVariants.{Range, TooMany, Stopped, NoMemory}
use Rattle.nz_watch.specs.Watching.{Pair}
use Rattle.nz_watch.specs.Telling.{Watched, WasTold}

-- whether the place is new: it was placed just now, or had been before
abbrev pub PlacesOnce : List ℕ → ℕ → List ℕ → Bool → Type 0
PlacesOnce before place after true = (¬ Contains before place) × (after ≡ before ++ place ∷ [])
PlacesOnce before place after false = Contains before place × (after ≡ before)

-- a place from the first number on and below the second one that is not among these
pub record IsLeft (placed : List ℕ) (low high : ℕ) (place : ℕ) : Type 0 where
  pub from : low ≤ place
  pub below : place < high
  pub fresh : ¬ Contains placed place

-- the places placed, and then those left from this place on, are the order of the stages
pub record IsUnderWay (w : ℕ) (rays : List Vector) (place : ℕ) (placed : List ℕ) (stages : List Pair) : Type 0 where
  pub rest : List ℕ
  pub left : IsListOf ◌<◌ (IsLeft placed place (length rays)) rest
  pub enough : w ≤ length placed
  pub counts : CountsStages (IsSupportForm w) w (vectors_at rays (placed ++ rest)) stages
  pub are_stages : ArePlacings w rays stages

-- the watch was told the stages passed up to this place, without those that it was told before the call
pub record IsToldUpTo (w : ℕ) (rays : List Vector) (told place : ℕ) (placed : List ℕ) (passed : ℕ) (before now : Watched) : Type 0 where
  pub stages : List Pair
  pub way : IsUnderWay w rays place placed stages
  pub number : w + passed ≡ length placed + 1
  pub within : passed ≤ length stages
  pub was_told : WasTold before now (drop told (take passed stages)) false

-- a refusal to reckon, as one of placing: its number is the greater of the one handed in and that of the stages passed
abbrev pub LeavesAs : ℕ → ℕ → Num → Work → Type 0
LeavesAs told passed nums.Range work = work ≡ Range (max told passed)
LeavesAs told passed nums.NoMemory work = work ≡ NoMemory

-- the stage at hand was told unless it is among the first, and is passed, or the watch said stop at it
abbrev pub PassesStage : ℕ → ℕ → Pair → Watched → Watched → Result ℕ Work → Type 0
PassesStage told passed pair before now (Ok next) = (next ≡ passed + 1) × WasTold before now (drop (told - passed) (pair ∷ [])) false
PassesStage told passed pair before now (Err (Range number)) = ⊥
PassesStage told passed pair before now (Err TooMany) = ⊥
PassesStage told passed pair before now (Err (Stopped stage)) = (told ≤ passed) × (stage ≡ pair.0) × WasTold before now (drop (told - passed) (pair ∷ [])) true
PassesStage told passed pair before now (Err NoMemory) = before ≡ now

-- the same where the place is new, and else nothing
abbrev pub PassesIf : Bool → ℕ → ℕ → Pair → Watched → Watched → Result ℕ Work → Type 0
PassesIf true told passed pair before now r = PassesStage told passed pair before now r
PassesIf false told passed pair before now r = (r ≡ Ok passed) × (before ≡ now)
