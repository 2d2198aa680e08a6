-- What a run through the stages of rows tells and answers.
use Rattle.std.specs.Prelude.{◌≡◌, ℕ, ◌<◌, ◌≤◌, ◌-◌, max, List, [], ◌∷◌, drop, true, false}
use Rattle.nz_spec.specs.Vectors.{Vector, HasWidth}
use Rattle.nz_spec.specs.Monoids.{IsIrreducible}
use Rattle.nz_spec.specs.Stages.{IsInStage, CountsStages}
use Rattle.nz_watch.specs.Watching.{Pair}
use Rattle.nz_watch.specs.Telling.{Watched, WasTold, HasPassed, HasStopped, HasLeft}
use Rattle.nz_vec.specs.declared.answers.Work.{Work}
use Rattle.nz_vec.specs.declared.answers.Work.TheVariants.{Range, TooMany, Stopped, NoMemory}

-- how many irreducibles the stages of rows in this order have, from the stage of as many rows as the width on
abbrev pub AreOrderedStages : ℕ → List Vector → List Pair → Type 0
AreOrderedStages w ordered = CountsStages (λ first. IsIrreducible (IsInStage (HasWidth w) first)) w ordered

-- none of the first stages, so many, has to hold more than the limit
abbrev pub AreNotCrowded : (ℕ → Work → Type 0) → ℕ → Type 0
AreNotCrowded Refused passed = (p : ℕ) → p < passed → ¬ Refused p TooMany

-- no stage has to hold more than the limit
abbrev pub NoneIsCrowded : (ℕ → Work → Type 0) → Type 0
NoneIsCrowded Refused = (p : ℕ) → ¬ Refused p TooMany

-- why a run gives no list: the stage after those that were passed is refused, the watch stopped it, or no memory
abbrev pub IsRunRefusal : (List Pair → Type 0) → (ℕ → Work → Type 0) → ℕ → Watched → Watched → Work → Type 0
IsRunRefusal Stages Refused told before now (Range number) = (left : HasLeft Stages told number before now) × Refused left.passed (Range 0) × AreNotCrowded Refused left.passed
IsRunRefusal Stages Refused told before now TooMany = (passed : ℕ) × HasPassed Stages told passed before now false × Refused passed TooMany
IsRunRefusal Stages Refused told before now (Stopped stage) = HasStopped Stages told stage before now
IsRunRefusal Stages Refused told before now NoMemory = (passed : ℕ) × HasPassed Stages told passed before now false

-- the pair was told where it is not among the first, and it was answered false
pub record IsStopAt (told passed : ℕ) (pair : Pair) (before now : Watched) (e : Work) : Type 0 where
  pub stopped : e ≡ Stopped pair.0
  pub new : told ≤ passed
  pub was_told : WasTold before now (drop (told - passed) (pair ∷ [])) true

-- the same refusal, where a number too large carries the greater of the stages told before and those passed
abbrev pub IsLeftAs : ℕ → ℕ → Work → Work → Type 0
IsLeftAs told passed (Range number) e = e ≡ Range (max told passed)
IsLeftAs told passed TooMany e = e ≡ TooMany
IsLeftAs told passed (Stopped stage) e = e ≡ Stopped stage
IsLeftAs told passed NoMemory e = e ≡ NoMemory
