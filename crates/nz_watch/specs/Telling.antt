-- What a watch is told of the stages of a call.
use Rattle.std.specs.Prelude.{◌≡◌, ℕ, ◌+◌, ◌-◌, ◌<◌, ◌≤◌, max, List, length, get_or, take, drop, Option, Some, None, Bool, true, false}
use Rattle.nz_watch.specs.Counts.{Rose}
use Rattle.nz_watch.specs.Watching.{Pair, Grew}

-- what a call can change of a watch
pub record Watched : Type 0 where
  pub told : Option (List Pair)
  pub patience : Option ℕ
  pub stops : ℕ

-- a patience falls by the number of pairs told, or by one less where the last was answered false; none stays none
abbrev pub Fell : Option ℕ → Option ℕ → ℕ → Bool → Type 0
Fell None now count stopped = now ≡ None
Fell (Some left) now count false = (count ≤ left) × (now ≡ Some (left - count))
Fell (Some left) now count true = (count ≡ left + 1) × (now ≡ Some 0)

-- the stops rise just where the last pair was answered false
abbrev pub StopsAt : ℕ → ℕ → Bool → Type 0
StopsAt before now false = now ≡ before
StopsAt before now true = Rose before now

-- the watch was told these pairs, and all but the last, or all, were answered true
pub record WasTold (before now : Watched) (pairs : List Pair) (stopped : Bool) : Type 0 where
  pub told : Grew before.told now.told pairs
  pub patience : Fell before.patience now.patience (length pairs) stopped
  pub stops : StopsAt before.stops now.stops stopped

-- so many of the stages were passed, and the watch was told them, without the first that it was told before the call
pub record HasPassed (Stages : List Pair → Type 0) (told passed : ℕ) (before now : Watched) (stopped : Bool) : Type 0 where
  pub stages : List Pair
  pub are_stages : Stages stages
  pub within : passed ≤ length stages
  pub was_told : WasTold before now (drop told (take passed stages)) stopped

-- all stages were passed, and no stop came
pub record HasPassedAll (Stages : List Pair → Type 0) (told : ℕ) (before now : Watched) : Type 0 where
  pub passed : ℕ
  pub telling : HasPassed Stages told passed before now false
  pub all : passed ≡ length telling.stages

-- stopped at the stage with this number, which is the last that the watch was told
pub record HasStopped (Stages : List Pair → Type 0) (told stage : ℕ) (before now : Watched) : Type 0 where
  pub passed : ℕ
  pub new : told < passed
  pub telling : HasPassed Stages told passed before now true
  pub is_last : stage ≡ (get_or telling.stages (passed - 1) (0, 0)).0

-- left with this number: the greater of the one handed in and that of the stages passed
pub record HasLeft (Stages : List Pair → Type 0) (told number : ℕ) (before now : Watched) : Type 0 where
  pub passed : ℕ
  pub telling : HasPassed Stages told passed before now false
  pub is_greater : number ≡ max told passed
