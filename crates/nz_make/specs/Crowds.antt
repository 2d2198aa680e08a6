-- The crowd of a made file: how many vectors have to be held of it.
use Rattle.std.specs.Prelude.{◌↔◌, ℕ, ◌+◌, ◌-◌, ◌*◌, ◌<◌, ◌≤◌}
use Rattle.nz_system.specs.Meaning.{system_of}
use Rattle.nz_measures.specs.Crowds.{IsPrimalCrowdAbove, IsDualCrowdAbove}
use Rattle.nz_make.specs.Squares.{made_file}

-- 3n² - 4n + 6: 0, the (n + 1)² points, and 2(n - 1)(n - 2) vectors of level 2
abbrev pub primal_crowd : ℕ → ℕ
primal_crowd n = (3 * (n * n) + 6) - 4 * n

-- the crowd of a made file for the primal algorithm is this number
abbrev pub PrimalCrowdIsKnown : Type 0
PrimalCrowdIsKnown = (n : ℕ) → 1 ≤ n → (m : ℕ) → IsPrimalCrowdAbove (system_of (made_file n)) m ↔ m < primal_crowd n

-- (n + 1)²: the points, which are the irreducibles of the last stage; n + 3 vectors are held of the first stage, and the reversed one has n + 2
abbrev pub dual_crowd : ℕ → ℕ
dual_crowd n = (n + 1) * (n + 1)

-- the crowd of a made file for the dual algorithm is this number
abbrev pub DualCrowdIsKnown : Type 0
DualCrowdIsKnown = (n : ℕ) → 1 ≤ n → (m : ℕ) → IsDualCrowdAbove (system_of (made_file n)) m ↔ m < dual_crowd n
