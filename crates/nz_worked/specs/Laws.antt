-- What is known of the worked files.
use Rattle.std.specs.Prelude.{◌↔◌, ℕ, ◌+◌, ◌^◌, ◌<◌, ℤ, pos}
use Rattle.nz_spec.specs.Systems.{System}
use Rattle.nz_system.specs.Meaning.{system_of}
use Rattle.nz_measures.specs.Reaches.{IsPrimalReachAbove, IsDualReachAbove}
use Rattle.nz_measures.specs.Crowds.{IsPrimalCrowdAbove, IsDualCrowdAbove}
use Rattle.nz_worked.specs.Files.{orthant_file, wedge_file, narrow_file, far_file}

-- ---- crowds
-- the crowd of the system for the primal algorithm is n
abbrev pub HasPrimalCrowd : System → ℕ → Type 0
HasPrimalCrowd s n = (m : ℕ) → IsPrimalCrowdAbove s m ↔ m < n

-- its crowd for the dual algorithm is n
abbrev pub HasDualCrowd : System → ℕ → Type 0
HasDualCrowd s n = (m : ℕ) → IsDualCrowdAbove s m ↔ m < n

-- the crowd of the orthant is n + 1 in both modes: the unit vectors and 0
abbrev pub CrowdOfOrthant : Type 0
CrowdOfOrthant = (n : ℕ) → HasPrimalCrowd (system_of (orthant_file n)) (n + 1) × HasDualCrowd (system_of (orthant_file n)) (n + 1)

-- the crowd of the cone of (1, 3) and (2, 1) is 7 in both modes
abbrev pub CrowdOfWedge : Type 0
CrowdOfWedge = HasPrimalCrowd (system_of wedge_file) 7 × HasDualCrowd (system_of wedge_file) 7

-- ---- reaches
-- the reach of the system is above n in both modes
abbrev pub IsReachAboveInBoth : System → ℤ → Type 0
IsReachAboveInBoth s n = IsPrimalReachAbove s n × IsDualReachAbove s n

-- and in neither mode
abbrev pub IsReachAboveInNone : System → ℤ → Type 0
IsReachAboveInNone s n = (¬ IsPrimalReachAbove s n) × (¬ IsDualReachAbove s n)

-- the reach of the plane's quadrant is 1 in both modes
abbrev pub ReachOfQuadrant : Type 0
ReachOfQuadrant = IsReachAboveInBoth (system_of (orthant_file 2)) (pos 0) × IsReachAboveInNone (system_of (orthant_file 2)) (pos 1)

-- the reach of the narrow cone is above 2^30 in both modes, and above 2^62 in neither: past the bound of the run with 64 bits, and within that of the run with 128
abbrev pub ReachOfNarrow : Type 0
ReachOfNarrow = IsReachAboveInBoth (system_of narrow_file) (pos (2 ^ 30)) × IsReachAboveInNone (system_of narrow_file) (pos (2 ^ 62))

-- the reach of the cone with a far facet is above 2^62 in both modes
abbrev pub ReachOfFar : Type 0
ReachOfFar = IsReachAboveInBoth (system_of far_file) (pos (2 ^ 62))
