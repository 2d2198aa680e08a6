-- The lattice points of a system with a level: its members of level 1.
use Rattle.std.specs.Prelude.{◌≡◌, ℕ, ◌≤◌, ℤ, pos, ◌≤ℤ◌, List, length}
use Rattle.nz_spec.specs.Vectors.{Vector, scaled, IsNonzero}
use Rattle.nz_spec.specs.Order.{IsLexBefore, IsListOf}
use Rattle.nz_spec.specs.Monoids.{HasLevel}
use Rattle.nz_spec.specs.Systems.{System, IsMember}
use Rattle.nz_further.specs.Shadows.{IsBounded}
use Rattle.nz_lift.specs.declared.systems.SystemPoints.{SystemPoints}
use Rattle.nz_lift.specs.declared.systems.SystemPoints.TheVariants.{Points, Unbounded}

-- the system is bounded, and these are its members of level 1, lexicographically, each once: no more than the limit
pub record ArePointsOf (limit : ℕ) (s : System) (points : List Vector) : Type 0 where
  pub bounded : IsBounded (IsMember s)
  pub list : IsListOf IsLexBefore (HasLevel (IsMember s) (pos 1)) points
  pub within : length points ≤ limit

-- v is a nonzero member of level 0, and no multiple of a shorter member
pub record IsAlong (s : System) (v : Vector) : Type 0 where
  pub flat : HasLevel (IsMember s) (pos 0) v
  pub nonzero : IsNonzero v
  pub shortest : (k : ℤ) (x : Vector) → pos 2 ≤ℤ k → scaled k x ≡ v → ¬ IsMember s x

-- the points of a bounded system, or a vector along which it is not bounded
abbrev pub ArePointsOrAlong : {T : Type 0} → ℕ → System → SystemPoints T → Type 0
ArePointsOrAlong limit s (Points points) = ArePointsOf limit s points
ArePointsOrAlong limit s (Unbounded v) = IsAlong s v
