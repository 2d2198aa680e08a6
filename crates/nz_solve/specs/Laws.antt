-- What all outcomes of a system have in common.
use Rattle.std.specs.Prelude.{◌≡◌, false}
use Rattle.nz_spec.specs.Vectors.{Vector}
use Rattle.nz_spec.specs.Systems.{System, IsSystem, IsMember}
use Rattle.nz_spec.specs.Monoids.{IsLeastLine}
use Rattle.nz_spec.specs.Elements.{IsFirstNotPositive}
use Rattle.nz_input.specs.declared.kind.Mode.{Mode}
use Rattle.nz_system.specs.declared.asked.GoalSet.{GoalSet}
use Rattle.nz_system.specs.Meaning.{SystemData}
use Rattle.nz_blocks.specs.Outcomes.{OutcomeData}
use Rattle.nz_solve.specs.Solutions.{IsSolution}

-- a solved system has no line to be refused, and no degree
abbrev pub SolvedIsNotRefused : Type 0
SolvedIsNotRefused = (s : SystemData) (o : OutcomeData) → IsSolution s o → ((v : Vector) → ¬ IsLeastLine (IsMember s.system) v) × ((x : Vector) → ¬ IsFirstNotPositive s.system x)

-- two outcomes of one system that differ in the mode alone are the same, where no cover is wanted
abbrev pub ModesAgree : Type 0
ModesAgree = (system : System) (goals : GoalSet) (m n : Mode) (o p : OutcomeData) → IsSystem system → goals.cover ≡ false → IsSolution (record { system = system; goals = goals; mode = m }) o → IsSolution (record { system = system; goals = goals; mode = n }) p → o ≡ p
