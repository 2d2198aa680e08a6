-- Which lists of an outcome go together.
use Rattle.std.specs.Prelude.{◌≡◌, ◌≤◌, ◌&&◌, IsTrue, List, [], ◌∷◌, Option, IsSome, is_some}
use Rattle.std.specs.List.{AllByRecursion as Each}
use Rattle.nz_spec.specs.Vectors.{Vector}
use Rattle.nz_blocks.specs.Outcomes.{OutcomeData, AreRows, IsDivisor, row_width}

-- the lists of rows that are written as they are
abbrev pub row_lists : OutcomeData → List (Option (List Vector))
row_lists o = o.modules ∷ o.hilbert ∷ o.degree_one ∷ o.vertices ∷ o.rays ∷ o.support ∷ o.equations ∷ o.generators ∷ []

pub record GoTogether (o : OutcomeData) : Type 0 where
  pub described : is_some o.equations ≡ is_some o.support
  pub covered : is_some o.simplices ≡ is_some o.generators
  pub bounded : is_some o.vertices ≡ is_some o.rays && o.level
  pub levelled : IsSome o.modules → IsTrue o.level
  pub divided : IsSome o.degree_one → IsSome o.denominator
  pub parted : IsSome o.asked → IsSome o.hilbert × (IsTrue o.level → IsSome o.modules)

-- the shapes of an outcome, but for places and answers
pub record IsShaped (o : OutcomeData) : Type 0 where
  pub at_least : 1 ≤ o.amb
  pub at_most : o.amb ≤ 64
  pub denominator : IsDivisor o.denominator
  pub rows : Each (AreRows (row_width o)) (row_lists o)
  pub together : GoTogether o
