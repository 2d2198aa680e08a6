-- Which stage is refused.
use Rattle.std.specs.Prelude.{◌≡◌, ◌⊎◌, ℕ, ◌+◌, ℤ, List, [], ◌∷◌, ◌++◌, length}
use Rattle.nz_spec.specs.Vectors.{Vector, HasWidth}
use Rattle.nz_spec.specs.Stages.{IsFreshRow, Separates}
use Rattle.nz_vec.specs.declared.answers.Work.{Work}
use Rattle.nz_dual.specs.DualStages.{IsInsertRefusal}
use Rattle.nz_dual.specs.FirstStage.{IsStartRefusal}

-- where so many stages were passed, the first and then one for each row before it, the insertion of the next of these rows after the rows held and those before it is refused with this answer
pub record IsInsertOf (bound : ℤ) (limit w : ℕ) (held rows : List Vector) (passed : ℕ) (e : Work) : Type 0 where
  pub earlier : List Vector
  pub row : Vector
  pub later : List Vector
  pub whole : rows ≡ earlier ++ row ∷ later
  pub number : passed ≡ length earlier + 1
  pub refused : IsInsertRefusal bound limit w (held ++ earlier) row e

-- the stage after so many that were passed is refused with this answer: the first where none was passed, and else the insertion of the next of these other rows
abbrev pub IsRowOf : ℤ → ℕ → ℕ → List Vector → List Vector → List Vector → ℕ → Work → Type 0
IsRowOf bound limit w chosen rays others passed e = ((passed ≡ 0) × IsStartRefusal bound limit w chosen rays e) ⊎ IsInsertOf bound limit w chosen others passed e

-- so it is, where the others are the rows that are not independent of those before them
abbrev pub IsStageOf : ℤ → ℕ → ℕ → List Vector → List Vector → List Vector → ℕ → Work → Type 0
IsStageOf bound limit w rows chosen rays passed e = (others : List Vector) × (Separates (IsFreshRow (HasWidth w)) [] rows chosen others × IsRowOf bound limit w chosen rays others passed e)
