-- Why one reckoning on a simplex gives no answer.
use Rattle.std.specs.Prelude.{⊤, ℕ, List}
use Rattle.nz_spec.specs.Vectors.{Vector}
use Rattle.nz_vec.specs.declared.answers.Num.{Num}
use Rattle.nz_vec.specs.declared.answers.Num.TheVariants.{Range, NoMemory}
use Rattle.nz_classes.specs.Walks.{IsTooLarge}

-- something of the simplex is too large, or memory is out
abbrev pub IsCaused : ℕ → List Vector → List Vector → Num → Type 0
IsCaused bound sides forms Range = IsTooLarge bound sides forms
IsCaused bound sides forms NoMemory = ⊤
