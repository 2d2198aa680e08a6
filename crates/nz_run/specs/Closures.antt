-- What a run stores for a file with monomials: the integral closure of their ideal.
use Rattle.std.specs.Prelude.{◌≡◌, ℕ, IsTrue, List, map, pos, Contains}
use Rattle.nz_vec.specs.Texts.{Text}
use Rattle.nz_spec.specs.Vectors.{unit_vectors}
use Rattle.nz_spec.specs.Elements.{IsOrderedListOf}
use Rattle.nz_further.specs.Ideals.{at_level}
use Rattle.nz_input.specs.Files.{FileData}
use Rattle.nz_input.specs.Texts.{IsTextOf}
use Rattle.nz_input.specs.declared.kind.Goal.{Goal}
use Rattle.nz_ideal.specs.IdealFiles.{has_ideal}
use Rattle.nz_ideal.specs.Meanings.{system_of, meaning}
use Rattle.nz_ideal.specs.Laws.{IsRaisedGenerator}
use Rattle.nz_blocks.specs.Outcomes.{OutcomeData}
use Rattle.nz_blocks.specs.Output.{text_of}
use Rattle.nz_solve.specs.Replies.{IsWhere}
use Rattle.nz_solve.specs.Solutions.{IsSolution, wants_modules, wants_basis}
use Rattle.nz_edge.specs.Folders.{Files, Stores}
use Rattle.nz_watch.specs.Telling.{Watched}
use Rattle.nz_words.specs.Orders.{OrderData, IsOrder}
use Rattle.nz_run.specs.declared.kinds.RunKind.TheVariants.{Plain}
use Rattle.nz_run.specs.declared.status.Status.{Status}
use Rattle.nz_run.specs.declared.status.Status.TheVariants.{Done}
use Rattle.nz_run.specs.Runs.{IsInput, Explains, output_name}

-- the output is the text of an outcome in which the module generators are just the minimal generators of the integral closure, each with 1 added, and the Hilbert basis just the unit vectors, each with 0 added: each once, in order, where it is wanted
pub record IsClosureText (file : FileData) (goals : List Goal) (output : Text) : Type 0 where
  pub outcome : OutcomeData
  pub solution : IsSolution (meaning file goals) outcome
  pub modules : IsWhere (wants_modules (meaning file goals)) (IsOrderedListOf (system_of file) (IsRaisedGenerator file)) outcome.modules
  pub basis : IsWhere (wants_basis (meaning file goals)) (IsOrderedListOf (system_of file) (Contains (map (at_level (pos 0)) (unit_vectors file.amb)))) outcome.hilbert
  pub same : output ≡ text_of outcome

-- at Done, where the input is a text of a file with monomials, such a text is stored
abbrev pub StoresClosures : List Text → Status → Files → Files → Type 0
StoresClosures words Done old new = (order : OrderData) (input : Text) (file : FileData) → IsOrder words order → IsInput order.make order.project old input → IsTextOf input file → IsTrue (has_ideal file) → (output : Text) × IsClosureText file order.goals output × Stores (output_name order Plain) output old new
StoresClosures words status old new = Unit {0}

-- what is said of the outcome of a run says this of it
abbrev pub ClosuresAreStored : Type 0
ClosuresAreStored = (words : List Text) (before now : Watched) (faults faults' : ℕ) (status : Status) (old new : Files) → Explains words before now faults faults' status old new → StoresClosures words status old new
