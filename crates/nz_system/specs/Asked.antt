-- What is asked, and how it is computed.
use Rattle.std.specs.Prelude.{Bool, true, false, not, ◌||◌, List, [], ◌∷◌, ◌++◌, Option, Some, None}
use Rattle.nz_input.specs.Files.{FileData}
use Rattle.nz_input.specs.declared.kind.Goal.{Goal}
use Rattle.nz_input.specs.declared.kind.Goal.TheVariants.{HilbertBasis, ExtremeRays, SupportHyperplanes, Deg1Elements, ModuleGenerators, Triangulation, DualMode, PrimalMode, LatticePoints}
use Rattle.nz_input.specs.declared.kind.Mode.{Mode}
use Rattle.nz_input.specs.declared.kind.Mode.TheVariants.{Primal, Dual}
use Rattle.nz_system.specs.declared.asked.GoalSet.{GoalSet}

-- the same goal word
abbrev pub is_goal : Goal → Goal → Bool
is_goal HilbertBasis HilbertBasis = true
is_goal ExtremeRays ExtremeRays = true
is_goal SupportHyperplanes SupportHyperplanes = true
is_goal Deg1Elements Deg1Elements = true
is_goal ModuleGenerators ModuleGenerators = true
is_goal Triangulation Triangulation = true
is_goal DualMode DualMode = true
is_goal PrimalMode PrimalMode = true
is_goal LatticePoints LatticePoints = true
is_goal _ _ = false

-- the goal word stands in the list
abbrev pub names : Goal → List Goal → Bool
names goal [] = false
names goal (g ∷ goals) = is_goal goal g || names goal goals

-- the mode that a goal word names
abbrev pub mode_of : Goal → Option Mode
mode_of DualMode = Some Dual
mode_of PrimalMode = Some Primal
mode_of _ = None

-- one of two, the first where it is there
abbrev pub or_else : {A : Type 0} → Option A → Option A → Option A
or_else (Some x) other = Some x
or_else None other = other

-- no word but modes
abbrev pub names_no_block : List Goal → Bool
names_no_block goals = not (names HilbertBasis goals || names ExtremeRays goals || names SupportHyperplanes goals || names Deg1Elements goals || names ModuleGenerators goals || names Triangulation goals || names LatticePoints goals)

-- a goal is on where its word stands; where none but modes stands, the Hilbert basis is on
abbrev pub goal_set : List Goal → GoalSet
goal_set goals = record {
  hilbert = names HilbertBasis goals || names_no_block goals;
  rays = names ExtremeRays goals;
  hyperplanes = names SupportHyperplanes goals;
  degree_one = names Deg1Elements goals;
  modules = names ModuleGenerators goals;
  cover = names Triangulation goals;
  lattice_points = names LatticePoints goals;
}

-- the last mode that is named
abbrev pub last_mode : List Goal → Option Mode
last_mode [] = None
last_mode (g ∷ goals) = or_else (last_mode goals) (mode_of g)

-- a cover is made in primal mode; else the mode is that of the words, or that of the file, or primal
abbrev pub mode_for : Bool → Option Mode → Option Mode → Mode
mode_for true words file = Primal
mode_for false (Some mode) file = mode
mode_for false None (Some mode) = mode
mode_for false None None = Primal

-- the goals of a file and of the words together
abbrev pub goals_of : FileData → List Goal → GoalSet
goals_of file words = goal_set (file.goals ++ words)
