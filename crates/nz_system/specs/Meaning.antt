-- The system of a file, item by item, and what is asked of it.
use Rattle.std.specs.Prelude.{◌≡◌, ℕ, ◌+◌, Bool, true, false, IsTrue, not, ◌&&◌, List, [], ◌∷◌, ◌++◌, replicate, pos, Option, Some, None, Result, Ok, Err, IsSome}
use Rattle.std.specs.List.{flat_map}
use Rattle.nz_spec.specs.Vectors.{Vector, zero_vector}
use Rattle.nz_spec.specs.Systems.{Congruence, System, IsSystem}
use Rattle.nz_spec.specs.Constraints.{Constraint, Multiple as IsMultiple, Zero as IsZero, NotNegative as IsNotNegative}
use Rattle.nz_input.specs.Files.{FileData}
use Rattle.nz_input.specs.declared.kind.Goal.{Goal}
use Rattle.nz_input.specs.declared.kind.Kind.TheVariants.{Signs}
use Rattle.nz_input.specs.declared.kind.Mode.{Mode}
use Rattle.nz_input.specs.declared.kind.Mode.TheVariants.{Primal}
use Rattle.nz_system.specs.declared.asked.GoalSet.{GoalSet}
use Rattle.nz_system.specs.declared.groups.Group.TheVariants as group
use Rattle.nz_system.specs.declared.contribution.Contribution.{Contribution}
use Rattle.nz_system.specs.declared.contribution.Contribution.TheVariants.{Zero, Multiple, NotNegative, Generator, LatticeGenerator, Degree, Asked}
use Rattle.nz_system.specs.declared.refusal.SystemRefusal.{SystemRefusal}
use Rattle.nz_system.specs.declared.refusal.SystemRefusal.TheVariants.{Meaning, NoMemory}
use Rattle.nz_system.specs.Groups.{occurs}
use Rattle.nz_system.specs.Contributions.{contributions, given}
use Rattle.nz_system.specs.Asked.{goals_of, last_mode, mode_for}
use Rattle.nz_system.specs.Rules.{first, refusals}

-- a system, and what is asked of it
pub record SystemData : Type 0 where
  pub system : System
  pub goals : GoalSet
  pub mode : Mode

-- ---- what no row gives

-- level 1, and 0 elsewhere: as a form the level, as a vector the vertex 0
abbrev pub level_unit : ℕ → Vector
level_unit d = zero_vector d ++ pos 1 ∷ []

-- these, where it is so
abbrev pub only_if : {A : Type 0} → Bool → List A → List A
only_if true xs = xs
only_if false xs = []

-- x_i is at least 0 for each i, where it is wanted
abbrev pub orthant_where : (wanted level : Bool) → ℕ → List Contribution
orthant_where wanted level d = only_if wanted (contributions level Signs (replicate d (pos 1)))

-- the orthant, where no item takes its place
abbrev pub orthant : Bool → FileData → List Contribution
orthant level file = orthant_where (not (occurs group.Bounding file.items)) level file.amb

-- where there is a level it is at least 0, and the vertex 0 stands where it is wanted
abbrev pub level_where : (level with_vertex : Bool) → ℕ → List Contribution
level_where level with_vertex d = only_if level (NotNegative (level_unit d) ∷ only_if with_vertex (Generator (level_unit d) ∷ []))

-- in an inhomogeneous file the vertex 0 stands behind `cone` where no `vertices` is there
abbrev pub of_level : Bool → FileData → List Contribution
of_level level file = level_where level (occurs group.Cone file.items && not (occurs group.Vertices file.items)) file.amb

-- what the file gives: its rows in order, and then what no row gives
abbrev pub all_given : Bool → FileData → List Contribution
all_given level file = given level file.items ++ (orthant level file ++ of_level level file)

-- ---- sorted out

-- the forms that are to be 0
abbrev pub zero_of : Contribution → List Vector
zero_of (Zero f) = f ∷ []
zero_of _ = []

-- the congruences
abbrev pub multiple_of : Contribution → List Congruence
multiple_of (Multiple f m) = record { form = f; modulus = m } ∷ []
multiple_of _ = []

-- the forms that are to be at least 0
abbrev pub not_negative_of : Contribution → List Vector
not_negative_of (NotNegative f) = f ∷ []
not_negative_of _ = []

-- the generators
abbrev pub generator_of : Contribution → List Vector
generator_of (Generator v) = v ∷ []
generator_of _ = []

-- the lattice generators
abbrev pub lattice_of : Contribution → List Vector
lattice_of (LatticeGenerator v) = v ∷ []
lattice_of _ = []

-- the gradings
abbrev pub degree_of : Contribution → List Vector
degree_of (Degree f) = f ∷ []
degree_of _ = []

-- the asked vectors
abbrev pub asked_of : Contribution → List Vector
asked_of (Asked v) = v ∷ []
asked_of _ = []

-- ---- the system

-- the value, where it is there
abbrev pub there : {A : Type 0} → Bool → A → Option A
there true x = Some x
there false x = None

-- one more coordinate for the level
abbrev pub width_of : Bool → ℕ → ℕ
width_of true d = d + 1
width_of false d = d

-- the system of what is given, in a file with a level or without
abbrev pub system_given : Bool → FileData → List Contribution → System
system_given level file cs = record {
  width = width_of level file.amb;
  level = level;
  eq = flat_map zero_of cs;
  cg = flat_map multiple_of cs;
  ge = flat_map not_negative_of cs;
  gens = there (occurs group.Generating file.items) (flat_map generator_of cs);
  lat = there (occurs group.ConeAndLattice file.items) (flat_map lattice_of cs);
  grading = first (flat_map degree_of cs);
  asked = there (occurs group.Ask file.items) (flat_map asked_of cs);
}

-- the system of a file
abbrev pub system_of : FileData → System
system_of file = (let level = occurs group.Leveled file.items in system_given level file (all_given level file))

-- the system of a file, with the goals of file and words and the mode
abbrev pub meaning : FileData → List Goal → SystemData
meaning file words = (let goals = goals_of file words in record {
  system = system_of file;
  goals = goals;
  mode = mode_for goals.cover (last_mode words) (last_mode file.goals);
})

-- The file has this system where no rule fails, and is refused by the first rule that does; memory may run out.
abbrev pub IsMeaning : FileData → List Goal → Result SystemData SystemRefusal → Type 0
IsMeaning file words (Ok s) = (refusals file (goals_of file words) ≡ []) × (s ≡ meaning file words)
IsMeaning file words (Err (Meaning item row fault)) = first (refusals file (goals_of file words)) ≡ Some (Meaning item row fault)
IsMeaning file words (Err NoMemory) = Unit {0}

-- ---- what a system keeps

-- the congruences among constraints
abbrev pub congruences_of : List Constraint → List Congruence
congruences_of [] = []
congruences_of (IsMultiple f m ∷ cs) = record { form = f; modulus = m } ∷ congruences_of cs
congruences_of (IsZero f ∷ cs) = congruences_of cs
congruences_of (IsNotNegative f ∷ cs) = congruences_of cs

-- module generators and lattice points are asked with a level only, elements of degree 1 with a grading only, and a cover in primal mode only
pub record IsAskable (s : SystemData) : Type 0 where
  pub modules : IsTrue s.goals.modules → IsTrue s.system.level
  pub points : IsTrue s.goals.lattice_points → IsTrue s.system.level
  pub degree_one : IsTrue s.goals.degree_one → IsSome s.system.grading
  pub cover : IsTrue s.goals.cover → s.mode ≡ Primal

-- what each system keeps
pub record IsKept (s : SystemData) : Type 0 where
  pub system : IsSystem s.system
  pub askable : IsAskable s
