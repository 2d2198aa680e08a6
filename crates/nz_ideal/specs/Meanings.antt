-- The meaning of every file: of one with `monomial_ideal` it is that of its ideal file, of any other its own.
use Rattle.std.specs.Prelude.{◌≡◌, Bool, true, false, List, [], Some, Result, Ok, Err}
use Rattle.nz_spec.specs.Systems.{System}
use Rattle.nz_input.specs.Files.{FileData}
use Rattle.nz_input.specs.declared.kind.Goal.{Goal}
use Rattle.nz_system.specs.declared.asked.GoalSet.{GoalSet}
use Rattle.nz_system.specs.declared.refusal.SystemRefusal.{SystemRefusal}
use Rattle.nz_system.specs.declared.refusal.SystemRefusal.TheVariants.{Meaning, NoMemory}
use Rattle.nz_system.specs.Asked.{goals_of}
use Rattle.nz_system.specs.Rules.{first, refusals as plain_refusals}
use Rattle.nz_system.specs.Meaning.{SystemData, system_of as plain_system, meaning as plain_meaning}
use Rattle.nz_ideal.specs.IdealFiles.{has_ideal, ideal_file}
use Rattle.nz_ideal.specs.IdealRules.{ideal_refusals}

-- of two, the one for files with monomials, or the one for others
abbrev pub by_ideal : {A : Type 0} → Bool → A → A → A
by_ideal true ideal plain = ideal
by_ideal false ideal plain = plain

-- the file whose system is that of the file: its ideal file where it has monomials, and else itself
abbrev pub file_of : FileData → FileData
file_of file = by_ideal (has_ideal file) (ideal_file file) file

-- the system of a file
abbrev pub system_of : FileData → System
system_of file = plain_system (file_of file)

-- the system of a file, with the goals of file and words and the mode
abbrev pub meaning : FileData → List Goal → SystemData
meaning file words = plain_meaning (file_of file) words

-- every rule that fails, in the order in which they are reported
abbrev pub refusals : FileData → GoalSet → List SystemRefusal
refusals file goals = by_ideal (has_ideal file) (ideal_refusals file goals) (plain_refusals file goals)

-- the file breaks no rule of meaning, where the words name these goals
abbrev pub HasMeaning : FileData → List Goal → Type 0
HasMeaning file words = refusals file (goals_of file words) ≡ []

-- The file has this system where no rule fails, and is refused by the first rule that does; memory may run out.
abbrev pub IsMeaningOf : FileData → List Goal → Result SystemData SystemRefusal → Type 0
IsMeaningOf file words (Ok s) = HasMeaning file words × (s ≡ meaning file words)
IsMeaningOf file words (Err (Meaning item row fault)) = first (refusals file (goals_of file words)) ≡ Some (Meaning item row fault)
IsMeaningOf file words (Err NoMemory) = Unit {0}

-- The same of a file with monomials: its system is that of its ideal file, and its rules are its own.
abbrev pub IsIdealMeaning : FileData → List Goal → Result SystemData SystemRefusal → Type 0
IsIdealMeaning file words (Ok s) = (ideal_refusals file (goals_of file words) ≡ []) × (s ≡ plain_meaning (ideal_file file) words)
IsIdealMeaning file words (Err (Meaning item row fault)) = first (ideal_refusals file (goals_of file words)) ≡ Some (Meaning item row fault)
IsIdealMeaning file words (Err NoMemory) = Unit {0}
