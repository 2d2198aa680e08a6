-- The rules of meaning in the order in which they are reported, and the first that fails.
use Rattle.std.specs.Prelude.{ℕ, ◌+◌, Bool, true, false, not, ◌&&◌, ◌||◌, List, [], ◌∷◌, ◌++◌, length, map, ℤ, pos, negsuc, int_lt, int_le, nat_lt, Option, Some, None}
use Rattle.nz_spec.specs.Vectors.{Vector}
use Rattle.nz_input.specs.Files.{ItemData, FileData}
use Rattle.nz_input.specs.declared.kind.Kind.{Kind}
use Rattle.nz_input.specs.declared.kind.Kind.TheVariants as kind
use Rattle.nz_system.specs.declared.asked.GoalSet.{GoalSet}
use Rattle.nz_system.specs.declared.refusal.MeaningFault.{MeaningFault}
use Rattle.nz_system.specs.declared.refusal.MeaningFault.TheVariants.{RowLimit, Modulus, Sign, Denominator, Repeated, Mixed, NoGrading, NoLevel}
use Rattle.nz_system.specs.declared.refusal.SystemRefusal.{SystemRefusal}
use Rattle.nz_system.specs.declared.refusal.SystemRefusal.TheVariants.{Meaning}
use Rattle.nz_system.specs.declared.groups.Group.TheVariants as group
use Rattle.nz_system.specs.Groups.{occurs}
use Rattle.nz_system.specs.Contributions.{last}

-- the first of a list
abbrev pub first : {A : Type 0} → List A → Option A
first [] = None
first (x ∷ xs) = Some x

-- the fault, where the rule fails
abbrev pub where_fails : Bool → MeaningFault → List MeaningFault
where_fails true fault = fault ∷ []
where_fails false fault = []

-- ---- a row

-- a modulus below 1
abbrev pub has_low_modulus : Kind → Vector → Bool
has_low_modulus kind.Congruences row = int_lt (last row) (pos 1)
has_low_modulus kind.InhomCongruences row = int_lt (last row) (pos 1)
has_low_modulus _ row = false

-- -1, 0 or 1
abbrev pub is_sign : ℤ → Bool
is_sign z = int_le (negsuc 0) z && int_le z (pos 1)

-- each entry is a sign
abbrev pub are_signs : Vector → Bool
are_signs [] = true
are_signs (z ∷ row) = is_sign z && are_signs row

-- a sign that is none
abbrev pub has_no_sign : Kind → Vector → Bool
has_no_sign kind.Signs row = not (are_signs row)
has_no_sign kind.StrictSigns row = not (are_signs row)
has_no_sign _ row = false

-- a denominator below 1
abbrev pub has_low_denominator : Kind → Vector → Bool
has_low_denominator kind.Vertices row = int_lt (last row) (pos 1)
has_low_denominator _ row = false

-- the faults of a row up to which so many rows stand in the file, itself among them
abbrev pub row_faults : Kind → ℕ → Vector → List MeaningFault
row_faults k count row = where_fails (nat_lt 1024 count) RowLimit ++ (where_fails (has_low_modulus k row) Modulus ++ (where_fails (has_no_sign k row) Sign ++ where_fails (has_low_denominator k row) Denominator))

-- the refusals for the rows of an item, before which so many rows of it and so many of other items stand
abbrev pub rows_refusals : Kind → (item before others : ℕ) → List Vector → List SystemRefusal
rows_refusals k item before others [] = []
rows_refusals k item before others (row ∷ rows) = map (Meaning item (before + 1)) (row_faults k (others + (before + 1)) row) ++ rows_refusals k item (before + 1) others rows

-- ---- an item

-- a second item of a kind that may stand once
abbrev pub is_repeated : List ItemData → Kind → Bool
is_repeated before kind.Signs = occurs group.Signs before
is_repeated before kind.StrictSigns = occurs group.StrictSigns before
is_repeated before kind.Grading = occurs group.Grading before
is_repeated before _ = false

-- beside these items no `cone_and_lattice` may stand
abbrev pub forbids_lattice : List ItemData → Bool
forbids_lattice items = occurs group.Leveled items || occurs group.Cone items

-- an item that may not stand: `cone_and_lattice` where it is forbidden, and `monomial_ideal`, whose files have a meaning of their own
abbrev pub is_mixed : Bool → Kind → Bool
is_mixed forbidden kind.ConeAndLattice = forbidden
is_mixed forbidden kind.MonomialIdeal = true
is_mixed forbidden _ = false

-- the faults of an item as a whole
abbrev pub item_faults : Bool → List ItemData → Kind → List MeaningFault
item_faults forbidden before k = where_fails (is_repeated before k) Repeated ++ where_fails (is_mixed forbidden k) Mixed

-- the rows of all items
abbrev pub count_rows : List ItemData → ℕ
count_rows [] = 0
count_rows (item ∷ items) = length item.rows + count_rows items

-- the refusals for an item behind others: row 0, and then row by row
abbrev pub item_refusals : Bool → List ItemData → ItemData → List SystemRefusal
item_refusals forbidden before item = map (Meaning (length before + 1) 0) (item_faults forbidden before item.kind) ++ rows_refusals item.kind (length before + 1) 0 (count_rows before) item.rows

-- the refusals for the items behind others, item by item
abbrev pub items_refusals : Bool → List ItemData → List ItemData → List SystemRefusal
items_refusals forbidden before [] = []
items_refusals forbidden before (item ∷ items) = item_refusals forbidden before item ++ items_refusals forbidden (before ++ item ∷ []) items

-- ---- a file

-- module generators or lattice points are asked
abbrev pub wants_level : GoalSet → Bool
wants_level goals = goals.modules || goals.lattice_points

-- elements of degree 1 want a grading, and module generators and lattice points a level
abbrev pub goal_faults : List ItemData → GoalSet → List MeaningFault
goal_faults items goals = where_fails (goals.degree_one && not (occurs group.Grading items)) NoGrading ++ where_fails (wants_level goals && not (occurs group.Leveled items)) NoLevel

-- every rule that fails, in the order in which they are reported: by item, by row, and at one row by the order above; those on goals come last
abbrev pub refusals : FileData → GoalSet → List SystemRefusal
refusals file goals = items_refusals (forbids_lattice file.items) [] file.items ++ map (Meaning 0 0) (goal_faults file.items goals)
