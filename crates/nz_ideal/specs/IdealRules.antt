-- The rules that a file with `monomial_ideal` must meet, in the order in which they are reported.
use Rattle.std.specs.Prelude.{ℕ, ◌+◌, Bool, true, false, not, ◌&&◌, ◌||◌, List, [], ◌∷◌, ◌++◌, length, map, pos, int_lt, nat_lt}
use Rattle.nz_spec.specs.Vectors.{Vector}
use Rattle.nz_input.specs.Files.{ItemData, FileData}
use Rattle.nz_input.specs.declared.kind.Kind.{Kind}
use Rattle.nz_input.specs.declared.kind.Kind.TheVariants as kind
use Rattle.nz_system.specs.declared.asked.GoalSet.{GoalSet}
use Rattle.nz_system.specs.declared.refusal.MeaningFault.{MeaningFault}
use Rattle.nz_system.specs.declared.refusal.MeaningFault.TheVariants.{RowLimit, Exponent, Repeated, Mixed, NoGrading}
use Rattle.nz_system.specs.declared.refusal.SystemRefusal.{SystemRefusal}
use Rattle.nz_system.specs.declared.refusal.SystemRefusal.TheVariants.{Meaning}
use Rattle.nz_system.specs.declared.groups.Group.TheVariants as group
use Rattle.nz_system.specs.Groups.{occurs}
use Rattle.nz_system.specs.Rules.{where_fails, count_rows}

-- ---- a row

-- an entry is below 0
abbrev pub has_negative : Vector → Bool
has_negative [] = false
has_negative (z ∷ row) = int_lt z (pos 0) || has_negative row

-- an exponent of a monomial is below 0
abbrev pub has_low_exponent : Kind → Vector → Bool
has_low_exponent kind.MonomialIdeal row = has_negative row
has_low_exponent _ row = false

-- the faults of a row up to which so many rows stand in the file, itself among them
abbrev pub row_faults : Kind → ℕ → Vector → List MeaningFault
row_faults k count row = where_fails (nat_lt 960 count) RowLimit ++ where_fails (has_low_exponent k row) Exponent

-- the refusals for the rows of an item, before which so many rows of it and so many of other items stand
abbrev pub rows_refusals : Kind → (item before others : ℕ) → List Vector → List SystemRefusal
rows_refusals k item before others [] = []
rows_refusals k item before others (row ∷ rows) = map (Meaning item (before + 1)) (row_faults k (others + (before + 1)) row) ++ rows_refusals k item (before + 1) others rows

-- ---- an item

-- a second `grading`
abbrev pub is_repeated : List ItemData → Kind → Bool
is_repeated before kind.Grading = occurs group.Grading before
is_repeated before _ = false

-- an item that may not stand beside `monomial_ideal`
abbrev pub is_foreign : Kind → Bool
is_foreign kind.MonomialIdeal = false
is_foreign kind.Grading = false
is_foreign kind.Ask = false
is_foreign _ = true

-- the faults of an item as a whole
abbrev pub item_faults : List ItemData → Kind → List MeaningFault
item_faults before k = where_fails (is_repeated before k) Repeated ++ where_fails (is_foreign k) Mixed

-- the refusals for an item behind others: row 0, and then row by row
abbrev pub item_refusals : List ItemData → ItemData → List SystemRefusal
item_refusals before item = map (Meaning (length before + 1) 0) (item_faults before item.kind) ++ rows_refusals item.kind (length before + 1) 0 (count_rows before) item.rows

-- the refusals for the items behind others, item by item
abbrev pub items_refusals : List ItemData → List ItemData → List SystemRefusal
items_refusals before [] = []
items_refusals before (item ∷ items) = item_refusals before item ++ items_refusals (before ++ item ∷ []) items

-- ---- a file

-- elements of degree 1 want a grading
abbrev pub goal_faults : List ItemData → GoalSet → List MeaningFault
goal_faults items goals = where_fails (goals.degree_one && not (occurs group.Grading items)) NoGrading

-- every rule that fails, in the order in which they are reported: by item, by row, and at one row by the order above; that on goals comes last
abbrev pub ideal_refusals : FileData → GoalSet → List SystemRefusal
ideal_refusals file goals = items_refusals [] file.items ++ map (Meaning 0 0) (goal_faults file.items goals)
