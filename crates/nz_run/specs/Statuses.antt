-- The code and the line of each status.
use Rattle.std.specs.Prelude.{ℕ, ◌++◌, codes, decimal}
use Rattle.std.specs.List.{flat_map}
use Rattle.std.specs.Fmt.{signed_decimal}
use Rattle.nz_vec.specs.Texts.{Text}
use Rattle.nz_spec.specs.Vectors.{Vector}
use Rattle.nz_input.specs.declared.refusal.Fault.{Fault}
use Rattle.nz_input.specs.declared.refusal.Fault.TheVariants as fault
use Rattle.nz_system.specs.declared.refusal.MeaningFault.{MeaningFault}
use Rattle.nz_system.specs.declared.refusal.MeaningFault.TheVariants as rule
use Rattle.nz_blocks.specs.Lines.{line}
use Rattle.nz_run.specs.declared.status.Status.{Status}
use Rattle.nz_run.specs.declared.status.Status.TheVariants.{Done, Usage, Absent, ReadFault, TooLong, Grammar, Meaning, Line, Grade, Range, TooMany, Stopped, WriteFault, NoMemory, Converted, UnitsDone, Points, Unbounded}

-- the exit status of the program
abbrev pub code_of : Status → ℕ
code_of Done = 0
code_of Usage = 2
code_of Absent = 3
code_of ReadFault = 4
code_of TooLong = 5
code_of (Grammar l c f) = 6
code_of (Meaning i r f) = 7
code_of (Line v) = 8
code_of (Grade v) = 9
code_of Range = 10
code_of TooMany = 11
code_of (Stopped k) = 12
code_of WriteFault = 13
code_of NoMemory = 14
code_of Converted = 17
code_of UnitsDone = 18
code_of Points = 19
code_of (Unbounded v) = 20

-- the name of a fault
abbrev pub fault_name : Fault → Text
fault_name fault.NoAmb = codes "NoAmb"
fault_name fault.Word = codes "Word"
fault_name fault.Number = codes "Number"
fault_name fault.TooWide = codes "TooWide"
fault_name fault.TooFew = codes "TooFew"
fault_name fault.TooMany = codes "TooMany"
fault_name fault.OpenComment = codes "OpenComment"
fault_name fault.Byte = codes "Byte"

-- the name of a rule of meaning
abbrev pub rule_name : MeaningFault → Text
rule_name rule.RowLimit = codes "RowLimit"
rule_name rule.Modulus = codes "Modulus"
rule_name rule.Sign = codes "Sign"
rule_name rule.Denominator = codes "Denominator"
rule_name rule.Repeated = codes "Repeated"
rule_name rule.Mixed = codes "Mixed"
rule_name rule.Exponent = codes "Exponent"
rule_name rule.NoGrading = codes "NoGrading"
rule_name rule.NoLevel = codes "NoLevel"

-- two labels, each with its number, and what is wrong there
abbrev pub place_line : Text → ℕ → Text → ℕ → Text → Text
place_line first m second n fault = line (first ++ decimal m ++ second ++ decimal n ++ codes ": " ++ fault)

-- each entry after a space
abbrev pub after_spaces : Vector → Text
after_spaces v = flat_map (λ z. codes " " ++ signed_decimal z) v

-- a label and the entries of a vector
abbrev pub entries_line : Text → Vector → Text
entries_line label v = line (label ++ after_spaces v)

-- the line on the console
abbrev pub status_line : Status → Text
status_line Done = line (codes "done")
status_line Usage = line (codes "usage: nmz [options] PROJECT")
status_line Absent = line (codes "no input file")
status_line ReadFault = line (codes "read fault")
status_line TooLong = line (codes "input too long")
status_line (Grammar l c f) = place_line (codes "line ") l (codes " column ") c (fault_name f)
status_line (Meaning i r f) = place_line (codes "item ") i (codes " row ") r (rule_name f)
status_line (Line v) = entries_line (codes "line:") v
status_line (Grade v) = entries_line (codes "grade:") v
status_line Range = line (codes "range")
status_line TooMany = line (codes "too many")
status_line (Stopped k) = line (codes "stopped at stage " ++ decimal k)
status_line WriteFault = line (codes "write fault")
status_line NoMemory = line (codes "no memory")
status_line Converted = line (codes "converted")
status_line UnitsDone = line (codes "units done")
status_line Points = line (codes "points")
status_line (Unbounded v) = entries_line (codes "unbounded:") v
