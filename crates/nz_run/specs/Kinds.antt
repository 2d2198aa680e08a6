-- The kinds of runs: what each finds for a file, where it stores that, and how it ends.
use Rattle.std.specs.Prelude.{◌≡◌, ℕ, cond, codes, List}
use Rattle.nz_vec.specs.Texts.{Text}
use Rattle.nz_input.specs.Files.{FileData}
use Rattle.nz_input.specs.declared.kind.Goal.{Goal}
use Rattle.nz_input.specs.Canonical.{canonical}
use Rattle.nz_watch.specs.Telling.{Watched}
use Rattle.nz_words.specs.Orders.{OrderData}
use Rattle.nz_run.specs.Solving.{IsFileSolved, IsSolveCause}
use Rattle.nz_run.specs.UnitRuns.{AreUnitsFound, IsUnitsCause}
use Rattle.nz_run.specs.PointRuns.{ArePointsFound, IsPointsCause}
use Rattle.nz_system.specs.Asked.{goals_of}
use Rattle.nz_run.specs.Watches.{WasToldNothing}
use Rattle.nz_run.specs.declared.kinds.RunKind.{RunKind}
use Rattle.nz_run.specs.declared.kinds.RunKind.TheVariants.{Plain, Convert, Units, LatticePoints}
use Rattle.nz_run.specs.declared.status.Status.{Status}
use Rattle.nz_run.specs.declared.status.Status.TheVariants.{Done, Converted, UnitsDone, Points, NoMemory}

-- the kind of the run that is ordered, on this file: that of a flag, and else a run that lists lattice points where they are asked
abbrev pub kind_for : OrderData → FileData → RunKind
kind_for order file = cond order.convert Convert (cond order.units Units (cond (goals_of file order.goals).lattice_points LatticePoints Plain))

-- how the name of the file ends that a run of the kind stores
abbrev pub ending_of : RunKind → Text
ending_of Plain = codes ".out"
ending_of Convert = codes ".conv"
ending_of Units = codes ".units"
ending_of LatticePoints = codes ".points"

-- the status of a run of the kind whose file is stored
abbrev pub stored_status : RunKind → Status
stored_status Plain = Done
stored_status Convert = Converted
stored_status Units = UnitsDone
stored_status LatticePoints = Points

-- what a run of the kind finds for a file, and what its watch was told: a plain run what is asked of its system, a conversion its canonical text, a run that lists units those of its system and one vector for each irreducible class, a run that lists lattice points those of its system, which is bounded
abbrev pub IsFileFound : RunKind → List Goal → (limit : ℕ) → (before now : Watched) → FileData → (output : Text) → Type 0
IsFileFound Plain goals limit before now file output = IsFileSolved goals limit before now file output
IsFileFound Convert goals limit before now file output = (output ≡ canonical file) × WasToldNothing before now
IsFileFound Units goals limit before now file output = AreUnitsFound goals limit before now file output
IsFileFound LatticePoints goals limit before now file output = ArePointsFound goals limit before now file output

-- the one cause that a file gives a conversion: memory may run out
abbrev pub IsConvertCause : (before now : Watched) → Status → Type 0
IsConvertCause before now NoMemory = WasToldNothing before now
IsConvertCause before now status = ⊥

-- the file is the cause of the status of a run of the kind
abbrev pub IsCauseIn : RunKind → List Goal → (limit : ℕ) → (before now : Watched) → FileData → Status → Type 0
IsCauseIn Plain goals limit before now file status = IsSolveCause goals limit before now file status
IsCauseIn Convert goals limit before now file status = IsConvertCause before now status
IsCauseIn Units goals limit before now file status = IsUnitsCause goals limit before now file status
IsCauseIn LatticePoints goals limit before now file status = IsPointsCause goals limit before now file status
