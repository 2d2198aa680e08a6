-- What a run writes to the console: the status line, and after it, where a file was made and the run is done, its summary line.
use Rattle.std.specs.Prelude.{◌≡◌, ℕ, ◌+◌, ◌*◌, ◌++◌, List, length, take, Option, Some, None, codes, decimal}
use Rattle.std.specs.Fmt.{signed_decimal}
use Rattle.nz_vec.specs.Texts.{Text}
use Rattle.nz_spec.specs.Vectors.{Vector}
use Rattle.nz_spec.specs.Elements.{IsHilbertBasis}
use Rattle.nz_ideal.specs.Meanings.{system_of}
use Rattle.nz_watch.specs.Counts.{IsQuiet}
use Rattle.nz_blocks.specs.Lines.{line}
use Rattle.nz_make.specs.Squares.{made_file, sum_of_all}
use Rattle.nz_words.specs.Orders.{OrderData, IsOrder}
use Rattle.nz_run.specs.Statuses.{status_line}
use Rattle.nz_run.specs.declared.status.Status.{Status}
use Rattle.nz_run.specs.declared.status.Status.TheVariants.{Done}

-- the side of a made file, a number of elements, and what is written of the sum of their entries
abbrev pub counted_line : ℕ → ℕ → Text → Text
counted_line n count sum = line (codes "made " ++ decimal n ++ codes ": " ++ decimal count ++ codes " elements, sum " ++ sum)

-- the summary of these elements of the file that was made for the side n
abbrev pub summary_line : ℕ → List Vector → Text
summary_line n xs = counted_line n (length xs) (signed_decimal (sum_of_all xs))

-- at Done, where a file was made for this side: the status line, and the summary line of its Hilbert basis
abbrev pub DonePrints : Option ℕ → Text → Type 0
DonePrints None printed = printed ≡ status_line Done
DonePrints (Some n) printed = (xs : List Vector) × IsHilbertBasis (system_of (made_file n)) xs × (printed ≡ status_line Done ++ summary_line n xs)

-- what a run with these words and this status is to print
abbrev pub Prints : List Text → Status → Text → Type 0
Prints words Done printed = (order : OrderData) × IsOrder words order × DonePrints order.make printed
Prints words status printed = printed ≡ status_line status

-- the console grew by what is to be printed, or by some first bytes of it where it had a fault
pub record PutsLines (words : List Text) (faults faults' : ℕ) (status : Status) (before now : Text) : Type 0 where
  pub printed : Text
  pub prints : Prints words status printed
  pub whole : IsQuiet faults faults' → now ≡ before ++ printed
  pub part : (n : ℕ) × (now ≡ before ++ take n printed)

-- ---- by the numbers that are known of a made file

-- the summary line of a made file with (n + 1)^2 elements and the sum (n + 1)^3
abbrev pub known_line : ℕ → Text
known_line n = counted_line n ((n + 1) * (n + 1)) (decimal ((n + 1) * ((n + 1) * (n + 1))))

-- what is written at this status, where a file was made for this side or none was made
abbrev pub known_lines : Option ℕ → Status → Text
known_lines (Some n) Done = status_line Done ++ known_line n
known_lines side status = status_line status
