-- What the calls of a folder and a console answer and leave.
use Rattle.std.specs.Prelude.{◌≡◌, ℕ, ◌+◌, ◌<◌, ◌≤◌, length, take, ◌++◌, Option, Some, None, Bool, true, false}
use Rattle.nz_vec.specs.Texts.{Text}
use Rattle.nz_watch.specs.Counts.{Rose, IsQuiet}
use Rattle.nz_edge.specs.Folders.{Files, SameFiles, SameOthers, Stores, BothTold}
use Rattle.nz_edge.specs.declared.folder.Load.{Load}
use Rattle.nz_edge.specs.declared.folder.Load.TheVariants as load
use Rattle.nz_edge.specs.declared.folder.Stored.{Stored}
use Rattle.nz_edge.specs.declared.folder.Stored.TheVariants as stored
use Rattle.nz_edge.specs.declared.sink.Wrote.{Wrote}
use Rattle.nz_edge.specs.declared.sink.Wrote.TheVariants as wrote

-- where it is told
abbrev pub OnTold : {A : Type 0} → Option A → (A → Type 0) → Type 0
OnTold None P = Unit {0}
OnTold (Some a) P = P a

-- the bytes are the first `most + 1` of the file, or all; where no file was found and reading had no fault, none is there
abbrev pub LoadGives : Files → Text → ℕ → ℕ → ℕ → Load → Type 0
LoadGives at name most faults faults' (load.Bytes bytes) = (whole : Text) × (at name ≡ Some whole) × (bytes ≡ take (most + 1) whole)
LoadGives at name most faults faults' load.Absent = IsQuiet faults faults' → at name ≡ None
LoadGives at name most faults faults' load.Failed = Unit {0}
LoadGives at name most faults faults' load.NoMemory = Unit {0}

-- at most one byte more than `most` came, also of a folder that tells nothing
abbrev pub LoadBound : ℕ → Load → Type 0
LoadBound most (load.Bytes bytes) = length bytes ≤ most + 1
LoadBound most load.Absent = Unit {0}
LoadBound most load.Failed = Unit {0}
LoadBound most load.NoMemory = Unit {0}

-- a file was missed only where the misses rose, and reading failed only where the faults rose
abbrev pub LoadCause : ℕ → ℕ → ℕ → ℕ → Load → Type 0
LoadCause faults faults' misses misses' (load.Bytes bytes) = Unit {0}
LoadCause faults faults' misses misses' load.Absent = Rose misses misses'
LoadCause faults faults' misses misses' load.Failed = Rose faults faults'
LoadCause faults faults' misses misses' load.NoMemory = Unit {0}

-- the bytes stand under the name; after a failure at most that file changed, and no file where memory was wanting
abbrev pub StoreLeaves : Text → Text → Files → Files → Stored → Type 0
StoreLeaves name bytes old new stored.Done = Stores name bytes old new
StoreLeaves name bytes old new stored.Failed = SameOthers name old new
StoreLeaves name bytes old new stored.NoMemory = SameFiles old new

-- storing failed only where its count rose
abbrev pub StoreCause : ℕ → ℕ → Stored → Type 0
StoreCause before now stored.Done = Unit {0}
StoreCause before now stored.Failed = Rose before now
StoreCause before now stored.NoMemory = Unit {0}

-- some first bytes of the piece were taken, at least one of a piece that is not empty, and none where the write failed
abbrev pub Takes : Option Text → Option Text → Text → Wrote → Type 0
Takes old new piece (wrote.Took n) = (n ≤ length piece) × (0 < length piece → 0 < n) × BothTold old new (λ before now. now ≡ before ++ take n piece)
Takes old new piece wrote.Failed = BothTold old new (λ before now. now ≡ before)

-- writing failed only where its count rose
abbrev pub WroteCause : ℕ → ℕ → Wrote → Type 0
WroteCause before now (wrote.Took n) = Unit {0}
WroteCause before now wrote.Failed = Rose before now

-- the console grew by all the bytes, or by some first ones
abbrev pub PutAll : Text → Text → Text → Bool → Type 0
PutAll before now bytes true = now ≡ before ++ bytes
PutAll before now bytes false = (n : ℕ) × (now ≡ before ++ take n bytes)
