-- Reading a part of a file: its opening, or an entry.
use Rattle.std.specs.Prelude.{◌≡◌, ℕ, ◌+◌, ◌≤◌, List, [], ◌∷◌, length, Option, Some, None, Result, Ok, Err}
use Rattle.nz_vec.specs.Texts.{Text}
use Rattle.nz_text.specs.Bytes.{IsEdge}
use Rattle.nz_input.specs.declared.parts.Part.{Part}
use Rattle.nz_input.specs.declared.parts.Part.TheVariants.{Opening, Next}
use Rattle.nz_input.specs.declared.parts.FileEntry.{FileEntry}
use Rattle.nz_input.specs.declared.parts.FileEntry.TheVariants as found
use Rattle.nz_input.specs.declared.reader.Reader.{Reader}
use Rattle.nz_input.specs.declared.reader.Entries.{Entries}
use Rattle.nz_input.specs.declared.reader.State.TheVariants as state
use Rattle.nz_input.specs.declared.symbol.Role.{Role}
use Rattle.nz_input.specs.declared.reading.Stop.{Stop}
use Rattle.nz_input.specs.declared.reading.Stop.TheVariants.{At, NoMemory}
use Rattle.nz_text.specs.Places.{line_at, column_at}
use Rattle.nz_input.specs.declared.refusal.ReadRefusal.{ReadRefusal}
use Rattle.nz_input.specs.declared.refusal.ReadRefusal.TheVariants as refusal
use Rattle.nz_input.specs.Symbols.{Entry, OfItem, OfGoal, items_of, goals_of}
use Rattle.nz_input.specs.Progress.{Progress, Nothing, Between}
use Rattle.nz_input.specs.Reading.{IsUnfinished}
use Rattle.nz_input.specs.Entries.{IsOpening, IsEntryAt, IsOpeningRefused, IsEntryRefused}

-- the entry that was found, if one is left
abbrev pub entry_of : FileEntry → Option Entry
entry_of (found.Item item) = Some (OfItem item)
entry_of (found.Goal goal) = Some (OfGoal goal)
entry_of found.End = None

-- the entry, if there is one
abbrev pub listed : Option Entry → List Entry
listed None = []
listed (Some e) = e ∷ []

-- what has been read of a file where the part begins
abbrev pub start_of : Part → Progress
start_of Opening = Nothing
start_of (Next d) = Between d []

-- where the part can begin: an entry behind a run of solid bytes
abbrev pub CanBegin : Part → Text → Type 0
CanBegin Opening text = Unit {0}
CanBegin (Next d) text = (1 ≤ d) × IsEdge text

-- the part was read up to a place
abbrev pub IsPart : Part → Text → Entries → ℕ → Type 0
IsPart Opening text es end = IsOpening text es.amb end
IsPart (Next d) text es end = (e : Option Entry) × IsEntryAt d text 0 e end × (es.items ≡ items_of (listed e)) × (es.goals ≡ goals_of (listed e))

-- why the part was not read
abbrev pub IsPartStopped : Part → Text → Stop → Type 0
IsPartStopped part text NoMemory = Unit {0}
IsPartStopped Opening text (At at fault) = IsOpeningRefused text at fault
IsPartStopped (Next d) text (At at fault) = IsEntryRefused d text at fault

-- what a reader at its place makes of the end of the text, behind a piece of the role that began at the start
abbrev pub EndsPart : Reader → Text → ℕ → Role → ℕ → Result (Entries × ℕ) Stop → Type 0
EndsPart r text at role start (Ok made) = (r.state ≡ state.Entry) × (made.0 ≡ r.entries) × (made.1 ≡ length text)
EndsPart r text at role start (Err (At place fault)) = IsUnfinished r text at role start place fault
EndsPart r text at role start (Err NoMemory) = ⊥

-- the place is one of the text
abbrev pub IsPlaceOf : Text → ℕ → Stop → Type 0
IsPlaceOf text from NoMemory = Unit {0}
IsPlaceOf text from (At at fault) = from + at ≤ length text

-- the refusal tells the line and the column of the place, and its fault
abbrev pub IsTold : Text → ℕ → Stop → ReadRefusal → Type 0
IsTold text from NoMemory told = told ≡ refusal.NoMemory
IsTold text from (At at fault) told = told ≡ refusal.Grammar (line_at text (from + at)) (column_at text (from + at)) fault
