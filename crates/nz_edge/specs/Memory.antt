-- What a folder and a console in memory hold, and which of their calls fail.
use Rattle.std.specs.Prelude.{◌≡◌, ◌≢◌, ◌⊎◌, ℕ, ◌+◌, ◌≤◌, List, [], length, string_bytes, AllPairs}
use Rattle.nz_vec.specs.Texts.{Text}
use Rattle.nz_watch.specs.Counts.{raised}
use Rattle.nz_edge.specs.Folders.{Files}
use Rattle.nz_edge.specs.Places.{Named, find_file}
use Rattle.nz_edge.specs.Calls.{IsListed}
use Rattle.nz_edge.specs.declared.folder.Load.{Load}
use Rattle.nz_edge.specs.declared.folder.Load.TheVariants as load
use Rattle.nz_edge.specs.declared.folder.Stored.{Stored}
use Rattle.nz_edge.specs.declared.folder.Stored.TheVariants as stored
use Rattle.nz_edge.specs.declared.sink.Wrote.{Wrote}
use Rattle.nz_edge.specs.declared.sink.Wrote.TheVariants as wrote
use Rattle.nz_edge.specs.declared.mem_folder.MemFolder.{MemFolder}
use Rattle.nz_edge.specs.declared.mem_sink.MemSink.{MemSink}

-- no two files have one name
abbrev pub HaveDistinctNames : List Named → Type 0
HaveDistinctNames files = AllPairs (λ (f g : Named). string_bytes f.0 ≢ string_bytes g.0) files

-- what stands under each name
abbrev pub files_of : MemFolder → Files
files_of folder = find_file folder.files.items

-- a folder of these files that was not called yet, of which the calls with these numbers will fail
pub record IsNewFolder (files : List Named) (fail : List ℕ) (folder : MemFolder) : Type 0 where
  pub holds : files_of folder ≡ find_file files
  pub list : folder.calls.fail.items ≡ fail
  pub uncalled : folder.calls.made ≡ 0
  pub no_fault : folder.faults ≡ 0
  pub no_miss : folder.misses ≡ 0
  pub no_store_fault : folder.store_faults ≡ 0

-- a call that is not listed changed neither count
pub record LoadPassed (old new : MemFolder) : Type 0 where
  pub unlisted : ¬ IsListed old.calls
  pub faults : new.faults ≡ old.faults
  pub misses : new.misses ≡ old.misses

-- a call that is not listed found no file, and counted that alone
pub record LoadMissed (old new : MemFolder) : Type 0 where
  pub unlisted : ¬ IsListed old.calls
  pub faults : new.faults ≡ old.faults
  pub misses : new.misses ≡ raised old.misses

-- a listed call failed, and counted that alone
pub record LoadFailed (old new : MemFolder) : Type 0 where
  pub listed : IsListed old.calls
  pub faults : new.faults ≡ raised old.faults
  pub misses : new.misses ≡ old.misses

-- reading fails exactly where the call is listed, and each count rises at its own event alone
abbrev pub LoadCounts : MemFolder → MemFolder → Load → Type 0
LoadCounts old new (load.Bytes bytes) = LoadPassed old new
LoadCounts old new load.Absent = LoadMissed old new
LoadCounts old new load.Failed = LoadFailed old new
LoadCounts old new load.NoMemory = LoadPassed old new

-- a call that is not listed left the count
pub record StorePassed (old new : MemFolder) : Type 0 where
  pub unlisted : ¬ IsListed old.calls
  pub store_faults : new.store_faults ≡ old.store_faults

-- a listed call failed, was counted, and changed no file
pub record StoreFailed (old new : MemFolder) : Type 0 where
  pub listed : IsListed old.calls
  pub store_faults : new.store_faults ≡ raised old.store_faults
  pub files : new.files.items ≡ old.files.items

-- storing fails exactly where the call is listed, and then changes no file
abbrev pub StoreCounts : MemFolder → MemFolder → Stored → Type 0
StoreCounts old new stored.Done = StorePassed old new
StoreCounts old new stored.Failed = StoreFailed old new
StoreCounts old new stored.NoMemory = StorePassed old new

-- the bytes written so far
abbrev pub bytes_of : MemSink → Text
bytes_of sink = sink.buffer.bytes.items

-- an empty console with this room that was not called yet, of which the calls with these numbers will fail
pub record IsNewSink (room : ℕ) (fail : List ℕ) (sink : MemSink) : Type 0 where
  pub empty : bytes_of sink ≡ []
  pub space : sink.buffer.room ≡ room
  pub list : sink.calls.fail.items ≡ fail
  pub uncalled : sink.calls.made ≡ 0
  pub no_fault : sink.faults ≡ 0

-- the piece is no longer than the room left
abbrev pub HasRoom : MemSink → Text → Type 0
HasRoom sink piece = length (bytes_of sink) + length piece ≤ sink.buffer.room

-- the whole piece was taken by a call that is not listed, which had the room for it, and no fault was counted
pub record TookAll (old new : MemSink) (piece : Text) (n : ℕ) : Type 0 where
  pub unlisted : ¬ IsListed old.calls
  pub fits : HasRoom old piece
  pub whole : n ≡ length piece
  pub faults : new.faults ≡ old.faults

-- the call was listed or had no room for the piece, and the fault was counted
pub record WriteFailed (old new : MemSink) (piece : Text) : Type 0 where
  pub refused : IsListed old.calls ⊎ ¬ HasRoom old piece
  pub faults : new.faults ≡ raised old.faults

-- a write fails exactly where it is listed or its piece is longer than the room left, and else takes the whole piece
abbrev pub WriteCounts : MemSink → MemSink → Text → Wrote → Type 0
WriteCounts old new piece (wrote.Took n) = TookAll old new piece n
WriteCounts old new piece wrote.Failed = WriteFailed old new piece
