-- What a watch is told, status by status.
use Rattle.std.specs.Prelude.{Bool, true, false, List, []}
use Rattle.nz_watch.specs.Watching.{Pair}
use Rattle.nz_watch.specs.Telling.{Watched, WasTold}
use Rattle.nz_run.specs.declared.status.Status.{Status}
use Rattle.nz_run.specs.declared.status.Status.TheVariants.{Done, Grade, Range, TooMany, Stopped, WriteFault, NoMemory}

-- the watch was told nothing
abbrev pub WasToldNothing : Watched → Watched → Type 0
WasToldNothing before now = WasTold before now [] false

-- the watch was told some pairs, and all but the last, or all, were answered true
abbrev pub WasToldPairs : Bool → Watched → Watched → Type 0
WasToldPairs stopped before now = (pairs : List Pair) × WasTold before now pairs stopped

-- a run ends with Stopped just where its watch says stop; no stage is told before the meaning of the file is clear, nor where there is a line or the input is converted
abbrev pub WatchSays : Status → Watched → Watched → Type 0
WatchSays Done before now = WasToldPairs false before now
WatchSays (Grade v) before now = WasToldPairs false before now
WatchSays Range before now = WasToldPairs false before now
WatchSays TooMany before now = WasToldPairs false before now
WatchSays (Stopped k) before now = WasToldPairs true before now
WatchSays WriteFault before now = WasToldPairs false before now
WatchSays NoMemory before now = WasToldPairs false before now
WatchSays status before now = WasToldNothing before now
