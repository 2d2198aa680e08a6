-- The calls of a folder or a console in memory, which are numbered from 1. Those whose number is listed fail.
use Rattle.std.specs.Prelude.{◌≡◌, Contains}
use Rattle.nz_watch.specs.Counts.{raised}
use Rattle.nz_edge.specs.declared.calls.Calls.{Calls}

-- the number of the call that comes next is listed
abbrev pub IsListed : Calls → Type 0
IsListed calls = Contains calls.fail.items (raised calls.made)

-- one call more was made, and the listed numbers are as before
pub record IsOneMore (old new : Calls) : Type 0 where
  pub counted : new.made ≡ raised old.made
  pub list : new.fail.items ≡ old.fail.items
