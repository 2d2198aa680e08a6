use Rattle.std.proofs.Common.{take}
use Rattle.nz_rays.proofs.WordLemmas.{NearOf}
use Rattle.nz_rays.proofs.words.near_places.Given as goal

abbrev pub invariant-loop-index : goal.invariant-loop-index
invariant-loop-index l = NearOf l.columns l.busy (take l.index l.busy) l.first l.needed l.near
