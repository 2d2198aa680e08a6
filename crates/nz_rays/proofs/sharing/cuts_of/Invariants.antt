use Rattle.std.proofs.Common.{take}
use Rattle.std.specs.List.{AllZip}
use Rattle.nz_rays.specs.Shared.{IsCutTo}
use Rattle.nz_rays.proofs.sharing.cuts_of.Given as goal

abbrev pub invariant-loop-place : goal.invariant-loop-place
invariant-loop-place l = AllZip (IsCutTo l.numbering.shared) (take l.place l.sets) l.cuts
