use Rattle.std.proofs.Common.{take}
use Rattle.nz_rays.specs.Words.{IsColumn}
use Rattle.nz_rays.proofs.words.column_of.Given as goal

abbrev pub invariant-loop-place : goal.invariant-loop-place
invariant-loop-place l = IsColumn l.from (take l.place l.sets) l.words.items
