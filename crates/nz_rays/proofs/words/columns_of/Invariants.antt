use Rattle.std.proofs.Common.{◌≡◌, length}
use Rattle.nz_rays.specs.Words.{AreColumnsOf}
use Rattle.nz_rays.proofs.words.columns_of.Given as goal

abbrev pub invariant-loop-number : goal.invariant-loop-number
invariant-loop-number l = (length l.columns.items ≡ l.number) × AreColumnsOf l.sets l.columns.items
