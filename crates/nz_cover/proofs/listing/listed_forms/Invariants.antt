use Rattle.std.proofs.Common.{◌≡◌, take}
use Rattle.nz_cover.specs.Corners.{forms_of}
use Rattle.nz_cover.proofs.listing.listed_forms.Given as goal

abbrev pub invariant-loop-j : goal.invariant-loop-j
invariant-loop-j g l = l.forms ≡ forms_of (take l.j l.cell)
