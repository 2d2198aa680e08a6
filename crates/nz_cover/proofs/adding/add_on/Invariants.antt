use Rattle.std.proofs.Common.{take, ◌∷◌, []}
use Rattle.nz_cover.specs.Corners.{Appends, IsExtended}
use Rattle.nz_cover.proofs.adding.add_on.Given as goal

abbrev pub invariant-loop-index : goal.invariant-loop-index
invariant-loop-index g l = Appends (IsExtended l.rays l.place (l.facet ∷ []) (take l.index l.cells)) l.initial.added.items l.added.items
