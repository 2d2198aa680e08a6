use Rattle.std.proofs.Common.{length, take}
use Rattle.std.specs.List.{AllZip}
use Rattle.nz_spec.specs.Vectors.{unit_vectors}
use Rattle.nz_classes.specs.Classes.{IsRestOf}
use Rattle.nz_classes.specs.Walks.{paired}
use Rattle.nz_classes.proofs.steps.unit_points.Given as goal

abbrev pub invariant-loop-column : goal.invariant-loop-column
invariant-loop-column g l = AllZip (IsRestOf (length l.sides) (paired l.forms l.sides)) (take l.column (unit_vectors (length l.sides))) l.points
