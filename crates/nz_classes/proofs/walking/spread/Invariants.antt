use Rattle.std.proofs.Common.{length}
use Rattle.nz_classes.specs.Steps.{IsPart, Extends}
use Rattle.nz_classes.specs.Walks.{paired}
use Rattle.nz_classes.proofs.WalkLemmas.{ReachesSoFar}
use Rattle.nz_classes.proofs.walking.spread.Given as goal

abbrev pub invariant-loop-column : goal.invariant-loop-column
invariant-loop-column g l = record {
  part : IsPart (length l.steps.sides.now) (paired l.steps.forms.now l.steps.sides.now) l.limit l.found;
  extends : Extends l.initial.found l.found;
  reached : ReachesSoFar (length l.steps.sides.now) (paired l.steps.forms.now l.steps.sides.now) l.column l.found l.point;
}
