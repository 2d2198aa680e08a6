use Rattle.std.proofs.Common.{◌-◌, length}
use Rattle.nz_classes.specs.Steps.{IsPart, Extends}
use Rattle.nz_classes.specs.Walks.{paired}
use Rattle.nz_classes.proofs.WalkLemmas.{AreExpanded}
use Rattle.nz_classes.proofs.walking.close.Given as goal

abbrev pub invariant-loop-place : goal.invariant-loop-place
invariant-loop-place g l = record {
  part : IsPart (length l.steps.sides.now) (paired l.steps.forms.now l.steps.sides.now) l.limit l.found;
  extends : Extends l.initial.found l.found;
  expanded : AreExpanded (length l.steps.sides.now) (paired l.steps.forms.now l.steps.sides.now) l.place l.found;
}

abbrev pub decreases-loop-place : goal.decreases-loop-place
decreases-loop-place g l = l.limit - l.place
