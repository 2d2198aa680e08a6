use Rattle.nz_cert.proofs.StageLemmas.{AreSidesSoFar}
use Rattle.nz_cert.proofs.stages.take_stages.Given as goal

abbrev pub invariant-loop-earlier : goal.invariant-loop-earlier
invariant-loop-earlier l = AreSidesSoFar l.width l.rank l.earlier l.initial.words l.words l.plus l.minus
