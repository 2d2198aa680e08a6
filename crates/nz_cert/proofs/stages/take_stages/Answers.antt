use Rattle.nz_cert.proofs.StageLemmas.{sides_more, sides_refused, sides_end}
use Rattle.nz_cert.proofs.stages.take_stages.Goals as goal

pub returns-in-Err : goal.returns-in-Err
returns-in-Err c = sides_refused c.args.width c.args.rank c.args.rows c.loop-earlier.earlier _ _ _ _ _ _ _ c.loop-earlier-test.true c.loop-earlier.invariant c.in-Err.ensures

pub loop-earlier-preserved : goal.loop-earlier-preserved
loop-earlier-preserved c = sides_more c.args.width c.args.rank c.loop-earlier.earlier _ _ _ _ _ _ _ c.in-Ok.sides c.loop-earlier.invariant c.in-Ok.ensures c.in-Ok-push.ensures.ok c.in-Ok-push-2.ensures.ok

pub returns : goal.returns
returns c = sides_end c.args.width c.args.rank c.args.rows c.loop-earlier.earlier _ _ _ _ c.requires c.loop-earlier-test.false (c.loop-earlier.auto.earlier-end c.requires) c.loop-earlier.invariant
