use Rattle.nz_cover.proofs.ReplacedCorners.{between_here}
use Rattle.nz_cover.proofs.corners.position_of.Goals as goal

pub returns-then-place-corner : goal.returns-then-place-corner
returns-then-place-corner g c = between_here c.args.place c.loop-position.position c.args.corners.now c.index-corners-position.result c.corner.inside.place c.corner.inside.form c.requires.in_order c.loop-position-test.true c.corner.view_is c.index-corners-position.is c.if-place-corner.true c.loop-position.invariant
