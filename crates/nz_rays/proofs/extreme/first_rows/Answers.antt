use Rattle.std.proofs.Common.{subst}
use Rattle.nz_pointed.specs.Pointed.{IsAnswer}
use Rattle.nz_rays.proofs.RayLemmas.{no_line}
use Rattle.nz_rays.proofs.extreme.first_rows.Goals as goal

pub unreachable-requires : goal.unreachable-requires
unreachable-requires g c = no_line c.args.width c.args.rows.now c.in-Line.field-0 c.requires.pointed (subst (IsAnswer c.args.width c.args.rows.now) c.in-Line.is c.in-Ok.ensures)
