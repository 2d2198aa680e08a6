use Rattle.std.proofs.Common.{subst, sym}
use Rattle.nz_classes.specs.Walks.{IsFullSimplex}
use Rattle.nz_dual.proofs.FirstStageLemmas.{full_simplex, at_own_width}
use Rattle.nz_bench.proofs.SimplexLemmas.{within, points_wide}
use Rattle.nz_bench.proofs.measures.points.Goals as goal

pub chosen-requires : goal.chosen-requires
chosen-requires c = within c.args.width c.args.rows.now c.args.simplex.now.places c.args.simplex.now.rays c.requires.simplex

pub walk-requires : goal.walk-requires
walk-requires c = subst (IsFullSimplex c.args.simplex.now.rays) (sym c.in-Ok.ensures) (full_simplex c.args.rows.now c.args.simplex.now.rays c.args.simplex.now.places (at_own_width c.args.width c.args.rows.now c.args.simplex.now.rays c.args.simplex.now.places c.requires.simplex))

pub returns-in-Ok-walk : goal.returns-in-Ok-walk
returns-in-Ok-walk c = points_wide c.args.width c.args.rows.now c.args.simplex.now.places c.args.simplex.now.rays c.in-Ok-walk.points c.requires.simplex c.in-Ok-walk.ensures.0.only
