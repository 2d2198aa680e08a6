use Rattle.std.proofs.Common.{sym, subst, ◌∙◌}
use Rattle.nz_pointed.specs.Pointed.{IsSimplexOf}
use Rattle.nz_dual.proofs.FirstStageLemmas.{at_own_width}
use Rattle.nz_bench.proofs.SimplexLemmas.{simplex_size}
use Rattle.nz_bench.proofs.measures.rays.Goals as goal

pub new-requires : goal.new-requires
new-requires c = at_own_width c.args.width c.args.rows.now c.args.simplex.now.rays c.args.simplex.now.places c.requires.simplex

pub loop-place-init : goal.loop-place-init
loop-place-init c = c.in-Ok.ensures.rows.0 ∙ simplex_size c.args.width c.args.rows.now c.args.simplex.now.places c.args.simplex.now.rays c.requires.simplex
