use Rattle.nz_bench.proofs.SimplexLemmas.{separated}
use Rattle.nz_bench.proofs.measures.reduced.Goals as goal

pub irreducibles-requires : goal.irreducibles-requires
irreducibles-requires c = separated c.args.width c.args.rows.now c.in-Some.points c.args.simplex.now.places c.args.simplex.now.rays c.requires.simplex c.requires.widths c.in-Some.ensures
