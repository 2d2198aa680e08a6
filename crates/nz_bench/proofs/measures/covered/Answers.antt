use Rattle.nz_cover.proofs.PlacedLemmas.{simplex_placeable}
use Rattle.nz_bench.proofs.measures.covered.Goals as goal

pub place-requires : goal.place-requires
place-requires c = simplex_placeable c.args.width c.args.rows.now c.args.simplex.now.places c.args.simplex.now.rays c.requires.widths c.requires.simplex
