use Rattle.std.proofs.Common.{sym, subst}
use Rattle.std.specs.List.{AllByRecursion as Each}
use Rattle.nz_spec.specs.Vectors.{HasWidth}
use Rattle.nz_dual.proofs.FirstStageLemmas.{own_width, at_own_width}
use Rattle.nz_bench.proofs.measures.irreducible.Goals as goal

pub dual-requires-clause-wide : goal.dual-requires-clause-wide
dual-requires-clause-wide c = subst (λ n. Each (HasWidth n) c.args.rows.now) (own_width c.args.width c.args.rows.now c.args.simplex.now.rays c.args.simplex.now.places c.requires.simplex) c.requires.widths

pub dual-requires-clause-simplex : goal.dual-requires-clause-simplex
dual-requires-clause-simplex c = at_own_width c.args.width c.args.rows.now c.args.simplex.now.rays c.args.simplex.now.places c.requires.simplex
