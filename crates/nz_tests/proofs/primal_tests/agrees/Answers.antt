use Rattle.std.proofs.Common.{length}
use Rattle.nz_primal.proofs.GeneratorLemmas.{separating_of_simplex}
use Rattle.nz_tests.proofs.primal_tests.agrees.Goals as goal

pub primal-answer-requires-clause-order : goal.primal-answer-requires-clause-order
primal-answer-requires-clause-order g c = separating_of_simplex (length c.args.simplex.now.places) c.args.rows.now c.args.simplex.now.rays c.args.simplex.now.places c.requires.widths c.requires.simplex
