use Rattle.nz_cert.proofs.GroundLemmas.{columns_fit}
use Rattle.nz_cert.proofs.generating.all_reduced.Goals as goal

pub are_reduced-requires-clause-wide : goal.are_reduced-requires-clause-wide
are_reduced-requires-clause-wide c = columns_fit c.args.forms.now c.args.table.now c.args.vectors.now c.in-Ok.values c.requires.columns c.in-Ok.ensures
