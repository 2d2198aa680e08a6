use Rattle.std.proofs.Common.{subst}
use Rattle.nz_pointed.specs.declared.starting.Pointed.{Pointed}
use Rattle.nz_pointed.specs.Pointed.{IsAnswer}
use Rattle.nz_cover.proofs.PlacedLemmas.{simplex_placeable}
use Rattle.nz_tests_engines.proofs.cover_tests.agrees_if_full.Goals as goal

pub agrees-requires : goal.agrees-requires
agrees-requires g c = simplex_placeable c.args.width c.args.rays.now c.in-Ok-Simplex.field-0-0.places c.in-Ok-Simplex.field-0-0.rays c.requires (subst (λ (p : Pointed g.row.T.Denot). IsAnswer {T = g.row.T.Denot} c.args.width c.args.rays.now p) c.in-Ok-Simplex.field-0-is c.in-Ok-Simplex.ensures)
