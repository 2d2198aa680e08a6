use Rattle.std.proofs.Common.{subst}
use Rattle.std.specs.List.{AllByRecursion as Each}
use Rattle.nz_spec.specs.Vectors.{HasWidth}
use Rattle.nz_pointed.specs.declared.starting.Pointed.{Pointed}
use Rattle.nz_pointed.specs.Pointed.{IsAnswer}
use Rattle.nz_rays.proofs.StartLemmas.{simplex_width, simplex_at_width}
use Rattle.nz_tests.proofs.primal_tests.is_found.Goals as goal

pub agrees-requires-clause-widths : goal.agrees-requires-clause-widths
agrees-requires-clause-widths g c =
    let s = subst (λ (p : Pointed g.row.T.Denot). IsAnswer {T = g.row.T.Denot} 3 c.in-Ok.rows p) c.in-Ok-Simplex.field-0-is c.in-Ok-Simplex.ensures in
    subst (λ n. Each (HasWidth n) c.in-Ok.rows) (simplex_width 3 c.in-Ok.rows c.in-Ok-Simplex.simplex.rays c.in-Ok-Simplex.simplex.places s) c.in-Ok.ensures

pub agrees-requires-clause-simplex : goal.agrees-requires-clause-simplex
agrees-requires-clause-simplex g c =
    let s = subst (λ (p : Pointed g.row.T.Denot). IsAnswer {T = g.row.T.Denot} 3 c.in-Ok.rows p) c.in-Ok-Simplex.field-0-is c.in-Ok-Simplex.ensures in
    simplex_at_width 3 c.in-Ok.rows c.in-Ok-Simplex.simplex.rays c.in-Ok-Simplex.simplex.places s
