use Rattle.nz_sweep.proofs.GeneratingLemmas.{generates}
use Rattle.nz_sweep.proofs.basis.Basis.of_generators.Goals as goal

pub invariant_of-result : goal.invariant_of-result
invariant_of-result g c = let b = generates c.args.width c.args.rows.now c.in-Ok.generated.base.items c.requires c.in-Ok.ensures.apart in (record { widths = b.widths; independent = b.independent }, c.in-Ok.ensures.dual)

pub returns-in-Ok-clause-same : goal.returns-in-Ok-clause-same
returns-in-Ok-clause-same g c = (generates c.args.width c.args.rows.now c.in-Ok.generated.base.items c.requires c.in-Ok.ensures.apart).same

pub returns-in-Ok-clause-echelon : goal.returns-in-Ok-clause-echelon
returns-in-Ok-clause-echelon g c = let e = (generates c.args.width c.args.rows.now c.in-Ok.generated.base.items c.requires c.in-Ok.ensures.apart).echelon in (e.columns, e.leading)
