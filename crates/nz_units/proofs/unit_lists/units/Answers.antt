use Rattle.nz_units.proofs.RefusalLemmas.{split_refused}
use Rattle.nz_units.proofs.unit_lists.units.Goals as goal

pub returns-in-Err-clause-refusal : goal.returns-in-Err-clause-refusal
returns-in-Err-clause-refusal g c = split_refused g.T.Scalar.HALF c.args.limit c.args.lattice.now c.args.rows.now c.in-Err.refusal c.work_of.result (λ e. c.in-Err.ensures.steps e) c.work_of.ensures

pub classes_of-requires : goal.classes_of-requires
classes_of-requires g c = record { lattice = c.args.lattice.now; given = c.requires; steps = c.in-Ok.ensures.steps }

pub returns-in-Ok-classes_of-clause-lists : goal.returns-in-Ok-classes_of-clause-lists
returns-in-Ok-classes_of-clause-lists g c = λ w wide free. c.in-Ok-classes_of.ensures.list c.args.lattice.now w wide free c.in-Ok.ensures.steps

pub returns-in-Err-classes_of-clause-refusal : goal.returns-in-Err-classes_of-clause-refusal
returns-in-Err-classes_of-clause-refusal g c = c.in-Err-classes_of.ensures.refusal c.args.lattice.now c.requires c.in-Ok.ensures.steps
