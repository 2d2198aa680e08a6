use Rattle.nz_measures.proofs.SystemCauses.{row_pulled_above}
use Rattle.nz_frame.proofs.FrameLemmas.{equations_wide, rows_wide, wide_at}
use Rattle.nz_frame.proofs.frames.frame_of.Goals as goal

pub lattice-requires : goal.lattice-requires
lattice-requires g c = equations_wide c.args.system.now.system c.in-Ok.faces.equations c.kept.ensures.system c.in-Ok.ensures.found.0

pub all_pulled-requires : goal.all_pulled-requires
all_pulled-requires g c = wide_at c.args.system.now.system.width c.in-Ok-lattice.base.width c.in-Ok.faces.rows c.in-Ok-lattice.ensures.base.width (rows_wide c.args.system.now.system c.in-Ok.faces.rows c.kept.ensures.system c.in-Ok.ensures.found.1)

pub returns-in-Err-lattice-clause-cause : goal.returns-in-Err-lattice-clause-cause
returns-in-Err-lattice-clause-cause g c = λ e. c.in-Err-lattice.ensures.cause e c.in-Ok.ensures.found.0

pub returns-in-Ok-all_pulled-clause-swept : goal.returns-in-Ok-all_pulled-clause-swept
returns-in-Ok-all_pulled-clause-swept g c = c.in-Ok-lattice.ensures.swept c.in-Ok.ensures.found.0

pub returns-clause-cause : goal.returns-clause-cause
returns-clause-cause g c = λ e.
    let k = c.in-Err-all_pulled.ensures e in
    row_pulled_above g.T.Scalar.HALF g.T.Scalar.fits g.met.T.Scalar.room c.args.system.now.system c.in-Ok-lattice.base c.in-Ok.faces.rows k.form (c.in-Ok-lattice.ensures.swept c.in-Ok.ensures.found.0) c.in-Ok.ensures.found.1 k.has k.outside
