use Rattle.std.proofs.Common.{sym, ap, ◌∙◌}
use Rattle.nz_spec.specs.Vectors.{entry}
use Rattle.nz_linear.specs.Echelon.{unit_at}
use Rattle.nz_linear.proofs.Units.{entry-unit_own, entry-unit_other}
use Rattle.nz_vec.proofs.unit_vectors.unit_entry.Goals as goal

pub returns-then-column-place : goal.returns-then-column-place
returns-then-column-place g c = λ w l. c.of_i64.ensures ∙ sym (ap (λ p. entry (unit_at w p) c.args.column) (sym c.if-column-place.true) ∙ entry-unit_own w c.args.column l)

pub returns-else-column-place : goal.returns-else-column-place
returns-else-column-place g c = λ w l. c.of_i64-else-column-place.ensures ∙ sym (entry-unit_other w c.args.place c.args.column (λ e. c.if-column-place.false (sym e)))
