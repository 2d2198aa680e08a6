use Rattle.std.proofs.Common.{◌++◌, ◌∷◌}
use Rattle.std.specs.Fmt.{signed_decimal}
use Rattle.nz_spec.specs.Vectors.{dot}
use Rattle.nz_spec.specs.Constraints.{form_of}
use Rattle.nz_blocks.proofs.AnswerTexts.{behind_form, form_shut}
use Rattle.nz_blocks.proofs.OutsideReadings.{form_start, no_out}
use Rattle.nz_blocks.proofs.reading_outside.outside.Goals as goal

pub returns-in-None : goal.returns-in-None
returns-in-None c = λ x k s held fits e. absurd (no_out _ c.as_slice.result.now x k s c.as_slice.ensures e c.in-None.ensures)

pub returns-in-Err : goal.returns-in-Err
returns-in-Err c = λ x k s held fits e.
    c.in-Err.ensures (λ i. 0) (form_of k) (behind_form k x s) held.form (form_shut k x s) (form_start _ c.as_slice.result.now _ x k s c.as_slice.ensures e c.in-Some.ensures)

pub returns-in-None-constraint_at : goal.returns-in-None-constraint_at
returns-in-None-constraint_at c = λ x k s held fits e.
    let form = c.in-Ok.ensures (λ i. 0) (form_of k) (behind_form k x s) held.form (form_shut k x s) (form_start _ c.as_slice.result.now _ x k s c.as_slice.ensures e c.in-Some.ensures) in
    absurd (c.in-None-constraint_at.ensures k (signed_decimal (dot (form_of k) x) ++ 10 ∷ s) held form.0 form.1)

pub returns-in-Some-value_line : goal.returns-in-Some-value_line
returns-in-Some-value_line c = λ x k s held fits e.
    let form = c.in-Ok.ensures (λ i. 0) (form_of k) (behind_form k x s) held.form (form_shut k x s) (form_start _ c.as_slice.result.now _ x k s c.as_slice.ensures e c.in-Some.ensures) in
    let found = c.in-Some-constraint_at.ensures k (signed_decimal (dot (form_of k) x) ++ 10 ∷ s) held form.0 form.1 in
    (found.0, c.in-Some-value_line.ensures (dot (form_of k) x) s fits found.1)

pub returns-in-None-value_line : goal.returns-in-None-value_line
returns-in-None-value_line c = λ x k s held fits e.
    let form = c.in-Ok.ensures (λ i. 0) (form_of k) (behind_form k x s) held.form (form_shut k x s) (form_start _ c.as_slice.result.now _ x k s c.as_slice.ensures e c.in-Some.ensures) in
    let found = c.in-Some-constraint_at.ensures k (signed_decimal (dot (form_of k) x) ++ 10 ∷ s) held form.0 form.1 in
    absurd (c.in-None-value_line.ensures (dot (form_of k) x) s fits found.1)
