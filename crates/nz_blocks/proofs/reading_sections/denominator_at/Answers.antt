use Rattle.std.proofs.Common.{◌∙◌, ℤ, Option, Some, IfSome, FitsSigned, sym, ap, subst}
use Rattle.std.specs.Int.{w128}
use Rattle.nz_blocks.proofs.Readings.{reads_is}
use Rattle.nz_blocks.proofs.SectionReadings.{no_denominator, some_denominator}
use Rattle.nz_blocks.proofs.reading_sections.denominator_at.Goals as goal

pub returns-in-None : goal.returns-in-None
returns-in-None c = λ g s fits bare e. no_denominator _ g s c.as_slice.result.now c.as_slice.ensures e c.in-None.ensures

pub returns-in-Some-number_line : goal.returns-in-Some-number_line
returns-in-Some-number_line c = λ g s fits bare e.
    let d = some_denominator _ _ g s c.as_slice.result.now c.as_slice.ensures bare e c.in-Some.ensures in
    let small = subst (λ (o : Option ℤ). IfSome o (FitsSigned w128)) d.1 fits in
    let n = c.in-Some-number_line.ensures d.0 s small d.2 in
    (ap (λ (z : ℤ). Some z) (reads_is _ d.0 small n.0) ∙ sym d.1, n.1)

pub returns-in-None-number_line : goal.returns-in-None-number_line
returns-in-None-number_line c = λ g s fits bare e.
    let d = some_denominator _ _ g s c.as_slice.result.now c.as_slice.ensures bare e c.in-Some.ensures in
    c.in-None-number_line.ensures d.0 s (subst (λ (o : Option ℤ). IfSome o (FitsSigned w128)) d.1 fits) d.2
