use Rattle.std.proofs.Common.{◌++◌, ◌∙◌, append_assoc}
use Rattle.nz_blocks.specs.Output.{space_lines, denominator_line}
use Rattle.nz_blocks.proofs.reading_sections.head_of.Goals as goal

pub returns-in-None : goal.returns-in-None
returns-in-None c = λ amb level g s small fits bare e. c.in-None.ensures amb level (denominator_line g ++ s) small (e ∙ append_assoc (space_lines amb level) (denominator_line g) s)

pub returns-in-Some-denominator_at : goal.returns-in-Some-denominator_at
returns-in-Some-denominator_at c = λ amb level g s small fits bare e.
    let space = c.in-Some.ensures amb level (denominator_line g ++ s) small (e ∙ append_assoc (space_lines amb level) (denominator_line g) s) in
    let line = c.in-Some-denominator_at.ensures g s fits bare space.2 in
    (space.0, space.1, line.0, line.1)

pub returns-in-None-denominator_at : goal.returns-in-None-denominator_at
returns-in-None-denominator_at c = λ amb level g s small fits bare e.
    let space = c.in-Some.ensures amb level (denominator_line g ++ s) small (e ∙ append_assoc (space_lines amb level) (denominator_line g) s) in
    c.in-None-denominator_at.ensures g s fits bare space.2
