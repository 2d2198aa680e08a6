use Rattle.std.proofs.Common.{◌++◌, ◌∙◌, sym, ap, subst, arith}
use Rattle.std.specs.Fmt.{decimal}
use Rattle.nz_vec.specs.Texts.{Text}
use Rattle.nz_blocks.specs.Beginnings.{IsLarge}
use Rattle.nz_blocks.specs.Readings.{level_line}
use Rattle.nz_blocks.proofs.Readings.{not_large, run_is}
use Rattle.nz_blocks.proofs.RowReadings.{behind_same}
use Rattle.nz_blocks.proofs.SectionReadings.{space_line, line_bare}
use Rattle.nz_blocks.proofs.reading_sections.space_of.Goals as goal

pub returns-in-None : goal.returns-in-None
returns-in-None c = λ amb level s small e. c.in-None.ensures (decimal amb ++ (level_line level ++ s)) (e ∙ space_line amb level s ∙ ap (λ (t : Text). t ++ (decimal amb ++ (level_line level ++ s))) (sym c.as_slice.ensures))

pub returns-in-None-digits : goal.returns-in-None-digits
returns-in-None-digits c = λ amb level s small e.
    let start = behind_same _ c.as_slice.result.now _ (decimal amb ++ (level_line level ++ s)) c.in-Some.ensures (e ∙ space_line amb level s ∙ ap (λ (t : Text). t ++ (decimal amb ++ (level_line level ++ s))) (sym c.as_slice.ensures)) in
    not_large amb (level_line level ++ s) (omega (arith, small)) (line_bare level s) (subst IsLarge start c.in-None-digits.ensures.run)

pub returns-in-Some-level_at : goal.returns-in-Some-level_at
returns-in-Some-level_at c = λ amb level s small e.
    let start = behind_same _ c.as_slice.result.now _ (decimal amb ++ (level_line level ++ s)) c.in-Some.ensures (e ∙ space_line amb level s ∙ ap (λ (t : Text). t ++ (decimal amb ++ (level_line level ++ s))) (sym c.as_slice.ensures)) in
    let r = run_is c.args.text.now c.in-Some.from c.in-Some-digits.amb.next c.in-Some-digits.amb.value amb (level_line level ++ s) (omega (arith, small)) (line_bare level s) start c.in-Some-digits.ensures.run in
    let l = c.in-Some-level_at.ensures level s r.1 in
    (r.0, l.0, l.1)

pub returns-in-None-level_at : goal.returns-in-None-level_at
returns-in-None-level_at c = λ amb level s small e.
    let start = behind_same _ c.as_slice.result.now _ (decimal amb ++ (level_line level ++ s)) c.in-Some.ensures (e ∙ space_line amb level s ∙ ap (λ (t : Text). t ++ (decimal amb ++ (level_line level ++ s))) (sym c.as_slice.ensures)) in
    let r = run_is c.args.text.now c.in-Some.from c.in-Some-digits.amb.next c.in-Some-digits.amb.value amb (level_line level ++ s) (omega (arith, small)) (line_bare level s) start c.in-Some-digits.ensures.run in
    c.in-None-level_at.ensures level s r.1
