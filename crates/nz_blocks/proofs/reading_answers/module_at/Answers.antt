use Rattle.std.proofs.Common.{◌+◌, ◌∷◌, ◌∙◌, sym, subst, arith}
use Rattle.nz_blocks.specs.Beginnings.{IsLarge}
use Rattle.nz_blocks.proofs.Readings.{not_large, run_is, none_some}
use Rattle.nz_blocks.proofs.AnswerReadings.{no_module, is_module, newline_no_digit}
use Rattle.nz_blocks.proofs.reading_answers.module_at.Goals as goal

pub returns-in-None : goal.returns-in-None
returns-in-None c = λ m s few e. no_module _ c.as_slice.result.now m s c.as_slice.ensures e c.in-None.ensures

pub returns-in-None-digits : goal.returns-in-None-digits
returns-in-None-digits c = λ m s few e.
    let w = is_module _ c.as_slice.result.now _ m s few c.as_slice.ensures e c.in-Some.ensures in
    not_large (w.place + 1) (10 ∷ s) (omega (arith, w.few)) (newline_no_digit s) (subst IsLarge w.is c.in-None-digits.ensures.run)

pub returns-in-Some-from_zero : goal.returns-in-Some-from_zero
returns-in-Some-from_zero c = λ m s few e.
    let w = is_module _ c.as_slice.result.now _ m s few c.as_slice.ensures e c.in-Some.ensures in
    let r = run_is c.args.text.now c.in-Some.start c.in-Some-digits.place.next c.in-Some-digits.place.value (w.place + 1) (10 ∷ s) (omega (arith, w.few)) (newline_no_digit s) w.is c.in-Some-digits.ensures.run in
    (c.in-Some-from_zero.ensures w.place w.few r.0 ∙ sym w.named, r.1)

pub returns-in-None-from_zero : goal.returns-in-None-from_zero
returns-in-None-from_zero c = λ m s few e.
    let w = is_module _ c.as_slice.result.now _ m s few c.as_slice.ensures e c.in-Some.ensures in
    let r = run_is c.args.text.now c.in-Some.start c.in-Some-digits.place.next c.in-Some-digits.place.value (w.place + 1) (10 ∷ s) (omega (arith, w.few)) (newline_no_digit s) w.is c.in-Some-digits.ensures.run in
    none_some w.place (c.in-None-from_zero.ensures w.place w.few r.0)
