use Rattle.std.proofs.Common.{◌++◌, ◌∷◌, ◌∙◌, sym, ap}
use Rattle.std.specs.Fmt.{signed_decimal}
use Rattle.nz_vec.specs.Texts.{Text}
use Rattle.nz_blocks.proofs.RowReadings.{behind_same}
use Rattle.nz_blocks.proofs.reading_outside.value_line.Goals as goal

pub returns-in-None : goal.returns-in-None
returns-in-None c = λ z s fits e. c.in-None.ensures (signed_decimal z ++ 10 ∷ s) (e ∙ ap (λ (t : Text). t ++ (signed_decimal z ++ 10 ∷ s)) (sym c.as_slice.ensures))

pub returns-in-Some-number_line : goal.returns-in-Some-number_line
returns-in-Some-number_line c = λ z s fits e.
    let start = behind_same _ c.as_slice.result.now _ (signed_decimal z ++ 10 ∷ s) c.in-Some.ensures (e ∙ ap (λ (t : Text). t ++ (signed_decimal z ++ 10 ∷ s)) (sym c.as_slice.ensures)) in
    (c.in-Some-number_line.ensures z s fits start).1

pub returns-in-None-number_line : goal.returns-in-None-number_line
returns-in-None-number_line c = λ z s fits e.
    let start = behind_same _ c.as_slice.result.now _ (signed_decimal z ++ 10 ∷ s) c.in-Some.ensures (e ∙ ap (λ (t : Text). t ++ (signed_decimal z ++ 10 ∷ s)) (sym c.as_slice.ensures)) in
    c.in-None-number_line.ensures z s fits start
