use Rattle.std.proofs.Common.{◌++◌, ◌∙◌, sym, ap}
use Rattle.std.specs.Fmt.{decimal}
use Rattle.nz_vec.specs.Texts.{Text}
use Rattle.nz_blocks.proofs.RowReadings.{behind_same}
use Rattle.nz_blocks.proofs.AnswerReadings.{digits_are}
use Rattle.nz_blocks.proofs.reading_answers.place_word.Goals as goal

pub returns-in-Some-clause-whole : goal.returns-in-Some-clause-whole
returns-in-Some-clause-whole c = λ k s few bare e.
    let start = behind_same _ c.as_slice.result.now _ (decimal k ++ s) c.in-Some.ensures (e ∙ ap (λ (t : Text). t ++ (decimal k ++ s)) (sym c.as_slice.ensures)) in
    digits_are c.args.text.now c.in-Some.start k s c.digits.result few bare start c.digits.ensures.run

pub returns-in-None-clause-whole : goal.returns-in-None-clause-whole
returns-in-None-clause-whole c = λ k s few bare e. c.in-None.ensures (decimal k ++ s) (e ∙ ap (λ (t : Text). t ++ (decimal k ++ s)) (sym c.as_slice.ensures))
