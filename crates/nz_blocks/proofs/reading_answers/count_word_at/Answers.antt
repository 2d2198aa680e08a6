use Rattle.std.proofs.Common.{◌+◌, ◌++◌, ◌∷◌, ◌∙◌, drop, ap, subst}
use Rattle.std.specs.Fmt.{decimal}
use Rattle.nz_vec.specs.Texts.{Text}
use Rattle.nz_blocks.specs.Beginnings.{IsLarge}
use Rattle.nz_blocks.proofs.Readings.{not_large, run_is}
use Rattle.nz_blocks.proofs.RowReadings.{behind_byte, byte_split}
use Rattle.nz_blocks.proofs.AnswerReadings.{star_bare}
use Rattle.nz_blocks.proofs.reading_answers.count_word_at.Goals as goal

pub returns-in-None-clause-whole : goal.returns-in-None-clause-whole
returns-in-None-clause-whole c = λ n k s few more bare e.
    let start = behind_byte c.args.text.now c.args.from 32 (decimal n ++ (42 ∷ 104 ∷ (decimal k ++ s))) e in
    not_large n (42 ∷ 104 ∷ (decimal k ++ s)) few (star_bare (104 ∷ (decimal k ++ s))) (subst IsLarge start c.in-None.ensures.run)

pub returns-in-Some-place_word-clause-whole : goal.returns-in-Some-place_word-clause-whole
returns-in-Some-place_word-clause-whole c = λ n k s few more bare e.
    let start = behind_byte c.args.text.now c.args.from 32 (decimal n ++ (42 ∷ 104 ∷ (decimal k ++ s))) e in
    let r = run_is c.args.text.now (c.args.from + 1) c.in-Some.count.next c.in-Some.count.value n (42 ∷ 104 ∷ (decimal k ++ s)) few (star_bare (104 ∷ (decimal k ++ s))) start c.in-Some.ensures.run in
    let p = c.in-Some-place_word.ensures.whole k s more bare r.1 in
    (r.0, p.0, p.1)

pub returns-in-Some-place_word-clause-named : goal.returns-in-Some-place_word-clause-named
returns-in-Some-place_word-clause-named c = record {
  count = c.in-Some.ensures.run.digits;
  rest = drop c.in-Some.count.next c.args.text.now;
  are = c.in-Some.ensures.run.are;
  is = byte_split c.args.text.now c.args.from 32 c.if-not-is_at.ensures ∙ ap (λ (t : Text). 32 ∷ t) c.in-Some.ensures.run.split;
  place_is = c.in-Some-place_word.ensures.named;
}

pub returns-in-None-place_word-clause-whole : goal.returns-in-None-place_word-clause-whole
returns-in-None-place_word-clause-whole c = λ n k s few more bare e.
    let start = behind_byte c.args.text.now c.args.from 32 (decimal n ++ (42 ∷ 104 ∷ (decimal k ++ s))) e in
    let r = run_is c.args.text.now (c.args.from + 1) c.in-Some.count.next c.in-Some.count.value n (42 ∷ 104 ∷ (decimal k ++ s)) few (star_bare (104 ∷ (decimal k ++ s))) start c.in-Some.ensures.run in
    c.in-None-place_word.ensures.whole k s more bare r.1
