use Rattle.std.proofs.Common.{◌<◌, length, sym, subst, arith}
use Rattle.std.proofs.lemmas.Int.{ints}
use Rattle.std.proofs.lemmas.List.{take_all}
use Rattle.nz_spec.proofs.ListLaws.{each_at}
use Rattle.nz_reducer.specs.Levels.{IsWordOf}
use Rattle.nz_reducer.proofs.LevelLemmas.{word_start, word_skipped, word_set}
use Rattle.nz_reducer.proofs.levels.word_of.Goals as goal

pub loop-index-init : goal.loop-index-init
loop-index-init g c = word_start (λ x. x.column) (λ x. g.T.Scalar.integer x.value) c.args.levels.now c.args.values.now

pub at-requires : goal.at-requires
at-requires g c = subst (λ x. x.column < length c.args.values.now) (sym c.index-levels-index.is) (each_at (λ x. x.column < length c.args.values.now) c.args.levels.now c.loop-index.index c.index-levels-index.result c.requires.columns c.loop-index-test.true)

pub with_bit-word-requires : goal.with_bit-word-requires
with_bit-word-requires g c = omega (arith, c.loop-index-test.true, c.requires.few)

pub loop-index-preserved-then-not-is_at_most : goal.loop-index-preserved-then-not-is_at_most
loop-index-preserved-then-not-is_at_most g c = word_skipped (λ x. x.column) (λ x. g.T.Scalar.integer x.value) c.args.levels.now c.args.values.now c.loop-index.index c.index-levels-index.result c.loop-index-test.true c.index-levels-index.is c.loop-index.word c.loop-index.invariant
    (λ r. c.if-not-is_at_most.ensures (omega (arith, ints, r, c.at.ensures)))

pub loop-index-preserved : goal.loop-index-preserved
loop-index-preserved g c = subst (IsWordOf (λ x. x.column) (λ x. g.T.Scalar.integer x.value) _ c.args.values.now) (sym c.with_bit-word.ensures) (word_set (λ x. x.column) (λ x. g.T.Scalar.integer x.value) c.args.levels.now c.args.values.now c.loop-index.index c.index-levels-index.result c.loop-index-test.true c.index-levels-index.is c.loop-index.word c.loop-index.invariant
    (omega (arith, ints, c.if-not-is_at_most.ensures, c.at.ensures)))

pub returns : goal.returns
returns g c = subst (λ ls. IsWordOf (λ x. x.column) (λ x. g.T.Scalar.integer x.value) ls c.args.values.now c.loop-index.word) (take_all c.loop-index.index c.args.levels.now c.loop-index-test.false) c.loop-index.invariant
