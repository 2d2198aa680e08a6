use Rattle.std.proofs.Common.{◌<◌, length, arith}
use Rattle.nz_rays.proofs.WordLemmas.{covered_all, covered_next, uncovered, word_at}
use Rattle.nz_rays.proofs.words.covers.Goals as goal

pub returns-then-both-index : goal.returns-then-both-index
returns-then-both-index c =
    let within : c.loop-number.number < length c.args.columns.now = omega (arith, c.loop-number-test.true) in
    uncovered c.args.columns.now c.args.first c.args.second c.args.place c.loop-number.number c.index.result.now c.index-in-loop-number.result.now c.index-in-loop-number-2.result.now within
    (word_at c.args.columns.now c.loop-number.number c.args.first c.index.result.now c.index-columns-number.result c.column.inside.words.items within c.requires.first c.index-columns-number.is c.column.view_is c.index.ensures)
    (word_at c.args.columns.now c.loop-number.number c.args.second c.index-in-loop-number.result.now c.index-columns-number.result c.column.inside.words.items within c.requires.second c.index-columns-number.is c.column.view_is c.index-in-loop-number.ensures)
    (word_at c.args.columns.now c.loop-number.number c.args.place c.index-in-loop-number-2.result.now c.index-columns-number.result c.column.inside.words.items within c.requires.place c.index-columns-number.is c.column.view_is c.index-in-loop-number-2.ensures)
    c.if-both-index.true

pub loop-number-preserved : goal.loop-number-preserved
loop-number-preserved c =
    let within : c.loop-number.number < length c.args.columns.now = omega (arith, c.loop-number-test.true) in
    covered_next c.args.columns.now c.args.first c.args.second c.args.place c.loop-number.number c.index.result.now c.index-in-loop-number.result.now c.index-in-loop-number-2.result.now within
    (word_at c.args.columns.now c.loop-number.number c.args.first c.index.result.now c.index-columns-number.result c.column.inside.words.items within c.requires.first c.index-columns-number.is c.column.view_is c.index.ensures)
    (word_at c.args.columns.now c.loop-number.number c.args.second c.index-in-loop-number.result.now c.index-columns-number.result c.column.inside.words.items within c.requires.second c.index-columns-number.is c.column.view_is c.index-in-loop-number.ensures)
    (word_at c.args.columns.now c.loop-number.number c.args.place c.index-in-loop-number-2.result.now c.index-columns-number.result c.column.inside.words.items within c.requires.place c.index-columns-number.is c.column.view_is c.index-in-loop-number-2.ensures)
    c.if-both-index.false c.loop-number.invariant

pub returns : goal.returns
returns c = covered_all c.args.columns.now c.args.first c.args.second c.args.place c.loop-number.number (omega (arith, c.loop-number-test.false)) c.loop-number.invariant
