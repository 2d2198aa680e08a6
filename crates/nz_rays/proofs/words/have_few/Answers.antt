use Rattle.std.proofs.Common.{◌<◌, length, arith}
use Rattle.std.specs.Int.Bits.{bit_and}
use Rattle.nz_rays.proofs.WordLemmas.{counted_none, counted_more, counted_all, word_at}
use Rattle.nz_rays.proofs.words.have_few.Goals as goal

pub loop-number-init : goal.loop-number-init
loop-number-init c = counted_none c.args.columns.now c.args.first c.args.second c.args.needed

pub loop-number-preserved : goal.loop-number-preserved
loop-number-preserved c =
    let within : c.loop-number.number < length c.args.columns.now = omega (arith, c.loop-number-test.true) in
    let first = word_at c.args.columns.now c.loop-number.number c.args.first c.index.result.now c.index-columns-number.result c.column.inside.words.items within c.requires.first c.index-columns-number.is c.column.view_is c.index.ensures in
    let second = word_at c.args.columns.now c.loop-number.number c.args.second c.index-in-loop-number.result.now c.index-columns-number.result c.column.inside.words.items within c.requires.second c.index-columns-number.is c.column.view_is c.index-in-loop-number.ensures in
    counted_more c.args.columns.now c.args.first c.args.second c.loop-number.number c.loop-number.missing _ c.args.needed (bit_and c.index.result.now c.index-in-loop-number.result.now) within (λ i. bit_and (first i) (second i)) c.saturating_sub-missing.ensures c.loop-number.invariant

pub returns : goal.returns
returns c = λ m. counted_all c.args.columns.now c.args.first c.args.second c.loop-number.number c.loop-number.missing c.args.needed (omega (arith, c.loop-number-test.false)) c.loop-number.invariant (grind (arith, m))
