use mir.Val.{SFits}
use Rattle.std.proofs.Common.{◌∙◌, map-id, rules, arith}
use Rattle.std.proofs.Math.Facts.{to_z-of_z}
use Rattle.std.specs.Int.{w128}
use Rattle.std.proofs.lemmas.Int.{ints}
use Rattle.nz_cert.proofs.ReductionLemmas.{below_at, below_length, pushed_difference, taken_difference}
use Rattle.nz_cert.proofs.reduction.difference.Goals as goal

pub returns : goal.returns
returns c = c.from_vec.ensures ∙ map-id c.loop-column.entries.items ∙ taken_difference c.args.values.now c.args.entry.now c.loop-column.column c.loop-column.entries.items c.requires.below (omega (arith, c.loop-column-test.false, c.len-column-end.ensures)) c.loop-column.invariant

pub less-requires-clause-below : goal.less-requires-clause-below
less-requires-clause-below c =
    let fa : SFits w128 c.at.result = search rules in
    let fb : SFits w128 c.at-in-loop-column.result = search rules in
    let a = to_z-of_z {w = w128} {z = c.at.result} fa ∙ c.at.ensures in
    let b = to_z-of_z {w = w128} {z = c.at-in-loop-column.result} fb ∙ c.at-in-loop-column.ensures in
    let m = below_length c.args.entry.now c.args.values.now c.requires.below in
    let k = below_at c.args.entry.now c.args.values.now c.loop-column.column (omega (arith, m, c.loop-column-test.true, c.len-column-end.ensures)) c.requires.below in
    omega (arith, ints, a, b, k)

pub loop-column-preserved : goal.loop-column-preserved
loop-column-preserved c =
    let fa : SFits w128 c.at.result = search rules in
    let fb : SFits w128 c.at-in-loop-column.result = search rules in
    let fd : SFits w128 c.less.result = search rules in
    let a = to_z-of_z {w = w128} {z = c.at.result} fa ∙ c.at.ensures in
    let b = to_z-of_z {w = w128} {z = c.at-in-loop-column.result} fb ∙ c.at-in-loop-column.ensures in
    let d = to_z-of_z {w = w128} {z = c.less.result} fd ∙ c.less.ensures in
    let m = below_length c.args.entry.now c.args.values.now c.requires.below in
    let k = c.loop-column.column in
    pushed_difference c.args.values.now c.args.entry.now k c.loop-column.entries.items c.push.new.self.items _ (omega (arith, c.loop-column-test.true, c.len-column-end.ensures)) m c.loop-column.invariant c.in-Ok.ensures.items (omega (arith, ints, a, b, d))
