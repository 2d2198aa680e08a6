use Rattle.std.proofs.Common.{◌<◌, ◌+◌, length, map, pos, refl, ap, ◌∙◌, arith}
use Rattle.std.proofs.lemmas.List.{take_all}
use Rattle.nz_spec.specs.Vectors.{plus, minus, opposite, combination}
use Rattle.nz_spec.proofs.ListLaws.{pushed}
use Rattle.nz_classes.proofs.EntryLemmas.{column_sum, length-moved}
use Rattle.nz_classes.proofs.neighbours.moved.Goals as goal

pub returns-in-Err-moved_entry : goal.returns-in-Err-moved_entry
returns-in-Err-moved_entry g c = λ h. record { column = c.loop-column.column; within = omega (arith, c.len-column-end.ensures); outside = c.in-Err-moved_entry.ensures h }

pub loop-column-preserved : goal.loop-column-preserved
loop-column-preserved g c =
    let w = length c.args.first.now in
    let j = c.loop-column.column in
    let y = minus (plus c.args.first.now c.args.second.now) (combination w (opposite c.args.factors.now) c.args.sides.now) in
    let l : j < w = omega (arith, c.len-column-end.ensures) in
    let m : j < length y = omega (arith, l, length-moved w c.args.first.now c.args.second.now c.args.factors.now c.args.sides.now refl c.requires.second_width c.requires.wide) in
    record {
      reached = c.push_reserved.ensures.len ∙ ap (λ n. n + 1) c.loop-column.invariant.reached;
      room = c.push_reserved.ensures.capacity ∙ c.loop-column.invariant.room;
      entries = ap (map g.T.Scalar.integer) c.push_reserved.ensures.items ∙ pushed g.T.Scalar.integer c.loop-column.entries.items c.in-Ok-moved_entry.entry y j (pos 0) m c.loop-column.invariant.entries (c.in-Ok-moved_entry.ensures ∙ column_sum w c.args.first.now c.args.second.now c.args.factors.now c.args.sides.now j l refl c.requires.second_width c.requires.wide);
    }

pub returns : goal.returns
returns g c =
    let w = length c.args.first.now in
    let y = minus (plus c.args.first.now c.args.second.now) (combination w (opposite c.args.factors.now) c.args.sides.now) in
    c.from_vec.ensures ∙ c.loop-column.invariant.entries ∙ take_all c.loop-column.column y (omega (arith, c.len-column-end.ensures, c.loop-column-test.false, length-moved w c.args.first.now c.args.second.now c.args.factors.now c.args.sides.now refl c.requires.second_width c.requires.wide))
