use Rattle.std.proofs.Common.{◌<◌, length, map, ◌∙◌, arith}
use Rattle.std.proofs.lemmas.Int.{ints}
use Rattle.std.proofs.lemmas.List.{length-map}
use Rattle.nz_vec.proofs.SumsLemmas.{at_map}
use Rattle.nz_reducer.proofs.Places.{zip_from, zip_at}
use Rattle.nz_reducer.proofs.marks.is_under.Goals as goal

pub returns-then-not-is_at_most : goal.returns-then-not-is_at_most
returns-then-not-is_at_most g c = λ b.
    let xs = map g.T.Scalar.integer c.args.entry.now in
    let l : c.loop-column.column < length xs = omega (arith, length-map c.args.entry.now g.T.Scalar.integer, c.loop-column-test.true) in
    let k = zip_at xs c.args.values.now c.loop-column.column b in
    let e = at_map g.T.Scalar.integer c.args.entry.now c.loop-column.column c.index-entry-column.result c.loop-column-test.true c.index-entry-column.is in
    c.if-not-is_at_most.ensures (omega (arith, ints, k, e, c.at.ensures))

pub returns : goal.returns
returns g c =
    let xs = map g.T.Scalar.integer c.args.entry.now in
    zip_from xs c.args.values.now (length-map c.args.entry.now g.T.Scalar.integer ∙ c.requires) (λ k l. c.loop-column.invariant k (omega (arith, l, length-map c.args.entry.now g.T.Scalar.integer, c.loop-column-test.false)))
