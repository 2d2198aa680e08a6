use Rattle.std.proofs.Common.{◌<◌, length, arith, below_more}
use Rattle.std.proofs.lemmas.Int.{ints}
use Rattle.nz_reducer.proofs.Places.{zip_from, zip_at}
use Rattle.nz_reducer.proofs.list_table.is_below.Goals as goal

pub returns-then-is_above : goal.returns-then-is_above
returns-then-is_above g c = λ b.
    let l : c.loop-column.column < length c.args.low.now = omega (arith, c.len-column-end.ensures) in
    let k = zip_at c.args.low.now c.args.high.now c.loop-column.column b in
    c.if-is_above.ensures (omega (arith, ints, k, c.at.ensures, c.at-in-loop-column.ensures))

pub loop-column-preserved : goal.loop-column-preserved
loop-column-preserved g c = below_more _ _ c.loop-column.invariant (omega (arith, ints, c.if-is_above.ensures, c.at.ensures, c.at-in-loop-column.ensures))

pub returns : goal.returns
returns g c = zip_from c.args.low.now c.args.high.now c.requires (λ k l. c.loop-column.invariant k (omega (arith, c.len-column-end.ensures)))
