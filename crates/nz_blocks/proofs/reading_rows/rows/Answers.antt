use Rattle.std.proofs.Common.{drop, arith}
use Rattle.nz_blocks.specs.Held.{IsHeldRow}
use Rattle.nz_blocks.specs.Output.{row_text}
use Rattle.nz_blocks.proofs.RowReadings.{line_next, line_more, lines_last, one_longer}
use Rattle.nz_blocks.proofs.reading_rows.rows.Goals as goal

pub returns-in-Err : goal.returns-in-Err
returns-in-Err c = λ all xs s held size e.
    let n = line_next (row_text all) IsHeldRow (drop c.loop-index.place c.args.text.now) c.loop-index.rows xs s (omega (arith, size, c.loop-index.invariant.many)) (c.loop-index.invariant.part all xs s held size e) in
    c.in-Err.ensures all n.item _ n.fits n.is

pub loop-index-preserved : goal.loop-index-preserved
loop-index-preserved c = record {
  many = one_longer c.loop-index.rows c.push.new.self c.in-Ok.found.value c.loop-index._index c.in-Ok-push.ensures.ok c.loop-index.invariant.many;
  part = λ all xs s held size e.
      let n = line_next (row_text all) IsHeldRow (drop c.loop-index.place c.args.text.now) c.loop-index.rows xs s (omega (arith, size, c.loop-index.invariant.many)) (c.loop-index.invariant.part all xs s held size e) in
      let found = c.in-Ok.ensures all n.item _ n.fits n.is in
      line_more (row_text all) IsHeldRow (drop c.loop-index.place c.args.text.now) c.loop-index.rows xs c.push.new.self s n c.in-Ok.found.value (drop c.in-Ok.found.next c.args.text.now) found.0 c.in-Ok-push.ensures.ok found.1;
}

pub returns : goal.returns
returns c = λ all xs s held size e.
    lines_last (row_text all) IsHeldRow (drop c.loop-index.place c.args.text.now) c.loop-index.rows xs s (omega (arith, size, c.loop-index.invariant.many)) (c.loop-index.invariant.part all xs s held size e)
