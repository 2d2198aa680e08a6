use Rattle.std.proofs.Common.{drop, arith}
use Rattle.nz_blocks.specs.AskedLines.{asked_line}
use Rattle.nz_blocks.specs.Readings.{IsReadable}
use Rattle.nz_blocks.proofs.RowReadings.{line_next, line_more, lines_last, one_longer}
use Rattle.nz_blocks.proofs.reading_asked.asked_lines_at.Goals as goal

pub returns-in-Err : goal.returns-in-Err
returns-in-Err c = λ level xs s held size e.
    let n = line_next (asked_line level) (IsReadable c.args.size level) (drop c.loop-index.place c.args.text.now) c.loop-index.list xs s (omega (arith, size, c.loop-index.invariant.many)) (c.loop-index.invariant.part level xs s held size e) in
    c.in-Err.ensures level n.item _ n.fits n.is

pub loop-index-preserved : goal.loop-index-preserved
loop-index-preserved c = record {
  many = one_longer c.loop-index.list c.push.new.self c.in-Ok.found.value c.loop-index._index c.in-Ok-push.ensures.ok c.loop-index.invariant.many;
  part = λ level xs s held size e.
      let n = line_next (asked_line level) (IsReadable c.args.size level) (drop c.loop-index.place c.args.text.now) c.loop-index.list xs s (omega (arith, size, c.loop-index.invariant.many)) (c.loop-index.invariant.part level xs s held size e) in
      let found = c.in-Ok.ensures level n.item _ n.fits n.is in
      line_more (asked_line level) (IsReadable c.args.size level) (drop c.loop-index.place c.args.text.now) c.loop-index.list xs c.push.new.self s n c.in-Ok.found.value (drop c.in-Ok.found.next c.args.text.now) found.0 c.in-Ok-push.ensures.ok found.1;
}

pub returns : goal.returns
returns c = λ level xs s held size e.
    (lines_last (asked_line level) (IsReadable c.args.size level) (drop c.loop-index.place c.args.text.now) c.loop-index.list xs s (omega (arith, size, c.loop-index.invariant.many)) (c.loop-index.invariant.part level xs s held size e)).0
