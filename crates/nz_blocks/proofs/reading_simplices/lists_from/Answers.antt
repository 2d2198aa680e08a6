use Rattle.std.proofs.Common.{◌<◌, [], get_or, arith}
use Rattle.std.specs.List.{AllByRecursion as Each}
use Rattle.nz_spec.proofs.ListLaws.{each_at}
use Rattle.nz_blocks.specs.Output.{from_one}
use Rattle.nz_blocks.proofs.ShapeReadings.{each_push, image_at, taken_more, all_taken}
use Rattle.nz_blocks.proofs.reading_simplices.lists_from.Goals as goal

pub returns-in-Err-clause-whole : goal.returns-in-Err-clause-whole
returns-in-Err-clause-whole c = λ lists below is.
    let there = image_at from_one lists c.args.rows.now c.loop-index.index [] [] c.at.result.now (omega arith) is c.at.ensures in
    c.in-Err.ensures.whole (get_or lists c.loop-index.index []) (each_at (Each (λ p. p < c.args.count)) lists c.loop-index.index [] below there.0) there.1

pub loop-index-preserved : goal.loop-index-preserved
loop-index-preserved c = record {
  below = each_push (Each (λ p. p < c.args.count)) c.loop-index.lists c.push.new.self c.in-Ok.places c.loop-index.invariant.below c.in-Ok.ensures.below c.in-Ok-push.ensures.ok;
  part = λ lists below is.
      let there = image_at from_one lists c.args.rows.now c.loop-index.index [] [] c.at.result.now (omega arith) is c.at.ensures in
      let found = c.in-Ok.ensures.whole (get_or lists c.loop-index.index []) (each_at (Each (λ p. p < c.args.count)) lists c.loop-index.index [] below there.0) there.1 in
      taken_more c.loop-index.lists c.push.new.self lists c.loop-index.index [] c.in-Ok.places there.0 (c.loop-index.invariant.part lists below is) found c.in-Ok-push.ensures.ok;
}

pub returns : goal.returns
returns c = record {
  whole = λ lists below is. all_taken from_one c.loop-index.lists lists c.args.rows.now c.loop-index.index (omega arith) is (c.loop-index.invariant.part lists below is);
  below = c.loop-index.invariant.below;
}
