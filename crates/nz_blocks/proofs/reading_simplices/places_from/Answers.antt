use Rattle.std.proofs.Common.{◌+◌, ◌<◌, ◌∙◌, ℕ, pos, get_or, arith, rules}
use Rattle.std.proofs.Math.Facts.{to_z-of_z}
use Rattle.std.specs.Int.{w128}
use Rattle.nz_spec.proofs.ListLaws.{each_at}
use mir.Val.{SFits, to_z, of_z}
use Rattle.nz_blocks.proofs.Readings.{none_some, some_same}
use Rattle.nz_blocks.proofs.ShapeReadings.{each_push, image_at, taken_more, all_taken}
use Rattle.nz_blocks.proofs.reading_simplices.places_from.Goals as goal

pub returns-in-None-clause-whole : goal.returns-in-None-clause-whole
returns-in-None-clause-whole c = λ places below is.
    let fits : SFits w128 c.at.result = search rules in
    let there = image_at (λ (p : ℕ). pos (p + 1)) places c.args.row.now c.loop-index.index 0 (pos 0) (to_z w128 (of_z w128 c.at.result)) (omega arith) is (to_z-of_z {w = w128} {z = c.at.result} fits ∙ c.at.ensures) in
    absurd (none_some _ (c.in-None.ensures.whole (get_or places c.loop-index.index 0) (each_at (λ p. p < c.args.count) places c.loop-index.index 0 below there.0) there.1))

pub loop-index-preserved : goal.loop-index-preserved
loop-index-preserved c = record {
  below = each_push (λ p. p < c.args.count) c.loop-index.places c.push.new.self c.in-Some.place c.loop-index.invariant.below c.in-Some.ensures.below c.in-Ok.ensures.ok;
  part = λ places below is.
      let fits : SFits w128 c.at.result = search rules in
      let there = image_at (λ (p : ℕ). pos (p + 1)) places c.args.row.now c.loop-index.index 0 (pos 0) (to_z w128 (of_z w128 c.at.result)) (omega arith) is (to_z-of_z {w = w128} {z = c.at.result} fits ∙ c.at.ensures) in
      let found = some_same _ _ (c.in-Some.ensures.whole (get_or places c.loop-index.index 0) (each_at (λ p. p < c.args.count) places c.loop-index.index 0 below there.0) there.1) in
      taken_more c.loop-index.places c.push.new.self places c.loop-index.index 0 c.in-Some.place there.0 (c.loop-index.invariant.part places below is) found c.in-Ok.ensures.ok;
}

pub returns : goal.returns
returns c = record {
  whole = λ places below is. all_taken (λ (p : ℕ). pos (p + 1)) c.loop-index.places places c.args.row.now c.loop-index.index (omega arith) is (c.loop-index.invariant.part places below is);
  below = c.loop-index.invariant.below;
}
