use Rattle.std.proofs.Common.{arith, drop}
use Rattle.nz_blocks.specs.Sections.{headings}
use Rattle.nz_blocks.proofs.RowReadings.{one_longer}
use Rattle.nz_blocks.proofs.SectionReadings.{section_next, section_more, sections_last, under}
use Rattle.nz_blocks.proofs.reading_sections.all_sections.Goals as goal

pub returns-in-Err : goal.returns-in-Err
returns-in-Err c = λ xs s held size bare e.
    let n = section_next (headings c.args.level) (drop c.loop-index.place c.args.text.now) c.loop-index.index c.loop-index.lists.items xs s (omega arith) (c.loop-index.invariant.part xs s held size bare e) in
    let u = under (headings c.args.level) (drop c.loop-index.place c.args.text.now) c.loop-index.index c.loop-index.lists.items xs s n c.heading_of.result.now (c.heading_of.ensures) in
    c.in-Err.ensures n.rows n.behind u.0 n.held u.1 u.2

pub loop-index-preserved : goal.loop-index-preserved
loop-index-preserved c = record {
  many = one_longer c.loop-index.lists.items c.push.new.self.items c.in-Ok.found.value c.loop-index.index c.in-Ok-push.ensures.items c.loop-index.invariant.many;
  part = λ xs s held size bare e.
      let n = section_next (headings c.args.level) (drop c.loop-index.place c.args.text.now) c.loop-index.index c.loop-index.lists.items xs s (omega arith) (c.loop-index.invariant.part xs s held size bare e) in
      let u = under (headings c.args.level) (drop c.loop-index.place c.args.text.now) c.loop-index.index c.loop-index.lists.items xs s n c.heading_of.result.now (c.heading_of.ensures) in
      let found = c.in-Ok.ensures n.rows n.behind u.0 n.held u.1 u.2 in
      section_more (headings c.args.level) (drop c.in-Ok.found.next c.args.text.now) c.loop-index.index c.loop-index.lists.items c.push.new.self.items xs s n.rows c.in-Ok.found.value n.behind n.next found.0 c.in-Ok-push.ensures.items found.1;
}

pub returns : goal.returns
returns c = λ xs s held size bare e.
    sections_last (headings c.args.level) (drop c.loop-index.place c.args.text.now) c.loop-index.index c.loop-index.lists.items xs s (omega (arith, size, c.loop-index.invariant.many)) (c.loop-index.invariant.part xs s held size bare e)
