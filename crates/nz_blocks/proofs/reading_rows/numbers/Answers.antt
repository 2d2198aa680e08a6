use Rattle.std.proofs.Common.{◌∙◌, sym, drop, map-id, subst}
use Rattle.nz_spec.specs.Vectors.{Vector}
use Rattle.nz_blocks.proofs.Readings.{reads_is}
use Rattle.std.specs.Int.{w128}
use mir.Val.{to_z, of_z}
use Rattle.nz_blocks.proofs.RowReadings.{IsPart, part_start, part_next, next_bare, part_more, part_last}
use Rattle.nz_blocks.proofs.reading_rows.numbers.Goals as goal

pub entries-init : goal.entries-init
entries-init c = λ width r s held shut e.
    let start = part_start (drop c.args.from c.args.text.now) (drop c.behind_spaces-place.result c.args.text.now) width r s held e c.behind_spaces-place.ensures.rest in
    subst (λ (items : Vector). IsPart (drop c.behind_spaces-place.result c.args.text.now) width items r s) (sym c.new-entries.ensures.items) start

pub returns-in-None : goal.returns-in-None
returns-in-None c = λ width r s held shut e.
    let here = drop c.entries.place c.args.text.now in
    let n = part_next here width c.entries.entries.items r s shut (c.entries.invariant width r s held shut e) c.entries-test.ensures in
    absurd (c.in-None.ensures.whole n.number _ n.fits (next_bare here width c.entries.entries.items r s shut n) n.is)

pub entries-preserved : goal.entries-preserved
entries-preserved c = λ width r s held shut e.
    let here = drop c.entries.place c.args.text.now in
    let n = part_next here width c.entries.entries.items r s shut (c.entries.invariant width r s held shut e) c.entries-test.ensures in
    let found = c.in-Some.ensures.whole n.number _ n.fits (next_bare here width c.entries.entries.items r s shut n) n.is in
    part_more here width c.entries.entries.items r c.push.new.self.items s n (to_z w128 (of_z w128 c.in-Some.entry.value)) _ _ (reads_is c.in-Some.entry.value n.number n.fits found.0) found.1 c.in-Ok.ensures.items c.behind_spaces-place-in-entries.ensures.rest

pub returns : goal.returns
returns c = λ width r s held shut e.
    let last = part_last (drop c.entries.place c.args.text.now) width c.entries.entries.items r s (c.entries.invariant width r s held shut e) c.entries-test.ensures in
    (c.from_vec.ensures ∙ map-id c.entries.entries.items ∙ last.0, last.1)
