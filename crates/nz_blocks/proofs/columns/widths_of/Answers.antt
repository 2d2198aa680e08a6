use Rattle.std.proofs.Common.{◌≡◌, ◌<◌, ℕ, List, [], length, map, drop, get_or, arith, ap, ◌∙◌}
use Rattle.std.specs.Fmt.{signed_decimal}
use Rattle.nz_spec.specs.Vectors.{Vector}
use Rattle.nz_blocks.proofs.Laying.{column_width_more, take_front}
use Rattle.nz_blocks.proofs.columns.widths_of.Goals as goal

pub loop-place-preserved : goal.loop-place-preserved
loop-place-preserved c = λ j.
    let l : c.loop-place.place < length c.args.rows.now = omega (arith, c.len-place-end.ensures) in
    let size : c.grow.new.widths.len ≡ length c.raise_to_row.new.widths = omega (arith, ap length c.as_mut_slice.ensures.value, c.raise_to_row.auto.widths, c.grow.new.widths.ok.0) in
    let back = ap (λ (ws : List ℕ). get_or ws j 0) (take_front c.grow.new.widths.len c.raise_to_row.new.widths (drop (length c.raise_to_row.new.widths) c.grow.new.widths.items) size) in
    let now = c.raise_to_row.ensures j in
    let grown = ap (λ (ws : List ℕ). get_or ws j 0) c.as_mut_slice.ensures.value ∙ c.in_ok-grow.ensures.same j in
    let row = ap (λ (r : Vector). length (get_or (map signed_decimal r) j [])) c.at-row.ensures in
    let more = column_width_more c.args.rows.now c.loop-place.place j l in
    let before = c.loop-place.invariant j in
    omega (arith, back, now, grown, row, more, before)
