use Rattle.std.proofs.Common.{◌++◌, ◌∙◌, codes, sym, ap}
use Rattle.nz_vec.specs.Texts.{Text}
use Rattle.nz_spec.specs.Constraints.{Zero}
use Rattle.nz_blocks.proofs.RowReadings.{behind_same}
use Rattle.nz_blocks.proofs.OutsideReadings.{zero_of}
use Rattle.nz_blocks.proofs.reading_outside.equal_at.Goals as goal

pub returns-in-Some-behind : goal.returns-in-Some-behind
returns-in-Some-behind c = λ k s held form q e.
    let z = zero_of _ c.as_slice.result.now k s q c.as_slice.ensures e c.in-None.ensures in
    (ap Zero form ∙ z.0, behind_same _ c.as_slice-in-None.result.now _ (codes " gives " ++ s) c.in-Some-behind.ensures (z.1 ∙ ap (λ (t : Text). t ++ (codes " gives " ++ s)) (sym c.as_slice-in-None.ensures)))

pub returns-in-None-behind : goal.returns-in-None-behind
returns-in-None-behind c = λ k s held form q e.
    let z = zero_of _ c.as_slice.result.now k s q c.as_slice.ensures e c.in-None.ensures in
    c.in-None-behind.ensures (codes " gives " ++ s) (z.1 ∙ ap (λ (t : Text). t ++ (codes " gives " ++ s)) (sym c.as_slice-in-None.ensures))
