use Rattle.std.proofs.Common.{subst, List, Bool, length}
use Rattle.nz_rays.specs.Shared.{AreNumberedBoth}
use Rattle.nz_rays.proofs.SharedLemmas.{numbered_common}
use Rattle.nz_rays.proofs.sharing.shared_places.Goals as goal

pub returns-in-Ok-numbering_of : goal.returns-in-Ok-numbering_of
returns-in-Ok-numbering_of g c =
    let n = c.in-Ok-numbering_of.numbering in
    numbered_common c.args.values.now c.args.zeros.now c.in-Ok.places c.in-Ok-negative_places.places c.in-Ok-marks_of.marks.items c.in-Ok-marks_of-2.marks.items c.args.bound n.shared n.numbers.items c.in-Ok.ensures c.in-Ok-negative_places.ensures c.in-Ok-marks_of.ensures c.in-Ok-marks_of-2.ensures
    (subst (λ (us : List Bool). AreNumberedBoth us c.in-Ok-marks_of-2.marks.items (length us) n.shared n.numbers.items) c.as_slice.ensures.value (subst (λ (us : List Bool). AreNumberedBoth c.as_slice.result.now us (length c.as_slice.result.now) n.shared n.numbers.items) c.as_slice-2.ensures.value c.in-Ok-numbering_of.ensures))
