use Rattle.std.proofs.Common.{List, map, length, pos, ◌≤ℤ◌, sym, subst}
use Rattle.std.specs.List.{AllByRecursion as Each}
use Rattle.nz_member.specs.Amounts.{rows_of}
use Rattle.nz_member.proofs.AmountSteps.{amounts_of, can_lessen_slices, amounts_left_slices}
use Rattle.nz_member.proofs.taking.take_element.Goals as goal

pub times-count-requires-clause-heights : goal.times-count-requires-clause-heights
times-count-requires-clause-heights g c =
    let int = g.T.Scalar.integer in
    let a = amounts_of g.T.Scalar.fits c.args.constraints.now c.args.element.now (map int c.in-Ok.heights.items) c.requires.element.met c.in-Ok.ensures in
    subst (λ (us : List _). Each (λ h. pos 0 ≤ℤ h) (map int us)) (sym c.as_slice.ensures.value) a.not_negative

pub lessened-requires : goal.lessened-requires
lessened-requires g c =
    let int = g.T.Scalar.integer in
    let a = amounts_of g.T.Scalar.fits c.args.constraints.now c.args.element.now (map int c.in-Ok.heights.items) c.requires.element.met c.in-Ok.ensures in
    can_lessen_slices int _ g.T.Scalar.fits g.met.T.Scalar.room (length (rows_of c.args.constraints.now)) c.in-Ok.heights.items c.args.values.now.items a c.requires.amounts
    c.as_slice.result.now c.as_slice-2.result.now c.as_slice-4.result.now c.as_slice-3.result.now (int c.times-count.result)
    c.as_slice.ensures.value c.as_slice-2.ensures.value c.as_slice-4.ensures.value c.as_slice-3.ensures.value c.times-count.ensures

pub returns-in-Ok-lessened-clause-amounts : goal.returns-in-Ok-lessened-clause-amounts
returns-in-Ok-lessened-clause-amounts g c =
    let int = g.T.Scalar.integer in
    let a = amounts_of g.T.Scalar.fits c.args.constraints.now c.args.element.now (map int c.in-Ok.heights.items) c.requires.element.met c.in-Ok.ensures in
    amounts_left_slices int _ g.T.Scalar.fits g.met.T.Scalar.room (length (rows_of c.args.constraints.now)) c.in-Ok.heights.items c.args.values.now.items a c.requires.amounts
    c.as_slice.result.now c.as_slice-2.result.now c.as_slice-4.result.now c.as_slice-3.result.now (int c.times-count.result) (map int c.in-Ok-lessened.rest.items)
    c.as_slice.ensures.value c.as_slice-2.ensures.value c.as_slice-4.ensures.value c.as_slice-3.ensures.value c.times-count.ensures c.in-Ok-lessened.ensures
