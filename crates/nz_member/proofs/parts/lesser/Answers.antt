use Rattle.std.proofs.Common.{refl, sym}
use mathlib.Core.Bool.{true≢false}
use Rattle.nz_member.specs.Amounts.{stays, bounded}
use Rattle.nz_scalar.specs.Division.{IsFloorQuotient}
use Rattle.nz_vec.proofs.DivisorLemmas.{such_of_some}
use Rattle.nz_member.proofs.parts.lesser.Goals as goal

pub returns-then-is_positive : goal.returns-then-is_positive
returns-then-is_positive g c =
    let int = g.T.Scalar.integer in
    let floor = such_of_some int g.T.Scalar.fits c.floor_div.result c.unwrap.result (IsFloorQuotient (int c.args.value) (int c.args.height)) c.unwrap.ensures c.floor_div.ensures.value in
    bounded (int c.unwrap.result) c.least_of.result (c.if-is_positive.ensures.0 refl) floor c.least_of.ensures

pub returns-else-is_positive : goal.returns-else-is_positive
returns-else-is_positive g c = stays (λ p. true≢false (sym (c.if-is_positive.ensures.1 p)))
