use Rattle.nz_scalar.specs.Division.{IsFloorQuotient}
use Rattle.nz_vec.proofs.DivisorLemmas.{such_of_some}
use Rattle.nz_member.proofs.Multiples.{multiple_or_not, no_multiple}
use Rattle.nz_member.proofs.meeting.is_multiple.Goals as goal

pub returns-in-Some : goal.returns-in-Some
returns-in-Some g c =
    let int = g.T.Scalar.integer in
    let m = int c.args.modulus in
    let floor = such_of_some int g.T.Scalar.fits c.floor_div.result c.unwrap-quotient.result (IsFloorQuotient (int c.args.value) m) c.unwrap-quotient.ensures c.floor_div.ensures.value in
    multiple_or_not (int c.args.value) m (int c.unwrap-quotient.result) (int c.in-Some.product) c.is_same.result c.requires.least floor c.in-Some.ensures.1 c.is_same.ensures

pub returns-in-None : goal.returns-in-None
returns-in-None g c =
    let int = g.T.Scalar.integer in
    let m = int c.args.modulus in
    let floor = such_of_some int g.T.Scalar.fits c.floor_div.result c.unwrap-quotient.result (IsFloorQuotient (int c.args.value) m) c.unwrap-quotient.ensures c.floor_div.ensures.value in
    no_multiple g.T.Scalar.fits (int c.args.value) m (int c.unwrap-quotient.result) c.requires.least floor c.requires.value c.in-None.ensures
