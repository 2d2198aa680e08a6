use Rattle.std.proofs.Common.{length, map}
use Rattle.nz_spec.specs.Sums.{IsInGroup}
use Rattle.nz_spec.specs.Stages.{IsInStage}
use Rattle.nz_linear.specs.Cones.{IsInRows}
use Rattle.nz_linear.specs.Coordinates.{in_coordinates}
use Rattle.nz_linear.proofs.Coordinates.{stage_coordinates, irreducible_forth, irreducible_back, extreme_forth, extreme_back, line_forth, line_back}
use Rattle.nz_linear.proofs.SystemRays.{system_extreme}
use Rattle.nz_linear.proofs.coordinates_keep_elements.Goals as goal

pub returns-clause-irreducible : goal.returns-clause-irreducible
returns-clause-irreducible c = λ w base rows x l free n.
    let k = stage_coordinates w base rows l free in
    let M = IsInStage (IsInGroup w base) rows in
    let C = IsInRows (length base) (map (λ r. in_coordinates base r) rows) in
    ((λ i. irreducible_back w base M C k x n i), (λ i. irreducible_forth w base M C k x i))

pub returns-clause-extreme : goal.returns-clause-extreme
returns-clause-extreme c = λ w base rows x l free n.
    let k = stage_coordinates w base rows l free in
    let M = IsInStage (IsInGroup w base) rows in
    let C = IsInRows (length base) (map (λ r. in_coordinates base r) rows) in
    ((λ i. extreme_back w base M C k x n i), (λ i. extreme_forth w base M C k x i))

pub returns-clause-lines : goal.returns-clause-lines
returns-clause-lines c = λ w base rows x l free n.
    let k = stage_coordinates w base rows l free in
    let M = IsInStage (IsInGroup w base) rows in
    let C = IsInRows (length base) (map (λ r. in_coordinates base r) rows) in
    ((λ i. line_back w base M C k x n i), (λ i. line_forth w base M C k x i))

pub returns-clause-system : goal.returns-clause-system
returns-clause-system c = system_extreme
