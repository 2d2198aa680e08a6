use Rattle.nz_make.proofs.Points.{irreducible_of_point, point_of_irreducible}
use Rattle.nz_make.proofs.Listing.{points, points_counted, basis_counted}
use Rattle.nz_make.proofs.laws.irreducibles_are_points.Goals as goal

pub returns-clause-elements : goal.returns-clause-elements
returns-clause-elements c = λ n l x. (point_of_irreducible n l x, irreducible_of_point n l x)

pub returns-clause-numbers : goal.returns-clause-numbers
returns-clause-numbers c = λ n l. ((points n, points_counted n l), basis_counted n l)
