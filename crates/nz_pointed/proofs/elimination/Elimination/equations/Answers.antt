use Rattle.std.proofs.Common.{List, sym, subst}
use Rattle.std.specs.List.{AllByRecursion as Each, AllZip}
use Rattle.nz_spec.specs.Vectors.{Vector, IsNonzero}
use Rattle.nz_linear.specs.Echelon.{EndsAt}
use Rattle.nz_pointed.proofs.ColumnLemmas.{equations_held}
use Rattle.nz_pointed.proofs.elimination.Elimination.equations.Goals as goal

pub columns_of-requires : goal.columns_of-requires
columns_of-requires g c = subst (Each IsNonzero) (sym c.as_slice.ensures.value) c.requires

pub returns-in-Ok-rows_of : goal.returns-in-Ok-rows_of
returns-in-Ok-rows_of g c = λ w rows l e. equations_held w rows c.args.self.places c.in-Ok.columns c.args.self.chosen.items c.args.self.left.items c.in-Ok-rows_of.forms l e
    (subst (λ (xs : List Vector). AllZip (λ x k. EndsAt k x) xs c.in-Ok.columns) c.as_slice.ensures.value c.in-Ok.ensures) c.in-Ok-rows_of.ensures
