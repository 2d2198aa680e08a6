use Rattle.nz_linear.proofs.Echelon.{start_columns, pivot_columns_at}
use Rattle.nz_linear.proofs.KeyColumns.{columns_are_other, equations_of_left}
use Rattle.nz_linear.proofs.DualForms.{dual_form_unique, dual_forms_of_chosen}
use Rattle.nz_linear.proofs.DescribedCone.{equations_exist}
use Rattle.nz_linear.proofs.normal_forms_come_from_elimination.Goals as goal

pub returns-clause-columns : goal.returns-clause-columns
returns-clause-columns c = columns_are_other

pub returns-clause-equations : goal.returns-clause-equations
returns-clause-equations c = equations_of_left

pub returns-clause-exist : goal.returns-clause-exist
returns-clause-exist c = λ w G l. let e = equations_exist w G l in (e.equations, e.are)

pub returns-clause-dual : goal.returns-clause-dual
returns-clause-dual c = dual_forms_of_chosen

pub returns-clause-unique : goal.returns-clause-unique
returns-clause-unique c = dual_form_unique

pub returns-clause-start : goal.returns-clause-start
returns-clause-start c = start_columns

pub returns-clause-pivot : goal.returns-clause-pivot
returns-clause-pivot c = pivot_columns_at
