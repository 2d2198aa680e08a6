use Rattle.nz_linear.proofs.DualGroups.{group_by_forms}
use Rattle.nz_linear.proofs.SimplexCones.{cone_by_forms, inside_by_forms, apart_by_form}
use Rattle.nz_linear.proofs.simplices_go_by_their_forms.Goals as goal

pub returns-clause-group : goal.returns-clause-group
returns-clause-group c = group_by_forms

pub returns-clause-cone : goal.returns-clause-cone
returns-clause-cone c = cone_by_forms

pub returns-clause-inside : goal.returns-clause-inside
returns-clause-inside c = inside_by_forms

pub returns-clause-apart : goal.returns-clause-apart
returns-clause-apart c = apart_by_form
