use Rattle.nz_facets.proofs.ConeLemmas.{cone_listed, cone_fits}
use Rattle.nz_facets.proofs.SupportLemmas.{members_of}
use Rattle.nz_facets.proofs.constraining.cone_constraints.Goals as goal

pub returns-in-Ok-append_inequalities-clause-members : goal.returns-in-Ok-append_inequalities-clause-members
returns-in-Ok-append_inequalities-clause-members g c =
    members_of c.args.width c.args.gens.now c.in-Ok.description.support c.in-Ok.description.equations c.new.result c.in-Ok-append_equations.zeros c.in-Ok-append_inequalities.all
    c.new.ensures c.in-Ok-append_equations.ensures c.in-Ok-append_inequalities.ensures c.in-Ok.ensures.1

pub returns-in-Ok-append_inequalities-clause-shape : goal.returns-in-Ok-append_inequalities-clause-shape
returns-in-Ok-append_inequalities-clause-shape g c =
    cone_fits c.args.width c.args.gens.now c.in-Ok-append_inequalities.all
    (cone_listed c.args.width c.args.gens.now c.in-Ok.description.support c.in-Ok.description.equations c.new.result c.in-Ok-append_equations.zeros c.in-Ok-append_inequalities.all
    c.in-Ok.ensures.0 c.new.ensures c.in-Ok-append_equations.ensures c.in-Ok-append_inequalities.ensures)
