use Rattle.std.specs.Prelude.{option_map}
use Rattle.nz_spec.specs.Sums.{IsInCone}
use Rattle.nz_facets.specs.Members.{IsInGiven}
use Rattle.nz_facets.proofs.ConeLemmas.{members_both, both_fit}
use Rattle.nz_facets.proofs.constraining.constraints_of.Goals as goal

pub returns-in-Ok-append_constraints-clause-members : goal.returns-in-Ok-append_constraints-clause-members
returns-in-Ok-append_constraints-clause-members g c =
    members_both c.args.width (IsInCone c.args.width c.args.gens.now) (IsInGiven c.args.width (option_map (λ b. b.now.vectors) c.args.lattice)) c.in-Ok.cone c.in-Ok-of_lattice.given c.in-Ok-append_constraints.all
    c.in-Ok.ensures.members c.in-Ok-of_lattice.ensures.members c.in-Ok-append_constraints.ensures

pub returns-in-Ok-append_constraints-clause-shape : goal.returns-in-Ok-append_constraints-clause-shape
returns-in-Ok-append_constraints-clause-shape g c =
    both_fit c.args.width (option_map (λ b. b.now.vectors) c.args.lattice) c.in-Ok.cone c.in-Ok-of_lattice.given c.in-Ok-append_constraints.all
    c.in-Ok.ensures.shape c.in-Ok-of_lattice.ensures.constraints c.in-Ok-append_constraints.ensures
