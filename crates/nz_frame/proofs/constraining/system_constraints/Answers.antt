use Rattle.std.proofs.Common.{◌≡◌, ◌++◌, ◌∙◌, List, map, ap, subst}
use Rattle.nz_spec.specs.Constraints.{Constraint, Zero, NotNegative, constraint_of}
use Rattle.nz_vec.specs.declared.answers.Num.TheVariants.{Range}
use Rattle.nz_measures.specs.Reaches.{HasOwnAbove}
use Rattle.nz_system.specs.Meaning.{SystemData}
use Rattle.nz_frame.specs.Constraining.{AreAllConstraints, AreWithGiven, IsLatticeTooLarge}
use Rattle.nz_frame.proofs.LatticeLemmas.{ok_map}
use Rattle.nz_frame.proofs.CutLemmas.{err_map}
use Rattle.nz_frame.proofs.SystemConstraints.{congruences_listed, together, lattice_above}
use Rattle.nz_frame.proofs.constraining.system_constraints.Goals as goal

pub returns-clause-all : goal.returns-clause-all
returns-clause-all g c =
    let s = c.args.system.now.system in
    let equations = c.in-Ok.faces.equations in
    let rows = c.in-Ok.faces.rows in
    let own = c.in-Ok-own_constraints.own in
    let o = c.in-Ok-own_constraints.ensures ∙ ap (λ (cs : List Constraint). map Zero equations ++ cs ++ map NotNegative rows) (congruences_listed c.system.inside.cg ∙ ap (λ (d : SystemData). map constraint_of d.system.cg) c.system.view_is) in
    ok_map (AreWithGiven c.system.inside.width c.system.inside.lat own) (AreAllConstraints s)
    (λ all a. together s equations rows own all c.in-Ok.ensures.found.0 c.in-Ok.ensures.found.1 o (subst (λ (d : SystemData). AreWithGiven d.system.width d.system.lat own all) c.system.view_is a))
    c.append_given.result c.append_given.ensures.all

pub returns-clause-cause : goal.returns-clause-cause
returns-clause-cause g c =
    let s = c.args.system.now.system in
    err_map (λ e. e ≡ Range → IsLatticeTooLarge g.T.Scalar.HALF c.system.inside.width c.system.inside.lat) (λ e. e ≡ Range → HasOwnAbove s g.T.Scalar.HALF)
    (λ r f e. lattice_above g.T.Scalar.HALF s c.kept.ensures.system (subst (λ (d : SystemData). IsLatticeTooLarge g.T.Scalar.HALF d.system.width d.system.lat) c.system.view_is (f e)))
    c.append_given.result c.append_given.ensures.cause
