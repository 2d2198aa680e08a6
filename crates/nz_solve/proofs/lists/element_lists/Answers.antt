use Rattle.std.proofs.Common.{Option, ap, subst}
use Rattle.nz_spec.specs.Vectors.{Vector}
use Rattle.nz_system.specs.Meaning.{SystemData}
use Rattle.nz_solve.specs.Parts.{ArePositive, IsDegreeRefusal, IsLevelCause, AreSorted}
use Rattle.nz_solve.proofs.ListLemmas.{entries_there, irreducible_wide, graded_at, reckon_outcome, zero_wide, one_wide, lists_are, degrees_refused, sorting_refused}
use Rattle.nz_solve.proofs.lists.element_lists.Goals as goal

pub by_level-requires : goal.by_level-requires
by_level-requires g c = λ t. entries_there c.args.system.now.system c.kept.ensures.system c.args.list (irreducible_wide c.args.system.now.system c.args.list c.requires.list)

pub check_degrees-requires : goal.check_degrees-requires
check_degrees-requires g c = graded_at c.args.system.now.system c.kept.ensures.system c.system.inside.grading (ap (λ (d : SystemData). d.system.grading) c.system.view_is) _ (zero_wide c.args.system.now.system c.kept.ensures.system c.args.list c.in-Ok.levels.zero c.in-Ok.levels.one c.requires.list c.system.inside.level (ap (λ (d : SystemData). d.system.level) c.system.view_is) c.in-Ok.ensures)

pub returns-in-Err-check_degrees : goal.returns-in-Err-check_degrees
returns-in-Err-check_degrees g c = degrees_refused c.args.system.now.system c.kept.ensures.system c.args.list c.in-Ok.levels.zero c.in-Ok.levels.one c.requires.list c.system.inside.level (ap (λ (d : SystemData). d.system.level) c.system.view_is) c.in-Ok.ensures g.T.Scalar.HALF g.T.Scalar.fits g.met.T.Scalar.room c.requires.positive c.in-Err-check_degrees.refusal (subst (λ (o : Option Vector). IsDegreeRefusal g.T.Scalar.fits o c.in-Ok.levels.zero c.in-Err-check_degrees.refusal) (ap (λ (d : SystemData). d.system.grading) c.system.view_is) c.in-Err-check_degrees.ensures)

pub sort_levels-requires-clause-zero : goal.sort_levels-requires-clause-zero
sort_levels-requires-clause-zero g c = graded_at c.args.system.now.system c.kept.ensures.system c.system.inside.grading (ap (λ (d : SystemData). d.system.grading) c.system.view_is) _ (zero_wide c.args.system.now.system c.kept.ensures.system c.args.list c.in-Ok.levels.zero c.in-Ok.levels.one c.requires.list c.system.inside.level (ap (λ (d : SystemData). d.system.level) c.system.view_is) c.in-Ok.ensures)

pub sort_levels-requires-clause-one : goal.sort_levels-requires-clause-one
sort_levels-requires-clause-one g c = λ t. graded_at c.args.system.now.system c.kept.ensures.system c.system.inside.grading (ap (λ (d : SystemData). d.system.grading) c.system.view_is) _ (one_wide c.args.system.now.system c.kept.ensures.system c.args.list c.in-Ok.levels.zero c.in-Ok.levels.one c.requires.list c.system.inside.level (ap (λ (d : SystemData). d.system.level) c.system.view_is) c.in-Ok.ensures t)

pub returns-in-Ok-sort_levels : goal.returns-in-Ok-sort_levels
returns-in-Ok-sort_levels g c = lists_are c.args.system.now.system c.kept.ensures.system c.args.list c.in-Ok.levels.zero c.in-Ok.levels.one c.requires.list c.system.inside.level (ap (λ (d : SystemData). d.system.level) c.system.view_is) c.in-Ok.ensures c.in-Ok-sort_levels.lists.hilbert c.in-Ok-sort_levels.lists.modules
    (subst (λ (o : Option Vector). ArePositive o c.in-Ok.levels.zero) (ap (λ (d : SystemData). d.system.grading) c.system.view_is) c.in-Ok-check_degrees.ensures)
    (subst (λ (o : Option Vector). AreSorted c.system.inside.level o c.in-Ok.levels.zero c.in-Ok.levels.one c.in-Ok-sort_levels.lists.hilbert c.in-Ok-sort_levels.lists.modules) (ap (λ (d : SystemData). d.system.grading) c.system.view_is) c.in-Ok-sort_levels.ensures.sorted)

pub returns-in-Err-sort_levels : goal.returns-in-Err-sort_levels
returns-in-Err-sort_levels g c = reckon_outcome g.T.Scalar.HALF c.args.system.now.system c.in-Err-sort_levels.refusal c.unreckoned.result
    (λ e. sorting_refused c.args.system.now.system c.kept.ensures.system c.args.list c.in-Ok.levels.zero c.in-Ok.levels.one c.requires.list c.system.inside.level (ap (λ (d : SystemData). d.system.level) c.system.view_is) c.in-Ok.ensures g.T.Scalar.HALF g.T.Scalar.fits g.met.T.Scalar.room c.requires.positive (subst (λ (o : Option Vector). IsLevelCause g.T.Scalar.fits c.system.inside.level o c.in-Ok.levels.zero c.in-Ok.levels.one) (ap (λ (d : SystemData). d.system.grading) c.system.view_is) (c.in-Err-sort_levels.ensures.cause e)))
    c.unreckoned.ensures
