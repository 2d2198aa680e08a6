use Rattle.std.proofs.Common.{ℕ, Bool, List, sym, subst, ◌∙◌, ap}
use Rattle.nz_spec.specs.Vectors.{Vector}
use Rattle.nz_spec.specs.Forms.{IsDescription}
use Rattle.nz_system.specs.Meaning.{SystemData, there}
use Rattle.nz_solve.specs.Replies.{AreWhere}
use Rattle.nz_solve.specs.Parts.{AreDivided, AreParted, amb_at, kept_where}
use Rattle.nz_solve.proofs.ListLemmas.{reckon_outcome}
use Rattle.nz_solve.proofs.OutcomeLemmas.{extreme_wide, hilbert_wide, shown_refused, lists_same, elements_same, solution_of, outcome_kept}
use Rattle.nz_solve.proofs.outcomes.outcome.Goals as goal

pub wide_shown-requires-clause-extreme : goal.wide_shown-requires-clause-extreme
wide_shown-requires-clause-extreme g c = extreme_wide c.args.system.now c.args.elements.list c.args.elements.extreme c.args.elements.simplices c.requires

pub wide_shown-requires-clause-hilbert : goal.wide_shown-requires-clause-hilbert
wide_shown-requires-clause-hilbert g c = hilbert_wide c.args.system.now.system c.in-Ok.lists.hilbert c.in-Ok.ensures.basis

pub answer_asked-requires-clause-lists : goal.answer_asked-requires-clause-lists
answer_asked-requires-clause-lists g c = lists_same c.args.system.now.system c.in-Ok.lists.hilbert c.in-Ok-widen_lists.wide.0.hilbert c.in-Ok.lists.modules c.in-Ok-widen_lists.wide.0.modules c.in-Ok-widen_lists.ensures.hilbert c.in-Ok-widen_lists.ensures.modules c.in-Ok.ensures

pub returns-in-Err-answer_asked : goal.returns-in-Err-answer_asked
returns-in-Err-answer_asked g c = reckon_outcome g.T.Scalar.HALF c.args.system.now.system c.in-Err-answer_asked.refusal c.unreckoned-in-Err-answer_asked.result (λ e. c.in-Err-answer_asked.ensures.cause e) c.unreckoned-in-Err-answer_asked.ensures

pub returns-in-Err-wide_shown : goal.returns-in-Err-wide_shown
returns-in-Err-wide_shown g c = reckon_outcome g.T.Scalar.HALF c.args.system.now.system c.in-Err-wide_shown.refusal c.unreckoned.result (λ e. shown_refused g.T.Scalar.HALF g.T.Scalar.fits g.met.T.Scalar.room c.args.system.now c.args.elements.list c.args.elements.extreme c.args.elements.simplices c.requires c.in-Ok.lists.hilbert c.in-Ok.ensures.basis (c.in-Err-wide_shown.ensures.cause e)) c.unreckoned.ensures

pub invariant_of-result : goal.invariant_of-result
invariant_of-result g c = outcome_kept c.args.system.now c.kept.ensures c.args.elements.list c.in-Ok-widen_lists.wide.1 c.args.elements.simplices (elements_same c.args.system.now c.args.elements.list c.args.elements.extreme c.in-Ok-widen_lists.wide.1 c.args.elements.simplices c.in-Ok-widen_lists.ensures.extreme c.requires) c.in-Ok-widen_lists.wide.0.hilbert c.in-Ok-widen_lists.wide.0.modules (lists_same c.args.system.now.system c.in-Ok.lists.hilbert c.in-Ok-widen_lists.wide.0.hilbert c.in-Ok.lists.modules c.in-Ok-widen_lists.wide.0.modules c.in-Ok-widen_lists.ensures.hilbert c.in-Ok-widen_lists.ensures.modules c.in-Ok.ensures) (record { amb = c.amb_of.result; level = c.system.inside.level; denominator = c.in-Ok-wide_shown.shown.denominator; modules = c.kept_where.result; hilbert = c.rows_where.result; degree_one = c.in-Ok-wide_shown.shown.degree_one; vertices = c.in-Ok-wide_shown.shown.vertices; rays = c.in-Ok-wide_shown.shown.rays; support = c.in-Ok-wide_shown.shown.support; equations = c.in-Ok-wide_shown.shown.equations; generators = c.rows_where-2.result; simplices = c.simplices_where.result; asked = c.in-Ok-answer_asked.asked })
    (c.amb_of.ensures ∙ ap (λ (n : ℕ). amb_at c.system.inside.level n) (ap (λ (d : SystemData). d.system.width) c.system.view_is) ∙ ap (λ (b : Bool). amb_at b c.args.system.now.system.width) (ap (λ (d : SystemData). d.system.level) c.system.view_is)) (ap (λ (d : SystemData). d.system.level) c.system.view_is)
    (c.kept_where.ensures ∙ ap (λ (b : Bool). kept_where b c.in-Ok-widen_lists.wide.0.modules) c.wants_modules.ensures)
    (c.rows_where.ensures ∙ ap (λ (b : Bool). there b c.in-Ok-widen_lists.wide.0.hilbert) c.wants_basis.ensures)
    (subst (λ (xs : List Vector). AreDivided c.args.system.now.goals.degree_one c.args.system.now.system.grading xs c.in-Ok-wide_shown.shown.denominator c.in-Ok-wide_shown.shown.degree_one) (sym c.in-Ok-widen_lists.ensures.hilbert) c.in-Ok-wide_shown.ensures.divided)
    (subst (λ (xs : List Vector). AreParted c.args.system.now.goals.rays c.args.system.now.system.level xs c.in-Ok-wide_shown.shown.vertices c.in-Ok-wide_shown.shown.rays) (sym c.in-Ok-widen_lists.ensures.extreme) c.in-Ok-wide_shown.ensures.parted)
    (subst (λ (xs : List Vector). AreWhere c.args.system.now.goals.hyperplanes (IsDescription c.args.system.now.system.width xs) c.in-Ok-wide_shown.shown.support c.in-Ok-wide_shown.shown.equations) (sym c.in-Ok-widen_lists.ensures.extreme) c.in-Ok-wide_shown.ensures.described)
    (c.rows_where-2.ensures ∙ ap (λ (d : SystemData). there d.goals.cover c.in-Ok-widen_lists.wide.1) c.system.view_is)
    (c.simplices_where.ensures ∙ ap (λ (d : SystemData). there d.goals.cover c.args.elements.simplices) c.system.view_is)
    c.in-Ok-answer_asked.ensures.answered c.in-Ok-answer_asked.ensures.texts

pub returns : goal.returns
returns g c = solution_of c.args.system.now c.kept.ensures c.args.elements.list c.in-Ok-widen_lists.wide.1 c.args.elements.simplices (elements_same c.args.system.now c.args.elements.list c.args.elements.extreme c.in-Ok-widen_lists.wide.1 c.args.elements.simplices c.in-Ok-widen_lists.ensures.extreme c.requires) c.in-Ok-widen_lists.wide.0.hilbert c.in-Ok-widen_lists.wide.0.modules (lists_same c.args.system.now.system c.in-Ok.lists.hilbert c.in-Ok-widen_lists.wide.0.hilbert c.in-Ok.lists.modules c.in-Ok-widen_lists.wide.0.modules c.in-Ok-widen_lists.ensures.hilbert c.in-Ok-widen_lists.ensures.modules c.in-Ok.ensures) (record { amb = c.amb_of.result; level = c.system.inside.level; denominator = c.in-Ok-wide_shown.shown.denominator; modules = c.kept_where.result; hilbert = c.rows_where.result; degree_one = c.in-Ok-wide_shown.shown.degree_one; vertices = c.in-Ok-wide_shown.shown.vertices; rays = c.in-Ok-wide_shown.shown.rays; support = c.in-Ok-wide_shown.shown.support; equations = c.in-Ok-wide_shown.shown.equations; generators = c.rows_where-2.result; simplices = c.simplices_where.result; asked = c.in-Ok-answer_asked.asked })
    (c.amb_of.ensures ∙ ap (λ (n : ℕ). amb_at c.system.inside.level n) (ap (λ (d : SystemData). d.system.width) c.system.view_is) ∙ ap (λ (b : Bool). amb_at b c.args.system.now.system.width) (ap (λ (d : SystemData). d.system.level) c.system.view_is)) (ap (λ (d : SystemData). d.system.level) c.system.view_is)
    (c.kept_where.ensures ∙ ap (λ (b : Bool). kept_where b c.in-Ok-widen_lists.wide.0.modules) c.wants_modules.ensures)
    (c.rows_where.ensures ∙ ap (λ (b : Bool). there b c.in-Ok-widen_lists.wide.0.hilbert) c.wants_basis.ensures)
    (subst (λ (xs : List Vector). AreDivided c.args.system.now.goals.degree_one c.args.system.now.system.grading xs c.in-Ok-wide_shown.shown.denominator c.in-Ok-wide_shown.shown.degree_one) (sym c.in-Ok-widen_lists.ensures.hilbert) c.in-Ok-wide_shown.ensures.divided)
    (subst (λ (xs : List Vector). AreParted c.args.system.now.goals.rays c.args.system.now.system.level xs c.in-Ok-wide_shown.shown.vertices c.in-Ok-wide_shown.shown.rays) (sym c.in-Ok-widen_lists.ensures.extreme) c.in-Ok-wide_shown.ensures.parted)
    (subst (λ (xs : List Vector). AreWhere c.args.system.now.goals.hyperplanes (IsDescription c.args.system.now.system.width xs) c.in-Ok-wide_shown.shown.support c.in-Ok-wide_shown.shown.equations) (sym c.in-Ok-widen_lists.ensures.extreme) c.in-Ok-wide_shown.ensures.described)
    (c.rows_where-2.ensures ∙ ap (λ (d : SystemData). there d.goals.cover c.in-Ok-widen_lists.wide.1) c.system.view_is)
    (c.simplices_where.ensures ∙ ap (λ (d : SystemData). there d.goals.cover c.args.elements.simplices) c.system.view_is)
    c.in-Ok-answer_asked.ensures.answered
