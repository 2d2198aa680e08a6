use Rattle.std.proofs.Common.{List, Option, Bool, ◌∙◌, ap, sym, subst, Some}
use Rattle.std.specs.List.{AllByRecursion as Each}
use Rattle.nz_spec.specs.Vectors.{Vector}
use Rattle.nz_system.specs.Meaning.{SystemData}
use Rattle.nz_blocks.specs.Outcomes.{Asked, HasText}
use Rattle.nz_solve.specs.Replies.{AreAnswered}
use Rattle.nz_solve.proofs.AskedLemmas.{all_fitting, all_replies, all_texts, asked_here}
use Rattle.nz_solve.proofs.NarrowLemmas.{room_at_width}
use Rattle.std.specs.Prelude.{FitsSigned}
use Rattle.std.specs.Int.{w128}
use Rattle.nz_solve.proofs.AskedCauses.{reply_above}
use Rattle.nz_solve.proofs.replies.answer_asked.Goals as goal

pub answer_all-requires : goal.answer_all-requires
answer_all-requires g c = all_fitting c.args.system.now.system c.kept.ensures.system c.in-Ok.constraints c.in-Ok.ensures.all c.args.lists.now.hilbert c.args.lists.now.modules c.requires.lists c.system.inside.level (sym (ap (λ (d : SystemData). d.system.level) c.system.view_is)) c.in-Ok-widen_rows.vectors (asked_here c.args.system.now.system c.kept.ensures.system c.in-Ok-widen_rows.vectors (sym (ap (λ (d : SystemData). d.system.asked) c.system.view_is) ∙ c.in-Some.is ∙ ap Some (sym c.in-Ok-widen_rows.ensures)))

pub returns-in-Ok-answer_all-clause-answered : goal.returns-in-Ok-answer_all-clause-answered
returns-in-Ok-answer_all-clause-answered g c = subst (λ (o : Option (List Vector)). AreAnswered c.args.system.now.system o (Some c.in-Ok-answer_all.list)) (sym (sym (ap (λ (d : SystemData). d.system.asked) c.system.view_is) ∙ c.in-Some.is ∙ ap Some (sym c.in-Ok-widen_rows.ensures)))
    (all_replies c.args.system.now.system c.kept.ensures.system c.requires.positive c.in-Ok.constraints c.in-Ok.ensures.all c.args.lists.now.hilbert c.args.lists.now.modules c.requires.lists c.system.inside.level (sym (ap (λ (d : SystemData). d.system.level) c.system.view_is)) c.in-Ok-widen_rows.vectors c.in-Ok-answer_all.list (asked_here c.args.system.now.system c.kept.ensures.system c.in-Ok-widen_rows.vectors (sym (ap (λ (d : SystemData). d.system.asked) c.system.view_is) ∙ c.in-Some.is ∙ ap Some (sym c.in-Ok-widen_rows.ensures))) c.in-Ok-answer_all.ensures.answered)

pub returns-in-Ok-answer_all-clause-texts : goal.returns-in-Ok-answer_all-clause-texts
returns-in-Ok-answer_all-clause-texts g c = subst (λ (b : Bool). Each (λ (a : Asked). HasText b a.0 a.1) c.in-Ok-answer_all.list) (ap (λ (d : SystemData). d.system.level) c.system.view_is)
    (all_texts c.args.system.now.system c.kept.ensures.system c.requires.positive c.in-Ok.constraints c.in-Ok.ensures.all c.args.lists.now.hilbert c.args.lists.now.modules c.requires.lists c.system.inside.level (sym (ap (λ (d : SystemData). d.system.level) c.system.view_is)) c.in-Ok-widen_rows.vectors c.in-Ok-answer_all.list (asked_here c.args.system.now.system c.kept.ensures.system c.in-Ok-widen_rows.vectors (sym (ap (λ (d : SystemData). d.system.asked) c.system.view_is) ∙ c.in-Some.is ∙ ap Some (sym c.in-Ok-widen_rows.ensures))) c.in-Ok-answer_all.ensures.answered)

pub returns-clause-cause : goal.returns-clause-cause
returns-clause-cause g c = λ e. reply_above c.args.system.now.system c.kept.ensures.system c.in-Ok.constraints c.in-Ok.ensures.all g.T.Scalar.HALF (FitsSigned w128) (room_at_width g.T.Scalar.HALF g.T.Scalar.fits g.met.T.Scalar.room) c.requires.positive c.args.lists.now.hilbert c.args.lists.now.modules c.requires.lists c.system.inside.level (sym (ap (λ (d : SystemData). d.system.level) c.system.view_is)) c.in-Ok-widen_rows.vectors (sym (ap (λ (d : SystemData). d.system.asked) c.system.view_is) ∙ c.in-Some.is ∙ ap Some (sym c.in-Ok-widen_rows.ensures)) (c.in-Err-answer_all.ensures.cause e)
