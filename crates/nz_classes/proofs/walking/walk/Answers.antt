use Rattle.std.proofs.Common.{inl, inr}
use Rattle.std.specs.Prelude.{unsigned_abs}
use Rattle.nz_classes.proofs.CauseLemmas.{caused_value}
use Rattle.nz_classes.proofs.OriginLemmas.{origin_listed, origin_refused}
use Rattle.nz_classes.proofs.SimplexLemmas.{sides_wide, forms_wide}
use Rattle.nz_classes.proofs.SortLemmas.{match_result}
use Rattle.nz_classes.proofs.StepLemmas.{caused_of}
use Rattle.nz_classes.proofs.walking.walk.Goals as goal

pub divisors_of-requires-clause-sides_wide : goal.divisors_of-requires-clause-sides_wide
divisors_of-requires-clause-sides_wide g c = sides_wide c.args.simplex.now c.args.forms.now c.requires

pub divisors_of-requires-clause-forms_wide : goal.divisors_of-requires-clause-forms_wide
divisors_of-requires-clause-forms_wide g c = forms_wide c.args.simplex.now c.args.forms.now c.requires

pub returns-in-Err : goal.returns-in-Err
returns-in-Err g c = c.work_of.ensures (unsigned_abs g.T.Scalar.HALF) c.args.limit c.args.simplex.now c.args.forms.now (caused_of (unsigned_abs g.T.Scalar.HALF) c.args.simplex.now c.args.forms.now c.in-Err.refusal (λ e. caused_value g.T.Scalar.HALF g.T.Scalar.fits g.met.T.Scalar.room c.args.simplex.now c.args.forms.now c.requires c.args.simplex.now (λ x k. inr (inl k)) (c.in-Err.ensures e)))

pub returns-then-are_at_most_one : goal.returns-then-are_at_most_one
returns-then-are_at_most_one g c =
    let sides = c.args.simplex.now in
    let forms = c.args.forms.now in
    match_result _ _ _ _
    (λ rows h. origin_listed sides forms c.requires c.in-Ok.divisors c.args.limit rows c.len.result c.in-Ok.ensures c.if-are_at_most_one.ensures c.len.ensures h)
    (λ e h. origin_refused sides forms c.requires (unsigned_abs g.T.Scalar.HALF) c.args.limit e h)
    c.origin_alone.result c.origin_alone.ensures
