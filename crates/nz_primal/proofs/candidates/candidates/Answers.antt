use Rattle.std.proofs.Common.{◌<◌, length, unsigned_abs, arith}
use Rattle.nz_spec.specs.Covers.{vectors_at}
use Rattle.nz_classes.specs.Walks.{IsTooLarge}
use Rattle.nz_primal.specs.Parts.{SomeWalkLarge}
use Rattle.nz_primal.proofs.RangeLemmas.{where_map, walk_at}
use Rattle.nz_primal.proofs.CandidateLemmas.{candidates_start, candidates_more, walk_refused, full_at, forms_at}
use Rattle.nz_primal.proofs.candidates.candidates.Goals as goal

pub loop-place-init : goal.loop-place-init
loop-place-init g c = candidates_start c.args.rays.now c.args.cover.now.simplices c.in-Ok.list c.in-Ok.ensures

pub at-forms-requires : goal.at-forms-requires
at-forms-requires g c = forms_at c.args.rays.now c.args.cover.now.simplices c.args.cover.now.forms c.loop-place.place c.requires (omega (arith, c.loop-place-test.true, c.len-place-end.ensures))

pub walked-requires-clause-within : goal.walked-requires-clause-within
walked-requires-clause-within g c = (full_at c.args.rays.now c.args.cover.now.simplices c.args.cover.now.forms c.loop-place.place c.at-places.result.now c.at-forms.result.now c.requires (omega (arith, c.loop-place-test.true, c.len-place-end.ensures)) c.at-places.ensures c.at-forms.ensures).0

pub walked-requires-clause-full : goal.walked-requires-clause-full
walked-requires-clause-full g c = (full_at c.args.rays.now c.args.cover.now.simplices c.args.cover.now.forms c.loop-place.place c.at-places.result.now c.at-forms.result.now c.requires (omega (arith, c.loop-place-test.true, c.len-place-end.ensures)) c.at-places.ensures c.at-forms.ensures).1

pub loop-place-preserved : goal.loop-place-preserved
loop-place-preserved g c =
    candidates_more c.args.rays.now c.args.cover.now.simplices c.loop-place.place c.at-places.result.now c.loop-place.list c.in-Ok-walked.points c.in-Ok-joined.list
    (omega (arith, c.loop-place-test.true, c.len-place-end.ensures)) c.at-places.ensures c.in-Ok-walked.ensures.points c.in-Ok-joined.ensures c.loop-place.invariant

pub returns-in-Err-walked-clause-points : goal.returns-in-Err-walked-clause-points
returns-in-Err-walked-clause-points g c =
    walk_refused c.args.limit c.args.rays.now c.args.cover.now.simplices c.loop-place.place c.at-places.result.now c.in-Err-walked.refusal
    (omega (arith, c.loop-place-test.true, c.len-place-end.ensures)) c.at-places.ensures c.in-Err-walked.ensures.points

pub returns-in-Err-walked-clause-cause : goal.returns-in-Err-walked-clause-cause
returns-in-Err-walked-clause-cause g c =
    let l : c.loop-place.place < length c.args.cover.now.simplices = omega (arith, c.loop-place-test.true, c.len-place-end.ensures) in
    let h = unsigned_abs g.T.Scalar.HALF in
    where_map (IsTooLarge h (vectors_at c.args.rays.now c.at-places.result.now) c.at-forms.result.now) (SomeWalkLarge h c.args.rays.now c.args.cover.now.simplices c.args.cover.now.forms)
    (walk_at h c.args.rays.now c.args.cover.now.simplices c.args.cover.now.forms c.loop-place.place c.at-places.result.now c.at-forms.result.now l c.at-places.ensures c.at-forms.ensures)
    c.in-Err-walked.refusal c.in-Err-walked.ensures.cause
