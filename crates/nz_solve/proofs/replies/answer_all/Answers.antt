use Rattle.std.proofs.Common.{arith, sym, subst, ◌∙◌, ◌++◌, ◌∷◌, [], ◌+◌, ◌<◌, length, take, ap, List}
use Rattle.std.proofs.lemmas.List.{take_more}
use Rattle.std.specs.List.{AllZip, Contains}
use Rattle.nz_spec.specs.Vectors.{Vector}
use Rattle.nz_spec.proofs.ListLaws.{zip_push, contains_at}
use Rattle.nz_blocks.specs.Outcomes.{Asked}
use Rattle.nz_solve.specs.Parts.{IsAnswered}
use Rattle.nz_solve.proofs.replies.answer_all.Goals as goal

pub loop-place-preserved : goal.loop-place-preserved
loop-place-preserved c =
    let R = IsAnswered c.args.constraints.now c.args.level c.args.lists.now.hilbert c.args.lists.now.modules in
    let l : c.loop-place.place < length c.args.vectors.now = omega (arith, c.loop-place-test.true, c.len-place-end.ensures) in
    let longer = zip_push R (take c.loop-place.place c.args.vectors.now) c.loop-place.list c.at.result.now c.in-Ok.entry c.loop-place.invariant c.in-Ok.ensures.answered in
    subst (λ (list : List Asked). AllZip R (take (c.loop-place.place + 1) c.args.vectors.now) list) (sym c.in-Ok-push.ensures.ok)
    (subst (λ (xs : List Vector). AllZip R xs (c.loop-place.list ++ c.in-Ok.entry ∷ []))
    (ap (λ (x : Vector). take c.loop-place.place c.args.vectors.now ++ x ∷ []) c.at.ensures ∙ sym (take_more c.args.vectors.now c.loop-place.place [] l)) longer)

pub returns-in-Err-clause-cause : goal.returns-in-Err-clause-cause
returns-in-Err-clause-cause c = λ e. record {
  vector = c.at.result.now;
  listed = subst (Contains c.args.vectors.now) (sym c.at.ensures) (contains_at c.args.vectors.now c.loop-place.place [] (omega (arith, c.loop-place-test.true, c.len-place-end.ensures)));
  lacks = c.in-Err.ensures.cause e;
}
