use Rattle.std.proofs.Common.{◌<◌, ◌∙◌, refl, sym, ap, arith}
use Rattle.std.specs.Prelude.{unsigned_abs}
use Rattle.std.proofs.lemmas.Bool.{false≢true}
use Rattle.nz_sweep.specs.Clearing.{values_of}
use Rattle.nz_sweep.proofs.PivotLemmas.{value_at, zero_step, pivot_of, pivot_less, pivot_kept}
use Rattle.nz_sweep.proofs.pivots.lesser.Goals as goal

pub returns-then-is_zero : goal.returns-then-is_zero
returns-then-is_zero g c = zero_step _ _ c.args.least c.requires.so_far (value_at c.args.list.now c.args.place c.index-list-place.result c.requires.inside c.index-list-place.is ∙ c.if-is_zero.ensures.0 refl)

pub returns-then-is_smaller : goal.returns-then-is_smaller
returns-then-is_smaller g c =
    let p = pivot_of _ _ c.in-Some.kept c.args.least c.in-Some.is c.requires.so_far in
    let a = value_at c.args.list.now c.args.place c.index-list-place.result c.requires.inside c.index-list-place.is in
    let b = value_at c.args.list.now c.in-Some.kept c.index-list-kept.result (omega (arith, p.within, c.requires.inside)) c.index-list-kept.is in
    let l = c.if-is_smaller.ensures.0 refl in
    pivot_less (values_of c.args.list.now) c.args.place c.in-Some.kept p (λ z. false≢true (c.if-is_zero.ensures.1 (sym a ∙ z))) (let x = ap unsigned_abs a in let y = ap unsigned_abs b in omega (arith, x, y, l))

pub returns : goal.returns
returns g c =
    let p = pivot_of _ _ c.in-Some.kept c.args.least c.in-Some.is c.requires.so_far in
    let a = value_at c.args.list.now c.args.place c.index-list-place.result c.requires.inside c.index-list-place.is in
    let b = value_at c.args.list.now c.in-Some.kept c.index-list-kept.result (omega (arith, p.within, c.requires.inside)) c.index-list-kept.is in
    let l : ¬ (unsigned_abs c.index-list-place.result.value < unsigned_abs c.index-list-kept.result.value) = λ k. false≢true (c.if-is_smaller.ensures.1 k) in
    pivot_kept (values_of c.args.list.now) c.args.place c.in-Some.kept p (let x = ap unsigned_abs a in let y = ap unsigned_abs b in omega (arith, x, y, l))
