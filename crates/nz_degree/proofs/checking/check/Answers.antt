use Rattle.std.proofs.Common.{◌≡◌, ◌+◌, [], get_or, ℤ, sym, ap, ◌∙◌, subst, arith}
use Rattle.nz_spec.specs.Vectors.{Vector}
use Rattle.nz_spec.specs.Order.{degree}
use Rattle.nz_degree.specs.Positivities.{ComesFirst}
use Rattle.nz_degree.specs.declared.positivity.Positivity.{Positivity}
use Rattle.nz_degree.specs.declared.positivity.Positivity.TheVariants.{NotPositive}
use Rattle.nz_degree.proofs.Firsts.{Finds, found_more, found_same, found_all}
use Rattle.nz_degree.proofs.checking.check.Goals as goal
use Rattle.nz_degree.proofs.checking.check.Goals.{then-comes_first, else-comes_first}

pub loop-place-preserved : goal.loop-place-preserved
loop-place-preserved g c =
    let grading = c.args.grading.now in
    let list = c.args.list.now in
    let k = c.loop-place.place in
    let int = g.T.Scalar.integer in
    let d : int c.in-Some.degree ≡ degree grading (get_or list k []) = c.in-Some.ensures.1 ∙ ap (degree grading) c.at-row.ensures in
    elim c.if-comes_first.branch [
      | then-comes_first w ↦
          let h = subst (λ (x : Vector). ComesFirst list c.loop-place.found (int c.loop-place.least) (degree grading (get_or list k [])) x) c.at-row.ensures
          (subst (λ (z : ℤ). ComesFirst list c.loop-place.found (int c.loop-place.least) z c.at-row.result.now) d w.if-comes_first.ensures) in
          let m = found_more grading list k c.loop-place.found (int c.loop-place.least) c.loop-place.invariant h in
          subst (λ (p : Positivity). Finds grading list (k + 1) p (int c.if-comes_first.least)) (sym w.found-is)
          (subst (λ (z : ℤ). Finds grading list (k + 1) (NotPositive k) z) (sym (ap int w.least-is ∙ d)) m)
      | else-comes_first w ↦
          let n = subst (λ (x : Vector). ¬ ComesFirst list c.loop-place.found (int c.loop-place.least) (degree grading (get_or list k [])) x) c.at-row.ensures
          (subst (λ (z : ℤ). ¬ ComesFirst list c.loop-place.found (int c.loop-place.least) z c.at-row.result.now) d w.if-comes_first.ensures) in
          let m = found_same grading list k c.loop-place.found (int c.loop-place.least) c.loop-place.invariant n in
          subst (λ (p : Positivity). Finds grading list (k + 1) p (int c.if-comes_first.least)) (sym w.found-is)
          (subst (λ (z : ℤ). Finds grading list (k + 1) c.loop-place.found z) (sym (ap int w.least-is)) m)
    ]

pub returns : goal.returns
returns g c =
    found_all c.args.grading.now c.args.list.now c.loop-place.place c.loop-place.found (g.T.Scalar.integer c.loop-place.least) c.requires (omega (arith, c.len-place-end.ensures)) c.loop-place.invariant
