use Rattle.std.proofs.Common.{◌≡◌, ◌<◌, ◌+◌, List, length, take, ℤ, sym, subst, arith}
use Rattle.nz_spec.specs.Vectors.{Vector}
use Rattle.nz_spec.specs.Order.{degree}
use Rattle.nz_order.specs.Picks.{Picks, none}
use Rattle.nz_degree.proofs.DegreeLists.{picked_next, left_next, picked_all}
use Rattle.nz_degree.proofs.picking.degree_one.Goals as goal
use Rattle.nz_degree.proofs.picking.degree_one.Goals.{then-is_of_degree+in_ok-try_copy+in_ok-push, else-is_of_degree}

pub loop-place-init : goal.loop-place-init
loop-place-init g c = subst (λ (xs : List Vector). Picks (λ x. degree c.args.grading.now x ≡ g.T.Scalar.integer c.args.denominator) (take 0 c.args.list.now) xs) (sym c.new-picked.ensures) none

pub loop-place-preserved : goal.loop-place-preserved
loop-place-preserved g c =
    let grading = c.args.grading.now in
    let list = c.args.list.now in
    let d = g.T.Scalar.integer c.args.denominator in
    let l : c.loop-place.place < length list = omega (arith, c.len-place-end.ensures) in
    elim c.if-is_of_degree.branch [
      | then-is_of_degree+in_ok-try_copy+in_ok-push w ↦
          let h = subst (λ (z : ℤ). z ≡ d) c.in-Some.ensures.1 w.if-is_of_degree.ensures in
          subst (Picks (λ x. degree grading x ≡ d) (take (c.loop-place.place + 1) list)) (sym w.picked-is)
          (picked_next (λ x. degree grading x ≡ d) list c.loop-place.picked w.push.new.self c.loop-place.place c.at-row.result.now w.in_ok-try_copy.field-0 l c.at-row.ensures h w.in_ok-try_copy.ensures w.in_ok-push.ensures.ok c.loop-place.invariant)
      | else-is_of_degree w ↦
          let n = subst (λ (z : ℤ). ¬ (z ≡ d)) c.in-Some.ensures.1 w.if-is_of_degree.ensures in
          subst (Picks (λ x. degree grading x ≡ d) (take (c.loop-place.place + 1) list)) (sym w.picked-is)
          (left_next (λ x. degree grading x ≡ d) list c.loop-place.picked c.loop-place.place c.at-row.result.now l c.at-row.ensures n c.loop-place.invariant)
    ]

pub returns : goal.returns
returns g c = picked_all (λ x. degree c.args.grading.now x ≡ g.T.Scalar.integer c.args.denominator) c.args.list.now c.loop-place.picked c.loop-place.place (omega (arith, c.len-place-end.ensures)) c.loop-place.invariant
