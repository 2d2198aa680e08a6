use Rattle.std.proofs.Common.{pos, Some, None, sym, subst}
use Rattle.std.specs.Prelude.{MatchOption}
use Rattle.nz_degree.specs.Degrees.{IsInOrder}
use Rattle.nz_spec.specs.Order.{degree, StandsBefore}
use Rattle.nz_degree.proofs.RankLaws.{sorted_rows_same, sorted_rows_order, graded_before, ungraded_before}
use Rattle.nz_degree.proofs.sorting.sort.Goals as goal

pub returns-in_ok-put_sorted-in-Some-clause-same : goal.returns-in_ok-put_sorted-in-Some-clause-same
returns-in_ok-put_sorted-in-Some-clause-same g c =
    sorted_rows_same g.T.Scalar.integer (degree c.in-Some.grading.now) c.args.list.now c.put_sorted.new.list c.in_ok-ranked-in-Some.ranked.items c.in_ok-ranked-in-Some.ensures c.in_ok-put_sorted-in-Some.ensures.ok

pub returns-in_ok-put_sorted-in-Some-clause-order : goal.returns-in_ok-put_sorted-in-Some-clause-order
returns-in_ok-put_sorted-in-Some-clause-order g c =
    let order = sorted_rows_order g.T.Scalar.integer (degree c.in-Some.grading.now) (StandsBefore (Some c.in-Some.grading.now)) (graded_before c.in-Some.grading.now) c.args.list.now c.put_sorted.new.list c.in_ok-ranked-in-Some.ranked.items c.in_ok-ranked-in-Some.ensures c.in_ok-put_sorted-in-Some.ensures.ok in
    subst (λ o. MatchOption o (IsInOrder None c.put_sorted.new.list) (λ r. IsInOrder (Some r.now) c.put_sorted.new.list)) (sym c.in-Some.is) order

pub returns-in_ok-put_sorted-in-None-clause-same : goal.returns-in_ok-put_sorted-in-None-clause-same
returns-in_ok-put_sorted-in-None-clause-same g c =
    sorted_rows_same g.T.Scalar.integer (λ _. pos 0) c.args.list.now c.put_sorted-in-None.new.list c.in_ok-ranked-in-None.ranked.items c.in_ok-ranked-in-None.ensures c.in_ok-put_sorted-in-None.ensures.ok

pub returns-in_ok-put_sorted-in-None-clause-order : goal.returns-in_ok-put_sorted-in-None-clause-order
returns-in_ok-put_sorted-in-None-clause-order g c =
    let order = sorted_rows_order g.T.Scalar.integer (λ _. pos 0) (StandsBefore None) ungraded_before c.args.list.now c.put_sorted-in-None.new.list c.in_ok-ranked-in-None.ranked.items c.in_ok-ranked-in-None.ensures c.in_ok-put_sorted-in-None.ensures.ok in
    subst (λ o. MatchOption o (IsInOrder None c.put_sorted-in-None.new.list) (λ r. IsInOrder (Some r.now) c.put_sorted-in-None.new.list)) (sym c.in-None.is) order
