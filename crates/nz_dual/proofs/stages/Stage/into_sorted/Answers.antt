use Rattle.std.proofs.Common.{Some, None, length, ap, ◌∙◌, subst}
use Rattle.std.proofs.lemmas.List.Sorted.{length_permutation}
use Rattle.std.specs.Prelude.{MatchOption}
use Rattle.nz_spec.specs.Order.{IsLexBefore, IsListOf}
use Rattle.nz_degree.specs.Degrees.{IsInOrder}
use Rattle.nz_dual.specs.DualStages.{RowsAndLists, IsElement}
use Rattle.nz_dual.proofs.StageLemmas.{sorted_stage}
use Rattle.nz_dual.proofs.stages.Stage.into_sorted.Goals as goal

pub returns-in-Ok-clause-size : goal.returns-in-Ok-clause-size
returns-in-Ok-clause-size g c = length_permutation c.self.inside.list c.sort.new.list c.in-Ok.ensures.same ∙ ap (λ (s : RowsAndLists). length s.list) c.self.view_is

pub returns-in-Ok-clause-lists : goal.returns-in-Ok-clause-lists
returns-in-Ok-clause-lists g c =
    let sorted = c.sort.new.list in
    subst (λ (s : RowsAndLists). IsListOf IsLexBefore (IsElement s.width s.rows) sorted) c.self.view_is
    (sorted_stage c.self.inside.width c.self.inside.rows c.self.inside.list sorted c.self.invariant c.in-Ok.ensures.same
    (subst (λ o. MatchOption o (IsInOrder None sorted) (λ r. IsInOrder (Some r.now) sorted)) c.no_grading.ensures c.in-Ok.ensures.order))
