use Rattle.std.proofs.Common.{◌∙◌, ◌∷◌, ◌++◌, [], ℕ, length, ap, sym, subst}
use Rattle.nz_spec.specs.Vectors.{Vector}
use Rattle.nz_spec.specs.Order.{ListsOnce}
use Rattle.nz_dual.specs.DualStages.{RowsAndLists, IsStageList, IsElement, IsReversedElement, IsInsertRefusal}
use Rattle.nz_dual.proofs.StageLemmas.{stage_next, seen}
use Rattle.nz_dual.proofs.stages.Stage.insert.Goals as goal

pub both_sides-requires : goal.both_sides-requires
both_sides-requires g c = subst (λ (n : ℕ). IsStageList n c.self.inside.rows c.self.inside.list) (sym (c.requires ∙ sym (ap (λ (s : RowsAndLists). s.width) c.self.view_is))) c.self.invariant

pub invariant_of-self : goal.invariant_of-self
invariant_of-self g c = stage_next c.args.limit c.self.inside.width c.self.inside.rows c.self.inside.list c.args.row.now c.push.new.self c.in-Ok.lists.list c.in-Ok.lists.reversed (c.requires ∙ sym (ap (λ (s : RowsAndLists). s.width) c.self.view_is)) c.self.invariant c.in-Ok.ensures
    (c.in-Ok-push.ensures.ok ∙ ap (λ (v : Vector). c.self.inside.rows ++ v ∷ []) c.in-Ok-try_copy.ensures)

pub returns-in-Ok-push-clause-rows : goal.returns-in-Ok-push-clause-rows
returns-in-Ok-push-clause-rows g c = (
  ap (λ (s : RowsAndLists). s.width) c.self.view_is,
  c.in-Ok-push.ensures.ok ∙ ap (λ (v : Vector). c.self.inside.rows ++ v ∷ []) c.in-Ok-try_copy.ensures ∙ ap (λ (s : RowsAndLists). s.rows ++ c.args.row.now ∷ []) c.self.view_is,
)

pub returns-in-Ok-push-clause-list : goal.returns-in-Ok-push-clause-list
returns-in-Ok-push-clause-list g c = seen (λ w rows. ListsOnce (IsElement w (rows ++ c.args.row.now ∷ [])) c.in-Ok.lists.list) (length c.args.row.now) c.args.self.now.width c.args.self.now.rows c.self.inside.rows c.requires (ap (λ (s : RowsAndLists). s.rows) c.self.view_is) c.in-Ok.ensures.new_list

pub returns-in-Ok-push-clause-reversed : goal.returns-in-Ok-push-clause-reversed
returns-in-Ok-push-clause-reversed g c = seen (λ w rows. ListsOnce (IsReversedElement w rows c.args.row.now) c.in-Ok.lists.reversed) (length c.args.row.now) c.args.self.now.width c.args.self.now.rows c.self.inside.rows c.requires (ap (λ (s : RowsAndLists). s.rows) c.self.view_is) c.in-Ok.ensures.reversed_list

pub returns-in-Ok-push-clause-within : goal.returns-in-Ok-push-clause-within
returns-in-Ok-push-clause-within g c = c.in-Ok.ensures.within

pub returns-in-Err-clause-refusal : goal.returns-in-Err-clause-refusal
returns-in-Err-clause-refusal g c = seen (λ w rows. IsInsertRefusal g.T.Scalar.HALF c.args.limit w rows c.args.row.now c.in-Err.refusal) (length c.args.row.now) c.args.self.now.width c.args.self.now.rows c.self.inside.rows c.requires (ap (λ (s : RowsAndLists). s.rows) c.self.view_is) c.in-Err.ensures
