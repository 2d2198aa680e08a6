use Rattle.std.proofs.Common.{◌∙◌, ap, sym}
use Rattle.nz_system.specs.declared.asked.GoalSet.{GoalSet}
use Rattle.nz_system.specs.Rules.{refusals}
use Rattle.nz_system.proofs.Sorting.{none-empty, goals-are, meaning-is}
use Rattle.nz_system.proofs.meaning.system_of.Goals as goal

pub returns-in-Ok : goal.returns-in-Ok
returns-in-Ok c = (
  ap (λ (x : GoalSet). refusals c.args.file.now x) (sym (goals-are c.args.file.now c.args.words.now c.file.inside.amb c.file.inside.items c.file.inside.goals c.goal_set-goals.result c.file.view_is c.goal_set-goals.ensures)) ∙ none-empty (refusals c.args.file.now c.goal_set-goals.result) (sym c.first_refusal.ensures ∙ c.in-None.is),
  c.in-Ok.ensures ∙ meaning-is c.args.file.now c.args.words.now c.file.inside.amb c.file.inside.items c.file.inside.goals c.goal_set-goals.result c.mode_for-mode.result c.file.view_is c.goal_set-goals.ensures c.mode_for-mode.ensures,
)
