use Rattle.std.proofs.Common.{ap, ◌∙◌, sym, subst}
use Rattle.nz_input.specs.Files.{FileData, IsFile}
use Rattle.nz_system.specs.declared.asked.GoalSet.{GoalSet}
use Rattle.nz_system.specs.Meaning.{IsMeaning}
use Rattle.nz_system.proofs.Sorting.{none-empty, goals-are}
use Rattle.nz_ideal.specs.IdealRules.{ideal_refusals}
use Rattle.nz_ideal.proofs.Meeting.{ideal-meaning}
use Rattle.nz_ideal.proofs.meanings.ideal_system.Goals as goal

pub returns-in-Ok : goal.returns-in-Ok
returns-in-Ok c =
    ideal-meaning c.args.file.now c.args.words.now c.system_of.result (subst IsFile c.file.view_is c.file.invariant)
    (ap (λ (x : GoalSet). ideal_refusals c.args.file.now x) (sym (goals-are c.args.file.now c.args.words.now c.file.inside.amb c.file.inside.items c.file.inside.goals c.goal_set.result c.file.view_is c.goal_set.ensures)) ∙ none-empty (ideal_refusals c.args.file.now c.goal_set.result) (sym c.first_refusal.ensures ∙ c.in-None.is))
    (subst (λ (f : FileData). IsMeaning f c.args.words.now c.system_of.result) c.in-Ok.ensures c.system_of.ensures)
