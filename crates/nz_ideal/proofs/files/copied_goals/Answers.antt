use Rattle.std.proofs.Common.{ap, ◌∙◌, sym, ◌++◌, ◌∷◌, [], List}
use Rattle.nz_input.specs.declared.kind.Goal.{Goal}
use Rattle.nz_ideal.proofs.Building.{take-item}
use Rattle.nz_ideal.proofs.files.copied_goals.Goals as goal

pub loop-place-preserved : goal.loop-place-preserved
loop-place-preserved c =
    c.in_ok-push.ensures.ok ∙ ap (λ (gs : List Goal). gs ++ c.at.result ∷ []) c.loop-place.invariant ∙ sym (take-item c.args.goals.now c.loop-place.place c.at.result c.at.ensures)
