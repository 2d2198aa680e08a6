use Rattle.std.proofs.Common.{List, subst}
use Rattle.nz_spec.specs.Vectors.{Vector}
use Rattle.nz_linear.specs.Echelon.{unit_at}
use Rattle.nz_classes.specs.Steps.{IsFull}
use Rattle.nz_classes.proofs.walking.begin.Goals as goal

pub returns-in-Err-note : goal.returns-in-Err-note
returns-in-Err-note g c =
    let new = c.note.new.found in
    (new, subst (λ (vs : List Vector). IsFull c.args.limit vs (unit_at c.args.width c.args.width) new c.in-Err-note.refusal) c.new-found.ensures (subst (λ (x : Vector). IsFull c.args.limit c.new-found.result x new c.in-Err-note.refusal) c.in-Ok.ensures c.in-Err-note.ensures))
