use Rattle.std.proofs.Common.{refl, sym}
use Rattle.nz_pointed.proofs.SignLemmas.{not_true}
use Rattle.nz_cover.proofs.CornerLemmas.{not_before_itself, same_tail}
use Rattle.nz_cover.proofs.corners.are_same.Goals as goal

pub returns-in-Less : goal.returns-in-Less
returns-in-Less g c = (λ h. absurd (not_true h), λ e. absurd (not_before_itself _ _ c.args.left.now c.args.right.now refl c.in-Less.ensures e))

pub returns-in-Greater : goal.returns-in-Greater
returns-in-Greater g c = (λ h. absurd (not_true h), λ e. absurd (not_before_itself _ _ c.args.right.now c.args.left.now refl c.in-Greater.ensures (sym e)))

pub returns-in-Equal : goal.returns-in-Equal
returns-in-Equal g c = (λ h. same_tail _ _ c.args.left.now c.args.right.now c.in-Equal.ensures, λ e. refl)
