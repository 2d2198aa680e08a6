use Rattle.std.proofs.Common.{◌≡◌, ℕ, ◌+◌, ◌-◌, take, drop, ap, ◌∙◌, arith, Option}
use Rattle.nz_input.specs.Layouts.{AtPiece}
use Rattle.nz_symbolic.specs.Refusals.{fault_at}
use Rattle.nz_symbolic.proofs.lines.fault_from.Goals as goal

pub returns : goal.returns
returns c =
    let text = c.args.text.now in
    let from = c.args.from in
    let same : (from + c.args.n) - from ≡ c.args.n = omega arith in
    c.token_fault.ensures ∙ ap (λ (n : ℕ). fault_at (AtPiece c.args.wanted (take n (drop from text))) c.byte_at.result) same ∙ ap (λ (x : Option ℕ). fault_at (AtPiece c.args.wanted (take c.args.n (drop from text))) x) c.byte_at.ensures
