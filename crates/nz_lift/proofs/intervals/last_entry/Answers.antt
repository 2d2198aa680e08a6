use Rattle.std.proofs.Common.{◌≤◌, length, get_or, ◌-◌, pos, ◌∙◌, ap, arith}
use Rattle.nz_degree.proofs.LevelLists.{level_entry}
use Rattle.nz_lift.proofs.intervals.last_entry.Goals as goal

pub returns-else-len-eq0 : goal.returns-else-len-eq0
returns-else-len-eq0 g c =
    let x = c.args.form.now in
    let some : 1 ≤ length x = omega (arith, c.len.ensures, c.if-len-eq0.false) in
    c.at.ensures ∙ ap (λ k. get_or x (k - 1) (pos 0)) c.len-else-len-eq0.ensures ∙ level_entry x some
