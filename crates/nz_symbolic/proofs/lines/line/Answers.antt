use Rattle.std.proofs.Common.{◌≡◌, ℕ, ◌+◌, ◌<◌, ◌≤◌, ◌-◌, length, take, drop, refl, sym, ap, subst, ◌∙◌, arith}
use Rattle.nz_symbolic.specs.Sit.{Sit, InLine, at_lines}
use Rattle.nz_symbolic.specs.Lines.{IsReached, sit_of, course_behind}
use Rattle.nz_symbolic.specs.declared.lines.Course.{Course}
use Rattle.nz_symbolic.proofs.Lining.{end-stops, run-stops, gap-stops, goes, fits-run, fits-refused, course-is, stop-is, terms-most, front-refused}
use Rattle.nz_symbolic.proofs.lines.line.Goals as goal

pub returns-in-End-clause-err : goal.returns-in-End-clause-err
returns-in-End-clause-err c = end-stops c.args.text.now (sit_of c.args.amb c.args.later c.loop-at.spot) c.loop-at.here c.wanted-role.result c.refuse.result c.loop-at.invariant c.in-End.ensures (λ h. h) c.wanted-role.ensures c.refuse.ensures.at c.refuse.ensures.fault

pub returns-in-Bad-clause-err : goal.returns-in-Bad-clause-err
returns-in-Bad-clause-err c = rw c.gap_fault.ensures (gap-stops c.args.text.now (sit_of c.args.amb c.args.later c.loop-at.spot) c.loop-at.here c.in-Bad.at c.in-Bad.fault c.loop-at.invariant c.in-Bad.ensures)

pub returns-in-Err-clause-err : goal.returns-in-Err-clause-err
returns-in-Err-clause-err c =
    let spot = c.loop-at.spot in
    let piece = take (c.in-Piece.span.end - c.in-Piece.span.start) (drop c.in-Piece.span.start c.args.text.now) in
    let first = front-refused c.args.amb c.args.later spot.side spot.terms spot.point piece c.in-Err.n c.in-Err.ensures in
    run-stops c.args.text.now (sit_of c.args.amb c.args.later c.loop-at.spot) c.loop-at.here c.wanted-role.result c.refuse-in-Err.result c.in-Piece.span c.in-Err.n c.loop-at.invariant c.in-Piece.ensures first c.wanted-role.ensures c.refuse-in-Err.ensures.at c.refuse-in-Err.ensures.fault

pub returns-then-last-clause-ok : goal.returns-then-last-clause-ok
returns-then-last-clause-ok c =
    let spot = c.loop-at.spot in
    let g = goes c.args.text.now (sit_of c.args.amb c.args.later spot) c.loop-at.here c.behind-here.result c.wanted-role.result c.in-Piece.span c.in-Ok.front c.loop-at.invariant c.in-Piece.ensures c.in-Ok.ensures c.wanted-role.ensures c.behind-here.ensures in
    let is = stop-is c.args.amb c.args.later spot.side spot.terms spot.point c.in-Ok.front.token c.in-Ok.ensures.1 (sym c.last.ensures ∙ c.if-last.true) in
    subst (λ (x : Sit). IsReached c.args.text.now x c.behind-here.result) is g.reached

pub moved-spot-requires : goal.moved-spot-requires
moved-spot-requires c = terms-most c.args.text.now c.args.amb c.args.later c.loop-at.spot.side c.loop-at.spot.terms c.loop-at.spot.point c.loop-at.here c.loop-at.invariant

pub loop-at-smaller : goal.loop-at-smaller
loop-at-smaller c =
    let spot = c.loop-at.spot in
    let g = goes c.args.text.now (sit_of c.args.amb c.args.later spot) c.loop-at.here c.behind-here.result c.wanted-role.result c.in-Piece.span c.in-Ok.front c.loop-at.invariant c.in-Piece.ensures c.in-Ok.ensures c.wanted-role.ensures c.behind-here.ensures in
    omega (arith, g.further, g.within)

pub loop-at-preserved : goal.loop-at-preserved
loop-at-preserved c =
    let spot = c.loop-at.spot in
    let g = goes c.args.text.now (sit_of c.args.amb c.args.later spot) c.loop-at.here c.behind-here.result c.wanted-role.result c.in-Piece.span c.in-Ok.front c.loop-at.invariant c.in-Piece.ensures c.in-Ok.ensures c.wanted-role.ensures c.behind-here.ensures in
    let is = course-is c.args.amb c.args.later spot.side spot.terms spot.point c.in-Ok.front.token c.in-Ok.ensures.1 (sym c.last.ensures ∙ c.if-last.false) in
    let moved : sit_of c.args.amb c.args.later c.moved-spot.result ≡ sit_of c.args.amb c.args.later (course_behind spot.side spot.terms spot.point c.in-Ok.front.token) = ap (λ (x : Course). sit_of c.args.amb c.args.later x) c.moved-spot.ensures in
    subst (λ (x : Sit). IsReached c.args.text.now x c.behind-here.result) (sym (moved ∙ is)) g.reached
