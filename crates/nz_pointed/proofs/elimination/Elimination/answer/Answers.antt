use Rattle.std.proofs.Common.{rules, ◌≡◌, ◌<◌, List, length, drop, sym, subst}
use Rattle.nz_spec.specs.Vectors.{Vector}
use Rattle.nz_pointed.specs.Pointed.{IsSimplexOf}
use Rattle.nz_pointed.specs.Elimination.{IsElimination}
use Rattle.nz_pointed.proofs.ListLemmas.{from_first, none_of}
use Rattle.nz_pointed.proofs.AnswerLemmas.{simplex_of, line_of}
use Rattle.nz_pointed.proofs.elimination.Elimination.answer.Goals as goal

pub returns-in-Ok : goal.returns-in-Ok
returns-in-Ok g c = λ w rows e.
    let none : length c.args.self.left.items ≡ 0 = search rules in
    subst (IsSimplexOf w rows c.args.self.places) (sym c.in-Ok.ensures) (simplex_of w rows c.args.self.places c.args.self.chosen.items c.args.self.left.items (none_of c.args.self.left.items none) e)

pub returns-in-Ok-led : goal.returns-in-Ok-led
returns-in-Ok-led g c = λ w rows e.
    let some : 0 < length c.args.self.left.items = search rules in
    let first = from_first c.args.self.left.items c.index.result.now some c.index.ensures in
    line_of w rows c.args.self.places c.args.self.chosen.items c.index.result.now c.in-Ok-led.line (drop 1 c.args.self.left.items) c.in-Ok-led.ensures.0 c.in-Ok-led.ensures.1
    (subst (λ (left : List Vector). IsElimination w rows c.args.self.places c.args.self.chosen.items left) first e)
