use Rattle.std.proofs.Common.{◌++◌, ◌∷◌, subst, arith}
use Rattle.nz_blocks.specs.Beginnings.{IsLarge}
use Rattle.nz_blocks.proofs.RowTexts.{heading_bare}
use Rattle.nz_blocks.proofs.Readings.{not_large, run_is}
use Rattle.nz_blocks.proofs.RowReadings.{behind_same, behind_byte, has_byte}
use Rattle.nz_blocks.proofs.reading_blocks.heading_line.Goals as goal

pub returns-in-None-clause-found : goal.returns-in-None-clause-found
returns-in-None-clause-found c = λ n s few w e.
    not_large n (c.args.heading.now ++ 10 ∷ s) (omega (arith, few)) (heading_bare c.args.heading.now (10 ∷ s) w) (subst IsLarge e c.in-None.ensures.run)

pub returns-in-None-behind-clause-found : goal.returns-in-None-behind-clause-found
returns-in-None-behind-clause-found c = λ n s few w e.
    let r = run_is c.args.text.now c.args.from c.in-Some.count.next c.in-Some.count.value n (c.args.heading.now ++ 10 ∷ s) (omega (arith, few)) (heading_bare c.args.heading.now (10 ∷ s) w) e c.in-Some.ensures.run in
    c.in-None-behind.ensures (10 ∷ s) r.1

pub returns-then-is_at-clause-found : goal.returns-then-is_at-clause-found
returns-then-is_at-clause-found c = λ n s few w e.
    let r = run_is c.args.text.now c.args.from c.in-Some.count.next c.in-Some.count.value n (c.args.heading.now ++ 10 ∷ s) (omega (arith, few)) (heading_bare c.args.heading.now (10 ∷ s) w) e c.in-Some.ensures.run in
    (r.0, behind_byte c.args.text.now c.in-Some-behind.next 10 s (behind_same _ c.args.heading.now _ (10 ∷ s) c.in-Some-behind.ensures r.1))

pub returns-clause-found : goal.returns-clause-found
returns-clause-found c = λ n s few w e.
    let r = run_is c.args.text.now c.args.from c.in-Some.count.next c.in-Some.count.value n (c.args.heading.now ++ 10 ∷ s) (omega (arith, few)) (heading_bare c.args.heading.now (10 ∷ s) w) e c.in-Some.ensures.run in
    has_byte _ s 10 (behind_same _ c.args.heading.now _ (10 ∷ s) c.in-Some-behind.ensures r.1) c.if-is_at.ensures
