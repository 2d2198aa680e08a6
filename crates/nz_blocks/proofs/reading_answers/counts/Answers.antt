use Rattle.std.proofs.Common.{◌+◌, ◌++◌, ◌∷◌, [], ◌∙◌, ℤ, ℕ, ap, drop, arith, rules}
use Rattle.std.proofs.Math.Facts.{to_z-of_z}
use Rattle.std.specs.Int.{w128}
use Rattle.nz_blocks.proofs.RowReadings.{one_longer}
use Rattle.nz_blocks.proofs.AnswerReadings.{CountRead, counts_more}
use Rattle.nz_blocks.proofs.reading_answers.counts.Goals as goal
use mir.Val.{SFits}

pub loop-index-preserved : goal.loop-index-preserved
loop-index-preserved c =
    let fits : SFits w128 c.count_at-found.result.value = search rules in
    let items = c.in-Ok.ensures.items ∙ ap (λ (z : ℤ). c.loop-index.entries.items ++ z ∷ []) (to_z-of_z {w = w128} {z = c.count_at-found.result.value} fits) in
    let read : CountRead (drop c.loop-index.place c.args.text.now) (drop c.count_at-found.result.next c.args.text.now) (c.loop-index.index + 1) c.count_at-found.result.value = record {
      named = c.count_at-found.ensures.named;
      other = λ h. (let o = c.count_at-found.ensures.other h in (o.0, ap (λ (p : ℕ). drop p c.args.text.now) o.1));
    } in
    record {
      many = one_longer c.loop-index.entries.items c.push.new.self.items c.count_at-found.result.value c.loop-index.index items c.loop-index.invariant.many;
      part = λ cs m s size held sign e.
          counts_more (drop c.loop-index.place c.args.text.now) (drop c.count_at-found.result.next c.args.text.now) c.loop-index.index c.loop-index.entries.items c.push.new.self.items cs c.count_at-found.result.value m s
          (omega (arith, size, c.loop-index.invariant.many)) (omega (arith, size)) (c.loop-index.invariant.part cs m s size held sign e) read items;
    }
