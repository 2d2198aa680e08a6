use Rattle.std.proofs.Common.{arith, ◌∙◌, FitsSigned, rules}
use Rattle.std.specs.Int.{w128}
use Rattle.std.proofs.lemmas.Int.{to_z-of_z}
use Rattle.nz_run.proofs.Pieces.{nothing_put, entry_more, entry_stopped}
use Rattle.nz_run.proofs.status_lines.put_entries.Goals as goal

pub loop-place-init : goal.loop-place-init
loop-place-init g c = record { written = nothing_put _; later = omega arith }

pub loop-place-preserved : goal.loop-place-preserved
loop-place-preserved g c =
    let fits : FitsSigned w128 c.at.result = search rules in
    record {
      written = entry_more c.args.entries.now c.loop-place.place _ (g.S.Sink.written c.args.console.now) (g.S.Sink.written c.loop-place.console) (g.S.Sink.written c.put_entry.new.console)
          (omega (arith, c.loop-place-test.true, c.len-place-end.ensures)) (to_z-of_z w128 c.at.result fits ∙ c.at.ensures) c.loop-place.invariant.written c.if-not-put_entry.ensures.written;
      later = omega (arith, c.loop-place.invariant.later, c.if-not-put_entry.ensures.later);
    }

pub returns-then-not-put_entry-clause-written : goal.returns-then-not-put_entry-clause-written
returns-then-not-put_entry-clause-written g c =
    let fits : FitsSigned w128 c.at.result = search rules in
    entry_stopped c.args.entries.now c.loop-place.place _ (g.S.Sink.written c.args.console.now) (g.S.Sink.written c.loop-place.console) (g.S.Sink.written c.put_entry.new.console)
    (omega (arith, c.loop-place-test.true, c.len-place-end.ensures)) (to_z-of_z w128 c.at.result fits ∙ c.at.ensures) c.loop-place.invariant.written c.if-not-put_entry.ensures.written
