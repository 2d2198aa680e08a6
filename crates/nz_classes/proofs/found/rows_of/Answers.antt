use Rattle.std.proofs.Common.{map, ap, ◌∙◌, refl}
use Rattle.nz_classes.proofs.SortLemmas.{next_row, all_rows}
use Rattle.nz_classes.proofs.found.rows_of.Goals as goal

pub loop-entries-preserved : goal.loop-entries-preserved
loop-entries-preserved g c =
    next_row (λ v. map g.T.Scalar.integer v.items) c.args.list.now c.loop-entries.entries-index c.entries-item.result c.loop-entries.rows c.in_ok-row.row c.push.new.self c.loop-entries-test.true c.entries-item.is c.loop-entries.invariant (c.in_ok-row.ensures ∙ ap (map g.T.Scalar.integer) c.deref.ensures.value) c.in_ok-push.ensures.ok

pub returns : goal.returns
returns g c = all_rows (λ v. map g.T.Scalar.integer v.items) c.args.list.now c.args.list.now c.loop-entries.entries-index c.loop-entries.rows c.loop-entries-test.false c.loop-entries.invariant refl
