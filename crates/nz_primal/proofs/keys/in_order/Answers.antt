use Rattle.std.proofs.Common.{Some, None, subst}
use Rattle.std.specs.Prelude.{MatchOption}
use Rattle.nz_degree.specs.Degrees.{IsInOrder}
use Rattle.nz_primal.proofs.KeyLemmas.{sorted_keys_wide, sorted_rows}
use Rattle.nz_primal.proofs.keys.in_order.Goals as goal

pub all_ends-requires : goal.all_ends-requires
all_ends-requires g c = sorted_keys_wide c.args.width c.len.result c.args.order.now c.args.vectors.now c.in-Ok.keys c.sort.new.list c.len.ensures c.requires.widths c.in-Ok.ensures.keyed c.in-Ok-sort.ensures.same

pub returns-in-Ok-all_ends-clause-sorted : goal.returns-in-Ok-all_ends-clause-sorted
returns-in-Ok-all_ends-clause-sorted g c =
    let sorted = c.sort.new.list in
    sorted_rows c.args.width c.len.result c.args.order.now c.args.vectors.now c.in-Ok.keys sorted c.in-Ok-all_ends.sorted c.len.ensures c.requires.order c.requires.widths c.requires.different c.in-Ok.ensures.keyed c.in-Ok-sort.ensures.same
    (subst (λ o. MatchOption o (IsInOrder None sorted) (λ r. IsInOrder (Some r.now) sorted)) c.ungraded.ensures c.in-Ok-sort.ensures.order) c.in-Ok-all_ends.ensures
