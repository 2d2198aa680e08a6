use Rattle.std.specs.Cmp.{then_total, on_total}
use Rattle.std.specs.Cmp.Lexicographic.{lists_total}
use Rattle.nz_degree.proofs.RankLaws.{if_ok_map, sorted_pairs, keys_before}
use Rattle.nz_degree.specs.Ranks.{IsSortedAs}
use Rattle.nz_degree.proofs.sorting.sorted_rows.Goals as goal

pub returns-in-Ok : goal.returns-in-Ok
returns-in-Ok g c =
    if_ok_map _ (IsSortedAs g.T.Scalar.integer c.args.ranked.items) c.rows_of.result (λ rows e. record {
      sorted = c.sort.new.self.items;
      moved = c.in-Ok.ensures.permutation;
      in_order = sorted_pairs g.T.Scalar.integer _ (then_total (on_total (λ r. r.degree) g.met.T.Ord.total) (on_total (λ r. r.entries.items) (lists_total g.met.T.Ord.total))) (keys_before g.T.Scalar.integer g.T.Ord.cmp g.met.T.Scalar.ordered) c.sort.new.self.items c.in-Ok.ensures.sorted;
      whole = e;
    }) c.rows_of.ensures
