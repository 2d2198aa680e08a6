use Rattle.nz_linear.proofs.Elimination.{skip_keeps, pivot_keeps}
use Rattle.nz_linear.proofs.EliminationRun.{start_state, common_zero_or_dual}
use Rattle.nz_linear.proofs.Rank.{rank_of_state, rank_and_left, in_seen_span, seen_span_vanishes}
use Rattle.nz_linear.proofs.elimination_keeps_a_dual_pair.Goals as goal

pub returns-clause-start : goal.returns-clause-start
returns-clause-start c = start_state

pub returns-clause-skip : goal.returns-clause-skip
returns-clause-skip c = skip_keeps

pub returns-clause-pivot : goal.returns-clause-pivot
returns-clause-pivot c = pivot_keeps

pub returns-clause-outcome : goal.returns-clause-outcome
returns-clause-outcome c = common_zero_or_dual

pub returns-clause-rank : goal.returns-clause-rank
returns-clause-rank c = λ w seen chosen free l s. (rank_of_state w seen chosen free l s, rank_and_left w seen chosen free s)

pub returns-clause-span : goal.returns-clause-span
returns-clause-span c = λ w seen chosen free x l lx s. ((λ i. seen_span_vanishes w seen chosen free x l s i), (λ z. in_seen_span w seen chosen free x l lx s z))
