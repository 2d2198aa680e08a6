use Rattle.std.proofs.Common.{◌≡◌, drop}
use Rattle.nz_system.specs.Rules.{first}
use Rattle.nz_ideal.specs.IdealRules.{rows_refusals}
use Rattle.nz_ideal.proofs.rules.rows_refusal.Given as goal

abbrev pub invariant-loop-place : goal.invariant-loop-place
invariant-loop-place l = first (rows_refusals l.kind l.item 0 l.others l.rows) ≡ first (rows_refusals l.kind l.item l.place l.others (drop l.place l.rows))
