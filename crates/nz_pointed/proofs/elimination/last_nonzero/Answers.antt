use Rattle.std.proofs.Common.{◌≡◌, ◌-◌, suc, refl, arith}
use Rattle.nz_pointed.proofs.ColumnLemmas.{past_end, zero_of_false, one_less, no_entry, ends_at}
use Rattle.nz_pointed.proofs.elimination.last_nonzero.Goals as goal

pub loop-column-init : goal.loop-column-init
loop-column-init g c = let e = c.len-column.ensures in (omega (arith, e), λ k l. past_end c.args.row.now k (omega (arith, e, l)))

pub loop-column-preserved : goal.loop-column-preserved
loop-column-preserved g c =
    let some = c.loop-column-test.true in
    let low = c.loop-column.invariant.0 in
    let s : c.loop-column.column ≡ suc (c.loop-column.column - 1) = omega (arith, some) in
    (omega (arith, low), one_less c.args.row.now c.loop-column.column (c.loop-column.column - 1) (g.T.Scalar.integer c.at.result) s c.at.ensures (zero_of_false _ c.if-is_nonzero.ensures.1) c.loop-column.invariant.1)

pub returns-then-is_nonzero : goal.returns-then-is_nonzero
returns-then-is_nonzero g c =
    let some = c.loop-column-test.true in
    let s : c.loop-column.column ≡ suc (c.loop-column.column - 1) = omega (arith, some) in
    ends_at c.args.row.now c.loop-column.column (c.loop-column.column - 1) (g.T.Scalar.integer c.at.result) s c.at.ensures (c.if-is_nonzero.ensures.0 refl) c.loop-column.invariant.1

pub returns : goal.returns
returns g c = let none = c.loop-column-test.false in absurd (c.requires (no_entry c.args.row.now (λ k. c.loop-column.invariant.1 k (omega (arith, none)))))
