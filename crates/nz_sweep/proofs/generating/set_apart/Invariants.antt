use Rattle.std.proofs.Common.{◌≡◌, ◌≤◌, ◌++◌, List, ℤ}
use Rattle.std.specs.List.{AllByRecursion as Each}
use Rattle.nz_spec.specs.Vectors.{Vector, HasWidth}
use Rattle.nz_sweep.specs.Generating.{AreSetApart}
use Rattle.nz_sweep.specs.Numbers.{IsColumnNumber}
use Rattle.nz_sweep.proofs.generating.set_apart.Given as goal

abbrev pub invariant-loop-column : goal.invariant-loop-column
invariant-loop-column g l = (l.column ≤ l.width) × Each (HasWidth l.width) l.apart.left.items × ((rest : List Vector) → AreSetApart l.width l.column l.apart.left.items rest → (more : List Vector) × AreSetApart l.width 0 l.fn.rows.items more × (more ≡ l.apart.base.items ++ rest)) × ((n : ℤ) → IsColumnNumber l.width l.column l.apart.left.items n → IsColumnNumber l.width 0 l.fn.rows.items n)
