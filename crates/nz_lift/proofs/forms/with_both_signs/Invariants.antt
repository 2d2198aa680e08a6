use Rattle.std.proofs.Common.{◌≡◌, ◌++◌, map, take}
use Rattle.nz_spec.specs.Vectors.{opposite}
use Rattle.nz_lift.proofs.forms.with_both_signs.Given as goal

abbrev pub invariant-loop-place : goal.invariant-loop-place
invariant-loop-place g l = l.forms ≡ (l.fn.list ++ l.equations) ++ map opposite (take l.place l.equations)
