use Rattle.std.proofs.Common.{◌≡◌, ℕ, List, length, take, vec_len}
use Rattle.std.specs.Prelude.{vec_capacity}
use Rattle.std.specs.List.{AllZip}
use Rattle.nz_spec.specs.Forms.{LeadsAt}
use Rattle.nz_sweep.proofs.bottom.leading_columns.Given as goal

abbrev pub invariant-loop-place : goal.invariant-loop-place
invariant-loop-place g l = (vec_len l.columns ≡ l.place) × (vec_capacity l.columns ≡ length l.base) × ((columns : List ℕ) → AllZip LeadsAt columns l.base → l.columns.items ≡ take l.place columns)
