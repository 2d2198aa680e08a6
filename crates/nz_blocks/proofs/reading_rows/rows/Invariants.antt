use Rattle.std.proofs.Common.{◌≡◌, List, drop, length, ◌++◌}
use Rattle.std.specs.List.{AllByRecursion as Each, flat_map}
use Rattle.nz_vec.specs.Texts.{Text}
use Rattle.nz_spec.specs.Vectors.{Vector}
use Rattle.nz_blocks.specs.Held.{IsHeldRow}
use Rattle.nz_blocks.specs.Output.{row_text}
use Rattle.nz_blocks.proofs.RowReadings.{AreLines}
use Rattle.nz_blocks.proofs.reading_rows.rows.Given as goal

abbrev pub invariant-loop-index : goal.invariant-loop-index
invariant-loop-index l = record {
  many : length l.rows ≡ l._index;
  part : (all xs : List Vector) (s : Text) → Each IsHeldRow xs → length xs ≡ l.count → drop l.from l.text ≡ flat_map (row_text all) xs ++ s → AreLines (row_text all) IsHeldRow (drop l.place l.text) l.rows xs s;
}
