use Rattle.std.proofs.Common.{◌≡◌, Bool, List, drop, length, ◌++◌}
use Rattle.std.specs.List.{AllByRecursion as Each, flat_map}
use Rattle.nz_vec.specs.Texts.{Text}
use Rattle.nz_blocks.specs.Outcomes.{Asked}
use Rattle.nz_blocks.specs.AskedLines.{asked_line}
use Rattle.nz_blocks.specs.Readings.{IsReadable}
use Rattle.nz_blocks.proofs.RowReadings.{AreLines}
use Rattle.nz_blocks.proofs.reading_asked.asked_lines_at.Given as goal

abbrev pub invariant-loop-index : goal.invariant-loop-index
invariant-loop-index l = record {
  many : length l.list ≡ l._index;
  part : (level : Bool) (xs : List Asked) (s : Text) → Each (IsReadable l.size level) xs → length xs ≡ l.count → drop l.from l.text ≡ flat_map (asked_line level) xs ++ s → AreLines (asked_line level) (IsReadable l.size level) (drop l.place l.text) l.list xs s;
}
