use Rattle.std.proofs.Common.{◌≡◌, List, Option, drop, length, ◌++◌}
use Rattle.std.specs.List.{AllByRecursion as Each}
use Rattle.nz_vec.specs.Texts.{Text}
use Rattle.nz_spec.specs.Vectors.{Vector}
use Rattle.nz_blocks.specs.Beginnings.{BeginsBlock}
use Rattle.nz_blocks.specs.Held.{AreHeldRows}
use Rattle.nz_blocks.specs.Sections.{headings, sections}
use Rattle.nz_blocks.proofs.SectionReadings.{AreSections}
use Rattle.nz_blocks.proofs.reading_sections.all_sections.Given as goal

abbrev pub invariant-loop-index : goal.invariant-loop-index
invariant-loop-index l = record {
  many : length l.lists.items ≡ l.index;
  part : (xs : List (Option (List Vector))) (s : Text) → Each AreHeldRows xs → length xs ≡ 9 → Each (λ h. ¬ BeginsBlock h s) (headings l.level) → drop l.from l.text ≡ sections (headings l.level) xs ++ s →
      AreSections (headings l.level) (drop l.place l.text) l.index l.lists.items xs s;
}
