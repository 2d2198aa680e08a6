use Rattle.std.proofs.Common.{◌≡◌, ◌≤ℤ◌, ◌∷◌, ◌++◌, ℕ, pos, Option, drop, length, FitsSigned}
use Rattle.std.specs.Int.{w128}
use Rattle.std.specs.List.{AllByRecursion as Each}
use Rattle.nz_vec.specs.Texts.{Text}
use Rattle.nz_spec.specs.Vectors.{Vector}
use Rattle.nz_blocks.specs.AskedLines.{count_words, module_word}
use Rattle.nz_blocks.proofs.AnswerReadings.{AreCounts}
use Rattle.nz_blocks.proofs.reading_answers.counts.Given as goal

abbrev pub invariant-loop-index : goal.invariant-loop-index
invariant-loop-index l = record {
  many : length l.entries.items ≡ l.index;
  part : (cs : Vector) (m : Option ℕ) (s : Text) → length cs ≡ l.size → Each (FitsSigned w128) cs → Each (λ c. pos 0 ≤ℤ c) cs → drop l.from l.text ≡ count_words 1 cs ++ (module_word m ++ 10 ∷ s) → AreCounts (drop l.place l.text) l.index l.entries.items cs m s;
}
