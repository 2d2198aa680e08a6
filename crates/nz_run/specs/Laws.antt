-- What all texts that answer a file have in common.
use Rattle.std.specs.Prelude.{◌≡◌, ℕ, false, List}
use Rattle.nz_vec.specs.Texts.{Text}
use Rattle.nz_input.specs.Files.{FileData, IsFile}
use Rattle.nz_input.specs.Texts.{IsTextOf}
use Rattle.nz_input.specs.declared.kind.Goal.{Goal}
use Rattle.nz_system.specs.Asked.{goals_of}
use Rattle.nz_ideal.specs.Meanings.{meaning, HasMeaning}
use Rattle.nz_watch.specs.Telling.{Watched}
use Rattle.nz_run.specs.declared.kinds.RunKind.TheVariants.{Plain, Convert}
use Rattle.nz_run.specs.Solving.{IsAnswered}
use Rattle.nz_run.specs.Runs.{IsFound}

-- with both lists of words the same is asked of the file, and no cover: at most the modes differ
pub record AskTheSame (file : FileData) (words others : List Goal) : Type 0 where
  pub same : goals_of file words ≡ goals_of file others
  pub no_cover : (goals_of file words).cover ≡ false

-- the output answers what the file and the words ask, where they break no rule of meaning
pub record IsTextFor (file : FileData) (words : List Goal) (limit : ℕ) (output : Text) : Type 0 where
  pub ready : HasMeaning file words
  pub answered : IsAnswered (meaning file words) limit output

-- one text answers a file in both modes, whatever the limits
abbrev pub ModesGiveOneText : Type 0
ModesGiveOneText = (file : FileData) (words others : List Goal) (limit limit2 : ℕ) (output output2 : Text)
    → IsFile file → AskTheSame file words others → IsTextFor file words limit output → IsTextFor file others limit2 output2 → output ≡ output2

-- the input is a text of a file, and the output answers what it and the words ask
abbrev pub IsSolved : List Goal → (limit : ℕ) → (before now : Watched) → (input output : Text) → Type 0
IsSolved goals limit before now input output = IsFound Plain goals limit before now input output

-- what two runs with such words find of one input is one text, whatever the modes, the limits and the watches
abbrev pub RunsGiveOneText : Type 0
RunsGiveOneText = (input output output2 : Text) (words others : List Goal) (limit limit2 : ℕ) (before now before2 now2 : Watched)
    → (first : IsSolved words limit before now input output) → IsSolved others limit2 before2 now2 input output2 → AskTheSame first.file words others → output ≡ output2

-- what a conversion stores is a text of the file that it read, and of no other
abbrev pub ConversionsKeepTheFile : Type 0
ConversionsKeepTheFile = (goals : List Goal) (limit : ℕ) (before now : Watched) (input output : Text)
    → (conversion : IsFound Convert goals limit before now input output) → IsTextOf output conversion.file × ((other : FileData) → IsTextOf output other → other ≡ conversion.file)
